-- `test_gather::add_row_of` meets its contract.
use Rattle.test_gather.proofs.Laws.{table_added}
use Rattle.test_gather.proofs.add_row_of.Goals as goal

pub returns-then-head-lt2048 : goal.returns-then-head-lt2048
returns-then-head-lt2048 c = table_added c.requires.1 c.push_times.ensures c.add_call.ensures

pub returns : goal.returns
returns c = table_added c.requires.1 c.push_times.ensures c.add_op.ensures
