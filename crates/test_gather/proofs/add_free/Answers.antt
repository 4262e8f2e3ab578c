-- `test_gather::add_free` meets its contract.
use Rattle.test_gather.proofs.Laws.{table_added}
use Rattle.test_gather.proofs.add_free.Goals as goal

pub returns : goal.returns
returns c = table_added c.requires.1 c.requires.0 c.add_free.ensures
