-- `precedence::find_rows` meets its contract.
use Rattle.precedence.proofs.Call.{found_rows}
use Rattle.precedence.proofs.find_rows.Goals as goal

pub returns : goal.returns
returns c = found_rows c.check_order.ensures c.from.ensures
