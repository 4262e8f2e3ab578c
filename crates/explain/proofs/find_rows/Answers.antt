-- `explain::find_rows` meets its contract.
use Rattle.explain.proofs.Laws.{found}
use Rattle.explain.proofs.find_rows.Goals as goal

pub returns : goal.returns
returns c = found c.explain.ensures c.from.ensures
