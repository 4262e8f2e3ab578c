-- `additions::add_some` meets its contract.
use Rattle.additions.proofs.Lines.{adds_some}
use Rattle.additions.proofs.add_some.Goals as goal

pub returns : goal.returns
returns c = adds_some c.requires.0 c.requires.1 (c.add_row.ensures.answer, c.add_row.ensures.rows)
