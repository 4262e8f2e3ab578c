-- `additions::add_all` meets its contract.
use Rattle.additions.proofs.Lines.{adds_all}
use Rattle.additions.proofs.add_all.Goals as goal

pub returns : goal.returns
returns c = adds_all c.requires.0 c.requires.1 (c.add_row.ensures.answer, c.add_row.ensures.rows)
