-- `additions::add_let` meets its contract.
use Rattle.additions.proofs.Lines.{adds_let}
use Rattle.additions.proofs.add_let.Goals as goal

pub returns : goal.returns
returns c = adds_let c.requires.0 c.requires.1 (c.add_row.ensures.answer, c.add_row.ensures.rows)
