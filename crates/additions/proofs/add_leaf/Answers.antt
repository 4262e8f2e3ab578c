-- `additions::add_leaf` meets its contract.
use Rattle.additions.proofs.Lines.{adds_leaf}
use Rattle.additions.proofs.add_leaf.Goals as goal

pub returns : goal.returns
returns c = adds_leaf c.requires (c.add_row.ensures.answer, c.add_row.ensures.rows)
