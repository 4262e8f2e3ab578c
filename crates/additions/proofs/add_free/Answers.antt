-- `additions::add_free` meets its contract.
use Rattle.additions.proofs.Lines.{adds_free}
use Rattle.additions.proofs.add_free.Goals as goal

pub returns : goal.returns
returns c = adds_free c.args.head c.requires.0 c.requires.1 (c.add_row.ensures.answer, c.add_row.ensures.rows)
