-- `additions::add_op` meets its contract.
use Rattle.additions.proofs.Lines.{adds_op}
use Rattle.additions.proofs.add_op.Goals as goal

pub returns : goal.returns
returns c = adds_op c.requires.0 c.args.op c.requires.1 (c.add_row.ensures.answer, c.add_row.ensures.rows)
