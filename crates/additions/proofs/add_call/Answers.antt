-- `additions::add_call` meets its contract.
use Rattle.additions.proofs.Lines.{adds_call}
use Rattle.additions.proofs.add_call.Goals as goal

pub returns : goal.returns
returns c = adds_call c.requires.0 c.args.head c.requires.1 (c.add_row.ensures.answer, c.add_row.ensures.rows)
