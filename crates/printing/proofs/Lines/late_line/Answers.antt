-- `printing::Lines::late_line` meets its contract.
use Rattle.model.specs.Names.{bytes}
use Rattle.printing.proofs.Texts.{puts_then, held, late_row_parts}
use Rattle.printing.proofs.Lines.late_line.Goals as goal

pub returns : goal.returns
unfolding bytes
returns c = held (puts_then c.put_row-at.ensures.0 c.put.ensures) (late_row_parts _ _ _)
