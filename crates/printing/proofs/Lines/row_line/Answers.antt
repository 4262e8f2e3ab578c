-- `printing::Lines::row_line` meets its contract.
use Rattle.model.specs.Names.{bytes}
use Rattle.printing.proofs.Texts.{puts_then, held, reason_row_parts}
use Rattle.printing.proofs.Lines.row_line.Goals as goal

pub returns : goal.returns
unfolding bytes
returns c =
    let item = puts_then (puts_then c.put_row-at.ensures.0 c.put-at.ensures) c.put-at-2.ensures in
    held (puts_then item c.put.ensures) (reason_row_parts _ _ _ _ c.item_on-item.ensures.0)
