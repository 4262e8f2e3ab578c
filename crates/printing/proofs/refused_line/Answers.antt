-- `printing::refused_line` meets its contract.
use Rattle.model.specs.Names.{bytes}
use Rattle.printing.proofs.Texts.{puts_then, held, refused_parts}
use Rattle.printing.proofs.refused_line.Goals as goal

pub returns : goal.returns
unfolding bytes
returns c =
    let number = puts_then c.put-at.ensures c.put_number-at.ensures.0 in
    let place = puts_then (puts_then number c.put-at-2.ensures) c.put_number-at-2.ensures.0 in
    let text = puts_then place c.put.ensures in
    held text (refused_parts _ _ _ c.refusal_number.ensures)
