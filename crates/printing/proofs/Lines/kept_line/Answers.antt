-- `printing::Lines::kept_line` meets its contract.
use Rattle.model.specs.Names.{bytes}
use Rattle.printing.proofs.Texts.{puts_then, held, kept_parts}
use Rattle.printing.proofs.Lines.kept_line.Goals as goal

pub returns : goal.returns
unfolding bytes
returns c =
    let number = puts_then c.put-at.ensures c.put_number-at.ensures.0 in
    let name = puts_then (puts_then number c.put-at-2.ensures) c.put-at-3.ensures in
    let text = puts_then name c.put.ensures in
    held text (kept_parts _ _ _ c.name_on-name.ensures.0)
