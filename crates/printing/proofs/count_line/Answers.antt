-- `printing::count_line` meets its contract.
use Rattle.model.specs.Names.{bytes}
use Rattle.printing.proofs.Texts.{puts_then, held, count_parts}
use Rattle.printing.proofs.count_line.Goals as goal

pub returns : goal.returns
unfolding bytes
returns c =
    let number = puts_then (puts_then c.put-at.ensures c.put-at-2.ensures) c.put_count-at.ensures.0 in
    held (puts_then number c.put.ensures) (count_parts _ _)
