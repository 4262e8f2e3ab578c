-- `printing::sum_line` meets its contract.
use Rattle.model.specs.Names.{bytes}
use Rattle.printing.proofs.Texts.{puts_then, held, sum_parts}
use Rattle.printing.proofs.sum_line.Goals as goal

pub returns : goal.returns
unfolding bytes
returns c =
    let kept = puts_then c.put-at.ensures c.put_number-at.ensures.0 in
    let visits = puts_then (puts_then kept c.put-at-2.ensures) c.put_number-at-2.ensures.0 in
    let rounds = puts_then (puts_then visits c.put-at-3.ensures) c.put_number-at-3.ensures.0 in
    let text = puts_then rounds c.put.ensures in
    held text (sum_parts _ _ _)
