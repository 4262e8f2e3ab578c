-- `printing::pass_line` meets its contract.
use Rattle.model.specs.Names.{bytes}
use Rattle.printing.proofs.Texts.{puts_then, held, pass_parts}
use Rattle.printing.proofs.pass_line.Goals as goal

pub returns : goal.returns
unfolding bytes
returns c =
    let kept = puts_then c.put-at.ensures c.put_number-at.ensures.0 in
    let passes = puts_then (puts_then kept c.put-at-2.ensures) c.put_number-at-2.ensures.0 in
    held (puts_then passes c.put.ensures) (pass_parts _ _)
