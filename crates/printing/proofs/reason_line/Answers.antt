-- `printing::reason_line` meets its contract.
use Rattle.model.specs.Names.{bytes}
use Rattle.printing.proofs.Texts.{puts_then, puts_same, held, reason_parts, reason_alone}
use Rattle.printing.proofs.reason_line.Goals as goal

pub returns-then-has_line : goal.returns-then-has_line
unfolding bytes
returns-then-has_line c =
    let line = puts_then (puts_then c.put-at.ensures c.put_number-at.ensures.0) c.put-at-then-has_line.ensures in
    let text = puts_then (puts_then line (puts_same c.put-at-then-has_line-2.ensures c.reason.ensures.0)) c.put.ensures in
    held text (reason_parts _ _ c.has_line.ensures c.if-has_line.true)

pub returns : goal.returns
unfolding bytes
returns c =
    let text = puts_then (puts_same c.put-at-2.ensures c.reason-2.ensures.0) c.put-2.ensures in
    held text (reason_alone _ _ c.has_line.ensures c.if-has_line.false)
