-- `printing::put_numbers` meets its contract.
use Rattle.model.specs.Names.{bytes}
use Rattle.printing.proofs.Texts.{puts_then, puts_same, numbers_parts}
use native.Mathlib.Omega.{arith}
use Rattle.printing.proofs.put_numbers.Goals as goal

pub returns : goal.returns
unfolding bytes
returns c =
    let of-line = puts_then c.put-at.ensures c.put_number-at.ensures.0 in
    let number = puts_then (puts_then of-line c.put-at-2.ensures) c.put_number-at-2.ensures.0 in
    let text = puts_then (puts_then number c.put-at-3.ensures) c.put_number.ensures.0 in
    (puts_same text (numbers_parts _), omega (arith, c.put-at.ensures.ends, c.put_number-at.ensures.1, c.put-at-2.ensures.ends, c.put_number-at-2.ensures.1, c.put-at-3.ensures.ends))
