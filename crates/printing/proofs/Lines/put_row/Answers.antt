-- `printing::Lines::put_row` meets its contract.
use Rattle.model.specs.Names.{bytes}
use Rattle.printing.proofs.Texts.{puts_then, puts_same, row_parts}
use native.Mathlib.Omega.{arith}
use Rattle.printing.proofs.Lines.put_row.Goals as goal

pub returns : goal.returns
unfolding bytes
returns c =
    let of = puts_then (puts_then c.put_numbers-at.ensures.0 c.put-at.ensures) c.put-at-2.ensures in
    let text = puts_then (puts_then of c.put-at-3.ensures) c.put.ensures in
    (puts_same text (row_parts _ _ _ _ c.name_on-of.ensures.0), omega (arith, c.requires.0, c.put_numbers-at.ensures.1, c.put-at.ensures.ends, c.name_on-of.ensures.1, c.put-at-2.ensures.ends, c.put-at-3.ensures.ends, c.put.ensures.ends))
