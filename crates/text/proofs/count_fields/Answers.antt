-- `text::count_fields` meets its contract. The loop's invariant: the count, and the fields from `i` on, are one more than the fields of the part.
use mathlib.Core.Path.{refl}
use native.Mathlib.Omega.{arith}
use Rattle.text.proofs.Laws.{count_comma, count_on, count_end}
use Rattle.text.proofs.count_fields.Goals as goal
use Rattle.text.proofs.count_fields.Goals.{then-s-i-eq44, else-s-i-eq44}

pub loop-i-init : goal.loop-i-init
loop-i-init c = (omega arith, refl)

pub returns : goal.returns
returns c = omega (arith, count_end c.args.s.now c.loop-i.i c.args.end c.loop-i-test.false)

pub loop-i-preserved : goal.loop-i-preserved
loop-i-preserved c =
    let s = c.args.s.now in
    let i = c.loop-i.i in
    let end = c.args.end in
    elim c.if-s-i-eq44.branch [
      | then-s-i-eq44 w ↦ omega (arith, count_comma s i end c.loop-i-test.true c.requires.1 w.if-s-i-eq44.true)
      | else-s-i-eq44 w ↦ omega (arith, count_on s i end c.loop-i-test.true c.requires.1 w.if-s-i-eq44.false)
    ]
