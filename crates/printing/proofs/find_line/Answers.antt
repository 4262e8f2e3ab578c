-- `printing::find_line` meets its contract. The loop's invariant: the list at a position starts behind those before it, and the
-- line stands so many lines behind its start.
use Prim.Native.Nat.{◌+◌}
use Rattle.printing.proofs.Sums.{sum_next, sum_none, sum_inside}
use native.Mathlib.Omega.{arith}
use Rattle.printing.proofs.find_line.Goals as goal

pub loop-position-init : goal.loop-position-init
loop-position-init c = (omega arith, sum_none c.args.kept, omega arith)

pub loop-position-preserved : goal.loop-position-preserved
loop-position-preserved c =
    let kept = c.args.kept in
    let start = sum_next kept c.loop-position.position _ c.loop-position.invariant.1 in
    let next = sum_inside kept (c.loop-position.position + 1) _ _ start (omega (arith, c.loop-position.invariant.2)) c.requires in
    (omega (arith, c.well_formed.0.1.0.1), omega arith, omega (arith, c.loop-position.invariant.2))

pub returns : goal.returns
returns c =
    record { starts = c.loop-position.invariant.1; place = c.loop-position.invariant.2; within = c.loop-position-test.false; inside = c.loop-position.invariant.0 }
