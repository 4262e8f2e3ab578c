-- `precedence::stamp_body` meets its contract. The loop's invariant: the names that are left to stamp.
use native.Mathlib.Omega.{arith}
use Rattle.precedence.proofs.Stamps.{stamp_start, stamp_next, stamp_end, uses_fit, use_low}
use Rattle.precedence.proofs.stamp_body.Goals as goal

pub loop-j-init : goal.loop-j-init
loop-j-init c = stamp_start _ _ _ _ _

pub at-requires : goal.at-requires
at-requires c =
    let fit = uses_fit c.requires.0 c.requires.3 c.at-e.ensures in omega (arith, fit, c.loop-j-test.true)

pub bounds-refs-at : goal.bounds-refs-at
bounds-refs-at c =
    let low = use_low c.requires.0 c.requires.3 c.at-e.ensures c.loop-j-test.true c.at.ensures in
    omega (arith, low, c.requires.1, c.requires.2, c.loop-j.invariant.same_length)

pub loop-j-preserved : goal.loop-j-preserved
loop-j-preserved c =
    stamp_next c.loop-j.invariant c.loop-j-test.true (uses_fit c.requires.0 c.requires.3 c.at-e.ensures) c.at.ensures

pub returns : goal.returns
returns c =
    stamp_end c.loop-j.invariant c.loop-j-test.false c.at-a.ensures c.at-e.ensures
