-- `firing::past` meets its contract. The loop's invariant: what is left to pass.
use Prim.Native.Nat.{◌≤◌}
use native.Mathlib.Omega.{arith}
use mathlib.Core.Path.{sym, ◌∙◌}
use mathlib.Core.Bool.{true, false}
use Rattle.firing.proofs.Firing.{past_last, past_next, fires_end}
use Rattle.firing.proofs.past.Goals as goal

pub returns-then-at-ge-LAST : goal.returns-then-at-ge-LAST
returns-then-at-ge-LAST c =
    (omega arith, omega arith, λ w. c.loop-j.invariant w ∙ past_last w _ _ _ _ (omega arith) c.requires.1 c.at.ensures c.if-at-ge-LAST.true)

pub loop-j-preserved : goal.loop-j-preserved
loop-j-preserved c =
    λ w. c.loop-j.invariant w ∙ past_next w _ _ _ _ (omega arith) c.requires.1 c.at.ensures c.if-at-ge-LAST.false

pub returns : goal.returns
returns c =
    let over : c.args.e ≤ c.loop-j.j = omega arith in
    (c.requires.0, omega arith, λ w. c.loop-j.invariant w ∙ fires_end w _ false _ _ over ∙ sym (fires_end w _ true c.args.e c.args.e (omega arith)))
