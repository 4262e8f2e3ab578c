-- `firing::fires` meets its contract. The loops' invariants: what is left to look at has the answer.
use native.Mathlib.Omega.{arith}
use mathlib.Core.Path.{sym, ◌∙◌}
use mathlib.Core.Bool.{true}
use Rattle.firing.proofs.Firing.{fires_unmet, fires_unmet_last, fires_met, fires_met_last, fires_end}
use Rattle.firing.proofs.fires.Goals as goal

pub disjuncts-preserved-then-x-lt-LAST : goal.disjuncts-preserved-then-x-lt-LAST
disjuncts-preserved-then-x-lt-LAST c =
    let before = c.disjuncts.invariant.2 ∙ c.loop-i.invariant.2 in (
      omega (arith, c.past-i.ensures.0),
      c.past-i.ensures.1,
      before ∙ fires_unmet _ _ _ _ _ c.loop-i-test.true c.requires.1 c.at-x.ensures _ c.entry_met.ensures c.if-not-entry_met.true c.if-x-lt-LAST.true
          ∙ c.past-i.ensures.2 _,
    )

pub disjuncts-preserved : goal.disjuncts-preserved
disjuncts-preserved c =
    let before = c.disjuncts.invariant.2 ∙ c.loop-i.invariant.2 in (
      omega arith,
      omega arith,
      before ∙ fires_unmet_last _ _ _ _ _ c.loop-i-test.true c.requires.1 c.at-x.ensures _ c.entry_met.ensures c.if-not-entry_met.true c.if-x-lt-LAST.false,
    )

pub loop-i-preserved : goal.loop-i-preserved
loop-i-preserved c = (
  omega arith,
  omega arith,
  c.loop-i.invariant.2 ∙ fires_met _ _ _ _ _ c.loop-i-test.true c.requires.1 c.at-x.ensures _ c.entry_met.ensures c.if-not-entry_met.false c.if-x-ge-LAST.false,
)

pub returns-then-x-ge-LAST : goal.returns-then-x-ge-LAST
returns-then-x-ge-LAST c =
    let before = c.disjuncts.invariant.2 ∙ c.loop-i.invariant.2 in
    sym (before ∙ fires_met_last _ _ _ _ _ c.loop-i-test.true c.requires.1 c.at-x.ensures _ c.entry_met.ensures c.if-not-entry_met.false c.if-x-ge-LAST.true)

pub returns-after-loop-i : goal.returns-after-loop-i
returns-after-loop-i c = sym (c.disjuncts.invariant.2 ∙ c.loop-i.invariant.2 ∙ fires_end _ _ true _ _ c.loop-i-test.false)
