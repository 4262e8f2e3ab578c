-- `firing::fires` meets its contract. The loops' invariants: what is left to look at has the answer.
use Prim.Native.Nat.{◌-◌, ◌≤◌}
use mathlib.Core.Path.{◌≡◌}
use mathlib.Core.Bool.{true}
use Rattle.model.specs.Lists.{part}
use Rattle.firing.specs.Firing.{fires_in}
use Rattle.firing.proofs.fires.Given as goal

abbrev pub invariant-loop-i : goal.invariant-loop-i
invariant-loop-i l = (l.initial.i ≤ l.i) × (l.i ≤ l.e) × (fires_in l.run true (part l.lists l.initial.i l.e) ≡ fires_in l.run true (part l.lists l.i l.e))

abbrev pub decreases-loop-i : goal.decreases-loop-i
decreases-loop-i l = l.e - l.i

abbrev pub invariant-disjuncts : goal.invariant-disjuncts
invariant-disjuncts l = (l.a ≤ l.i) × (l.i ≤ l.e) × (fires_in l.run true (part l.lists l.a l.e) ≡ fires_in l.run true (part l.lists l.i l.e))

abbrev pub decreases-disjuncts : goal.decreases-disjuncts
decreases-disjuncts l = l.e - l.i
