-- `records::ask_at` meets its contract. The loop's invariant: the chain starts where that of the position reached does.
use Prim.Native.Nat.{◌≤◌}
use mathlib.Core.Path.{◌≡◌}
use Rattle.records.specs.States.{first_at}
use Rattle.records.proofs.ask_at.Given as goal

abbrev pub invariant-loop-first : goal.invariant-loop-first
invariant-loop-first l = (l.first ≤ l.i) × (first_at l.recs l.i ≡ first_at l.recs l.first)

abbrev pub decreases-loop-first : goal.decreases-loop-first
decreases-loop-first l = l.first
