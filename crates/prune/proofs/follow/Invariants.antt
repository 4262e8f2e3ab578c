-- `prune::follow` meets its contract. The loop's invariant: from the stamps of any slice from which the queue is begun, the
-- bodies of its first `j` definitions are followed.
use Prim.Native.Nat.{ℕ, ◌-◌}
use mathlib.Core.List.{List}
use Rattle.model.specs.Reading.{most_names}
use Rattle.prune.proofs.Following.{QueueTo}
use Rattle.prune.proofs.follow.Given as goal

abbrev pub invariant-loop-j : goal.invariant-loop-j
invariant-loop-j l =
    (w : List ℕ) → QueueTo l.tables.names.now l.tables.recs.now l.tables.lists.now l.tables.k.names w l.initial.run l.initial.end 0 → QueueTo l.tables.names.now l.tables.recs.now l.tables.lists.now l.tables.k.names w l.run l.end l.j

abbrev pub decreases-loop-j : goal.decreases-loop-j
decreases-loop-j l = most_names - l.j
