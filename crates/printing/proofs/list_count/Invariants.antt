-- `printing::list_count` meets its contract. The loop's invariant: the lines of the positions passed are counted, each of which
-- has a round.
use Prim.Native.Nat.{ℕ, ◌+◌, ◌*◌, ◌≤◌, ◌<◌}
use mathlib.Core.Path.{◌≡◌}
use lib.ListN.{take, get_or}
use Rattle.model.specs.Lists.{sum}
use Rattle.printing.proofs.list_count.Given as goal

abbrev pub invariant-loop-p : goal.invariant-loop-p
invariant-loop-p l =
    (l.n ≡ sum (take l.p l.kept) + l.p) × (l.n ≤ l.p * 4294967296) × ((k : ℕ) → k < l.p → get_or l.rounds k 0 ≡ 0 → ⊥)
