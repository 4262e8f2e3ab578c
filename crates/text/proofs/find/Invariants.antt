-- `text::find` meets its contract. The loop's invariant: the first mark from the start is the first mark from `i` on.
use Prim.Native.Nat.{◌≤◌, ◌-◌}
use mathlib.Core.Path.{◌≡◌}
use Rattle.text.specs.Parts.{mark_at}
use Rattle.text.proofs.find.Given as goal

abbrev pub invariant-loop-i : goal.invariant-loop-i
invariant-loop-i l = (l.i ≤ l.end) × (mark_at l.mark l.s l.at l.end ≡ mark_at l.mark l.s l.i l.end)

abbrev pub decreases-loop-i : goal.decreases-loop-i
decreases-loop-i l = l.end - l.i
