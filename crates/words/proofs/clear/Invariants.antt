-- `words::clear` meets its contract. The loop's invariant: the column is zero up to `i`, and nothing else changed.
use Prim.Native.Nat.{◌-◌}
use Rattle.words.proofs.Slices.{Zeroing}
use Rattle.words.proofs.clear.Given as goal

abbrev pub invariant-loop-i : goal.invariant-loop-i
invariant-loop-i l = Zeroing l.column l.size l.initial.w l.w l.i

abbrev pub decreases-loop-i : goal.decreases-loop-i
decreases-loop-i l = l.end - l.i
