-- `text::Cursor::number` meets its contract. The loop's invariant: the value is made of the value so far and the bytes from `i` on.
use Prim.Native.Nat.{◌≤◌}
use Rattle.text.specs.Parts.{valued}
use Rattle.text.proofs.Laws.{Walk}
use Rattle.text.proofs.Cursor.number.Given as goal

abbrev pub invariant-loop-i : goal.invariant-loop-i
invariant-loop-i l = (l.n ≤ 65535) × Walk l.s l.at l.end (valued 0) l.i (valued l.n)
