-- `text::compare_from` meets its contract. The loop's invariant: the parts share at least `i` bytes.
use Prim.Native.Nat.{◌≤◌}
use Rattle.model.specs.Lists.{part}
use Rattle.text.specs.Parts.{shared}
use Rattle.text.proofs.compare_from.Given as goal

abbrev pub invariant-loop-i : goal.invariant-loop-i
invariant-loop-i l = l.i ≤ shared (part l.s l.a l.e) (part l.s l.b l.f)
