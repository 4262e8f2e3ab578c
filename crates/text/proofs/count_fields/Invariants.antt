-- `text::count_fields` meets its contract. The loop's invariant: the count, and the fields from `i` on, are one more than the fields of the part.
use Prim.Native.Nat.{◌≤◌, ◌+◌}
use mathlib.Core.Path.{◌≡◌}
use lib.ListN.{length}
use Rattle.model.specs.Lists.{part}
use Rattle.model.specs.Lines.{fields}
use Rattle.text.proofs.count_fields.Given as goal

abbrev pub invariant-loop-i : goal.invariant-loop-i
invariant-loop-i l = (l.n ≤ l.i + 1) × (l.n + length (fields (part l.s l.i l.end)) ≡ 1 + length (fields (part l.s l.at l.end)))
