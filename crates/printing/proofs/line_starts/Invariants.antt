-- `printing::line_starts` meets its contract. The loop's invariant: the starts of the lines up to `from` are found.
use Prim.Native.Nat.{◌-◌}
use mathlib.Core.Path.{◌≡◌}
use lib.ListN.{length}
use Rattle.printing.specs.Printed.{SameFrom}
use Rattle.printing.proofs.Parts.{Starting}
use Rattle.printing.proofs.line_starts.Given as goal

abbrev pub invariant-loop-from : goal.invariant-loop-from
invariant-loop-from l =
    (length l.starts ≡ length l.initial.starts) × Starting l.file l.starts l.many l.from × SameFrom l.many l.initial.starts l.starts

abbrev pub decreases-loop-from : goal.decreases-loop-from
decreases-loop-from l = length l.file - l.from
