-- `printing::find_line` meets its contract. The loop's invariant: the list at a position starts behind those before it, and the
-- line stands so many lines behind its start.
use Prim.Native.Nat.{◌+◌, ◌<◌}
use mathlib.Core.Path.{◌≡◌}
use lib.ListN.{take}
use Rattle.model.specs.Lists.{sum}
use Rattle.model.specs.Reading.{most_asks}
use Rattle.printing.proofs.find_line.Given as goal

abbrev pub invariant-loop-position : goal.invariant-loop-position
invariant-loop-position l =
    (l.position < most_asks) × (l.start ≡ sum (take l.position l.kept)) × (l.j ≡ l.start + l.position + l.index)

abbrev pub decreases-loop-position : goal.decreases-loop-position
decreases-loop-position l = l.index
