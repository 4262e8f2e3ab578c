-- `test_names::all_lines` is safe and ends. The loop's invariant: the names so far are a table.
use Prim.Native.Nat.{◌-◌}
use mathlib.Core.Path.{◌≡◌}
use lib.ListN.{length}
use Rattle.names.specs.Table.{Table}
use Rattle.test_names.proofs.all_lines.Given as goal

abbrev pub invariant-loop-from : goal.invariant-loop-from
invariant-loop-from g l = (length l.table ≡ length l.initial.table) × Table l.file l.table l.named

abbrev pub decreases-loop-from : goal.decreases-loop-from
decreases-loop-from g l = length l.file - l.from
