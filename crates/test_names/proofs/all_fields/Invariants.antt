-- `test_names::all_fields` meets its contract. The loop's invariant: the names so far are a table, and the cursor stands in the file.
use Prim.Native.Nat.{◌+◌, ◌-◌}
use mathlib.Core.Path.{◌≡◌}
use lib.ListN.{length}
use Rattle.text.specs.Parts.{Placed}
use Rattle.names.specs.Table.{Table}
use Rattle.test_names.proofs.all_fields.Given as goal

abbrev pub invariant-loop-c : goal.invariant-loop-c
invariant-loop-c l = (length l.table ≡ length l.initial.table) × Table l.file l.table l.known × Placed l.file l.c

abbrev pub decreases-loop-c : goal.decreases-loop-c
decreases-loop-c l = l.c.end + 1 - l.c.at
