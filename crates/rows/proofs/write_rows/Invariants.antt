-- The table is as it was but for the rows up to `i`, which are written.
use Rattle.std.proofs.Common.{◌≡◌}
use Rattle.rows.proofs.Laws.{filled}
use Rattle.rows.proofs.write_rows.Given as goal

abbrev pub invariant-loop-i : goal.invariant-loop-i
invariant-loop-i l = l.rows ≡ filled l.core l.initial.rows l.i
