-- `records::put_row` meets its contract. The loop's invariant: what is left to write comes to the row.
use mathlib.Core.Path.{◌≡◌}
use lib.ListN.{length, drop}
use Rattle.records.specs.Writing.{put_row}
use Rattle.records.proofs.put_row.Given as goal

abbrev pub invariant-loop-c : goal.invariant-loop-c
invariant-loop-c l = (put_row l.initial.recs l.i 0 l.row ≡ put_row l.recs l.i l.c (drop l.c l.row)) × (length l.recs ≡ length l.initial.recs)
