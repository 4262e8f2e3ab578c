-- `suppliers::note_part` meets its contract. The loop's invariant: what is left to note comes to the whole.
use Rattle.suppliers.proofs.Passing.{Left, itself}
use Rattle.suppliers.proofs.note_part.Given as goal

abbrev pub invariant-loop-j : goal.invariant-loop-j
invariant-loop-j l = Left itself l.recs l.lists l.initial.run l.i l.a l.e l.run l.j
