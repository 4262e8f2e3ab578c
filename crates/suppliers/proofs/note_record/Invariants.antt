-- `suppliers::note_record` meets its contract. The loop's invariant: what is left to note comes to the whole.
use mathlib.Core.List.{◌∷◌}
use Rattle.records.specs.Columns.{macro_at}
use Rattle.macros.specs.Macros.{opens_at}
use Rattle.suppliers.proofs.Passing.{Left}
use Rattle.suppliers.proofs.note_record.Given as goal

abbrev pub invariant-loop-j : goal.invariant-loop-j
invariant-loop-j l = Left (λ n. n ∷ opens_at l.tables.recs.now l.tables.lists.now (macro_at l.tables.names.now n)) l.tables.recs.now l.tables.lists.now l.initial.run l.i l.a l.e l.run l.j
