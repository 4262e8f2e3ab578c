-- `firing::tables::RecordTables::meet_record` meets its contract. The loop's invariant: what is left to meet comes to the whole.
use Rattle.records.specs.Columns.{macro_at}
use Rattle.macros.specs.Macros.{opens_at}
use Rattle.firing.proofs.Meets.{MetAll}
use Rattle.firing.proofs.tables.RecordTables.meet_record.Given as goal

abbrev pub invariant-loop-j : goal.invariant-loop-j
invariant-loop-j l = MetAll (λ n. opens_at l.self.recs.now l.self.lists.now (macro_at l.self.names.now n)) l.self.lists.now l.initial.run l.a l.e l.round l.run l.j
