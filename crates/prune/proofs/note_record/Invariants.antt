-- `prune::note_record` meets its contract. The loop's invariant: what is left to note.
use Rattle.prune.proofs.Noting.{NamesTo}
use Rattle.prune.proofs.note_record.Given as goal

abbrev pub invariant-loop-j : goal.invariant-loop-j
invariant-loop-j l = NamesTo l.tables.lists.now l.initial.run l.a l.e l.stamp l.run l.j
