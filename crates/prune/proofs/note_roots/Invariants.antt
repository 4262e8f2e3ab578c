-- `prune::note_roots` meets its contract. The loop's invariant: what is left to note.
use Rattle.prune.proofs.Noting.{RootsTo}
use Rattle.prune.proofs.note_roots.Given as goal

abbrev pub invariant-loop-i : goal.invariant-loop-i
invariant-loop-i l = RootsTo l.tables.recs.now l.tables.lists.now l.tables.k l.a l.initial.run l.m l.run l.stamp l.i
