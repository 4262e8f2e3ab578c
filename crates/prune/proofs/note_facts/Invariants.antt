-- `prune::note_facts` meets its contract. The loop's invariant: what is left to note.
use Rattle.prune.proofs.Noting.{FactsTo}
use Rattle.prune.proofs.note_facts.Given as goal

abbrev pub invariant-loop-j : goal.invariant-loop-j
invariant-loop-j l = FactsTo l.tables.recs.now l.tables.lists.now l.initial.run l.count l.run l.j
