-- `prune::queue_noted` meets its contract. The loop's invariant: the queue has the definitions of the names below `n` with a
-- stamp.
use Rattle.prune.proofs.Queueing.{NotedTo}
use Rattle.prune.proofs.queue_noted.Given as goal

abbrev pub invariant-loop-n : goal.invariant-loop-n
invariant-loop-n l = NotedTo l.tables.names.now l.tables.recs.now l.tables.k.names l.initial.run l.run l.end l.n
