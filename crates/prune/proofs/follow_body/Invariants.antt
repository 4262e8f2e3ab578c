-- `prune::follow_body` meets its contract. The loop's invariant: what is left to follow.
use Rattle.prune.proofs.Bodies.{BodyTo}
use Rattle.prune.proofs.follow_body.Given as goal

abbrev pub invariant-loop-j : goal.invariant-loop-j
invariant-loop-j l = BodyTo l.tables.names.now l.tables.recs.now l.tables.lists.now l.initial.run l.m l.a l.e l.run l.to l.j
