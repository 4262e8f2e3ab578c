-- `prune::list_added` meets its contract. The loop's invariant: what is left to list.
use Rattle.prune.proofs.Groups.{KindTo}
use Rattle.prune.proofs.list_added.Given as goal

abbrev pub invariant-loop-j : goal.invariant-loop-j
invariant-loop-j l = KindTo l.recs l.initial.run l.kind l.added l.m l.run l.to l.j
