-- `prune::list_stamp` meets its contract. The loop's invariant: what is left of the chain.
use Rattle.prune.specs.Loops.{stamp_in}
use Rattle.prune.proofs.Stamps.{ListedTo}
use Rattle.prune.proofs.list_stamp.Given as goal

abbrev pub invariant-loop-next : goal.invariant-loop-next
invariant-loop-next l = ListedTo l.tables.names.now l.tables.recs.now (stamp_in l.tables.names.now l.initial.run) l.tables.k.names l.kind l.stamp l.initial.run l.m l.run l.to l.next

abbrev pub decreases-loop-next : goal.decreases-loop-next
decreases-loop-next l = l.next
