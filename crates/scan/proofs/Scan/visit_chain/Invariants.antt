-- `scan::Scan::visit_chain` meets its contract. The loop's invariant: the chain is visited down to an entry.
use Rattle.scan.specs.Steps.{going}
use Rattle.scan.proofs.Chaining.{VisitedTo}
use Rattle.scan.proofs.Scan.visit_chain.Given as goal

abbrev pub invariant-loop-next : goal.invariant-loop-next
invariant-loop-next l = VisitedTo l.tables.names.now l.tables.recs.now l.tables.lists.now l.tables.k l.a (going l.initial.s l.initial.run) l.n (going l.s l.run) l.next

abbrev pub decreases-loop-next : goal.decreases-loop-next
decreases-loop-next l = l.next
