-- `scan::Scan::visit_new` meets its contract. The loop's invariant: the names so far are swept.
use Rattle.scan.specs.Steps.{going}
use Rattle.scan.proofs.Chaining.{Swept}
use Rattle.scan.proofs.Scan.visit_new.Given as goal

abbrev pub invariant-loop-n : goal.invariant-loop-n
invariant-loop-n l = Swept l.tables.names.now l.tables.recs.now l.tables.lists.now l.tables.k l.a (going l.initial.s l.initial.run) l.n (going l.s l.run)
