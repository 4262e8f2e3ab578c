-- `scan::Scan::add_roots` meets its contract. The loop's invariant: the records so far are on the worklist.
use Rattle.firing.specs.Tables.{starts_at}
use Rattle.scan.proofs.Starting.{Adding}
use Rattle.scan.proofs.Scan.add_roots.Given as goal

abbrev pub invariant-loop-i : goal.invariant-loop-i
invariant-loop-i l = Adding (starts_at l.tables.recs.now l.a) l.self l.initial.run l.i l.to l.run
