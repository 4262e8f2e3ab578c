-- `scan::Scan::meet_items` meets its contract. The loop's invariant: the items so far are met.
use Rattle.firing.specs.Tables.{record_meets}
use Rattle.scan.proofs.Phases.{Scanned}
use Rattle.scan.proofs.Scan.meet_items.Given as goal

abbrev pub invariant-loop-j : goal.invariant-loop-j
invariant-loop-j l = Scanned (record_meets l.tables.names.now l.tables.recs.now l.tables.lists.now) l.self l.initial.run l.j l.run
