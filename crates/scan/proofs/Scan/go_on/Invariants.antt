-- `scan::Scan::go_on` meets its contract. Each round but the last meets a name: the names not met are fewer.
use Rattle.firing.specs.Tables.{held_in}
use Rattle.firing.specs.Met.{unmet}
use Rattle.scan.specs.Steps.{going}
use Rattle.scan.proofs.Phases.{GoingOn}
use Rattle.scan.proofs.Scan.go_on.Given as goal

abbrev pub invariant-loop-s : goal.invariant-loop-s
invariant-loop-s l = GoingOn (held_in l.tables l.a) (going l.initial.s l.initial.run) (going l.s l.run)

abbrev pub decreases-loop-s : goal.decreases-loop-s
decreases-loop-s l = unmet l.tables.k.names l.run
