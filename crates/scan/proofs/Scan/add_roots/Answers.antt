-- `scan::Scan::add_roots` meets its contract. The loop's invariant: the records so far are on the worklist.
use Rattle.scan.proofs.Starting.{add_skip, add_next}
use Rattle.scan.proofs.Scan.add_roots.Goals as goal

pub loop-i-preserved-then-not-starts : goal.loop-i-preserved-then-not-starts
loop-i-preserved-then-not-starts c =
    add_skip c.loop-i.invariant c.starts.ensures c.if-not-starts.true

pub loop-i-preserved : goal.loop-i-preserved
loop-i-preserved c =
    add_next c.loop-i.invariant c.starts.ensures c.if-not-starts.false
