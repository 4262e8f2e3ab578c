-- `scan::Scan::meet_items` meets its contract. The loop's invariant: the items so far are met.
use native.Mathlib.Omega.{arith}
use Rattle.scan.proofs.Phases.{scan_next}
use Rattle.scan.proofs.Scan.meet_items.Goals as goal

pub loop-j-preserved : goal.loop-j-preserved
loop-j-preserved c =
    let ends = c.requires.1.1.ends in
    scan_next c.requires.0 c.requires.1.0 c.requires.1.1 c.loop-j.invariant (omega arith) (omega arith) c.at-i.ensures
    c.meet_record.ensures
