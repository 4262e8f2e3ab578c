-- `scan::Scan::visit` meets its contract.
use native.Mathlib.Omega.{arith}
use lib.ListN.{length-set}
use Rattle.scan.proofs.Visiting.{fact_few, a_place}
use Rattle.scan.proofs.Scan.visit.Goals as goal

pub bounds-run-to : goal.bounds-run-to
bounds-run-to c =
    let room = c.requires.1.room in
    let place = a_place room (fact_few c.requires.0 _ _ c.requires.2 c.at-i.ensures) c.at.ensures c.if-at-ne0.false in
    let long = room.long in
    rw length-set (omega arith)
