-- `firing::tables::RecordTables::meet_record` meets its contract. The loop's invariant: what is left to meet comes to the whole.
use native.Mathlib.Omega.{arith}
use Rattle.firing.proofs.Meets.{all_next}
use Rattle.firing.proofs.tables.RecordTables.meet_record.Goals as goal

pub loop-j-preserved : goal.loop-j-preserved
loop-j-preserved c =
    let place = c.requires.0.use_place _ c.requires.1 in
    let room = c.requires.0.list_room in
    all_next c.loop-j.invariant (omega (arith, c.at-a.ensures, c.at-e.ensures)) (omega (arith, c.at-e.ensures)) c.at-n.ensures c.meet.ensures
    c.open_macro.ensures
