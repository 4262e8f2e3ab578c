-- `suppliers::note_record` meets its contract. The loop's invariant: what is left to note comes to the whole.
use native.Mathlib.Omega.{arith}
use Rattle.suppliers.proofs.Passing.{left_next, uses_end_noted, record_small, uses_within, noted_both}
use Rattle.suppliers.proofs.note_record.Goals as goal

pub loop-j-preserved : goal.loop-j-preserved
loop-j-preserved c =
    let place = (uses_within c.requires.0 c.requires.2 c.at-a.ensures c.at-e.ensures).0 in
    left_next c.loop-j.invariant (omega arith) (uses_within c.requires.0 c.requires.2 c.at-a.ensures c.at-e.ensures).1
    (record_small c.requires.0 c.requires.2) c.at-n.ensures (noted_both _ _ _ _ _ c.note.ensures c.note_macro.ensures)

pub returns : goal.returns
returns c =
    let place = (uses_within c.requires.0 c.requires.2 c.at-a.ensures c.at-e.ensures).0 in
    uses_end_noted c.loop-j.invariant (omega arith) c.at-a.ensures c.at-e.ensures
