-- `suppliers::find_suppliers` meets its contract. The loop's invariant: the records so far are noted.
use native.Mathlib.Omega.{arith}
use Rattle.suppliers.proofs.Passing.{record_small, pass_next}
use Rattle.suppliers.proofs.find_suppliers.Goals as goal

pub loop-i-preserved : goal.loop-i-preserved
loop-i-preserved c =
    pass_next c.loop-i.invariant c.was_scanned.ensures (record_small c.requires.0 (omega arith)) c.if-not-was_scanned.false
    c.note_record.ensures
