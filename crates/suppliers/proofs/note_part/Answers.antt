-- `suppliers::note_part` meets its contract. The loop's invariant: what is left to note comes to the whole.
use native.Mathlib.Omega.{arith}
use mathlib.Core.Path.{sym, ◌∙◌}
use Rattle.suppliers.proofs.Passing.{one_note, left_next}
use Rattle.suppliers.proofs.note_part.Goals as goal

pub loop-j-preserved : goal.loop-j-preserved
loop-j-preserved c =
    left_next c.loop-j.invariant (omega arith) c.requires.3 c.requires.1 c.at.ensures (c.note.ensures ∙ sym (one_note _ _ _ _))
