-- `text::Cursor::name` meets its contract. The loop's invariant: the field's bytes are of a name if those from `i` on are.
use Rattle.model.specs.Lists.{all}
use Rattle.model.specs.Lines.{is_name_byte}
use Rattle.text.proofs.Laws.{Walk}
use Rattle.text.proofs.Cursor.name.Given as goal

abbrev pub invariant-loop-i : goal.invariant-loop-i
invariant-loop-i l = Walk l.s l.at l.end (all is_name_byte) l.i (all is_name_byte)
