-- `text::Cursor::field` meets its contract.
use mathlib.Core.Path.{sym}
use native.Mathlib.Omega.{arith}
use Rattle.text.proofs.Laws.{mark_to, field_none, field_some}
use Rattle.text.proofs.Cursor.field.Goals as goal

pub returns-then-end-at : goal.returns-then-end-at
returns-then-end-at c = sym (field_none _ _ c.if-end-at.true)

pub find-stop-requires : goal.find-stop-requires
find-stop-requires c = (c.if-end-at.false, c.requires.inside)

pub overflow_add-result : goal.overflow_add-result
overflow_add-result c = omega (arith, mark_to _ _ _ _ _ c.find-stop.ensures c.if-end-at.false c.requires.inside)

pub returns : goal.returns
returns c = sym (field_some _ _ _ c.if-end-at.false c.find-stop.ensures)
