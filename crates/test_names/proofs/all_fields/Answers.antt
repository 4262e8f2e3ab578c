-- `test_names::all_fields` meets its contract. The loop's invariant: the names so far are a table, and the cursor stands in the file.
use mathlib.Core.Path.{sym, ◌∙◌}
use Rattle.text.proofs.Laws.{field_next}
use native.Mathlib.Omega.{arith}
use Rattle.test_names.proofs.all_fields.Goals as goal

pub field_and_token-known-requires : goal.field_and_token-known-requires
field_and_token-known-requires c =
    let read = field_next _ _ c.loop-c.invariant.2 _ (sym c.field.ensures ∙ c.in-Ok.is) in
    (c.loop-c.invariant.1, read.ordered, read.inside)

pub loop-c-smaller : goal.loop-c-smaller
loop-c-smaller c =
    let read = field_next _ _ c.loop-c.invariant.2 _ (sym c.field.ensures ∙ c.in-Ok.is) in
    omega (arith, read.onward)

pub loop-c-preserved : goal.loop-c-preserved
loop-c-preserved c =
    let read = field_next _ _ c.loop-c.invariant.2 _ (sym c.field.ensures ∙ c.in-Ok.is) in
    (omega arith, c.field_and_token-known.ensures, read.onward.placed)
