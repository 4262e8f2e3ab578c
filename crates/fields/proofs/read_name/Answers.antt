-- `fields::read_name` meets its contract.
use Rattle.model.proofs.ResultLaws.{refused_is}
use mathlib.Core.Path.{refl, sym, ◌∙◌}
use Rattle.text.proofs.Laws.{name_next}
use Rattle.fields.specs.Spelling.{name_read, name_not}
use Rattle.fields.proofs.Spelling.{field_name, field_not}
use Rattle.fields.proofs.read_name.Goals as goal

pub spell_name-w-requires : goal.spell_name-w-requires
spell_name-w-requires c =
    let next = (name_next _ _ c.requires.1 _ (sym c.name.ensures ∙ c.in_ok-part.was)).0 in
    (c.requires.0, next.ordered, next.inside)

pub returns : goal.returns
returns c =
    let placed = c.requires.1 in
    let next = (name_next _ _ placed _ (sym c.name.ensures ∙ c.in_ok-part.was)).0 in
    name_read (field_name placed c.name.ensures c.in_ok-part.was) c.spell_name-w.ensures next.onward

pub returns-in_err-part : goal.returns-in_err-part
returns-in_err-part c =
    rw (refused_is c.from_residual.ensures.1) (name_not (field_not c.requires.1 c.name.ensures c.in_err-part.was) refl)
