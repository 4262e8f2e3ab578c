-- `test_names::one_field` meets its contract.
use mathlib.Core.Path.{sym, ◌∙◌}
use Rattle.test_names.proofs.Laws.{name_within, grown_table}
use Rattle.test_names.proofs.one_field.Goals as goal

pub spell-s-requires : goal.spell-s-requires
spell-s-requires c =
    let read = name_within c.requires.0 _ _ c.requires.2 _ (sym c.name.ensures ∙ c.in-Ok.is) in
    (c.requires.0, read.ordered, read.inside)

pub returns-in-Ok : goal.returns-in-Ok
returns-in-Ok c =
    let read = name_within c.requires.0 _ _ c.requires.2 _ (sym c.name.ensures ∙ c.in-Ok.is) in
    let answer = c.spell-s.ensures.answer in
    let slice = c.spell-s.ensures.table in
    grown_table c.requires.0 _ _ read.ordered read.inside _ _ _ answer slice c.grown.ensures
