-- `fields::spell_name` meets its contract.
use Rattle.names.proofs.Spelling.{spell_law, spelled_known, spelled_new, spelled_full}
use Rattle.fields.proofs.Spelling.{spelled_past, begun_table, as_known, as_new, as_full}
use Rattle.fields.proofs.spell_name.Goals as goal

pub returns-then-named-gt-MOST_NAMES : goal.returns-then-named-gt-MOST_NAMES
returns-then-named-gt-MOST_NAMES c = spelled_past _ c.requires.0 c.if-named-gt-MOST_NAMES.true

pub returns-in-Known : goal.returns-in-Known
returns-in-Known c =
    let t = begun_table c.requires.0 c.if-named-gt-MOST_NAMES.false in
    let spelled = spell_law t _ _ c.requires.1 c.requires.2 _ _ c.spell.ensures.answer c.spell.ensures.table in
    as_known t c.requires.1 (spelled_known spelled c.in-Known.is)

pub returns-in-New : goal.returns-in-New
returns-in-New c =
    let t = begun_table c.requires.0 c.if-named-gt-MOST_NAMES.false in
    let spelled = spell_law t _ _ c.requires.1 c.requires.2 _ _ c.spell.ensures.answer c.spell.ensures.table in
    as_new t c.requires.1 (spelled_new spelled c.in-New.is)

pub returns-in-Full : goal.returns-in-Full
returns-in-Full c =
    let t = begun_table c.requires.0 c.if-named-gt-MOST_NAMES.false in
    let spelled = spell_law t _ _ c.requires.1 c.requires.2 _ _ c.spell.ensures.answer c.spell.ensures.table in
    as_full t c.requires.1 (spelled_full spelled c.in-Full.is)
