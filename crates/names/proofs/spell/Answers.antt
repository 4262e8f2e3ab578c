-- `names::spell` meets its contract.
use mathlib.Core.Path.{refl}
use Rattle.names.specs.Table.{spell_answer, spell_table}
use Rattle.names.proofs.Laws.{missing_within}
use Rattle.names.proofs.Spelling.{spell_by}
use Rattle.names.proofs.spell.Goals as goal

pub look_up-requires : goal.look_up-requires
look_up-requires c = c.requires

pub enter-requires : goal.enter-requires
enter-requires c =
    let pre = c.requires in
    (pre.0, pre.1, pre.2, missing_within pre.0 _ _ _ c.look_up.ensures c.in-Err.is)

pub returns-in-Ok : goal.returns-in-Ok
unfolding spell_answer spell_table
returns-in-Ok c = let both = spell_by _ _ _ _ _ _ _ _ _ _ c.look_up.ensures c.in-Ok.is refl refl in record { answer = both.0; table = both.1 }

pub returns-in-Err : goal.returns-in-Err
returns-in-Err c =
    let both = spell_by _ _ _ _ _ _ _ _ _ _ c.look_up.ensures c.in-Err.is c.enter.ensures.answer c.enter.ensures.table in
    record { answer = both.0; table = both.1 }
