-- `test_names::field_and_token` meets its contract.
use native.Mathlib.Omega.{arith}
use Rattle.test_names.proofs.Laws.{grown_table}
use Rattle.test_names.proofs.field_and_token.Goals as goal

pub returns : goal.returns
returns c =
    let answer = c.spell-s.ensures.answer in
    let slice = c.spell-s.ensures.table in
    grown_table c.one_field-known.ensures _ _ (omega (arith, c.if-end-start-lt4.false)) (omega (arith, c.requires.2)) _ _ _ answer slice c.grown.ensures
