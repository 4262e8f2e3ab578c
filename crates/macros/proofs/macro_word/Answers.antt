-- `macros::macro_word` meets its contract.
use native.Mathlib.Omega.{arith}
use Rattle.macros.proofs.Opening.{word_def, word_other}
use Rattle.macros.proofs.macro_word.Goals as goal

pub is_def-requires : goal.is_def-requires
is_def-requires c =
    (omega (arith, c.at-taken.ensures, c.requires.3), c.requires.2)

pub returns-then-is_def : goal.returns-then-is_def
returns-then-is_def c =
    word_def _ _ _ _ c.at-taken.ensures c.is_def.ensures c.if-is_def.true (omega (arith, c.at-taken.ensures, c.requires.3))

pub code_at-c-requires : goal.code_at-c-requires
code_at-c-requires c = (omega arith, omega arith)

pub found_word-requires : goal.found_word-requires
found_word-requires c =
    (c.requires.4, c.requires.5)

pub returns : goal.returns
returns c =
    word_other _ _ _ _ c.at-taken.ensures c.is_def.ensures c.if-is_def.false c.code_at-c.ensures c.found_word.ensures
