-- `macros::found_word` meets its contract.
use native.Mathlib.Omega.{arith}
use Rattle.macros.proofs.Opening.{number_low, word_below, word_above, word_missing, word_there}
use Rattle.macros.proofs.found_word.Goals as goal

pub returns-then-c-lt-FIRST_MACRO : goal.returns-then-c-lt-FIRST_MACRO
returns-then-c-lt-FIRST_MACRO c = word_below _ _ c.if-c-lt-FIRST_MACRO.true

pub returns-then-c-ge-FIRST_OPENED : goal.returns-then-c-ge-FIRST_OPENED
returns-then-c-ge-FIRST_OPENED c = word_above _ _ c.if-c-ge-FIRST_OPENED.true

pub at-m-requires : goal.at-m-requires
at-m-requires c = omega (arith, c.requires.0)

pub returns-then-m-eq0 : goal.returns-then-m-eq0
returns-then-m-eq0 c =
    word_missing _ _ c.if-c-lt-FIRST_MACRO.false c.if-c-ge-FIRST_OPENED.false c.at-m.ensures c.if-m-eq0.true

pub overflow_add-result : goal.overflow_add-result
overflow_add-result c =
    omega (arith, number_low c.args.found.now c.at-m.ensures c.requires.1 c.if-c-lt-FIRST_MACRO.false c.if-c-ge-FIRST_OPENED.false)

pub returns : goal.returns
returns c =
    word_there _ _ c.if-c-lt-FIRST_MACRO.false c.if-c-ge-FIRST_OPENED.false c.at-m.ensures c.if-m-eq0.false
    (number_low c.args.found.now c.at-m.ensures c.requires.1 c.if-c-lt-FIRST_MACRO.false c.if-c-ge-FIRST_OPENED.false)
