-- `front::too_short` meets its contract.
use Rattle.front.proofs.Slices.{short_0, short_1, short_2, short_3, short_4, short_5}
use Rattle.front.proofs.too_short.Goals as goal

pub returns-then-n0-lt-WORKING_WORDS : goal.returns-then-n0-lt-WORKING_WORDS
returns-then-n0-lt-WORKING_WORDS c = short_0 _ _ _ _ _ _ c.if-n0-lt-WORKING_WORDS.true

pub returns-then-n1-lt-WORKING_WORDS : goal.returns-then-n1-lt-WORKING_WORDS
returns-then-n1-lt-WORKING_WORDS c =
    short_1 _ _ _ _ _ _ c.if-n0-lt-WORKING_WORDS.false c.if-n1-lt-WORKING_WORDS.true

pub returns-then-n2-lt-WORKING_WORDS : goal.returns-then-n2-lt-WORKING_WORDS
returns-then-n2-lt-WORKING_WORDS c =
    short_2 _ _ _ _ _ _ c.if-n0-lt-WORKING_WORDS.false c.if-n1-lt-WORKING_WORDS.false c.if-n2-lt-WORKING_WORDS.true

pub returns-then-n3-lt-WORKING_WORDS : goal.returns-then-n3-lt-WORKING_WORDS
returns-then-n3-lt-WORKING_WORDS c =
    short_3 _ _ _ _ _ _ c.if-n0-lt-WORKING_WORDS.false c.if-n1-lt-WORKING_WORDS.false c.if-n2-lt-WORKING_WORDS.false c.if-n3-lt-WORKING_WORDS.true

pub returns-then-n4-lt-WORKING_WORDS : goal.returns-then-n4-lt-WORKING_WORDS
returns-then-n4-lt-WORKING_WORDS c =
    short_4 _ _ _ _ _ _ c.if-n0-lt-WORKING_WORDS.false c.if-n1-lt-WORKING_WORDS.false c.if-n2-lt-WORKING_WORDS.false c.if-n3-lt-WORKING_WORDS.false c.if-n4-lt-WORKING_WORDS.true

pub returns : goal.returns
returns c =
    short_5 _ _ _ _ _ _ c.if-n0-lt-WORKING_WORDS.false c.if-n1-lt-WORKING_WORDS.false c.if-n2-lt-WORKING_WORDS.false c.if-n3-lt-WORKING_WORDS.false c.if-n4-lt-WORKING_WORDS.false
