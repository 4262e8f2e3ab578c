-- `names::head_word` meets its contract.
use native.Mathlib.Omega.{arith}
use Rattle.names.proofs.Coded.{word_none, word_marked, word_other}
use Rattle.names.proofs.head_word.Goals as goal

pub returns-then-code-eq0 : goal.returns-then-code-eq0
returns-then-code-eq0 c = word_none _ c.head_code-code.ensures c.if-code-eq0.true

pub returns-then-code-lt-FIRST_OTHER : goal.returns-then-code-lt-FIRST_OTHER
returns-then-code-lt-FIRST_OTHER c = word_marked _ c.head_code-code.ensures c.if-code-eq0.false (omega arith)

pub returns : goal.returns
returns c = word_other _ c.head_code-code.ensures (omega arith)
