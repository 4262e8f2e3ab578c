-- `names::enter` meets its contract.
use mathlib.Core.Path.{sym, ◌∙◌}
use native.Mathlib.Omega.{arith}
use lib.ListN.{length-set}
use Rattle.names.proofs.Entering.{entered_row}
use Rattle.names.proofs.Spelling.{missing_new, missing_full}
use Rattle.names.proofs.enter.Goals as goal

pub returns-then-named-ge-MOST_NAMES : goal.returns-then-named-ge-MOST_NAMES
returns-then-named-ge-MOST_NAMES c =
    let a = c.args in
    let full = missing_full a.file.now a.w.now a.named a.a a.e a.rank (omega arith) in
    record { answer = sym full.0; table = sym full.1 }

pub put_index-requires : goal.put_index-requires
put_index-requires c = (c.requires.3, omega arith, c.requires.0.room)

pub bounds-w-named-2 : goal.bounds-w-named-2
bounds-w-named-2 c = simp length-set (omega arith)

pub bounds-w-named-3 : goal.bounds-w-named-3
bounds-w-named-3 c = simp length-set (omega arith)

pub shape_of-w : goal.shape_of-w
shape_of-w c = simp length-set (omega arith)

pub returns : goal.returns
returns c =
    let a = c.args in
    let new = missing_new a.file.now a.w.now a.named a.a a.e a.rank (omega arith) in
    record { answer = sym new.0; table = entered_row _ _ _ _ _ _ _ _ c.put_index.ensures c.head_word.ensures ∙ sym new.1 }
