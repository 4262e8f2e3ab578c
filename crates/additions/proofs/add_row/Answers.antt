-- `additions::add_row` meets its contract: the test tells a full table.
use Rattle.additions.specs.Additions.{row_word, with_row}
use Rattle.additions.proofs.Laws.{added_in, added_full}
use mathlib.Core.Path.{sym}
use native.Mathlib.Omega.{arith}
use lib.ListN.{length-set}
use Rattle.additions.proofs.add_row.Goals as goal

pub returns-then-many-ge-MOST_TERMS : goal.returns-then-many-ge-MOST_TERMS
returns-then-many-ge-MOST_TERMS c = let (a, b) = added_full c.args.rows.now c.args.many _ c.args.start c.args.extra c.if-many-ge-MOST_TERMS.true in record { answer = sym a; rows = sym b }

pub bounds-rows-many-2 : goal.bounds-rows-many-2
bounds-rows-many-2 c = simp length-set (omega arith)

pub bounds-rows-many-3 : goal.bounds-rows-many-3
bounds-rows-many-3 c = simp length-set (omega arith)

pub returns : goal.returns
unfolding row_word with_row
returns c = let (a, b) = added_in c.args.rows.now c.args.many _ c.args.start c.args.extra c.if-many-ge-MOST_TERMS.false in record { answer = sym a; rows = sym b }
