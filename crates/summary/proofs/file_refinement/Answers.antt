-- `summary::file_refinement` meets its contract: a look at the payload's triggers, then they are filed.
use native.Mathlib.Omega.{arith}
use Rattle.gather.proofs.Walking.{rows_marked}
use Rattle.summary.proofs.Sorting.{begun_opened, begun_then, refinement_empty, refinement_more}
use Rattle.summary.proofs.file_refinement.Goals as goal

pub is_empty-requires : goal.is_empty-requires
is_empty-requires c =
    (c.requires.0, begun_opened c.requires.1 (omega arith) (omega arith), c.requires.2)

pub returns-then-is_empty : goal.returns-then-is_empty
returns-then-is_empty c =
    let both = refinement_empty c.args.t c.requires.0 c.is_empty.ensures.answer c.is_empty.ensures.tables c.is_empty.ensures.words
    c.if-is_empty.true c.requires.1.low in
    record { kinds = both.0; words = both.1 }

pub triggers_of_term-requires : goal.triggers_of_term-requires
triggers_of_term-requires c = (
  rows_marked c.is_empty.ensures.tables.1 c.requires.0,
  begun_then c.requires.1 c.is_empty.ensures.tables c.is_empty.ensures.words.lists_words,
  c.requires.2,
)

pub returns : goal.returns
returns c =
    let both = refinement_more c.args.t c.requires.0 c.is_empty.ensures.answer c.is_empty.ensures.tables c.is_empty.ensures.words
    c.if-is_empty.false c.triggers_of_term.ensures.sets c.triggers_of_term.ensures.slices c.triggers_of_term.ensures.words
    c.filed.ensures in
    record { kinds = both.0; words = both.1 }

pub shape_of-names-then-is_empty : goal.shape_of-names-then-is_empty
shape_of-names-then-is_empty c = (returns-then-is_empty c).kinds.marks.names_same.same_length

pub shape_of-rows-then-is_empty : goal.shape_of-rows-then-is_empty
shape_of-rows-then-is_empty c = (returns-then-is_empty c).kinds.marks.rows_same.same_length

pub shape_of-lists-then-is_empty : goal.shape_of-lists-then-is_empty
shape_of-lists-then-is_empty c = (returns-then-is_empty c).kinds.marks.lists_same.same_length

pub shape_of-names : goal.shape_of-names
shape_of-names c = (returns c).kinds.marks.names_same.same_length

pub shape_of-rows : goal.shape_of-rows
shape_of-rows c = (returns c).kinds.marks.rows_same.same_length

pub shape_of-lists : goal.shape_of-lists
shape_of-lists c = (returns c).kinds.marks.lists_same.same_length
