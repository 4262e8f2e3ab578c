-- `summary::summarize_assumption` meets its contract: the choice, what it files, the free names.
use native.Mathlib.Omega.{arith}
use mathlib.Core.Path.{refl}
use Rattle.gather.proofs.Room.{err_is}
use Rattle.summary.proofs.Finishing.{chooses_is, asked_begun, filed_ends, finish_asks, finish_law, over_law}
use Rattle.summary.proofs.summarize_assumption.Goals as goal

pub file_choice-requires : goal.file_choice-requires
file_choice-requires c =
    (c.requires.tables, c.summarize_kind-choice.ensures.within, asked_begun c.requires)

pub overflow_sub-sorted : goal.overflow_sub-sorted
overflow_sub-sorted c =
    (filed_ends c.requires c.summarize_kind-choice.ensures (chooses_is c.in_ok-sorted.was (c.file_choice.ensures.kinds, c.file_choice.ensures.words)).0).0

pub overflow_add-mark-2 : goal.overflow_add-mark-2
overflow_add-mark-2 c =
    let ends = filed_ends c.requires c.summarize_kind-choice.ensures (chooses_is c.in_ok-sorted.was (c.file_choice.ensures.kinds, c.file_choice.ensures.words)).0 in
    omega (arith, c.requires.few_marks, ends.0, ends.1)

pub finish-requires : goal.finish-requires
finish-requires c =
    finish_asks c.requires c.summarize_kind-choice.ensures (chooses_is c.in_ok-sorted.was (c.file_choice.ensures.kinds, c.file_choice.ensures.words)).0 refl

pub returns : goal.returns
returns c =
    let made = chooses_is c.in_ok-sorted.was (c.file_choice.ensures.kinds, c.file_choice.ensures.words) in
    let both = finish_law c.requires c.summarize_kind-choice.ensures made.0 refl c.finish.ensures made.1 in
    record { answer = both.0; sets = both.1.0; slices = both.1.1.0; words = both.1.1.1 }

pub returns-in_err-sorted : goal.returns-in_err-sorted
returns-in_err-sorted c =
    let made = chooses_is c.in_err-sorted.was (c.file_choice.ensures.kinds, c.file_choice.ensures.words) in
    let both = over_law c.requires c.summarize_kind-choice.ensures made.0 made.1 in
    rw (err_is c.from_residual.ensures.1) (record { answer = both.0; sets = both.1.0; slices = both.1.1.0; words = both.1.1.1 })
