-- `triggers::file_terms` meets its contract: one disjunct after another.
use native.Mathlib.Omega.{arith}
use Rattle.gather.proofs.Walking.{rows_marked}
use Rattle.triggers.proofs.Filing.{term_sets, opened_then, comes_of, comes_is, comes_ends, two_first, two_full, two_both, posts}
use Rattle.triggers.proofs.file_terms.Goals as goal

pub file_term-requires : goal.file_term-requires
file_term-requires c =
    (c.requires.0, c.requires.1, omega (arith, c.requires.2, c.requires.3))

pub returns : goal.returns
returns c =
    let first = comes_is c.in_ok-first.was (comes_of
    (term_sets c.args.refs.now c.args.rows.now c.args.used c.args.many c.args.t)
    (c.file_term.ensures.sets, (c.file_term.ensures.slices, c.file_term.ensures.words))) in
    let both = posts (two_both c.args.t c.args.u c.requires.0 c.requires.1.high first (comes_of _ (c.file_term-2.ensures.sets, (c.file_term-2.ensures.slices, c.file_term-2.ensures.words)))
    c.in_ok-second.was) in
    record { sets = both.0; slices = both.1.0; words = both.1.1 }

pub shape_of-names : goal.shape_of-names
shape_of-names c = (returns c).slices.names_same.same_length

pub shape_of-rows : goal.shape_of-rows
shape_of-rows c = (returns c).slices.rows_same.same_length

pub shape_of-lists : goal.shape_of-lists
shape_of-lists c = (returns c).slices.lists_same.same_length

pub returns-in_err-first : goal.returns-in_err-first
returns-in_err-first c =
    let both = posts (two_first c.args.t c.args.u c.requires.0 c.in_err-first.was (comes_of _ (c.file_term.ensures.sets, (c.file_term.ensures.slices, c.file_term.ensures.words)))) in
    rw c.from_residual.ensures (record { sets = both.0; slices = both.1.0; words = both.1.1 })

pub shape_of-names-in_err-first : goal.shape_of-names-in_err-first
shape_of-names-in_err-first c = (returns-in_err-first c).slices.names_same.same_length

pub shape_of-rows-in_err-first : goal.shape_of-rows-in_err-first
shape_of-rows-in_err-first c = (returns-in_err-first c).slices.rows_same.same_length

pub shape_of-lists-in_err-first : goal.shape_of-lists-in_err-first
shape_of-lists-in_err-first c = (returns-in_err-first c).slices.lists_same.same_length

pub overflow_sub-first : goal.overflow_sub-first
overflow_sub-first c =
    let first = comes_is c.in_ok-first.was (comes_of
    (term_sets c.args.refs.now c.args.rows.now c.args.used c.args.many c.args.t)
    (c.file_term.ensures.sets, (c.file_term.ensures.slices, c.file_term.ensures.words))) in
    omega (arith, (comes_ends first).0)

pub overflow_add-mark : goal.overflow_add-mark
overflow_add-mark c =
    let first = comes_is c.in_ok-first.was (comes_of
    (term_sets c.args.refs.now c.args.rows.now c.args.used c.args.many c.args.t)
    (c.file_term.ensures.sets, (c.file_term.ensures.slices, c.file_term.ensures.words))) in
    omega (arith, c.requires.1.few_marks, (comes_ends first).0, (comes_ends first).1)

pub file_term-requires-2 : goal.file_term-requires-2
file_term-requires-2 c =
    let first = comes_is c.in_ok-first.was (comes_of
    (term_sets c.args.refs.now c.args.rows.now c.args.used c.args.many c.args.t)
    (c.file_term.ensures.sets, (c.file_term.ensures.slices, c.file_term.ensures.words))) in
    (rows_marked first.filled.rows_same c.requires.0, opened_then c.requires.1 first, omega (arith, c.requires.2, c.requires.3))

pub returns-in_err-second : goal.returns-in_err-second
returns-in_err-second c =
    let first = comes_is c.in_ok-first.was (comes_of
    (term_sets c.args.refs.now c.args.rows.now c.args.used c.args.many c.args.t)
    (c.file_term.ensures.sets, (c.file_term.ensures.slices, c.file_term.ensures.words))) in
    let both = posts (two_full c.args.t c.args.u c.requires.0 c.requires.1.high first (comes_of _ (c.file_term-2.ensures.sets, (c.file_term-2.ensures.slices, c.file_term-2.ensures.words)))
    c.in_err-second.was) in
    rw c.from_residual-in_err-second.ensures (record { sets = both.0; slices = both.1.0; words = both.1.1 })

pub shape_of-names-in_err-second : goal.shape_of-names-in_err-second
shape_of-names-in_err-second c = (returns-in_err-second c).slices.names_same.same_length

pub shape_of-rows-in_err-second : goal.shape_of-rows-in_err-second
shape_of-rows-in_err-second c = (returns-in_err-second c).slices.rows_same.same_length

pub shape_of-lists-in_err-second : goal.shape_of-lists-in_err-second
shape_of-lists-in_err-second c = (returns-in_err-second c).slices.lists_same.same_length
