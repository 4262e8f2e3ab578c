-- `triggers::file_term` meets its contract: names that were gathered are ended.
use native.Mathlib.Omega.{arith}
use Rattle.model.specs.Lists.{fold_left}
use Rattle.gather.specs.Visits.{visit_list, visit_term}
use Rattle.triggers.specs.Filings.{file_list}
use Rattle.triggers.proofs.Filing.{term_set, one_over, one_asks, one_closed, posts}
use Rattle.triggers.proofs.file_term.Goals as goal

pub overflow_cast-mark : goal.overflow_cast-mark
overflow_cast-mark c = omega (arith, c.requires.1.few_marks)

pub gather_term-requires : goal.gather_term-requires
gather_term-requires c =
    (c.requires.0, c.requires.1.name_room, omega (arith, c.requires.2), c.requires.1.fresh, c.requires.1.low, c.requires.1.high)

pub returns-in_err-end : goal.returns-in_err-end
unfolding file_list visit_list visit_term fold_left
returns-in_err-end c =
    let both = posts (one_over (term_set c.args.refs.now c.args.rows.now c.args.used c.args.many c.args.t)
    c.requires.0.few_names c.requires.1 c.gather_term.ensures.set c.gather_term.ensures.slices
    c.gather_term.ensures.walk c.in_err-end.was) in
    rw c.from_residual.ensures (record { sets = both.0; slices = both.1.0; words = both.1.1 })

pub shape_of-names-in_err-end : goal.shape_of-names-in_err-end
shape_of-names-in_err-end c = (returns-in_err-end c).slices.names_same.same_length

pub shape_of-rows-in_err-end : goal.shape_of-rows-in_err-end
shape_of-rows-in_err-end c = (returns-in_err-end c).slices.rows_same.same_length

pub shape_of-lists-in_err-end : goal.shape_of-lists-in_err-end
shape_of-lists-in_err-end c = (returns-in_err-end c).slices.lists_same.same_length

pub close-requires : goal.close-requires
close-requires c =
    one_asks c.requires.1 c.gather_term.ensures.slices c.in_ok-end.was

pub returns : goal.returns
unfolding file_list visit_list visit_term fold_left
returns c =
    let both = posts (one_closed (term_set c.args.refs.now c.args.rows.now c.args.used c.args.many c.args.t)
    c.requires.0.few_names c.requires.1 c.gather_term.ensures.set c.gather_term.ensures.slices
    c.gather_term.ensures.walk c.in_ok-end.was c.close.ensures) in
    record { sets = both.0; slices = both.1.0; words = both.1.1 }

pub shape_of-names : goal.shape_of-names
shape_of-names c = (returns c).slices.names_same.same_length

pub shape_of-rows : goal.shape_of-rows
shape_of-rows c = (returns c).slices.rows_same.same_length

pub shape_of-lists : goal.shape_of-lists
shape_of-lists c = (returns c).slices.lists_same.same_length
