-- `triggers::triggers_of_list` meets its contract. The loop's invariant: the triggers of the terms before `i` are filed.
use Prim.Native.Nat.{◌≤◌, ◌<◌}
use native.Mathlib.Omega.{arith}
use mathlib.Core.Path.{refl}
use Rattle.gather.proofs.Walking.{rows_marked}
use Rattle.triggers.proofs.Filing.{opened_then, comes_of, comes_is, comes_ends, posts}
use Rattle.triggers.proofs.Grouping.{term_low, count_asks, list_start, list_full, list_next, list_pass, list_done}
use Rattle.triggers.proofs.triggers_of_list.Goals as goal

pub loop-i-init : goal.loop-i-init
loop-i-init c =
    list_start c.requires.0 c.requires.1 c.requires.3 {i = c.args.a} refl

pub reference-t-requires : goal.reference-t-requires
reference-t-requires c =
    omega (arith, c.requires.0.ref_room, c.requires.0.few_references, c.requires.3)

pub group_count-requires : goal.group_count-requires
group_count-requires c =
    let low : c.args.a ≤ c.loop-i.i = omega arith in
    let high : c.loop-i.i < c.args.e = omega arith in
    let here = term_low c.reference-t.ensures (c.requires.4 c.loop-i.i low high) in
    count_asks (rows_marked c.loop-i.invariant.filled.rows_same c.requires.0) c.reference-t.result here

pub loop-i-preserved-then-group_count-eq0 : goal.loop-i-preserved-then-group_count-eq0
loop-i-preserved-then-group_count-eq0 c =
    let low : c.args.a ≤ c.loop-i.i = omega arith in
    let high : c.loop-i.i < c.args.e = omega arith in
    let here = term_low c.reference-t.ensures (c.requires.4 c.loop-i.i low high) in
    list_pass c.requires.0 c.requires.1 c.requires.3 low high c.reference-t.ensures here c.group_count.ensures c.if-group_count-eq0.true
    c.loop-i.invariant

pub overflow_sub-end : goal.overflow_sub-end
overflow_sub-end c = (comes_ends c.loop-i.invariant).0

pub overflow_add-mark : goal.overflow_add-mark
overflow_add-mark c =
    omega (arith, c.requires.1.few_marks, (comes_ends c.loop-i.invariant).0, (comes_ends c.loop-i.invariant).1)

pub triggers_of_term-requires : goal.triggers_of_term-requires
triggers_of_term-requires c =
    let low : c.args.a ≤ c.loop-i.i = omega arith in
    let high : c.loop-i.i < c.args.e = omega arith in
    let here = term_low c.reference-t.ensures (c.requires.4 c.loop-i.i low high) in
    let filed = c.loop-i.invariant in
    (rows_marked filed.filled.rows_same c.requires.0, opened_then c.requires.1 filed, here)

pub returns-in_err-filed : goal.returns-in_err-filed
returns-in_err-filed c =
    let low : c.args.a ≤ c.loop-i.i = omega arith in
    let high : c.loop-i.i < c.args.e = omega arith in
    let here = term_low c.reference-t.ensures (c.requires.4 c.loop-i.i low high) in
    let both = posts (list_full c.requires.0 c.requires.1 c.requires.3 low high c.reference-t.ensures here c.loop-i.invariant
    (comes_of _ (c.triggers_of_term.ensures.sets, (c.triggers_of_term.ensures.slices, c.triggers_of_term.ensures.words))) c.in_err-filed.was) in
    rw c.from_residual.ensures (record { sets = both.0; slices = both.1.0; words = both.1.1 })

pub shape_of-names-in_err-filed : goal.shape_of-names-in_err-filed
shape_of-names-in_err-filed c = (returns-in_err-filed c).slices.names_same.same_length

pub shape_of-rows-in_err-filed : goal.shape_of-rows-in_err-filed
shape_of-rows-in_err-filed c = (returns-in_err-filed c).slices.rows_same.same_length

pub shape_of-lists-in_err-filed : goal.shape_of-lists-in_err-filed
shape_of-lists-in_err-filed c = (returns-in_err-filed c).slices.lists_same.same_length

pub overflow_add-count : goal.overflow_add-count
overflow_add-count c =
    let before = comes_ends c.loop-i.invariant in
    let after = comes_ends (comes_is c.in_ok-filed.was (comes_of _ (c.triggers_of_term.ensures.sets, (c.triggers_of_term.ensures.slices, c.triggers_of_term.ensures.words)))) in
    omega (arith, before.1, before.2, after.1, after.2)

pub loop-i-preserved : goal.loop-i-preserved
loop-i-preserved c =
    let low : c.args.a ≤ c.loop-i.i = omega arith in
    let high : c.loop-i.i < c.args.e = omega arith in
    let here = term_low c.reference-t.ensures (c.requires.4 c.loop-i.i low high) in
    list_next c.requires.0 c.requires.1 c.requires.3 low high c.reference-t.ensures here c.loop-i.invariant
    (comes_of _ (c.triggers_of_term.ensures.sets, (c.triggers_of_term.ensures.slices, c.triggers_of_term.ensures.words))) c.in_ok-filed.was

pub returns : goal.returns
returns c =
    let both = posts (list_done c.requires.0 c.requires.1 c.requires.3 (omega arith) (omega arith) (omega arith)
    c.loop-i.invariant) in
    record { sets = both.0; slices = both.1.0; words = both.1.1 }

pub shape_of-names : goal.shape_of-names
shape_of-names c = (returns c).slices.names_same.same_length

pub shape_of-rows : goal.shape_of-rows
shape_of-rows c = (returns c).slices.rows_same.same_length

pub shape_of-lists : goal.shape_of-lists
shape_of-lists c = (returns c).slices.lists_same.same_length
