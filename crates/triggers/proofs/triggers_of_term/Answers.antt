-- `triggers::triggers_of_term` meets its contract. The loop's invariant: the term is an `all`, the groups before `g` are filed, and their references end at `a`.
use native.Mathlib.Omega.{arith}
use mathlib.Core.Path.{refl}
use Rattle.gather.proofs.Walking.{rows_marked}
use Rattle.triggers.proofs.Marked.{all_there}
use Rattle.triggers.proofs.Filing.{opened_then, comes_ends, comes_of, posts}
use Rattle.triggers.proofs.Grouping.{patterns_asks, groups_asks, groups_first, groups_next, group_asks, groups_then, groups_full, groups_done, groups_again, groups_start, groups_none}
use Rattle.triggers.proofs.triggers_of_term.Goals as goal

pub pattern_groups-p-requires : goal.pattern_groups-p-requires
pattern_groups-p-requires c =
    patterns_asks c.requires.0 c.args.t c.requires.2

pub returns-then-groups-eq0 : goal.returns-then-groups-eq0
returns-then-groups-eq0 c =
    let both = posts (groups_none c.args.t c.requires.0 c.requires.2 c.pattern_groups-p.ensures.0 c.if-groups-eq0.true c.requires.1) in
    record { sets = both.0; slices = both.1.0; words = both.1.1 }

pub shape_of-rows-then-groups-eq0 : goal.shape_of-rows-then-groups-eq0
shape_of-rows-then-groups-eq0 c = refl

pub loop-g-init : goal.loop-g-init
loop-g-init c =
    let all = all_there c.requires.0 c.requires.2 c.pattern_groups-p.ensures.0 c.if-groups-eq0.false refl c.pattern_groups-p.ensures.2 in
    (all, groups_first c.requires.0 all c.pattern_groups-p.ensures.1, groups_start _ _ _ c.requires.1)

pub group_end-b-requires : goal.group_end-b-requires
group_end-b-requires c =
    groups_asks c.requires.0 c.loop-g.invariant.0 c.loop-g.invariant.1

pub overflow_sub-end : goal.overflow_sub-end
overflow_sub-end c = (comes_ends c.loop-g.invariant.2).0

pub overflow_add-mark : goal.overflow_add-mark
overflow_add-mark c =
    let ends = comes_ends c.loop-g.invariant.2 in
    omega (arith, c.requires.1.few_marks, ends.0, ends.1)

pub file_list-requires : goal.file_list-requires
file_list-requires c =
    let asks = group_asks c.requires.0 c.loop-g.invariant.0 c.loop-g.invariant.1 c.group_end-b.ensures in
    (rows_marked c.loop-g.invariant.2.filled.rows_same c.requires.0, opened_then c.requires.1 c.loop-g.invariant.2, asks.0, asks.1, asks.2)

pub returns-in_err-filed : goal.returns-in_err-filed
returns-in_err-filed c =
    let both = posts (groups_full c.requires.0 c.loop-g.invariant.0 c.requires.2 (omega arith) c.in_err-filed.was
    (groups_then c.requires.0 c.loop-g.invariant.0 c.loop-g.invariant.1 c.group_end-b.ensures c.requires.1.high
    c.loop-g.invariant.2 (comes_of _ (c.file_list.ensures.sets, (c.file_list.ensures.slices, c.file_list.ensures.words))))) in
    rw c.from_residual.ensures (record { sets = both.0; slices = both.1.0; words = both.1.1 })

pub shape_of-names-in_err-filed : goal.shape_of-names-in_err-filed
shape_of-names-in_err-filed c = (returns-in_err-filed c).slices.names_same.same_length

pub shape_of-rows-in_err-filed : goal.shape_of-rows-in_err-filed
shape_of-rows-in_err-filed c = (returns-in_err-filed c).slices.rows_same.same_length

pub shape_of-lists-in_err-filed : goal.shape_of-lists-in_err-filed
shape_of-lists-in_err-filed c = (returns-in_err-filed c).slices.lists_same.same_length

pub loop-g-preserved : goal.loop-g-preserved
loop-g-preserved c = (
  c.loop-g.invariant.0,
  groups_next c.requires.0 c.loop-g.invariant.0 c.loop-g.invariant.1 c.group_end-b.ensures,
  groups_again c.loop-g.g c.in_ok-filed.was (comes_of _ (c.file_list.ensures.sets, (c.file_list.ensures.slices, c.file_list.ensures.words)))
      (groups_then c.requires.0 c.loop-g.invariant.0 c.loop-g.invariant.1 c.group_end-b.ensures c.requires.1.high
      c.loop-g.invariant.2 (comes_of _ (c.file_list.ensures.sets, (c.file_list.ensures.slices, c.file_list.ensures.words)))),
)

pub returns : goal.returns
returns c =
    let both = posts (groups_done c.requires.0 c.loop-g.invariant.0 c.requires.2 (omega arith) (omega arith) c.loop-g.invariant.2) in
    record { sets = both.0; slices = both.1.0; words = both.1.1 }

pub shape_of-names : goal.shape_of-names
shape_of-names c = (returns c).slices.names_same.same_length

pub shape_of-rows : goal.shape_of-rows
shape_of-rows c = (returns c).slices.rows_same.same_length

pub shape_of-lists : goal.shape_of-lists
shape_of-lists c = (returns c).slices.lists_same.same_length
