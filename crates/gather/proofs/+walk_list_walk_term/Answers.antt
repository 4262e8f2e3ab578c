-- `gather::walk_term` and `gather::walk_list` meet their contracts.
use native.Mathlib.Omega.{arith}
use Prim.Native.Nat.{◌≤◌, ◌<◌}
use mathlib.Core.Path.{sym, ◌∙◌}
use Rattle.gather.proofs.Walking.{list_falls, term_falls, walks_there, walks_none, walks_next, walks_term, walks_head_full, walks_marked, ready_then, heads_of, references_of, in_table_at, walks_is, steps_is, walks_stop, walks_end, walks_names}
use Rattle.gather.proofs.Rendering.{follows_is, follow_there, follow_head_full, follow_list_full, follow_marked, follow_nil, follow_next, follow_stop, follow_end}
use Rattle.gather.proofs.+walk_list_walk_term.Goals as goal

pub walk_list-loop-i-init : goal.walk_list-loop-i-init
walk_list-loop-i-init t c =
    (walks_none c.requires.0, follow_nil c.args.refs.now c.args.used c.args.many c.args.a)

pub walk_list-reference-t-requires : goal.walk_list-reference-t-requires
walk_list-reference-t-requires t c =
    omega (arith, c.requires.0.table.ref_room, c.requires.0.table.few_references, c.requires.1.in_use)

pub walk_list-overflow_add-t : goal.walk_list-overflow_add-t
walk_list-overflow_add-t t c =
    let high : c.loop-i.i < c.args.e = omega arith in
    let here = in_table_at c.requires.1 (omega arith) high c.reference-t.ensures in
    omega (arith, here, c.requires.0.table.few_rows)

pub walk_list-at-requires : goal.walk_list-at-requires
walk_list-at-requires t c =
    let high : c.loop-i.i < c.args.e = omega arith in
    let here = in_table_at c.requires.1 (omega arith) high c.reference-t.ensures in
    let table = (ready_then c.requires.0 c.loop-i.invariant.0).table in
    omega (arith, here, table.few_rows, table.row_room)

pub walk_list-loop-i-preserved-then-at-mark : goal.walk_list-loop-i-preserved-then-at-mark
walk_list-loop-i-preserved-then-at-mark t c =
    let low : c.args.a ≤ c.loop-i.i = omega arith in
    let high : c.loop-i.i < c.args.e = omega arith in
    let ready = ready_then c.requires.0 c.loop-i.invariant.0 in
    let here = in_table_at c.requires.1 low high c.reference-t.ensures in
    let marked = sym c.at.ensures ∙ c.if-at-mark.true in (
      walks_next c.requires.0 c.requires.1 low high c.reference-t.ensures c.loop-i.invariant.0 (walks_there ready here marked),
      follow_next c.requires.0 c.requires.1 low high c.reference-t.ensures c.loop-i.invariant.1 (follow_there ready here marked),
    )

pub walk_list-walk_term-requires : goal.walk_list-walk_term-requires
walk_list-walk_term-requires t c =
    let low : c.args.a ≤ c.loop-i.i = omega arith in
    let high : c.loop-i.i < c.args.e = omega arith in (
      list_falls c.args.refs.now low high c.reference-t.ensures c.decreases,
      (
        ready_then c.requires.0 c.loop-i.invariant.0,
        in_table_at c.requires.1 low high c.reference-t.ensures,
        λ e. c.if-at-mark.false (c.at.ensures ∙ e),
      ),
    )

pub walk_list-returns-in_err-n : goal.walk_list-returns-in_err-n
walk_list-returns-in_err-n t c =
    let low : c.args.a ≤ c.loop-i.i = omega arith in
    let high : c.loop-i.i < c.args.e = omega arith in
    rw c.from_residual.ensures (record {
      set = walks_stop high (walks_next c.requires.0 c.requires.1 low high c.reference-t.ensures c.loop-i.invariant.0
          (walks_is c.in_err-n.was c.walk_term.ensures.set));
      walk = follow_stop c.requires.0 c.requires.1 low high
          (follow_next c.requires.0 c.requires.1 low high c.reference-t.ensures c.loop-i.invariant.1
          (follows_is c.in_err-n.was c.walk_term.ensures.walk));
    })

pub walk_list-loop-i-preserved : goal.walk_list-loop-i-preserved
walk_list-loop-i-preserved t c =
    let low : c.args.a ≤ c.loop-i.i = omega arith in
    let high : c.loop-i.i < c.args.e = omega arith in (
      walks_next c.requires.0 c.requires.1 low high c.reference-t.ensures c.loop-i.invariant.0
          (walks_is c.in_ok-n.was c.walk_term.ensures.set),
      follow_next c.requires.0 c.requires.1 low high c.reference-t.ensures c.loop-i.invariant.1
          (follows_is c.in_ok-n.was c.walk_term.ensures.walk),
    )

pub walk_list-returns : goal.walk_list-returns
walk_list-returns t c =
    record {
      set = walks_end (omega arith) (omega arith) c.loop-i.invariant.0;
      walk = follow_end c.requires.1 (omega arith) (omega arith) c.loop-i.invariant.1;
    }

pub walk_term-gather_head-requires : goal.walk_term-gather_head-requires
walk_term-gather_head-requires t c =
    heads_of c.requires.0 c.requires.1

pub walk_term-returns-in_err-own : goal.walk_term-returns-in_err-own
walk_term-returns-in_err-own t c =
    rw c.from_residual.ensures (record {
      set = walks_head_full c.requires.0 (steps_is c.in_err-own.was c.gather_head.ensures.set);
      walk = follow_head_full c.requires.0 c.requires.1 c.requires.2
          (follows_is c.in_err-own.was c.gather_head.ensures.walk);
    })

pub walk_term-start-a-requires : goal.walk_term-start-a-requires
walk_term-start-a-requires t c =
    omega (arith, c.requires.1, c.requires.0.table.few_rows, c.requires.0.table.row_room)

pub walk_term-end-e-requires : goal.walk_term-end-e-requires
walk_term-end-e-requires t c =
    omega (arith, c.requires.1, c.requires.0.table.few_rows, c.requires.0.table.row_room)

pub walk_term-walk_list-requires : goal.walk_term-walk_list-requires
walk_term-walk_list-requires t c =
    let names = walks_names c.requires.0 (steps_is c.in_ok-own.was c.gather_head.ensures.set) in (
      term_falls c.requires.0.table c.requires.1 c.start-a.ensures c.end-e.ensures c.decreases,
      (
        ready_then c.requires.0 names,
        references_of c.requires.0.table c.requires.1 c.start-a.ensures c.end-e.ensures,
      ),
    )

pub walk_term-returns-in_err-n : goal.walk_term-returns-in_err-n
walk_term-returns-in_err-n t c =
    rw c.from_residual-in_err-n.ensures (record {
      set = walks_term c.requires.0 c.start-a.ensures c.end-e.ensures
          (steps_is c.in_ok-own.was c.gather_head.ensures.set)
          (walks_is c.in_err-n.was c.walk_list.ensures.set);
      walk = follow_list_full c.requires.0 c.requires.1 c.requires.2 c.start-a.ensures c.end-e.ensures
          (follows_is c.in_ok-own.was c.gather_head.ensures.walk)
          (follows_is c.in_err-n.was c.walk_list.ensures.walk);
    })

pub walk_term-overflow_add-rows : goal.walk_term-overflow_add-rows
walk_term-overflow_add-rows t c =
    omega (arith, c.requires.1, c.requires.0.table.few_rows)

pub walk_term-offset_bounds-rows-t : goal.walk_term-offset_bounds-rows-t
walk_term-offset_bounds-rows-t t c =
    omega (arith, c.requires.1, c.requires.0.table.few_rows)

pub walk_term-bounds-rows-t : goal.walk_term-bounds-rows-t
walk_term-bounds-rows-t t c =
    omega (
      arith,
      c.requires.1,
      c.requires.0.table.few_rows,
      c.requires.0.table.row_room,
      c.walk_list.auto.rows,
    )

pub walk_term-returns : goal.walk_term-returns
walk_term-returns t c =
    record {
      set = walks_marked c.requires.0 c.requires.1 (walks_term c.requires.0 c.start-a.ensures c.end-e.ensures
          (steps_is c.in_ok-own.was c.gather_head.ensures.set)
          (walks_is c.in_ok-n.was c.walk_list.ensures.set));
      walk = follow_marked c.requires.0 c.requires.1 c.requires.2 c.start-a.ensures c.end-e.ensures
          (follows_is c.in_ok-own.was c.gather_head.ensures.walk)
          (follows_is c.in_ok-n.was c.walk_list.ensures.walk);
    }
