-- `reasons::put_rows` meets its contract. The loop's invariant: the rows of the ranks that are left are still to be put.
use Prim.Native.Nat.{◌<◌, ◌≤◌}
use native.Mathlib.Omega.{arith}
use Rattle.prune.proofs.Rows.{rows_start, rows_length_same, rows_end}
use Rattle.reasons.proofs.Laws.{explainable_after, reached_below, reached_passed, reached_room, reached_put, all_ranks, all_fit, rows_put}
use Rattle.reasons.proofs.put_rows.Goals as goal

pub loop-r-init : goal.loop-r-init
loop-r-init c = rows_start _ _ _ _

pub reached_at-t-requires : goal.reached_at-t-requires
reached_at-t-requires c =
    let inside : c.loop-r.r < c.args.tables.now.k.names = omega arith in
    (c.requires.index, c.requires.run_room, inside)

pub loop-r-preserved-then-t-eq0 : goal.loop-r-preserved-then-t-eq0
loop-r-preserved-then-t-eq0 c =
    let inside : c.loop-r.r < c.args.tables.now.k.names = omega arith in
    reached_passed c.args.tables.now.names.now c.args.tables.now.recs.now c.args.tables.now.lists.now c.args.run.now c.loop-r.invariant
    inside
    c.reached_at-t.ensures.0 c.if-t-eq0.true

pub put_rows_of-to-requires : goal.put_rows_of-to-requires
put_rows_of-to-requires c =
    let inside : c.loop-r.r < c.args.tables.now.k.names = omega arith in (
      explainable_after c.requires (rows_length_same c.loop-r.invariant),
      reached_below _ c.requires inside c.reached_at-t.ensures.0 c.if-t-eq0.false,
      reached_room c.args.tables.now.names.now c.args.tables.now.recs.now c.args.tables.now.lists.now c.args.run.now c.loop-r.invariant inside
          c.reached_at-t.ensures.0 c.if-t-eq0.false (all_fit c.requires),
    )

pub loop-r-preserved : goal.loop-r-preserved
loop-r-preserved c =
    let inside : c.loop-r.r < c.args.tables.now.k.names = omega arith in
    reached_put c.args.tables.now.names.now c.args.tables.now.recs.now c.args.tables.now.lists.now c.args.run.now c.loop-r.invariant inside
    c.reached_at-t.ensures.0 c.if-t-eq0.false c.put_rows_of-to.ensures

pub shape_of-refs : goal.shape_of-refs
shape_of-refs c = rows_length_same c.loop-r.invariant

pub returns : goal.returns
returns c =
    let over : c.args.tables.now.k.names ≤ c.loop-r.r = omega arith in
    rows_put c.args.tables.now.names.now c.args.tables.now.recs.now c.args.tables.now.lists.now c.args.run.now c.args.tables.now.k
    c.requires.row_room c.requires.fits
    (rw all_ranks (rows_end c.loop-r.invariant over))
