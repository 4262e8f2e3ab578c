-- `reasons::put_rows_of` meets its contract. The loop's invariant: the rows of the ranks that are left are still to be put.
use Prim.Native.Nat.{◌<◌, ◌≤◌}
use native.Mathlib.Omega.{arith}
use Rattle.prune.proofs.Picking.{number_in}
use Rattle.reasons.proofs.Listed.{entries_in}
use Rattle.prune.proofs.Rows.{rows_start, rows_length_same, rows_end}
use Rattle.reasons.proofs.Laws.{rows_ranks, rank_passed, rank_room, rank_put, supplier_in}
use Rattle.reasons.proofs.put_rows_of.Goals as goal

pub loop-r-init : goal.loop-r-init
loop-r-init c = rows_start _ _ _ _

pub row_due-requires : goal.row_due-requires
row_due-requires c =
    let inside : c.loop-r.r < c.args.tables.now.k.names = omega arith in
    let low = number_in c.requires.0.index inside c.at-n.ensures in
    (entries_in c.requires.0.laid c.requires.1, c.requires.0.run_room, omega (arith, c.requires.0.index.few))

pub loop-r-preserved-then-not-row_due : goal.loop-r-preserved-then-not-row_due
loop-r-preserved-then-not-row_due c =
    let inside : c.loop-r.r < c.args.tables.now.k.names = omega arith in
    rank_passed c.args.tables.now.names.now c.args.tables.now.recs.now c.args.tables.now.lists.now c.args.run.now c.args.i
    c.loop-r.invariant inside c.at-n.ensures c.row_due.ensures
    c.if-not-row_due.true

pub overflow_add-n : goal.overflow_add-n
overflow_add-n c =
    let inside : c.loop-r.r < c.args.tables.now.k.names = omega arith in
    let low = number_in c.requires.0.index
    inside c.at-n.ensures in
    omega (arith, c.requires.0.index.few)

pub at-supplier-requires : goal.at-supplier-requires
at-supplier-requires c =
    let inside : c.loop-r.r < c.args.tables.now.k.names = omega arith in
    let low = number_in c.requires.0.index
    inside c.at-n.ensures in
    omega
    (arith, c.requires.0.index.few, c.requires.0.run_room)

pub overflow_sub-cause : goal.overflow_sub-cause
overflow_sub-cause c =
    let inside : c.loop-r.r < c.args.tables.now.k.names = omega arith in
    let low = number_in c.requires.0.index
    inside c.at-n.ensures in
    let supplier = supplier_in _ _
    c.requires.0 low
    c.row_due.ensures c.if-not-row_due.false c.at-supplier.ensures in
    omega (arith, supplier.some)

pub overflow_add-cause : goal.overflow_add-cause
overflow_add-cause c =
    let inside : c.loop-r.r < c.args.tables.now.k.names = omega arith in
    let low = number_in c.requires.0.index
    inside c.at-n.ensures in
    let supplier = supplier_in _ _
    c.requires.0 low
    c.row_due.ensures c.if-not-row_due.false c.at-supplier.ensures in
    omega (arith, supplier.low, c.requires.0.laid.few_records)

pub offset_bounds-tables-supplier : goal.offset_bounds-tables-supplier
offset_bounds-tables-supplier c =
    let inside : c.loop-r.r < c.args.tables.now.k.names = omega arith in
    let low = number_in c.requires.0.index
    inside c.at-n.ensures in
    let supplier = supplier_in _ _
    c.requires.0 low
    c.row_due.ensures c.if-not-row_due.false c.at-supplier.ensures in
    omega (arith, supplier.low, c.requires.0.laid.few_records)

pub bounds-tables-supplier : goal.bounds-tables-supplier
bounds-tables-supplier c =
    let inside : c.loop-r.r < c.args.tables.now.k.names = omega arith in
    let low = number_in c.requires.0.index inside c.at-n.ensures in
    let supplier = supplier_in _ _ c.requires.0 low c.row_due.ensures c.if-not-row_due.false c.at-supplier.ensures in
    omega (arith, supplier.low, supplier.some, c.requires.0.laid.few_records, c.requires.0.laid.record_room)

pub overflow_cast-n : goal.overflow_cast-n
overflow_cast-n c =
    let inside : c.loop-r.r < c.args.tables.now.k.names = omega arith in
    let low = number_in
    c.requires.0.index
    inside
    c.at-n.ensures in
    omega (arith, c.requires.0.index.few)

pub put_row-requires : goal.put_row-requires
put_row-requires c =
    let inside : c.loop-r.r < c.args.tables.now.k.names = omega arith in
    let low = number_in c.requires.0.index inside c.at-n.ensures in
    let due = c.if-not-row_due.false in
    let supplier = supplier_in _ _ c.requires.0 low c.row_due.ensures due c.at-supplier.ensures in
    let room = rank_room c.args.tables.now.names.now c.args.tables.now.recs.now c.args.tables.now.lists.now c.args.run.now
    c.args.i c.loop-r.invariant inside c.at-n.ensures c.row_due.ensures due c.requires.2 in
    (omega (arith, rows_length_same c.loop-r.invariant, c.requires.0.row_room), omega (arith, c.requires.0.index.few), supplier.line)

pub overflow_add-to : goal.overflow_add-to
overflow_add-to c =
    let inside : c.loop-r.r < c.args.tables.now.k.names = omega arith in
    let room = rank_room c.args.tables.now.names.now c.args.tables.now.recs.now c.args.tables.now.lists.now c.args.run.now
    c.args.i c.loop-r.invariant inside c.at-n.ensures c.row_due.ensures
    c.if-not-row_due.false c.requires.2 in
    omega (arith, room)

pub loop-r-preserved : goal.loop-r-preserved
loop-r-preserved c =
    let inside : c.loop-r.r < c.args.tables.now.k.names = omega arith in
    rank_put c.args.tables.now.names.now c.args.tables.now.recs.now c.args.tables.now.lists.now c.args.run.now c.args.i
    c.loop-r.invariant inside c.at-n.ensures c.row_due.ensures c.if-not-row_due.false
    c.at-supplier.ensures
    c.put_row.ensures

pub shape_of-refs : goal.shape_of-refs
shape_of-refs c = rows_length_same c.loop-r.invariant

pub returns : goal.returns
returns c =
    let over : c.args.tables.now.k.names ≤ c.loop-r.r = omega arith in
    rw rows_ranks (rows_end c.loop-r.invariant over)
