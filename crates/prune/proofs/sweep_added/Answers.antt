-- `prune::sweep_added` meets its contract. The loop's invariant: what is left to put in the column.
use Prim.Native.Nat.{◌<◌, ◌≤◌}
use native.Mathlib.Omega.{arith}
use Rattle.prune.proofs.Writing.{going_length}
use Rattle.prune.proofs.Walking.{rising_start, rising_none, rising_one, rising_room, rising_end}
use Rattle.prune.proofs.Groups.{added_still, few_added}
use Rattle.prune.proofs.sweep_added.Goals as goal

pub loop-r-init : goal.loop-r-init
loop-r-init c = rising_start _ _ _ _ _

pub added_at-t-requires : goal.added_at-t-requires
added_at-t-requires c =
    let inside : c.loop-r.r < c.args.tables.now.k.names = omega arith in
    (c.requires.0, omega (arith, c.requires.1, going_length c.loop-r.invariant.going), inside)

pub loop-r-preserved-then-t-eq0 : goal.loop-r-preserved-then-t-eq0
loop-r-preserved-then-t-eq0 c =
    let inside : c.loop-r.r < c.args.tables.now.k.names = omega arith in
    let same = added_still c.args.tables.now.names.now _ c.requires.0 c.loop-r.invariant.going inside
    c.added_at-t.ensures.0 in
    rising_none c.loop-r.invariant inside same c.if-t-eq0.true

pub overflow_add-run : goal.overflow_add-run
overflow_add-run c =
    let inside : c.loop-r.r < c.args.tables.now.k.names = omega arith in
    let same = added_still c.args.tables.now.names.now _ c.requires.0 c.loop-r.invariant.going inside
    c.added_at-t.ensures.0 in
    let room = rising_room c.loop-r.invariant inside same c.if-t-eq0.false (few_added c.requires.0 _) in
    omega (arith, room)

pub offset_bounds-run-count : goal.offset_bounds-run-count
offset_bounds-run-count c =
    let inside : c.loop-r.r < c.args.tables.now.k.names = omega arith in
    let same = added_still c.args.tables.now.names.now _ c.requires.0 c.loop-r.invariant.going inside
    c.added_at-t.ensures.0 in
    let room = rising_room c.loop-r.invariant inside same c.if-t-eq0.false (few_added c.requires.0 _) in
    omega (arith, room)

pub bounds-run-count : goal.bounds-run-count
bounds-run-count c =
    let inside : c.loop-r.r < c.args.tables.now.k.names = omega arith in
    let same = added_still c.args.tables.now.names.now _ c.requires.0 c.loop-r.invariant.going inside
    c.added_at-t.ensures.0 in
    let room = rising_room c.loop-r.invariant inside same c.if-t-eq0.false (few_added c.requires.0 _) in
    omega (arith, room, c.requires.1, going_length c.loop-r.invariant.going)

pub overflow_add-count : goal.overflow_add-count
overflow_add-count c =
    let inside : c.loop-r.r < c.args.tables.now.k.names = omega arith in
    let same = added_still c.args.tables.now.names.now _ c.requires.0 c.loop-r.invariant.going inside
    c.added_at-t.ensures.0 in
    let room = rising_room c.loop-r.invariant inside same c.if-t-eq0.false (few_added c.requires.0 _) in
    omega (arith, room)

pub loop-r-preserved : goal.loop-r-preserved
loop-r-preserved c =
    let inside : c.loop-r.r < c.args.tables.now.k.names = omega arith in
    let same = added_still c.args.tables.now.names.now _ c.requires.0 c.loop-r.invariant.going inside
    c.added_at-t.ensures.0 in
    rising_one c.loop-r.invariant inside same c.if-t-eq0.false

pub shape_of-run : goal.shape_of-run
shape_of-run c =
    going_length c.loop-r.invariant.going

pub returns : goal.returns
returns c =
    let over : c.args.tables.now.k.names ≤ c.loop-r.r = omega arith in
    rising_end c.loop-r.invariant over
