-- `prune::list_reached` meets its contract. The loop's invariant: what is left to list.
use Prim.Native.Nat.{◌<◌, ◌≤◌}
use native.Mathlib.Omega.{arith}
use mathlib.Core.Path.{◌∙◌}
use Rattle.model.specs.Reading.{most_records}
use Rattle.prune.proofs.Picking.{reached_same}
use Rattle.prune.proofs.Writing.{going_length, going_below}
use Rattle.prune.proofs.Walking.{rising_start, rising_none, rising_one, rising_room, rising_end}
use Rattle.prune.proofs.list_reached.Goals as goal

pub loop-r-init : goal.loop-r-init
loop-r-init c = rising_start _ _ _ _ _

pub reached_at-t-requires : goal.reached_at-t-requires
reached_at-t-requires c =
    let inside : c.loop-r.r < c.args.tables.now.k.names = omega arith in
    (c.requires.0, omega (arith, c.requires.1, going_length c.loop-r.invariant.going), inside)

pub loop-r-preserved-then-t-eq0 : goal.loop-r-preserved-then-t-eq0
loop-r-preserved-then-t-eq0 c =
    let inside : c.loop-r.r < c.args.tables.now.k.names = omega arith in
    let same = c.reached_at-t.ensures.0 ∙ reached_same _ _ _ _
    (c.requires.0.takers _ (c.requires.0.numbers _ inside)) (going_below c.loop-r.invariant.going) in
    rising_none c.loop-r.invariant inside same c.if-t-eq0.true

pub overflow_add-run : goal.overflow_add-run
overflow_add-run c =
    let inside : c.loop-r.r < c.args.tables.now.k.names = omega arith in
    let same = c.reached_at-t.ensures.0 ∙ reached_same _ _ _ _
    (c.requires.0.takers _ (c.requires.0.numbers _ inside)) (going_below c.loop-r.invariant.going) in
    let room = rising_room c.loop-r.invariant inside same {most = most_records} c.if-t-eq0.false
    (omega (arith, c.requires.2)) in
    omega (arith, room)

pub offset_bounds-run-to : goal.offset_bounds-run-to
offset_bounds-run-to c =
    let inside : c.loop-r.r < c.args.tables.now.k.names = omega arith in
    let same = c.reached_at-t.ensures.0 ∙ reached_same _ _ _ _
    (c.requires.0.takers _ (c.requires.0.numbers _ inside)) (going_below c.loop-r.invariant.going) in
    let room = rising_room c.loop-r.invariant inside same {most = most_records} c.if-t-eq0.false
    (omega (arith, c.requires.2)) in
    omega (arith, room)

pub bounds-run-to : goal.bounds-run-to
bounds-run-to c =
    let inside : c.loop-r.r < c.args.tables.now.k.names = omega arith in
    let same = c.reached_at-t.ensures.0 ∙ reached_same _ _ _ _
    (c.requires.0.takers _ (c.requires.0.numbers _ inside)) (going_below c.loop-r.invariant.going) in
    let room = rising_room c.loop-r.invariant inside same {most = most_records} c.if-t-eq0.false
    (omega (arith, c.requires.2)) in
    omega (arith, room, c.requires.1, going_length c.loop-r.invariant.going)

pub overflow_add-to : goal.overflow_add-to
overflow_add-to c =
    let inside : c.loop-r.r < c.args.tables.now.k.names = omega arith in
    let same = c.reached_at-t.ensures.0 ∙ reached_same _ _ _ _
    (c.requires.0.takers _ (c.requires.0.numbers _ inside)) (going_below c.loop-r.invariant.going) in
    let room = rising_room c.loop-r.invariant inside same {most = most_records} c.if-t-eq0.false
    (omega (arith, c.requires.2)) in
    omega (arith, room)

pub loop-r-preserved : goal.loop-r-preserved
loop-r-preserved c =
    let inside : c.loop-r.r < c.args.tables.now.k.names = omega arith in
    let same = c.reached_at-t.ensures.0 ∙ reached_same _ _ _ _
    (c.requires.0.takers _ (c.requires.0.numbers _ inside)) (going_below c.loop-r.invariant.going) in
    rising_one c.loop-r.invariant inside same c.if-t-eq0.false

pub shape_of-run : goal.shape_of-run
shape_of-run c =
    going_length c.loop-r.invariant.going

pub returns : goal.returns
returns c =
    let over : c.args.tables.now.k.names ≤ c.loop-r.r = omega arith in
    rising_end c.loop-r.invariant over
