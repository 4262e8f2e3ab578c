-- `prune::list_stamp` meets its contract. The loop's invariant: what is left of the chain.
use native.Mathlib.Omega.{arith}
use Rattle.prune.proofs.Writing.{going_length}
use Rattle.prune.proofs.Stamps.{chain_start, chain_less, chain_none, chain_one, chain_room, chain_end}
use Rattle.prune.proofs.list_stamp.Goals as goal

pub loop-next-init : goal.loop-next-init
loop-next-init c =
    chain_start c.requires.3 c.args.m c.requires.4 c.requires.5 c.at-next.ensures

pub kind_at-t-requires : goal.kind_at-t-requires
kind_at-t-requires c =
    (c.requires.0, c.requires.1, omega (arith, c.loop-next.invariant.high, c.loop-next-test.true))

pub at-next-requires-in-loop-next : goal.at-next-requires-in-loop-next
at-next-requires-in-loop-next c =
    omega (arith, c.loop-next.invariant.high, c.requires.0.few, c.requires.2, going_length c.loop-next.invariant.going)

pub loop-next-smaller-then-t-eq0 : goal.loop-next-smaller-then-t-eq0
loop-next-smaller-then-t-eq0 c =
    chain_less c.requires.3 c.requires.6 c.requires.0.few c.requires.4 c.requires.5 c.loop-next.invariant c.loop-next-test.true c.at-next-in-loop-next.ensures

pub loop-next-preserved-then-t-eq0 : goal.loop-next-preserved-then-t-eq0
loop-next-preserved-then-t-eq0 c =
    chain_none c.requires.3 c.requires.6 c.requires.0.few c.requires.4 c.requires.5 c.loop-next.invariant c.loop-next-test.true c.at-next-in-loop-next.ensures
    c.kind_at-t.ensures.0 c.if-t-eq0.true

pub overflow_add-run : goal.overflow_add-run
overflow_add-run c =
    let room = chain_room c.requires.3 c.requires.6 c.requires.0.few c.requires.4 c.requires.5 c.loop-next.invariant c.loop-next-test.true
    c.at-next-in-loop-next.ensures c.kind_at-t.ensures.0 c.if-t-eq0.false in
    omega (arith, room)

pub offset_bounds-run-to : goal.offset_bounds-run-to
offset_bounds-run-to c =
    let room = chain_room c.requires.3 c.requires.6 c.requires.0.few c.requires.4 c.requires.5 c.loop-next.invariant c.loop-next-test.true
    c.at-next-in-loop-next.ensures c.kind_at-t.ensures.0 c.if-t-eq0.false in
    omega (arith, room)

pub bounds-run-to : goal.bounds-run-to
bounds-run-to c =
    let room = chain_room c.requires.3 c.requires.6 c.requires.0.few c.requires.4 c.requires.5 c.loop-next.invariant c.loop-next-test.true
    c.at-next-in-loop-next.ensures c.kind_at-t.ensures.0 c.if-t-eq0.false in
    omega (arith, room, c.requires.2, going_length c.loop-next.invariant.going)

pub overflow_add-to : goal.overflow_add-to
overflow_add-to c =
    let room = chain_room c.requires.3 c.requires.6 c.requires.0.few c.requires.4 c.requires.5 c.loop-next.invariant c.loop-next-test.true
    c.at-next-in-loop-next.ensures c.kind_at-t.ensures.0 c.if-t-eq0.false in
    omega (arith, room)

pub loop-next-smaller : goal.loop-next-smaller
loop-next-smaller c =
    chain_less c.requires.3 c.requires.6 c.requires.0.few c.requires.4 c.requires.5 c.loop-next.invariant c.loop-next-test.true c.at-next-in-loop-next.ensures

pub loop-next-preserved : goal.loop-next-preserved
loop-next-preserved c =
    chain_one c.requires.3 c.requires.6 c.requires.0.few c.requires.4 c.requires.5 c.loop-next.invariant c.loop-next-test.true c.at-next-in-loop-next.ensures
    c.kind_at-t.ensures.0 c.if-t-eq0.false

pub shape_of-run : goal.shape_of-run
shape_of-run c =
    going_length c.loop-next.invariant.going

pub returns : goal.returns
returns c =
    chain_end c.requires.3 c.loop-next.invariant c.loop-next-test.false
