-- `prune::list_ambients` meets its contract. The loop's invariant: what is left to list.
use native.Mathlib.Omega.{arith}
use Rattle.prune.proofs.Picking.{ambient_small}
use Rattle.prune.proofs.Writing.{going_length}
use Rattle.prune.proofs.Walking.{falling_start, falling_none, falling_one, falling_room, falling_end, ambients_off, ambients_listed, ambients_fit}
use Rattle.prune.proofs.list_ambients.Goals as goal

pub returns-then-options : goal.returns-then-options
returns-then-options c =
    ambients_off c.args.tables.now.recs.now c.args.tables.now.k c.args.a (c.options_of-options.ensures.on _ _).no_ambients_is _ _ c.if-options.true

pub loop-i-init : goal.loop-i-init
loop-i-init c = falling_start _ _ _ _

pub ambient_at-t-requires : goal.ambient_at-t-requires
ambient_at-t-requires c =
    (c.requires.0, omega (arith, c.loop-i.invariant.high, c.requires.2))

pub loop-i-preserved-then-t-eq0 : goal.loop-i-preserved-then-t-eq0
loop-i-preserved-then-t-eq0 c =
    falling_none c.loop-i.invariant (omega arith) c.ambient_at-t.ensures c.if-t-eq0.true

pub overflow_cast-run : goal.overflow_cast-run
overflow_cast-run c =
    omega (arith, ambient_small _ _ _ c.ambient_at-t.ensures, c.loop-i.invariant.high, c.requires.2)

pub overflow_add-run : goal.overflow_add-run
overflow_add-run c =
    let fits = ambients_fit c.args.tables.now.recs.now c.args.tables.now.k c.args.a (c.options_of-options.ensures.on _ _).no_ambients_is c.args.m
    c.if-options.false c.requires.3 in
    let room = falling_room c.loop-i.invariant (omega arith) c.ambient_at-t.ensures c.if-t-eq0.false fits in
    omega (arith, room)

pub offset_bounds-run-to : goal.offset_bounds-run-to
offset_bounds-run-to c =
    let fits = ambients_fit c.args.tables.now.recs.now c.args.tables.now.k c.args.a (c.options_of-options.ensures.on _ _).no_ambients_is c.args.m
    c.if-options.false c.requires.3 in
    let room = falling_room c.loop-i.invariant (omega arith) c.ambient_at-t.ensures c.if-t-eq0.false fits in
    omega (arith, room)

pub bounds-run-to : goal.bounds-run-to
bounds-run-to c =
    let fits = ambients_fit c.args.tables.now.recs.now c.args.tables.now.k c.args.a (c.options_of-options.ensures.on _ _).no_ambients_is c.args.m
    c.if-options.false c.requires.3 in
    let room = falling_room c.loop-i.invariant (omega arith) c.ambient_at-t.ensures c.if-t-eq0.false fits in
    omega (arith, room, c.requires.1, going_length c.loop-i.invariant.going)

pub overflow_add-to : goal.overflow_add-to
overflow_add-to c =
    let fits = ambients_fit c.args.tables.now.recs.now c.args.tables.now.k c.args.a (c.options_of-options.ensures.on _ _).no_ambients_is c.args.m
    c.if-options.false c.requires.3 in
    let room = falling_room c.loop-i.invariant (omega arith) c.ambient_at-t.ensures c.if-t-eq0.false fits in
    omega (arith, room)

pub loop-i-preserved : goal.loop-i-preserved
loop-i-preserved c =
    falling_one c.loop-i.invariant (omega arith) c.ambient_at-t.ensures c.if-t-eq0.false

pub shape_of-run : goal.shape_of-run
shape_of-run c =
    going_length c.loop-i.invariant.going

pub returns : goal.returns
returns c =
    ambients_listed c.args.tables.now.recs.now c.args.tables.now.k c.args.a (c.options_of-options.ensures.on _ _).no_ambients_is c.if-options.false
    (falling_end c.loop-i.invariant (omega arith))
