-- `prune::note_roots` meets its contract. The loop's invariant: what is left to note.
use Prim.Native.Nat.{◌<◌, ◌≤◌}
use native.Mathlib.Omega.{arith}
use Rattle.prune.proofs.Noting.{notes_then, roots_start, roots_skip, roots_next, roots_end, roots_stamps}
use Rattle.prune.proofs.note_roots.Goals as goal

pub loop-i-init : goal.loop-i-init
loop-i-init c = roots_start _ _ _ _ _ _

pub is_goal-requires : goal.is_goal-requires
is_goal-requires c =
    let inside : c.loop-i.i < c.args.tables.now.k.records = omega arith in
    (c.requires.0.recorded.room, omega (arith, c.requires.0.recorded.few, inside), c.requires.2)

pub loop-i-preserved-then-not-is_goal : goal.loop-i-preserved-then-not-is_goal
loop-i-preserved-then-not-is_goal c =
    let inside : c.loop-i.i < c.args.tables.now.k.records = omega arith in
    roots_skip c.loop-i.invariant inside c.is_goal.ensures c.if-not-is_goal.true

pub note_record-requires : goal.note_record-requires
note_record-requires c =
    let inside : c.loop-i.i < c.args.tables.now.k.records = omega arith in (
      notes_then c.requires.0 c.loop-i.invariant.same_length,
      inside,
      omega (arith, c.loop-i.invariant.low, c.requires.1, c.requires.0.recorded.few, inside),
    )

pub loop-i-preserved : goal.loop-i-preserved
loop-i-preserved c =
    let inside : c.loop-i.i < c.args.tables.now.k.records = omega arith in
    roots_next c.loop-i.invariant inside c.is_goal.ensures c.if-not-is_goal.false
    c.note_record.ensures

pub shape_of-run : goal.shape_of-run
shape_of-run c =
    c.loop-i.invariant.same_length

pub returns : goal.returns
returns c =
    let over : c.args.tables.now.k.records ≤ c.loop-i.i = omega arith in
    record { noted = roots_end c.loop-i.invariant over; stamps = roots_stamps c.loop-i.invariant over }
