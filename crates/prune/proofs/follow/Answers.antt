-- `prune::follow` meets its contract. The loop's invariant: from the stamps of any slice from which the queue is begun, the
-- bodies of its first `j` definitions are followed.
use native.Mathlib.Omega.{arith}
use Rattle.prune.proofs.Following.{queue_start, queue_next, queue_end}
use Rattle.prune.proofs.Bodies.{body_small, readable, queued_record}
use Rattle.prune.proofs.follow.Goals as goal

pub queue_noted-noted-requires : goal.queue_noted-noted-requires
queue_noted-noted-requires c =
    (c.requires.0.few, readable c.requires.0, c.requires.1)

pub loop-j-init : goal.loop-j-init
loop-j-init c = λ w q. q

pub overflow_add-j : goal.overflow_add-j
overflow_add-j c =
    let start = queue_start c.requires.0.few (body_small c.requires.0) c.queue_noted-noted.ensures in
    let inv = c.loop-j.invariant c.args.run.now start in
    omega (arith, inv.following.room.fits, c.loop-j-test.true)

pub at-i-requires : goal.at-i-requires
at-i-requires c =
    let start = queue_start c.requires.0.few (body_small c.requires.0) c.queue_noted-noted.ensures in
    let inv = c.loop-j.invariant c.args.run.now start in
    omega (arith, inv.following.room.fits, inv.following.room.long, c.loop-j-test.true)

pub overflow_add-j-in-loop-j : goal.overflow_add-j-in-loop-j
overflow_add-j-in-loop-j c =
    let start = queue_start c.requires.0.few (body_small c.requires.0) c.queue_noted-noted.ensures in
    let inv = c.loop-j.invariant c.args.run.now start in
    omega (arith, inv.following.room.fits, c.loop-j-test.true)

pub follow_body-end-requires : goal.follow_body-end-requires
follow_body-end-requires c =
    let start = queue_start c.requires.0.few (body_small c.requires.0) c.queue_noted-noted.ensures in
    let inv = c.loop-j.invariant c.args.run.now start in
    (c.requires.0, queued_record c.requires.0 inv c.loop-j-test.true c.at-i.ensures, inv.following.room)

pub loop-j-smaller : goal.loop-j-smaller
loop-j-smaller c =
    let start = queue_start c.requires.0.few (body_small c.requires.0) c.queue_noted-noted.ensures in
    let inv = c.loop-j.invariant c.args.run.now start in
    omega (arith, inv.following.room.fits, c.loop-j-test.true)

pub loop-j-preserved : goal.loop-j-preserved
loop-j-preserved c =
    λ w q.
    queue_next c.requires.0.few (body_small c.requires.0) (c.loop-j.invariant w q) c.loop-j-test.true
    c.at-i.ensures c.follow_body-end.ensures

pub shape_of-run : goal.shape_of-run
shape_of-run c =
    let start = queue_start c.requires.0.few (body_small c.requires.0) c.queue_noted-noted.ensures in
    let inv = c.loop-j.invariant c.args.run.now start in
    inv.following.same.same_length

pub returns : goal.returns
returns c =
    let start = queue_start c.requires.0.few (body_small c.requires.0) c.queue_noted-noted.ensures in
    let inv = c.loop-j.invariant c.args.run.now start in
    record {
      follows = queue_end c.requires.0.few (body_small c.requires.0) inv c.loop-j-test.false;
      same = inv.following.same;
    }
