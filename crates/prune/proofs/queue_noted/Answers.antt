-- `prune::queue_noted` meets its contract. The loop's invariant: the queue has the definitions of the names below `n` with a
-- stamp.
use Prim.Native.Nat.{◌<◌, ◌≤◌}
use native.Mathlib.Omega.{arith}
use mathlib.Core.Path.{sym, ◌∙◌}
use Rattle.prune.proofs.Queueing.{noted_start, noted_room, noted_skip, noted_put, noted_end}
use Rattle.prune.proofs.queue_noted.Goals as goal

pub loop-n-init : goal.loop-n-init
loop-n-init c = noted_start _ _ _ _

pub loop-n-preserved-then-at-eq0 : goal.loop-n-preserved-then-at-eq0
loop-n-preserved-then-at-eq0 c =
    let inside : c.loop-n.n < c.args.tables.now.k.names = omega arith in
    noted_skip c.requires.0 c.loop-n.invariant inside (sym c.at.ensures ∙ c.if-at-eq0.true)

pub queue_def-end-requires : goal.queue_def-end-requires
queue_def-end-requires c =
    let inside : c.loop-n.n < c.args.tables.now.k.names = omega arith in (
      c.requires.1 _ inside,
      omega (arith, c.requires.2, c.loop-n.invariant.same.same_length),
      noted_room c.requires.0 c.loop-n.invariant inside,
    )

pub loop-n-preserved : goal.loop-n-preserved
loop-n-preserved c =
    let inside : c.loop-n.n < c.args.tables.now.k.names = omega arith in
    noted_put c.requires.0 c.loop-n.invariant inside c.requires.2
    (λ z. c.if-at-eq0.false (c.at.ensures ∙ z)) c.queue_def-end.ensures

pub shape_of-run : goal.shape_of-run
shape_of-run c =
    c.loop-n.invariant.same.same_length

pub returns : goal.returns
returns c =
    let over : c.args.tables.now.k.names ≤ c.loop-n.n = omega arith in
    noted_end c.requires.0 c.loop-n.invariant c.requires.2 over
