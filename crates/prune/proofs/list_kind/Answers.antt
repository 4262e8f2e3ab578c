-- `prune::list_kind` meets its contract. The loop's invariant: the stamps that are left.
use Prim.Native.Nat.{◌+◌, ◌-◌}
use native.Mathlib.Omega.{arith}
use mathlib.Core.Path.{◌≡◌}
use Rattle.prune.proofs.Writing.{going_length}
use Rattle.prune.proofs.Stamps.{linked_apart, kinds_start, kinds_apart, kinds_room, kinds_next, kinds_end}
use Rattle.prune.proofs.list_kind.Goals as goal

pub loop-s-init : goal.loop-s-init
loop-s-init c = kinds_start _ _ _ _ _ _ _

pub list_stamp-to-requires : goal.list_stamp-to-requires
list_stamp-to-requires c =
    let apart = kinds_apart c.requires.0 c.requires.5 c.loop-s.invariant in
    let same : c.loop-s.s - 1 + 1 ≡ c.loop-s.s = omega arith in
    rw
    same (
      c.requires.0,
      c.requires.1,
      omega (arith, c.requires.2, apart.size),
      linked_apart c.requires.0 apart c.requires.3,
      omega arith,
      omega (arith, c.loop-s.invariant.high, c.requires.4),
      kinds_room c.requires.0 c.requires.5 c.loop-s.invariant (omega arith),
    )

pub loop-s-preserved : goal.loop-s-preserved
loop-s-preserved c =
    let same : c.loop-s.s - 1 + 1 ≡ c.loop-s.s = omega arith in
    kinds_next c.requires.0 c.requires.5 c.loop-s.invariant (omega arith) (rw same at c.list_stamp-to.ensures)

pub shape_of-run : goal.shape_of-run
shape_of-run c =
    going_length c.loop-s.invariant.going

pub returns : goal.returns
returns c =
    kinds_end c.requires.0 c.requires.5 c.loop-s.invariant (omega arith)
