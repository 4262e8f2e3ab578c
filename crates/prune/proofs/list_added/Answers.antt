-- `prune::list_added` meets its contract. The loop's invariant: what is left to list.
use Prim.Native.Nat.{◌<◌, ◌≤◌}
use native.Mathlib.Omega.{arith}
use Rattle.prune.proofs.Groups.{kind_record, kind_skip, kind_take, kind_end}
use Rattle.prune.proofs.list_added.Goals as goal

pub at-requires : goal.at-requires
at-requires c =
    let inside : c.loop-j.j < c.args.added = omega arith in
    let low = kind_record c.requires.1 c.requires.2 c.requires.3 c.loop-j.invariant inside
    c.at-i.ensures in
    omega (arith, low, c.requires.0)

pub loop-j-preserved-then-at-kind : goal.loop-j-preserved-then-at-kind
loop-j-preserved-then-at-kind c =
    let inside : c.loop-j.j < c.args.added = omega arith in
    kind_skip c.requires.1 c.requires.2 c.requires.3 c.loop-j.invariant inside c.at-i.ensures
    c.at.ensures c.if-at-kind.true

pub overflow_cast-run : goal.overflow_cast-run
overflow_cast-run c =
    let inside : c.loop-j.j < c.args.added = omega arith in
    let low = kind_record c.requires.1 c.requires.2 c.requires.3 c.loop-j.invariant inside
    c.at-i.ensures in
    omega (arith, low)

pub loop-j-preserved : goal.loop-j-preserved
loop-j-preserved c =
    let inside : c.loop-j.j < c.args.added = omega arith in
    kind_take c.requires.1 c.requires.2 c.requires.3 c.loop-j.invariant inside c.at-i.ensures
    c.at.ensures c.if-at-kind.false

pub returns : goal.returns
returns c =
    let over : c.args.added ≤ c.loop-j.j = omega arith in
    kind_end c.requires.1 c.requires.2 c.requires.3 c.loop-j.invariant over
