-- `prune::link_names` meets its contract. The loop's invariant: the ranks below r are on their chains.
use Prim.Native.Nat.{◌<◌}
use native.Mathlib.Omega.{arith}
use Rattle.prune.proofs.Chains.{links_start, links_skip, links_next}
use Rattle.prune.proofs.link_names.Goals as goal

pub loop-r-init : goal.loop-r-init
loop-r-init c =
    links_start c.requires.0 c.clear.ensures

pub loop-r-preserved-then-stamp-eq0 : goal.loop-r-preserved-then-stamp-eq0
loop-r-preserved-then-stamp-eq0 c =
    let inside : c.loop-r.r < c.args.tables.now.k.names = omega arith in
    links_skip c.requires.0 c.clear.ensures c.requires.1 c.requires.2 c.loop-r.invariant inside c.at.ensures
    c.at-stamp.ensures c.if-stamp-eq0.true

pub loop-r-preserved : goal.loop-r-preserved
loop-r-preserved c =
    let inside : c.loop-r.r < c.args.tables.now.k.names = omega arith in
    links_next c.requires.0 c.clear.ensures c.requires.1 c.requires.2 c.loop-r.invariant inside c.at.ensures
    c.at-stamp.ensures c.if-stamp-eq0.false
