-- `scan::Scan::visit_new` meets its contract. The loop's invariant: the names so far are swept.
use native.Mathlib.Omega.{arith}
use Rattle.scan.proofs.Chaining.{sweep_start, sweep_visits, sweep_steady, sweep_skip, sweep_next, sweep_end}
use Rattle.scan.proofs.Scan.visit_new.Goals as goal

pub loop-n-init : goal.loop-n-init
loop-n-init c = sweep_start c.requires.0 _ _

pub loop-n-preserved-then-at-round : goal.loop-n-preserved-then-at-round
loop-n-preserved-then-at-round c =
    sweep_skip c.requires.0 _ c.requires.1 c.loop-n.invariant (omega arith) _ c.at.ensures c.if-at-round.true

pub visit_chain-s-requires : goal.visit_chain-s-requires
visit_chain-s-requires c =
    let inv = c.loop-n.invariant in
    let visits = sweep_visits c.requires.0 _ c.requires.1 inv in
    (c.requires.0, sweep_steady c.requires.0 _ c.requires.1 inv c.requires.2, omega (arith, c.requires.2), (omega arith))

pub loop-n-preserved : goal.loop-n-preserved
loop-n-preserved c =
    sweep_next c.requires.0 _ c.requires.1 c.loop-n.invariant (omega arith) _ c.at.ensures c.if-at-round.false c.visit_chain-s.ensures

pub returns : goal.returns
returns c = sweep_end c.requires.0 _ c.loop-n.invariant (omega arith)
