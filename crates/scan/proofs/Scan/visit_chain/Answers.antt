-- `scan::Scan::visit_chain` meets its contract. The loop's invariant: the chain is visited down to an entry.
use native.Mathlib.Omega.{arith}
use Rattle.scan.proofs.Chaining.{chain_start, chain_next, chain_skip, chain_less}
use Rattle.scan.proofs.Scan.visit_chain.Goals as goal

pub loop-next-init : goal.loop-next-init
loop-next-init c = chain_start c.requires.0 _ _ _ _ c.requires.1 c.requires.3 c.at-next.ensures

pub loop-next-smaller-then-not-takes_part : goal.loop-next-smaller-then-not-takes_part
loop-next-smaller-then-not-takes_part c =
    chain_less c.requires.0 _ c.requires.1 c.loop-next.invariant (omega (arith, c.loop-next-test.true)) c.at-next-in-loop-next.ensures

pub loop-next-preserved-then-not-takes_part : goal.loop-next-preserved-then-not-takes_part
loop-next-preserved-then-not-takes_part c =
    chain_skip c.requires.0 _ c.requires.1 c.loop-next.invariant (omega (arith, c.loop-next-test.true)) c.at-next-in-loop-next.ensures c.at.ensures
    c.takes_part.ensures c.if-not-takes_part.true

pub loop-next-smaller : goal.loop-next-smaller
loop-next-smaller c =
    chain_less c.requires.0 _ c.requires.1 c.loop-next.invariant (omega (arith, c.loop-next-test.true)) c.at-next-in-loop-next.ensures

pub loop-next-preserved : goal.loop-next-preserved
loop-next-preserved c =
    chain_next c.requires.0 _ c.requires.1 c.loop-next.invariant (omega (arith, c.loop-next-test.true)) c.at-next-in-loop-next.ensures c.at.ensures
    c.takes_part.ensures c.if-not-takes_part.false c.visit-s.ensures
