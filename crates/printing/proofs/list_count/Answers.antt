-- `printing::list_count` meets its contract. The loop's invariant: the lines of the positions passed are counted, each of which
-- has a round.
use mathlib.Core.Path.{refl}
use lib.ListN.{get_or-eq_default}
use Rattle.printing.proofs.Sums.{sum_none, sum_next}
use Rattle.printing.proofs.Answers.{lists_counted}
use borrow.Author.Count.{below_more}
use native.Mathlib.Omega.{arith}
use Rattle.printing.proofs.list_count.Goals as goal

pub loop-p-init : goal.loop-p-init
loop-p-init c =
    (omega (arith, sum_none c.args.a.kept), omega arith, λ k h. absurd (omega arith))

pub returns-then-rounds-p-eq0 : goal.returns-then-rounds-p-eq0
returns-then-rounds-p-eq0 c =
    lists_counted _ _ _ c.requires c.loop-p.invariant.0 c.loop-p.invariant.2 (omega (arith, c.if-rounds-p-eq0.true))

pub loop-p-preserved : goal.loop-p-preserved
loop-p-preserved c =
    let next = sum_next c.args.a.kept c.loop-p.p _ refl in
    (omega arith, omega arith, below_more _ _ c.loop-p.invariant.2 (λ z. omega (arith, c.if-rounds-p-eq0.false)))

pub returns : goal.returns
returns c =
    let past = get_or-eq_default c.args.a.rounds 0 {n = c.loop-p.p} (omega arith) in
    lists_counted _ _ _ c.requires c.loop-p.invariant.0 c.loop-p.invariant.2 past
