-- `printing::sum_counts` meets its contract. The loop's invariant: so many numbers are summed.
use Rattle.printing.proofs.Sums.{sum_next, sum_within, sum_none, sum_all}
use native.Mathlib.Omega.{arith}
use Rattle.printing.proofs.sum_counts.Goals as goal

pub loop-count-init : goal.loop-count-init
loop-count-init c = sum_none c.args.counts

pub overflow_cast-n : goal.overflow_cast-n
overflow_cast-n c = omega (arith, c.requires, sum_within c.args.counts c.loop-count.count-index _ c.loop-count.invariant)

pub overflow_add-n : goal.overflow_add-n
overflow_add-n c = omega (arith, c.requires, sum_within c.args.counts c.loop-count.count-index _ c.loop-count.invariant)

pub loop-count-preserved : goal.loop-count-preserved
loop-count-preserved c = sum_next c.args.counts c.loop-count.count-index _ c.loop-count.invariant

pub returns : goal.returns
returns c = sum_all c.args.counts c.loop-count.count-index _ c.loop-count.invariant (omega (arith, c.loop-count-test.false, c.well_formed.0.1.0.1))
