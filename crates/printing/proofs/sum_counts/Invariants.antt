-- `printing::sum_counts` meets its contract. The loop's invariant: so many numbers are summed.
use mathlib.Core.Path.{◌≡◌}
use lib.ListN.{take}
use Rattle.model.specs.Lists.{sum}
use Rattle.printing.proofs.sum_counts.Given as goal

abbrev pub invariant-loop-count : goal.invariant-loop-count
invariant-loop-count l = l.n ≡ sum (take l.count-index l.fn.counts)
