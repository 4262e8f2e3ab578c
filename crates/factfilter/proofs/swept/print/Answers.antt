-- `factfilter::swept::print` prints the lines of the outcome.
use native.Mathlib.Omega.{arith}
use Rattle.factfilter.proofs.swept.print.Goals as goal

pub print_sweep-requires : goal.print_sweep-requires
print_sweep-requires g c = (omega arith, omega arith, omega arith, c.requires.1)
