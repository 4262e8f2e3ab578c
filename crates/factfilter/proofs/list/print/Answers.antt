-- `factfilter::list::print` is safe and ends.
use native.Mathlib.Omega.{arith}
use Rattle.factfilter.proofs.list.print.Goals as goal

pub print-requires : goal.print-requires
print-requires g c = (omega arith, omega arith, omega arith, c.requires.1)
