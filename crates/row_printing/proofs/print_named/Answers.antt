-- `row_printing::print_named` is safe and ends.
use native.Mathlib.Omega.{arith}
use Rattle.row_printing.proofs.print_named.Goals as goal

pub print_rows-requires : goal.print_rows-requires
print_rows-requires g c = (c.requires.0, c.requires.1, omega (arith, c.requires.0.short), omega (arith, c.requires.0.short))
