-- `words::at` meets its contract.
use native.Mathlib.Omega.{arith}
use Rattle.words.proofs.at.Goals as goal

pub overflow_cast-result : goal.overflow_cast-result
overflow_cast-result c = omega (arith, c.type_inv.w c.args.i)
