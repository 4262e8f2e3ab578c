-- `printing::name_of` meets its contract.
use Rattle.printing.proofs.Parts.{named_short}
use native.Mathlib.Omega.{arith}
use Rattle.printing.proofs.name_of.Goals as goal

pub returns-then-named-n : goal.returns-then-named-n
returns-then-named-n c = record { short = omega arith; is_name = λ h. absurd (omega arith) }

pub returns : goal.returns
returns c = record { short = named_short _ _ _ _ _ c.requires (omega arith) c.name_part.ensures.bytes; is_name = λ h. c.name_part.ensures.bytes }
