-- `names::code_in` meets its contract. The loop's invariant: the head code is the code from `code` on among the known names from
-- `i` on.
use Prim.Native.Nat.{◌-◌}
use lib.ListN.{length}
use Rattle.model.specs.Lists.{part}
use Rattle.names.specs.Known.{head_code}
use Rattle.names.proofs.Codes.{Left}
use Rattle.names.proofs.code_in.Given as goal

abbrev pub invariant-loop-i : goal.invariant-loop-i
invariant-loop-i l = Left l.known l.i l.code (part l.file l.a l.e) (head_code (part l.file l.a l.e))

abbrev pub decreases-loop-i : goal.decreases-loop-i
decreases-loop-i l = length l.known - l.i
