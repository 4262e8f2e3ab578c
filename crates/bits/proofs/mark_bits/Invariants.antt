-- `bits::mark_bits` meets its contract. The loop's invariant: the bits of the words passed are marked. Assumes nothing.
use Rattle.bits.specs.Bits.{Marked}
use Rattle.bits.proofs.mark_bits.Given as goal

abbrev pub invariant-loop-n : goal.invariant-loop-n
invariant-loop-n l = Marked l.column l.n l.base l.initial.w l.w
