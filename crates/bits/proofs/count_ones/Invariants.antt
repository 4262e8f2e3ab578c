-- `bits::count_ones` meets its contract. The loop's invariant: the total is the ones of the words passed. Assumes nothing.
use mathlib.Core.Path.{◌≡◌}
use Prim.Native.Nat.{◌*◌, ◌≤◌}
use lib.ListN.{take, drop}
use Rattle.bits.specs.Bits.{bits_of, ones_of}
use Rattle.bits.proofs.count_ones.Given as goal

abbrev pub invariant-loop-i : goal.invariant-loop-i
invariant-loop-i l = (l.total ≡ ones_of (bits_of (take l.i (drop l.base l.words)))) × (l.total ≤ 32 * l.i)
