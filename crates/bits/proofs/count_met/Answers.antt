-- `bits::count_met` meets its contract. Assumes nothing.
use native.Mathlib.Omega.{arith}
use mathlib.Core.Path.{◌∙◌}
use Rattle.bits.proofs.Marking.{clear_unmarked, all_counted}
use Rattle.bits.proofs.count_met.Goals as goal

pub mark_bits-requires : goal.mark_bits-requires
mark_bits-requires c =
    clear_unmarked c.requires.0 c.requires.1 c.clear.ensures

pub count_ones-requires : goal.count_ones-requires
count_ones-requires c =
    (omega (arith, c.mark_bits.ensures.same.same_length, c.clear.ensures.same.same_length, c.requires.0), omega arith)

pub shape_of-run : goal.shape_of-run
shape_of-run c =
    c.mark_bits.ensures.same.same_length ∙ c.clear.ensures.same.same_length

pub returns : goal.returns
returns c =
    all_counted c.requires.0 c.requires.1 c.clear.ensures c.mark_bits.ensures c.count_ones.ensures
