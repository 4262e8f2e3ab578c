-- `words::clear` meets its contract. The loop's invariant: the column is zero up to `i`, and nothing else changed.
use native.Mathlib.Omega.{arith}
use Rattle.words.proofs.Slices.{zeroing_start, zeroing_block, zeroing_end}
use Rattle.words.proofs.clear.Goals as goal

pub loop-i-init : goal.loop-i-init
loop-i-init c = zeroing_start _ _ _

pub clear_block-requires : goal.clear_block-requires
clear_block-requires c =
    omega (arith, c.min-n.ensures, c.loop-i.invariant.same.same_length, c.requires)

pub overflow_add-i : goal.overflow_add-i
overflow_add-i c =
    omega (arith, c.min-n.ensures, c.loop-i-test.true, c.requires)

pub loop-i-smaller : goal.loop-i-smaller
loop-i-smaller c =
    omega (arith, c.min-n.ensures, c.loop-i-test.true)

pub loop-i-preserved : goal.loop-i-preserved
loop-i-preserved c =
    zeroing_block c.loop-i.invariant c.clear_block.ensures
    (omega (arith, c.min-n.ensures, c.loop-i-test.true))

pub shape_of-w : goal.shape_of-w
shape_of-w c = c.loop-i.invariant.same.same_length

pub returns : goal.returns
returns c = zeroing_end c.loop-i.invariant c.loop-i-test.false
