-- `bits::count_ones` meets its contract. The loop's invariant: the total is the ones of the words passed. Assumes nothing.
use mathlib.Core.Path.{sym, ap, ◌∙◌}
use Prim.Native.Nat.{ℕ, ◌+◌}
use native.Mathlib.Omega.{arith}
use lib.Count.{ones, ones-le}
use lib.ListN.{get_or}
use Rattle.bits.proofs.Laws.{ones_next, no_ones, ones_end}
use Rattle.bits.proofs.count_ones.Goals as goal

pub loop-i-init : goal.loop-i-init
loop-i-init c = (sym no_ones, omega arith)

pub overflow_cast-ones : goal.overflow_cast-ones
overflow_cast-ones c =
    let at = c.args.base + c.loop-i.i in
    let small = (c.type_inv.words at).fits in
    omega (arith, ones-le 32 (get_or c.args.words.now at 0) small)

pub overflow_add-total : goal.overflow_add-total
overflow_add-total c =
    let at = c.args.base + c.loop-i.i in
    let small = (c.type_inv.words at).fits in
    omega (arith, ones-le 32 (get_or c.args.words.now at 0) small)

pub loop-i-preserved : goal.loop-i-preserved
loop-i-preserved c =
    let at = c.args.base + c.loop-i.i in
    let small = (c.type_inv.words at).fits in (
      ap (λ (n : ℕ). n + ones (get_or c.args.words.now at 0)) c.loop-i.invariant.0 ∙ sym (ones_next c.args.words.now c.args.base c.loop-i.i
          (omega arith) small),
      omega (arith, ones-le 32 (get_or c.args.words.now at 0) small),
    )

pub returns : goal.returns
returns c =
    ones_end c.args.words.now c.args.base c.args.size c.loop-i.i c.loop-i.total (omega arith) c.loop-i.invariant.0
