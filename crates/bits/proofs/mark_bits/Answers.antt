-- `bits::mark_bits` meets its contract. The loop's invariant: the bits of the words passed are marked. Assumes nothing.
use mathlib.Core.Path.{◌≡◌, sym, ◌∙◌, subst}
use Prim.Native.Nat.{ℕ}
use native.Mathlib.Omega.{arith}
use Rattle.bits.specs.Bits.{Marked}
use Rattle.bits.proofs.Marking.{none_marked, next_marked, next_unmarked}
use Rattle.bits.proofs.mark_bits.Goals as goal

pub loop-n-init : goal.loop-n-init
loop-n-init c = none_marked c.args.column c.args.base c.args.w.now

pub at-requires : goal.at-requires
at-requires c = omega (arith, c.loop-n.invariant.same.same_length)

pub loop-n-preserved-then-at-eq0 : goal.loop-n-preserved-then-at-eq0
loop-n-preserved-then-at-eq0 c =
    next_unmarked c.requires c.loop-n.w c.loop-n.n c.loop-n-test.true c.loop-n.invariant (sym c.at.ensures ∙ c.if-at-eq0.true)

pub set_bit-requires : goal.set_bit-requires
set_bit-requires c = omega (arith, c.loop-n.invariant.same.same_length)

pub loop-n-preserved : goal.loop-n-preserved
loop-n-preserved c =
    next_marked c.requires c.loop-n.w c.loop-n.n c.loop-n-test.true c.loop-n.invariant c.set_bit.new.words c.set_bit.ensures
    (λ z. c.if-at-eq0.false (c.at.ensures ∙ z))

pub shape_of-w : goal.shape_of-w
shape_of-w c = c.loop-n.invariant.same.same_length

pub returns : goal.returns
returns c =
    let all : c.loop-n.n ≡ c.args.size = omega arith in
    subst (λ (n : ℕ). Marked c.args.column n c.args.base c.args.w.now c.loop-n.w) all c.loop-n.invariant
