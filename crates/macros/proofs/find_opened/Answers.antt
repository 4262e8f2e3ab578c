-- `macros::find_opened` meets its contract. The loop's invariant: the numbers among the names before the n-th are found.
use native.Mathlib.Omega.{arith}
use mathlib.Core.Path.{refl}
use mathlib.Core.Logic.{inl, inr}
use lib.ListN.{length-set}
use Rattle.macros.proofs.Opening.{finding_none, finding_other, finding_one, finding_end}
use Rattle.macros.proofs.find_opened.Goals as goal

pub loop-n-init : goal.loop-n-init
loop-n-init c = (finding_none _ c.requires.2 c.requires.3, refl)

pub code_at-c-requires : goal.code_at-c-requires
code_at-c-requires c = (omega arith, omega arith)

pub loop-n-preserved-then-c-lt-FIRST_OPENED : goal.loop-n-preserved-then-c-lt-FIRST_OPENED
loop-n-preserved-then-c-lt-FIRST_OPENED c =
    (finding_other c.loop-n.invariant.0 c.code_at-c.ensures (inl c.if-c-lt-FIRST_OPENED.true), c.loop-n.invariant.1)

pub loop-n-preserved-then-c-ge-PAST_OPENED : goal.loop-n-preserved-then-c-ge-PAST_OPENED
loop-n-preserved-then-c-ge-PAST_OPENED c =
    (finding_other c.loop-n.invariant.0 c.code_at-c.ensures (inr c.if-c-ge-PAST_OPENED.true), c.loop-n.invariant.1)

pub bounds-found-c : goal.bounds-found-c
bounds-found-c c =
    omega (arith, c.requires.2, c.loop-n.invariant.1)

pub loop-n-preserved : goal.loop-n-preserved
loop-n-preserved c =
    (finding_one c.loop-n.invariant.0 c.code_at-c.ensures c.if-c-lt-FIRST_OPENED.false c.if-c-ge-PAST_OPENED.false, simp length-set c.loop-n.invariant.1)

pub shape_of-found : goal.shape_of-found
shape_of-found c = c.loop-n.invariant.1

pub returns : goal.returns
returns c = finding_end c.loop-n.invariant.0 (omega arith) (omega arith)
