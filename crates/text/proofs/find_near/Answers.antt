-- `text::find_near` meets its contract. The loop's invariant: the first mark from the start is the first mark from `j` on.
use mathlib.Core.Path.{refl, sym, ◌∙◌}
use native.Mathlib.Omega.{arith}
use Rattle.text.proofs.Laws.{mark_here, mark_on, mark_end}
use Rattle.text.proofs.find_near.Goals as goal

pub loop-j-init : goal.loop-j-init
loop-j-init c = refl

pub returns-then-s-j : goal.returns-then-s-j
returns-then-s-j c =
    let left = c.loop-j-test.true in
    sym (c.loop-j.invariant ∙ mark_here _ _ _ left c.requires.1 _ c.if-s-j.true)

pub loop-j-preserved : goal.loop-j-preserved
loop-j-preserved c =
    let left = c.loop-j-test.true in
    c.loop-j.invariant ∙ mark_on _ _ _ left c.requires.1 _ c.if-s-j.false

pub returns : goal.returns
returns c = sym (c.loop-j.invariant ∙ mark_end _ _ _ c.loop-j-test.false _ (omega arith))
