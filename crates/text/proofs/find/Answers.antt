-- `text::find` meets its contract. The loop's invariant: the first mark from the start is the first mark from `i` on.
use mathlib.Core.Path.{refl, sym, ◌∙◌}
use native.Mathlib.Omega.{arith}
use Rattle.text.proofs.Laws.{mark_here, mark_on, mark_step}
use Rattle.text.proofs.find.Goals as goal

pub loop-i-init : goal.loop-i-init
loop-i-init c = (c.requires.0, refl)

pub returns-then-s-i : goal.returns-then-s-i
returns-then-s-i c =
    let inside = c.requires.1 in
    sym (c.loop-i.invariant.1 ∙ mark_here _ _ _ (omega arith) inside _ c.if-s-i.true)

pub returns-then-s-i-2 : goal.returns-then-s-i-2
returns-then-s-i-2 c =
    let inside = c.requires.1 in
    let one = c.loop-i.invariant.1 ∙ mark_on _ _ _ (omega arith) inside _ c.if-s-i.false in
    sym (one ∙ mark_here _ _ _ (omega arith) inside _ c.if-s-i-2.true)

pub returns-then-s-i-3 : goal.returns-then-s-i-3
returns-then-s-i-3 c =
    let inside = c.requires.1 in
    let one = c.loop-i.invariant.1 ∙ mark_on _ _ _ (omega arith) inside _ c.if-s-i.false in
    let two = mark_step _ _ _ c.loop-i.i 1 _ (omega arith) inside one c.if-s-i-2.false in
    sym (two ∙ mark_here _ _ _ (omega arith) inside _ c.if-s-i-3.true)

pub returns-then-s-i-4 : goal.returns-then-s-i-4
returns-then-s-i-4 c =
    let inside = c.requires.1 in
    let other = c.if-s-i.false in
    let one = c.loop-i.invariant.1 ∙ mark_on _ _ _ (omega arith) inside _ other in
    let two = mark_step _ _ _ c.loop-i.i 1 _ (omega arith) inside one c.if-s-i-2.false in
    let three = mark_step _ _ _ c.loop-i.i 2 _ (omega arith) inside two c.if-s-i-3.false in
    sym (three ∙ mark_here _ _ _ (omega arith) inside _ c.if-s-i-4.true)

pub loop-i-preserved : goal.loop-i-preserved
loop-i-preserved c =
    let inside = c.requires.1 in
    let other = c.if-s-i.false in
    let one = c.loop-i.invariant.1 ∙ mark_on _ _ _ (omega arith) inside _ other in
    let two = mark_step _ _ _ c.loop-i.i 1 _ (omega arith) inside one c.if-s-i-2.false in
    let three = mark_step _ _ _ c.loop-i.i 2 _ (omega arith) inside two c.if-s-i-3.false in
    let four = mark_step _ _ _ c.loop-i.i 3 _ (omega arith) inside three c.if-s-i-4.false in
    (omega arith, four)

pub find_near-requires : goal.find_near-requires
find_near-requires c = (c.loop-i.invariant.0, c.requires.1)

pub returns : goal.returns
returns c = c.find_near.ensures ∙ sym c.loop-i.invariant.1
