-- `text::Cursor::name` meets its contract. The loop's invariant: the field's bytes are of a name if those from `i` on are.
use mathlib.Core.Path.{refl, sym, ◌∙◌}
use mathlib.Core.Bool.{false}
use native.Mathlib.Omega.{arith}
use borrow.Author.Tests.{not-true, not-false}
use Rattle.model.specs.Lists.{all}
use Rattle.text.proofs.Laws.{field_none, byte_other, name_refused, name_sized, name_bad, walk_start, walk_on, walk_comma, walk_end, walk_out, passes, fails}
use Rattle.text.proofs.Cursor.name.Goals as goal

pub returns-then-self : goal.returns-then-self
returns-then-self c = sym (name_refused _ _ _ (field_none _ _ c.if-self.true))

pub loop-i-init : goal.loop-i-init
loop-i-init c = walk_start _ _ _ _ c.if-self.false

pub returns-then-b-ne44 : goal.returns-then-b-ne44
returns-then-b-ne44 c =
    let left = c.loop-i-test.true in
    let bad = sym c.is_name_byte.ensures ∙ not-true _ c.if-not-is_name_byte.true-raw in
    let inside = c.requires.inside in
    let out = walk_out _ _ _ _ _ _ c.loop-i.invariant left inside c.if-b-ne44.true false (fails _ _ bad) in
    name_bad _ _ _ c.if-self.false refl out

pub returns-then-not-is_name_byte : goal.returns-then-not-is_name_byte
unfolding all
returns-then-not-is_name_byte c =
    let left = c.loop-i-test.true in
    let inside = c.requires.inside in
    let (stop, good) = walk_comma _ _ _ _ _ _ c.loop-i.invariant left inside c.if-b-ne44.false in
    c.sized_name.ensures ∙ name_sized _ _ _ c.if-self.false stop (omega arith) good

pub loop-i-preserved : goal.loop-i-preserved
loop-i-preserved c =
    let left = c.loop-i-test.true in
    let good = sym c.is_name_byte.ensures ∙ not-false _ c.if-not-is_name_byte.false-raw in
    let other = byte_other _ good in
    walk_on _ _ _ _ _ _ c.loop-i.invariant left c.requires.inside other _ (passes _ _ good)

pub returns : goal.returns
unfolding all
returns c =
    let (stop, good) = walk_end _ _ _ _ _ _ c.loop-i.invariant c.loop-i-test.false in
    c.sized_name-2.ensures ∙ name_sized _ _ _ c.if-self.false stop c.requires.inside good
