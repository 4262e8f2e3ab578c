-- `text::Cursor::number` meets its contract. The loop's invariant: the value is made of the value so far and the bytes from `i` on.
use mathlib.Core.Path.{refl, sym, ◌∙◌}
use Rattle.std.specs.Prelude.{None as none}
use Rattle.text.proofs.Laws.{field_none, number_refused, number_read, number_none, walk_start, walk_on, walk_comma, walk_end, walk_out, valued_on, valued_bad, valued_past, valued_end, digit_low, digit_high, digit_good}
use native.Mathlib.Omega.{arith}
use Rattle.text.proofs.Cursor.number.Goals as goal

pub returns-then-self : goal.returns-then-self
returns-then-self c = sym (number_refused _ _ _ (field_none _ _ c.if-self.true) _)

pub loop-i-init : goal.loop-i-init
loop-i-init c = (omega arith, walk_start _ _ _ _ c.if-self.false)

pub returns-then-b-ne44 : goal.returns-then-b-ne44
returns-then-b-ne44 c =
    let left = c.loop-i-test.true in
    let bad = digit_low _ c.if-b-lt48.true in
    let inside = c.requires.inside in
    let out = walk_out _ _ _ _ _ _ c.loop-i.invariant.1 left inside c.if-b-ne44.true none (valued_bad _ _ bad) in
    number_none _ _ _ c.if-self.false refl _ out

pub valued_number-requires : goal.valued_number-requires
valued_number-requires c =
    let left = c.loop-i-test.true in
    let (stop, value) = walk_comma _ _ _ _ _ _ c.loop-i.invariant.1 left c.requires.inside c.if-b-ne44.false in
    (c.loop-i.invariant.1.from, omega arith, c.requires.short, value ∙ valued_end _ c.loop-i.invariant.0)

pub returns-then-b-lt48 : goal.returns-then-b-lt48
returns-then-b-lt48 c =
    let left = c.loop-i-test.true in
    let inside = c.requires.inside in
    let (stop, value) = walk_comma _ _ _ _ _ _ c.loop-i.invariant.1 left inside c.if-b-ne44.false in
    c.valued_number.ensures ∙ number_read _ _ _ c.if-self.false stop _

pub returns-then-b-gt57 : goal.returns-then-b-gt57
returns-then-b-gt57 c =
    let left = c.loop-i-test.true in
    let bad = digit_high _ c.if-b-gt57.true in
    let inside = c.requires.inside in
    let out = walk_out _ _ _ _ _ _ c.loop-i.invariant.1 left inside (λ e. omega arith) none (valued_bad _ _ bad) in
    number_none _ _ _ c.if-self.false refl _ out

pub overflow_cast-n : goal.overflow_cast-n
overflow_cast-n c = omega (arith, c.type_inv.s c.loop-i.i)

pub returns-then-n-gt-MOST_NUMBER : goal.returns-then-n-gt-MOST_NUMBER
returns-then-n-gt-MOST_NUMBER c =
    let left = c.loop-i-test.true in
    let good = digit_good _ c.if-b-lt48.false c.if-b-gt57.false in
    let past = valued_past _ _ good c.if-n-gt-MOST_NUMBER.true in
    let out = walk_out _ _ _ _ _ _ c.loop-i.invariant.1 left c.requires.inside (λ e. omega arith) none past in
    number_none _ _ _ c.if-self.false refl _ out

pub loop-i-preserved : goal.loop-i-preserved
loop-i-preserved c =
    let left = c.loop-i-test.true in
    let good = digit_good _ c.if-b-lt48.false c.if-b-gt57.false in
    let inside = c.requires.inside in
    let on = walk_on _ _ _ _ _ _ c.loop-i.invariant.1 left inside (λ e. omega arith) _ (valued_on _ _ good) in
    (c.if-n-gt-MOST_NUMBER.false, on)

pub valued_number-requires-2 : goal.valued_number-requires-2
valued_number-requires-2 c =
    let (stop, value) = walk_end _ _ _ _ _ _ c.loop-i.invariant.1 c.loop-i-test.false in
    (c.if-self.false, c.requires.inside, c.requires.short, value ∙ valued_end _ c.loop-i.invariant.0)

pub returns : goal.returns
returns c =
    let (stop, value) = walk_end _ _ _ _ _ _ c.loop-i.invariant.1 c.loop-i-test.false in
    c.valued_number-2.ensures ∙ number_read _ _ _ c.if-self.false stop _
