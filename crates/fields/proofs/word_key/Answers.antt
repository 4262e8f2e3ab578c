-- `fields::word_key` meets its contract. The loop's invariant: the key is made of the key so far and the bytes from `i` on.
use Prim.Native.Nat.{◌<◌}
use mathlib.Core.Path.{refl, sym, ◌∙◌}
use native.Mathlib.Omega.{arith}
use lib.ListN.{get_or}
use borrow.Author.Tests.{lt-ltb}
use Rattle.text.proofs.Laws.{all_on, all_end}
use Rattle.fields.specs.Wording.{is_byte, key_of}
use Rattle.fields.proofs.Words.{weight_start, weight_room, weight_on, key_on, key_end, key_short, key_long}
use Rattle.fields.proofs.word_key.Goals as goal

pub returns-then-e-a-gt-LONGEST_WORD : goal.returns-then-e-a-gt-LONGEST_WORD
returns-then-e-a-gt-LONGEST_WORD c = key_long _ _ _ c.requires.1 c.if-e-a-gt-LONGEST_WORD.true

pub loop-i-init : goal.loop-i-init
unfolding key_of
loop-i-init c = (omega arith, weight_start _, refl, refl)

pub overflow_mul-key : goal.overflow_mul-key
overflow_mul-key c =
    omega (arith, weight_room _ _ _ c.loop-i-test.true c.if-e-a-gt-LONGEST_WORD.false, c.loop-i.invariant.1)

pub overflow_add-key : goal.overflow_add-key
overflow_add-key c =
    let room = weight_room _ _ _ c.loop-i-test.true c.if-e-a-gt-LONGEST_WORD.false in
    omega (arith, room, c.loop-i.invariant.1, c.type_inv.file c.loop-i.i)

pub loop-i-preserved : goal.loop-i-preserved
unfolding is_byte
loop-i-preserved c =
    let inv = c.loop-i.invariant in
    let i = c.loop-i.i in
    let byte : get_or c.args.file.now i 0 < 256 = omega (arith, c.type_inv.file i) in (
      omega arith,
      weight_on _ _ _ _ inv.0 inv.1 byte,
      inv.2 ∙ key_on _ _ _ _ c.loop-i-test.true c.requires.1,
      inv.3 ∙ all_on _ _ _ c.loop-i-test.true c.requires.1 is_byte (lt-ltb _ 256 byte),
    )

pub returns : goal.returns
returns c =
    let inv = c.loop-i.invariant in
    let done = c.loop-i-test.false in
    key_short _ (inv.3 ∙ all_end _ _ _ done is_byte) (sym (inv.2 ∙ key_end _ _ _ _ done))
