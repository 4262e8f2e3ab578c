-- `fields::word_key` meets its contract. The loop's invariant: the key is made of the key so far and the bytes from `i` on.
use Prim.Native.Nat.{◌≤◌, ◌<◌, ◌-◌}
use mathlib.Core.Path.{◌≡◌}
use Rattle.model.specs.Lists.{all, part}
use Rattle.fields.specs.Wording.{key_from, is_byte, key_of}
use Rattle.fields.proofs.Words.{weight}
use Rattle.fields.proofs.word_key.Given as goal

abbrev pub invariant-loop-i : goal.invariant-loop-i
invariant-loop-i l =
    (l.a ≤ l.i)
    × (l.key < weight (l.i - l.a))
    × (key_of (part l.file l.a l.e) ≡ key_from l.key (part l.file l.i l.e))
    × (all is_byte (part l.file l.a l.e) ≡ all is_byte (part l.file l.i l.e))
