-- `fields::spell_rest` meets its contract. The loop's invariant: `SpellingOn`.
use Prim.Native.Nat.{◌+◌, ◌-◌}
use Rattle.text.specs.Parts.{fields_left}
use Rattle.fields.proofs.Spelling.{SpellingOn}
use Rattle.fields.proofs.spell_rest.Given as goal

abbrev pub invariant-loop-c : goal.invariant-loop-c
invariant-loop-c l = SpellingOn l.file l.initial.names l.names l.from l.named (fields_left l.file l.initial.c) l.c

abbrev pub decreases-loop-c : goal.decreases-loop-c
decreases-loop-c l = l.c.end + 1 - l.c.at
