-- `fields::push_many` meets its contract. The loop's invariant: what is left of the run is the run from the cursor on.
use Prim.Native.Nat.{◌-◌}
use mathlib.Core.Path.{◌≡◌}
use Rattle.text.specs.Parts.{fields_left}
use Rattle.model.specs.Reading.{most_references}
use Rattle.words.specs.Slices.{SameBut}
use Rattle.fields.specs.Pushing.{push_many, Ahead}
use Rattle.fields.proofs.push_many.Given as goal

abbrev pub invariant-loop : goal.invariant-loop
invariant-loop l =
    (push_many l.many l.group l.n l.initial.refs l.from (fields_left l.file l.initial.c) ≡ push_many l.many l.group (l.n - l.counter) l.refs l.used (fields_left l.file l.c))
    × Ahead l.file l.from l.initial.c l.used l.c
    × SameBut 0 most_references l.initial.refs l.refs
