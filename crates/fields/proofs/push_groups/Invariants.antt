-- `fields::push_groups` meets its contract. The loop's invariant: what is left of the run is the run from the cursor and the group on.
use Prim.Native.Nat.{◌-◌}
use mathlib.Core.Path.{◌≡◌}
use Rattle.text.specs.Parts.{fields_left}
use Rattle.model.specs.Reading.{most_references}
use Rattle.words.specs.Slices.{SameBut}
use Rattle.fields.specs.Pushing.{push_groups, Ahead}
use Rattle.fields.proofs.push_groups.Given as goal

abbrev pub invariant-loop-g : goal.invariant-loop-g
invariant-loop-g l =
    (push_groups l.many 0 l.groups l.initial.refs l.from (fields_left l.file l.initial.c) ≡ push_groups l.many l.g (l.groups - l.g) l.refs l.used (fields_left l.file l.c))
    × Ahead l.file l.from l.initial.c l.used l.c
    × SameBut 0 most_references l.initial.refs l.refs
