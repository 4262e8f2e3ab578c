-- `fields::push_rest` meets its contract. The loop's invariant: what is left of the run is the run from the cursor on.
use Prim.Native.Nat.{◌+◌, ◌-◌}
use mathlib.Core.Path.{◌≡◌}
use Rattle.text.specs.Parts.{fields_left}
use Rattle.model.specs.Reading.{most_references}
use Rattle.words.specs.Slices.{SameBut}
use Rattle.fields.specs.Pushing.{push_rest, Ahead}
use Rattle.fields.proofs.push_rest.Given as goal

abbrev pub invariant-loop-c : goal.invariant-loop-c
invariant-loop-c l =
    (push_rest l.many l.initial.refs l.from (fields_left l.file l.initial.c) ≡ push_rest l.many l.refs l.used (fields_left l.file l.c))
    × Ahead l.file l.from l.initial.c l.used l.c
    × SameBut 0 most_references l.initial.refs l.refs

abbrev pub decreases-loop-c : goal.decreases-loop-c
decreases-loop-c l = l.c.end + 1 - l.c.at
