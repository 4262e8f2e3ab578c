-- `names::look_up` meets its contract. The loop's invariant: the search stands at `low` and `high`, with the bytes that are shared
-- there.
use Prim.Native.Nat.{◌-◌}
use Rattle.names.proofs.Laws.{Searching}
use Rattle.model.specs.Lists.{part}
use Rattle.names.proofs.look_up.Given as goal

abbrev pub invariant-loop-low : goal.invariant-loop-low
invariant-loop-low l =
    Searching l.file l.w l.named (part l.file l.a l.e) l.low l.high l.below l.above

abbrev pub decreases-loop-low : goal.decreases-loop-low
decreases-loop-low l = l.high - l.low
