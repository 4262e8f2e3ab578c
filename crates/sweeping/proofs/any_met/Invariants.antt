-- `sweeping::any_met` meets its contract. The loop's invariant: what is left to look at has the answer.
use mathlib.Core.Path.{◌≡◌}
use Rattle.model.specs.Lists.{any, part}
use Rattle.sweeping.specs.Sweeping.{name_met}
use Rattle.sweeping.proofs.any_met.Given as goal

abbrev pub invariant-loop-i : goal.invariant-loop-i
invariant-loop-i l = any (name_met l.run) (part l.lists l.a l.e) ≡ any (name_met l.run) (part l.lists l.i l.e)
