-- `firing::past` meets its contract. The loop's invariant: what is left to pass.
use Prim.Native.Nat.{ℕ}
use mathlib.Core.Path.{◌≡◌}
use mathlib.Core.Bool.{false}
use mathlib.Core.List.{List}
use Rattle.model.specs.Lists.{part}
use Rattle.firing.specs.Firing.{fires_in}
use Rattle.firing.proofs.past.Given as goal

abbrev pub invariant-loop-j : goal.invariant-loop-j
invariant-loop-j l = (w : List ℕ) → fires_in w false (part l.lists l.i l.e) ≡ fires_in w false (part l.lists l.j l.e)
