-- `options::admits` meets its contract. The loop's invariant: what is left is the groups after so many halvings.
use Prim.Native.Nat.{◌-◌}
use mathlib.Core.Path.{◌≡◌}
use Rattle.laws.specs.Places.{option_at}
use Rattle.options.proofs.admits.Given as goal

abbrev pub invariant-loop : goal.invariant-loop
invariant-loop l = option_at (l.group - l.counter) l.left ≡ option_at l.group l.groups
