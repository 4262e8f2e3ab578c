-- `terms::group_end` meets its contract. The loop's invariant: the group's words up to `i` and those that follow are its run.
use Prim.Native.Nat.{◌+◌}
use mathlib.Core.Path.{◌≡◌}
use Rattle.terms.specs.Rows.{group_run}
use Rattle.model.specs.Lists.{part}
use Rattle.terms.proofs.group_end.Given as goal

abbrev pub invariant-loop-i : goal.invariant-loop-i
invariant-loop-i l = l.a + group_run l.g (part l.refs l.a l.e) ≡ l.i + group_run l.g (part l.refs l.i l.e)
