-- `test_gather::push_times` meets its contract. The loop's invariant: so many references are pushed.
use Prim.Native.Nat.{◌+◌}
use mathlib.Core.Path.{◌≡◌}
use lib.ListN.{length}
use Rattle.test_gather.specs.Tables.{UnmarkedTable}
use Rattle.test_gather.proofs.push_times.Given as goal

abbrev pub invariant-loop-i : goal.invariant-loop-i
invariant-loop-i l = UnmarkedTable l.refs l.rows l.start (l.used + l.i) l.many × (length l.refs ≡ length l.initial.refs)
