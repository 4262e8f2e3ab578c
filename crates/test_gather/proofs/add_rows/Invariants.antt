-- `test_gather::add_rows` meets its contract. The loop's invariant: the rows so far are a table, with at most two references each.
use Prim.Native.Nat.{◌*◌, ◌≤◌}
use mathlib.Core.Path.{◌≡◌}
use lib.ListN.{length}
use Rattle.test_gather.specs.Tables.{UnmarkedTable}
use Rattle.test_gather.proofs.add_rows.Given as goal

abbrev pub invariant-loop-t : goal.invariant-loop-t
invariant-loop-t l = UnmarkedTable l.refs l.rows l.n l.n l.t × (l.n ≤ 2 * l.t) × (length l.refs ≡ length l.initial.refs) × (length l.rows ≡ length l.initial.rows)
