-- `cases::heads::size_in` meets its contract. The loop's invariant: the number is at most the largest.
use Rattle.std.proofs.Common.{◌≤◌}
use Rattle.cases.proofs.heads.size_in.Given as goal

abbrev pub invariant-loop-b : goal.invariant-loop-b
invariant-loop-b l = l.n ≤ l.most
