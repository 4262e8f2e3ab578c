-- `precedence::stamp_body` meets its contract. The loop's invariant: the names that are left to stamp.
use Prim.Native.Nat.{◌+◌}
use Rattle.precedence.proofs.Stamps.{StampTo}
use Rattle.precedence.proofs.stamp_body.Given as goal

abbrev pub invariant-loop-j : goal.invariant-loop-j
invariant-loop-j l = StampTo l.tables.lists.now l.initial.refs (l.i + 1) l.a l.e l.refs l.j
