-- `precedence::put_rows` meets its contract. The loop's invariant: the records whose rows are left.
use Rattle.precedence.proofs.Putting.{DefsTo}
use Rattle.precedence.proofs.put_rows.Given as goal

abbrev pub invariant-loop-i : goal.invariant-loop-i
invariant-loop-i l = DefsTo l.tables.names.now l.tables.recs.now l.tables.lists.now l.initial.refs l.initial.run l.tables.k l.refs l.run l.to l.i
