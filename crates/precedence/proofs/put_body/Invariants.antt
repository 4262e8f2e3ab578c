-- `precedence::put_body` meets its contract. The loop's invariant: the ranks whose rows are left.
use Rattle.precedence.specs.Sorts.{rank_row, has_stamp}
use Rattle.prune.proofs.Rows.{RowsTo}
use Rattle.precedence.proofs.put_body.Given as goal

abbrev pub invariant-loop-r : goal.invariant-loop-r
invariant-loop-r l = RowsTo l.initial.run l.m (rank_row l.tables.names.now l.tables.recs.now (has_stamp l.refs l.i) l.i) l.tables.k.names l.run l.to l.r
