-- `reasons::put_rows_of` meets its contract. The loop's invariant: the rows of the ranks that are left are still to be put.
use Rattle.prune.proofs.Rows.{RowsTo}
use Rattle.reasons.proofs.Laws.{rank_rows}
use Rattle.reasons.proofs.put_rows_of.Given as goal

abbrev pub invariant-loop-r : goal.invariant-loop-r
invariant-loop-r l = RowsTo l.initial.refs l.at (rank_rows l.tables.names.now l.tables.recs.now l.tables.lists.now l.run l.i) l.tables.k.names l.refs l.to l.r
