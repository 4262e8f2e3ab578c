-- `reasons::put_rows` meets its contract. The loop's invariant: the rows of the ranks that are left are still to be put.
use Rattle.prune.proofs.Rows.{RowsTo}
use Rattle.reasons.proofs.Laws.{reached_rows}
use Rattle.reasons.proofs.put_rows.Given as goal

abbrev pub invariant-loop-r : goal.invariant-loop-r
invariant-loop-r l = RowsTo l.initial.refs 0 (reached_rows l.tables.names.now l.tables.recs.now l.tables.lists.now l.run l.tables.k.names) l.tables.k.names l.refs l.to l.r
