-- `prune::sweep_added` meets its contract. The loop's invariant: what is left to put in the column.
use Rattle.prune.specs.Listing.{added_at}
use Rattle.prune.specs.Loops.{queue_column, stamp_in}
use Rattle.prune.proofs.Walking.{Rising}
use Rattle.prune.proofs.sweep_added.Given as goal

abbrev pub invariant-loop-r : goal.invariant-loop-r
invariant-loop-r l = Rising queue_column l.initial.run 0 (added_at l.tables.names.now (stamp_in l.tables.names.now l.initial.run)) l.tables.k.names l.run l.count l.r
