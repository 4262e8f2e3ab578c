-- `prune::list_reached` meets its contract. The loop's invariant: what is left to list.
use Rattle.prune.specs.Listing.{reached_at}
use Rattle.prune.specs.Loops.{kept_column}
use Rattle.prune.proofs.Walking.{Rising}
use Rattle.prune.proofs.list_reached.Given as goal

abbrev pub invariant-loop-r : goal.invariant-loop-r
invariant-loop-r l = Rising kept_column l.initial.run 0 (reached_at l.tables.names.now l.initial.run) l.tables.k.names l.run l.to l.r
