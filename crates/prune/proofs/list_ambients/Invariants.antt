-- `prune::list_ambients` meets its contract. The loop's invariant: what is left to list.
use Rattle.prune.specs.Listing.{ambient_at}
use Rattle.prune.proofs.Walking.{Falling}
use Rattle.prune.proofs.list_ambients.Given as goal

abbrev pub invariant-loop-i : goal.invariant-loop-i
invariant-loop-i l = Falling l.initial.run l.m (ambient_at l.tables.recs.now l.a) l.tables.k.records l.run l.to l.i
