-- `prune::list_kind` meets its contract. The loop's invariant: the stamps that are left.
use Rattle.prune.proofs.Stamps.{KindsTo}
use Rattle.prune.proofs.list_kind.Given as goal

abbrev pub invariant-loop-s : goal.invariant-loop-s
invariant-loop-s l = KindsTo l.tables.names.now l.tables.recs.now l.tables.k.names l.kind l.stamps l.initial.run l.m l.run l.to l.s
