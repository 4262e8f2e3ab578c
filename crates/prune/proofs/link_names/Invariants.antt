-- `prune::link_names` meets its contract. The loop's invariant: the ranks below r are on their chains.
use Rattle.prune.proofs.Chains.{LinksTo}
use Rattle.prune.proofs.link_names.Given as goal

abbrev pub invariant-loop-r : goal.invariant-loop-r
invariant-loop-r l = LinksTo l.tables.names.now l.tables.k.names l.initial.run l.run l.r
