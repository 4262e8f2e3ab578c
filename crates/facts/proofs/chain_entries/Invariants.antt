-- `facts::chain_entries` meets its contract. The loop's invariant: the entries up to `e` are on their chains.
use Rattle.facts.specs.Putting.{Chains}
use Rattle.facts.proofs.chain_entries.Given as goal

abbrev pub invariant-loop-e : goal.invariant-loop-e
invariant-loop-e l = Chains l.initial.names l.initial.lists l.names l.lists l.from l.e l.fact
