-- `facts::chain_entries` meets its contract. The loop's invariant: the entries up to `e` are on their chains.
use Prim.Native.Nat.{◌%◌}
use mathlib.Core.Path.{ap}
use lib.ListN.{length-set}
use Rattle.triggers.specs.Entries.{last_flag}
use Rattle.facts.proofs.Chaining.{chain_start, chain_none, chain_one, chain_end}
use native.Mathlib.Omega.{arith}
use Rattle.facts.proofs.chain_entries.Goals as goal

pub loop-e-init : goal.loop-e-init
loop-e-init c = chain_start _ c.requires.0

pub loop-e-preserved-then-n-ge-NO_NAME : goal.loop-e-preserved-then-n-ge-NO_NAME
loop-e-preserved-then-n-ge-NO_NAME c =
    chain_none c.loop-e.invariant (omega arith) (omega arith) c.requires.5 _ (ap (λ w. w % last_flag) c.at-n.ensures) c.if-n-ge-NO_NAME.true

pub bounds-lists-e-in-loop-e : goal.bounds-lists-e-in-loop-e
bounds-lists-e-in-loop-e c = simp length-set (omega arith)

pub loop-e-preserved : goal.loop-e-preserved
loop-e-preserved c =
    chain_one c.loop-e.invariant (omega arith) (omega arith) c.requires.5 _ (ap (λ w. w % last_flag) c.at-n.ensures) c.requires.4 c.if-n-ge-NO_NAME.false

pub returns : goal.returns
returns c = chain_end c.loop-e.invariant (omega arith) (omega arith)
