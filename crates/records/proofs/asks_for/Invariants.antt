-- `records::asks_for` meets its contract. The loop's invariant: the queries not looked at decide.
use mathlib.Core.Path.{◌≡◌}
use lib.Dec.{eqb}
use Rattle.model.specs.Lists.{any}
use Rattle.records.specs.States.{queries_of}
use Rattle.records.proofs.asks_for.Given as goal

abbrev pub invariant-loop-i : goal.invariant-loop-i
invariant-loop-i l = any (eqb l.q) (queries_of l.recs l.fn.a.first l.fn.a.end) ≡ any (eqb l.q) (queries_of l.recs l.fn.a.first l.i)
