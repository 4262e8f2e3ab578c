-- `reasons::lists_name` meets its contract. The loop's invariant: the entries that are left have the answer.
use mathlib.Core.Path.{◌≡◌}
use Rattle.reasons.specs.Rows.{lists_name}
use Rattle.reasons.proofs.Listed.{listed_from}
use Rattle.reasons.proofs.lists_name.Given as goal

abbrev pub invariant-loop-j : goal.invariant-loop-j
invariant-loop-j l = lists_name l.tables.recs.now l.tables.lists.now l.i l.n ≡ listed_from l.tables.lists.now l.n l.j l.e
