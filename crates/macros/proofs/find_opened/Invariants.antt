-- `macros::find_opened` meets its contract. The loop's invariant: the numbers among the names before the n-th are found.
use mathlib.Core.Path.{◌≡◌}
use lib.ListN.{length}
use Rattle.macros.proofs.Opening.{Finding}
use Rattle.macros.proofs.find_opened.Given as goal

abbrev pub invariant-loop-n : goal.invariant-loop-n
invariant-loop-n l = Finding l.names l.found l.n × (length l.found ≡ length l.initial.found)
