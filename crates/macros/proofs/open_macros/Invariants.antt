-- `macros::open_macros` meets its contract. The loop's invariant: the words of the names before the n-th are written.
use Rattle.macros.specs.Macros.{Found, MacrosOpened}
use Rattle.macros.proofs.open_macros.Given as goal

abbrev pub invariant-loop-n : goal.invariant-loop-n
invariant-loop-n l = MacrosOpened l.initial.names l.recs l.names l.named l.n × Found l.initial.names l.named l.found
