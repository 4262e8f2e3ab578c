-- `sweeping::pass` meets its contract. The loop's invariant: the records so far are passed.
use Rattle.firing.specs.Tables.{held_in}
use Rattle.sweeping.proofs.Loops.{Passing}
use Rattle.sweeping.proofs.pass.Given as goal

abbrev pub invariant-loop-i : goal.invariant-loop-i
invariant-loop-i l = Passing (held_in l.tables l.a) l.initial.run l.i l.run l.added
