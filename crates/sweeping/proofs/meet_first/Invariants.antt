-- `sweeping::meet_first` meets its contract. The loop's invariant: the names of the records so far that start are met.
use Rattle.firing.specs.Tables.{held_in, starts_at}
use Rattle.sweeping.proofs.Loops.{Meeting}
use Rattle.sweeping.proofs.meet_first.Given as goal

abbrev pub invariant-loop-i : goal.invariant-loop-i
invariant-loop-i l = Meeting (held_in l.tables l.a) (starts_at l.tables.recs.now l.a) l.initial.run l.i l.run
