-- `sweeping::sweep_ask` meets its contract. Each pass but the last adds a record: those not reached are fewer.
use Rattle.firing.specs.Tables.{held_in}
use Rattle.firing.specs.Met.{unreached}
use Rattle.sweeping.proofs.Loops.{SweepingOn}
use Rattle.sweeping.proofs.sweep_ask.Given as goal

abbrev pub invariant-loop-a : goal.invariant-loop-a
invariant-loop-a l = SweepingOn (held_in l.tables l.a) l.initial.run l.run l.passes

abbrev pub decreases-loop-a : goal.decreases-loop-a
decreases-loop-a l = unreached l.run
