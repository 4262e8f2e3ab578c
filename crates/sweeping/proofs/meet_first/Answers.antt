-- `sweeping::meet_first` meets its contract. The loop's invariant: the names of the records so far that start are met.
use Rattle.firing.specs.Tables.{held_of}
use Rattle.sweeping.proofs.Loops.{meet_next}
use Rattle.sweeping.proofs.meet_first.Goals as goal

pub loop-i-preserved : goal.loop-i-preserved
unfolding held_of
loop-i-preserved c =
    meet_next c.loop-i.invariant c.starts.ensures c.if-not-starts.false c.meet_record.ensures
