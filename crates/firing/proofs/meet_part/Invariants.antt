-- `firing::meet_part` meets its contract. The loop's invariant: what is left to meet comes to the whole.
use Rattle.firing.proofs.Meets.{Met}
use Rattle.firing.proofs.meet_part.Given as goal

abbrev pub invariant-loop-i : goal.invariant-loop-i
invariant-loop-i l = Met l.lists l.initial.run l.a l.e l.round l.run l.i
