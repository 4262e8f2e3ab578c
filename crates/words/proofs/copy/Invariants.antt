-- `words::copy` meets its contract. The loop's invariant: the words up to `i` are copied.
use Rattle.words.proofs.Slices.{Copying}
use Rattle.words.proofs.copy.Given as goal

abbrev pub invariant-loop-i : goal.invariant-loop-i
invariant-loop-i l = Copying l.source l.from l.at l.n l.initial.target l.target l.i
