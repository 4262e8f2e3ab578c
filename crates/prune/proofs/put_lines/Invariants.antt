-- `prune::put_lines` meets its contract. The loop's invariant: what is left to write.
use Rattle.prune.proofs.Lines.{LinesTo}
use Rattle.prune.proofs.put_lines.Given as goal

abbrev pub invariant-loop-j : goal.invariant-loop-j
invariant-loop-j l = LinesTo l.recs l.initial.run l.count l.run l.j
