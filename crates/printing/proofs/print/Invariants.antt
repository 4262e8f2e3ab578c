-- `printing::print` prints the lines of the outcome. The loop's invariant: so many of its lines are written.
use lib.ListN.{take}
use Rattle.std.specs.Io.KnownBytes.{Appends}
use Rattle.std.specs.List.{concat}
use Rattle.model.specs.Outcome.{Outcome}
use Rattle.model.specs.Text.{printed}
use Rattle.printing.specs.Answers.{Told}
use Rattle.printing.proofs.print.Given as goal

abbrev pub invariant-loop-j : goal.invariant-loop-j
invariant-loop-j g l =
    (o : Outcome) → Told l.a l.out o
    → Appends (g.W.Write.contents l.initial.writer) (g.W.Write.contents l.writer) (concat (take l.j (printed l.file o)))
