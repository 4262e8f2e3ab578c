-- `printing::print_passes` prints the lists of the sweep. The loop's invariant: those of the positions passed are written, and so
-- many words are passed.
use mathlib.Core.Path.{◌≡◌}
use mathlib.Core.List.{List}
use lib.ListN.{take}
use Rattle.model.specs.Lists.{sum}
use Rattle.model.specs.Outcome.{Position, lists}
use Rattle.printing.specs.Answers.{SweptTold}
use Rattle.printing.proofs.Passes.{Printed}
use Rattle.printing.proofs.print_passes.Given as goal

abbrev pub invariant-loop-p : goal.invariant-loop-p
invariant-loop-p g l =
    (l.from ≡ sum (take l.p l.kept))
    × ((ps : List Position) → SweptTold l.fn.a l.out (lists ps)
    → Printed l.file l.kept l.passes l.out ps (g.W.Write.contents l.initial.writer) (g.W.Write.contents l.writer) l.p l.from)
