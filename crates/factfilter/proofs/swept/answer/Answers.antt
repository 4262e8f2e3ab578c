-- `factfilter::swept::answer` prints the lines of what the call comes to.
use mathlib.Core.Path.{ap}
use Rattle.model.specs.declared.Swept.{Swept}
use Rattle.printing.proofs.Passes.{sweep_told}
use Rattle.factfilter.proofs.swept.answer.Goals as goal

pub print-requires : goal.print-requires
print-requires g c = (c.requires, c.sweep_file-a.ensures.room)

pub returns : goal.returns
returns g c =
    let sweeps = c.sweep_file-a.ensures in
    rw (ap (λ (x : Swept). x.passes) sweeps.answered) at (c.in_ok-print.ensures _ (sweep_told _ _ _ _ _ _ sweeps.answered sweeps.result))
