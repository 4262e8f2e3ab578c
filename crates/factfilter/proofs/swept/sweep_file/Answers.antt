-- `factfilter::swept::sweep_file` meets its contract: what `sweep` promises of a call over six slices of the words that it uses.
use mathlib.Core.Path.{refl}
use Rattle.factfilter.proofs.Laws.{sweeps}
use Rattle.factfilter.proofs.swept.sweep_file.Goals as goal

pub returns : goal.returns
returns c = sweeps _ _ _ _ _ _ c.sweep.ensures refl
