-- `factfilter::list::filter_file` meets its contract: what `filter` promises of a call over six slices of the words that it uses.
use mathlib.Core.Path.{refl}
use Rattle.factfilter.proofs.Laws.{filters}
use Rattle.factfilter.proofs.list.filter_file.Goals as goal

pub returns : goal.returns
returns c =
    filters _ _ _ _ _ _ c.filter.ensures refl c.requires
