-- `factfilter::why::explain_file` meets its contract.
use mathlib.Core.Path.{refl}
use Rattle.factfilter.proofs.Laws.{explains}
use Rattle.factfilter.proofs.why.explain_file.Goals as goal

pub returns : goal.returns
returns c =
    explains _ _ _ _ _ _ _ c.explain-w.ensures refl c.requires c.copy.ensures
