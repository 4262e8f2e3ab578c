-- `factfilter::order::check_file` meets its contract.
use mathlib.Core.Path.{refl}
use Rattle.factfilter.proofs.Laws.{orders}
use Rattle.factfilter.proofs.order.check_file.Goals as goal

pub returns : goal.returns
returns c =
    orders _ _ _ _ _ _ c.check_order-o.ensures refl c.requires c.copy.ensures
