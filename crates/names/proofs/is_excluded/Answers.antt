-- `names::is_excluded` meets its contract.
use mathlib.Core.Path.{ap}
use lib.Dec.{leb}
use Rattle.names.specs.Known.{excluded_mark}
use Rattle.names.specs.Table.{is_excluded}
use Rattle.names.proofs.is_excluded.Goals as goal

pub returns : goal.returns
unfolding is_excluded
returns c = ap (leb excluded_mark) c.at.ensures
