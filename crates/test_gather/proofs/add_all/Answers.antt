-- `test_gather::add_all` meets its contract.
use native.Mathlib.Omega.{arith}
use mathlib.Core.Path.{refl}
use Rattle.test_gather.proofs.Laws.{table_to, table_added}
use Rattle.test_gather.proofs.add_all.Goals as goal

pub returns : goal.returns
returns c =
    table_added c.requires.1 (table_to (omega arith) refl c.push_times-2.ensures) c.add_all.ensures
