-- `names::put_index` meets its contract.
use mathlib.Core.Path.{refl}
use Rattle.names.proofs.Entering.{shift_copied, shift_end}
use native.Mathlib.Omega.{arith}
use Rattle.names.proofs.put_index.Goals as goal

pub returns : goal.returns
returns c =
    let (copied, low, high) = c.copy_within.ensures.by_index in
    let a = c.args in
    shift_end _ _ _ a.rank _ refl (omega arith) (omega arith)
    (shift_copied a.w.now _ a.named a.rank (omega arith) (omega arith) c.copy_within.ensures.len copied low high)
