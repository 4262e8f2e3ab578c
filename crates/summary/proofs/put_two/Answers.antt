-- `summary::put_two` meets its contract: two entries, where there is room for both.
use native.Mathlib.Omega.{arith}
use mathlib.Core.Path.{refl}
use lib.ListN.{length-set}
use Rattle.summary.specs.Steps.{both, over}
use Rattle.summary.proofs.put_two.Goals as goal

pub returns-then-at-ge-ENTRIES_END : goal.returns-then-at-ge-ENTRIES_END
returns-then-at-ge-ENTRIES_END c = over (omega arith) refl

pub bounds-lists-at-2 : goal.bounds-lists-at-2
bounds-lists-at-2 c = simp length-set (omega arith)

pub returns : goal.returns
returns c = both (omega arith) refl
