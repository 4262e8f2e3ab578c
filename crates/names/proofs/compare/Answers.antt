-- `names::compare` meets its contract.
use mathlib.Core.Path.{◌∙◌}
use native.Mathlib.Omega.{arith}
use Rattle.names.proofs.Laws.{shared_row, comparison_row}
use Rattle.names.proofs.compare.Goals as goal

pub compare_from-requires : goal.compare_from-requires
compare_from-requires c =
    let pre = c.requires in
    let share = shared_row _ _ _ _ _ _ _ c.at-start.ensures c.at-size.ensures pre.4 in
    (omega arith, omega arith, pre.2, pre.3, share)

pub returns : goal.returns
returns c = c.compare_from.ensures ∙ comparison_row _ _ _ _ _ _ c.at-start.ensures c.at-size.ensures
