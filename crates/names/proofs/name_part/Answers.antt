-- `names::name_part` meets its contract.
use mathlib.Core.Path.{refl}
use Rattle.names.proofs.Laws.{name_row, part_row}
use native.Mathlib.Omega.{arith}
use Rattle.names.proofs.name_part.Goals as goal

pub overflow_add-result : goal.overflow_add-result
overflow_add-result c = omega (arith, c.requires.0.inside c.args.n (omega arith))

pub slice_bounds-result-end : goal.slice_bounds-result-end
slice_bounds-result-end c = omega (arith, c.requires.0.inside c.args.n (omega arith))

pub returns : goal.returns
returns c =
    let args = c.args in
    let start = c.at-start.ensures in
    let size = c.at-len.ensures in
    record { bytes = name_row _ _ _ _ _ start size; place = record { bytes = part_row _ args.w.now args.n _ _ start size; block = refl; offset = omega (arith, start) } }
