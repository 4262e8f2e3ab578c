-- `printing::second_field` meets its contract.
use Prim.Native.Nat.{◌+◌}
use mathlib.Core.Path.{refl}
use Rattle.text.proofs.Laws.{mark_from, mark_to}
use Rattle.printing.proofs.Parts.{part_short, second_none, second_some}
use native.Mathlib.Omega.{arith}
use Rattle.printing.proofs.second_field.Goals as goal

pub returns-then-comma-end : goal.returns-then-comma-end
returns-then-comma-end c = (
  second_none _ _ _ _ c.find-comma.ensures (omega arith),
  part_short _ c.args.end c.args.end c.requires.1,
  (c.args.end, c.args.end, record { bytes = refl; block = refl; offset = omega arith }),
)

pub overflow_add-from : goal.overflow_add-from
overflow_add-from c =
    let end = mark_to _ _ _ _ _ c.find-comma.ensures (omega arith) (omega arith) in
    omega arith

pub find-upto-requires : goal.find-upto-requires
find-upto-requires c =
    let end = mark_to _ _ _ _ _ c.find-comma.ensures (omega arith) (omega arith) in
    (omega arith, omega arith)

pub slice_bounds-result-count-2 : goal.slice_bounds-result-count-2
slice_bounds-result-count-2 c = mark_from _ _ _ _ _ c.find-upto.ensures

pub slice_bounds-result-start-2 : goal.slice_bounds-result-start-2
slice_bounds-result-start-2 c = mark_from _ _ _ _ _ c.find-upto.ensures

pub slice_bounds-result-end-2 : goal.slice_bounds-result-end-2
slice_bounds-result-end-2 c =
    let first = mark_to _ _ _ _ _ c.find-comma.ensures (omega arith) (omega arith) in
    omega (arith, mark_to _ _ _ _ _ c.find-upto.ensures (omega arith) (omega arith))

pub returns : goal.returns
returns c =
    let first = mark_to _ _ _ _ _ c.find-comma.ensures c.requires.0 c.requires.1 in
    let last = mark_to _ _ _ _ _ c.find-upto.ensures (omega arith) c.requires.1 in (
      second_some _ _ _ _ _ c.requires.1 c.find-comma.ensures (omega arith) c.find-upto.ensures last,
      part_short _ (c.find-comma.result + 1) c.find-upto.result (omega arith),
      (c.find-comma.result + 1, c.find-upto.result, record { bytes = refl; block = refl; offset = omega arith }),
    )
