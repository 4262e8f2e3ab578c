-- `test_summaries::all_files` is safe and ends. The loop's invariant: the position is in the input.
use Rattle.text.proofs.Laws.{mark_from}
use native.Mathlib.Omega.{arith}
use Rattle.test_summaries.proofs.all_files.Goals as goal
use Rattle.test_summaries.proofs.all_files.Goals.{then-end-input, else-end-input}

pub slice_bounds-one_file-count : goal.slice_bounds-one_file-count
slice_bounds-one_file-count g c =
    let start = mark_from _ _ _ _ _ c.find-end.ensures in
    elim c.if-end-input.branch [ then-end-input w ↦ omega arith | else-end-input w ↦ omega arith ]

pub slice_bounds-one_file-start : goal.slice_bounds-one_file-start
slice_bounds-one_file-start g c =
    let start = mark_from _ _ _ _ _ c.find-end.ensures in
    elim c.if-end-input.branch [ then-end-input w ↦ omega arith | else-end-input w ↦ omega arith ]

pub loop-from-smaller : goal.loop-from-smaller
loop-from-smaller g c =
    let start = mark_from _ _ _ _ _ c.find-end.ensures in
    elim c.if-end-input.branch [ then-end-input w ↦ omega arith | else-end-input w ↦ omega arith ]
