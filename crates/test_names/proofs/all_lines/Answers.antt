-- `test_names::all_lines` is safe and ends. The loop's invariant: the names so far are a table.
use Rattle.text.proofs.Laws.{mark_from, mark_to}
use native.Mathlib.Omega.{arith}
use Rattle.test_names.proofs.all_lines.Goals as goal

pub one_line-named-requires : goal.one_line-named-requires
one_line-named-requires g c =
    (c.loop-from.invariant.1, mark_from _ _ _ _ _ c.find-end.ensures, mark_to _ _ _ _ _ c.find-end.ensures (omega arith) (omega arith))

pub overflow_add-from : goal.overflow_add-from
overflow_add-from g c = omega (arith, mark_to _ _ _ _ _ c.find-end.ensures (omega arith) (omega arith), mark_from _ _ _ _ _ c.find-end.ensures)

pub loop-from-smaller : goal.loop-from-smaller
loop-from-smaller g c = omega (arith, mark_to _ _ _ _ _ c.find-end.ensures (omega arith) (omega arith), mark_from _ _ _ _ _ c.find-end.ensures)
