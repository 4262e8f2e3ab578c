-- `test_summaries::next_ask` meets its contract. The loop's invariant: the position is past the start.
use Rattle.text.proofs.Laws.{mark_from, mark_to}
use native.Mathlib.Omega.{arith}
use Rattle.test_summaries.proofs.next_ask.Goals as goal

pub find-end-requires : goal.find-end-requires
find-end-requires c = (omega arith, omega arith)

pub find-stop-requires : goal.find-stop-requires
find-stop-requires c = (mark_from _ _ _ _ _ c.find-end.ensures, mark_to _ _ _ _ _ c.find-end.ensures (omega arith) (omega arith))

pub same_text-requires : goal.same_text-requires
same_text-requires c =
    let end = mark_to _ _ _ _ _ c.find-end.ensures (omega arith) (omega arith) in
    let begin = mark_from _ _ _ _ _ c.find-end.ensures in
    (mark_from _ _ _ _ _ c.find-stop.ensures, omega (arith, mark_to _ _ _ _ _ c.find-stop.ensures begin end))

pub overflow_add-from : goal.overflow_add-from
overflow_add-from c =
    let end = mark_to _ _ _ _ _ c.find-end.ensures (omega arith) (omega arith) in
    omega arith

pub loop-from-smaller : goal.loop-from-smaller
loop-from-smaller c =
    let end = mark_to _ _ _ _ _ c.find-end.ensures (omega arith) (omega arith) in
    let begin = mark_from _ _ _ _ _ c.find-end.ensures in
    omega arith

pub loop-from-preserved : goal.loop-from-preserved
loop-from-preserved c =
    let end = mark_to _ _ _ _ _ c.find-end.ensures (omega arith) (omega arith) in
    let begin = mark_from _ _ _ _ _ c.find-end.ensures in
    omega arith
