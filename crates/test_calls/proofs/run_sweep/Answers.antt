-- `test_calls::run_sweep` is safe and ends.
use lib.ListN.{length-append, length-take}
use Rattle.printing.proofs.Answers.{swept_room}
use native.Mathlib.Omega.{arith}
use Rattle.test_calls.proofs.run_sweep.Goals as goal

pub print_sweep-requires : goal.print_sweep-requires
print_sweep-requires g c =
    let exact = c.sweep-a.ensures.exact in
    let room = swept_room _ _ _ _ _ _ exact.answered exact.result in
    (c.args.case.short, simp length-append (omega arith))

pub sum_counts-kept-requires : goal.sum_counts-kept-requires
sum_counts-kept-requires g c =
    let exact = c.sweep-a.ensures.exact in
    omega (arith, swept_room _ _ _ _ _ _ exact.answered exact.result, simp length-take at c.sweep-a.auto.out, c.args.case.sizes.result)
