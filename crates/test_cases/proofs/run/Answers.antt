-- `test_cases::run` is safe and ends.
use Rattle.printing.proofs.Answers.{call_told, told_more, told_room}
use native.Mathlib.Omega.{arith}
use lib.ListN.{length-take}
use Rattle.test_cases.proofs.run.Goals as goal

pub print-requires : goal.print-requires
print-requires g c =
    let gives = c.filter-a.ensures.exact.gives in
    (c.args.case.short, (_, told_more _ _ _ _ (call_told _ _ _ _ _ _ gives.answered gives.result)))

pub sum_counts-kept-requires : goal.sum_counts-kept-requires
sum_counts-kept-requires g c =
    let gives = c.filter-a.ensures.exact.gives in
    let told = call_told _ _ _ _ _ _ gives.answered gives.result in
    omega (arith, told_room _ _ _ told, simp length-take at c.filter-a.auto.out, c.args.case.sizes.result)
