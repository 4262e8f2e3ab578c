-- `printing::print_passes` prints the lists of the sweep. The loop's invariant: those of the positions passed are written, and so
-- many words are passed.
use Rattle.printing.proofs.Sums.{sum_next, sum_within, sum_none}
use mathlib.Core.Path.{ap}
use lib.ListN.{take, drop, get_or-eq_default}
use Rattle.printing.proofs.Passes.{printed_start, printed_next, printed_end}
use native.Mathlib.Omega.{arith}
use Rattle.printing.proofs.print_passes.Goals as goal

pub loop-p-init : goal.loop-p-init
loop-p-init g c = (sum_none c.args.a.kept, λ ps told. printed_start _ _ _ ps _ told)

pub overflow_add-upto : goal.overflow_add-upto
overflow_add-upto g c = omega (arith, c.requires.3, sum_within c.args.a.kept c.loop-p.p _ c.loop-p.invariant.0)

pub offset_bounds-out-from : goal.offset_bounds-out-from
offset_bounds-out-from g c = omega (arith, c.requires.3, sum_within c.args.a.kept c.loop-p.p _ c.loop-p.invariant.0)

pub slice_bounds-print_kept-end : goal.slice_bounds-print_kept-end
slice_bounds-print_kept-end g c = omega (arith, c.requires.3, sum_within c.args.a.kept c.loop-p.p _ c.loop-p.invariant.0)

pub loop-p-preserved : goal.loop-p-preserved
loop-p-preserved g c = (
  sum_next c.args.a.kept c.loop-p.p _ c.loop-p.invariant.0,
  λ ps told. printed_next _ _ _ _ ps _ _ _ _ _ _ _ (c.loop-p.invariant.1 ps told) (λ z. omega (arith, c.if-passes-p-eq0.false))
      (ap (λ n. take n (drop c.loop-p.from c.args.out.now)) (omega arith)) c.in_ok-print_kept.ensures.appends c.in_ok-print_pass.ensures,
)

pub returns-then-passes-p-eq0 : goal.returns-then-passes-p-eq0
returns-then-passes-p-eq0 g c = λ ps told.
    printed_end _ _ _ _ ps _ _ _ _ (c.loop-p.invariant.1 ps told) (omega (arith, c.if-passes-p-eq0.true))

pub returns : goal.returns
returns g c = λ ps told.
    let past = get_or-eq_default c.args.a.passes 0 {n = c.loop-p.p} (omega arith) in
    printed_end _ _ _ _ ps _ _ _ _ (c.loop-p.invariant.1 ps told) past
