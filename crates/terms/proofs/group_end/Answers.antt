-- `terms::group_end` meets its contract. The loop's invariant: the group's words up to `i` and those that follow are its run.
use native.Mathlib.Omega.{arith}
use mathlib.Core.Path.{refl, sym, ◌∙◌}
use Rattle.terms.proofs.Groups.{run_none, run_other, run_more}
use Rattle.terms.proofs.group_end.Goals as goal

pub loop-i-init : goal.loop-i-init
loop-i-init c = refl

pub returns-then-group-g : goal.returns-then-group-g
returns-then-group-g c =
    let at = c.loop-i in
    let none = run_other c.args.refs.now c.args.g at.i c.args.e c.loop-i-test.true c.requires.1 (λ q. c.if-group-g.true (c.group.ensures ∙ q)) in
    omega (arith, at.invariant)

pub loop-i-preserved : goal.loop-i-preserved
loop-i-preserved c =
    let at = c.loop-i in
    at.invariant ∙ run_more c.args.refs.now c.args.g at.i c.args.e c.loop-i-test.true c.requires.1 (sym c.group.ensures ∙ c.if-group-g.false)

pub returns : goal.returns
returns c =
    omega (arith, c.loop-i.invariant, run_none c.args.refs.now c.args.g c.loop-i.i c.args.e c.loop-i-test.false)
