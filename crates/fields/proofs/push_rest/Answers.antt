-- `fields::push_rest` meets its contract. The loop's invariant: what is left of the run is the run from the cursor on.
use Rattle.model.proofs.ResultLaws.{refused_is}
use mathlib.Core.Path.{◌∙◌}
use Rattle.words.proofs.Slices.{same_then}
use Rattle.fields.proofs.Pushing.{run_at, run_not, pushes_not, pushes_at, ahead_then, one_end, rest_next, rest_none}
use native.Mathlib.Omega.{arith}
use Rattle.fields.proofs.push_rest.Goals as goal

pub loop-c-smaller : goal.loop-c-smaller
loop-c-smaller c =
    let on = c.push_term.ensures.ahead _ _ c.in_ok-used.was in
    let one = one_end _ _ _ _ _ (run_at c.push_term.ensures c.in_ok-used.was) in
    omega (arith, on.further, on.stays, c.loop-c-test.true)

pub loop-c-preserved : goal.loop-c-preserved
loop-c-preserved c =
    let inv = c.loop-c.invariant in
    let at = c.in_ok-used.was in
    let test = c.loop-c-test.true in
    (inv.0 ∙ rw (rest_next _ _ _ _ _ test, run_at c.push_term.ensures at), ahead_then inv.1 (c.push_term.ensures.ahead _ _ at), same_then inv.2 c.push_term.ensures.kept)

pub returns-in_err-used : goal.returns-in_err-used
returns-in_err-used c =
    let inv = c.loop-c.invariant in
    let test = c.loop-c-test.true in
    rw (refused_is c.from_residual.ensures.1) (pushes_not (same_then inv.2 c.push_term.ensures.kept) _ (inv.0 ∙ rw (rest_next _ _ _ _ _ test, run_not c.push_term.ensures c.in_err-used.was)))

pub returns : goal.returns
returns c =
    pushes_at c.loop-c.invariant.2 _ _ (c.loop-c.invariant.0 ∙ rest_none _ _ _ _ _ c.loop-c-test.false) c.loop-c.invariant.1
