-- `fields::push_many` meets its contract. The loop's invariant: what is left of the run is the run from the cursor on.
use Rattle.model.proofs.ResultLaws.{refused_is}
use mathlib.Core.Path.{◌∙◌}
use Rattle.words.proofs.Slices.{same_then}
use Rattle.fields.proofs.Pushing.{run_at, run_not, pushes_not, pushes_at, ahead_then, many_turn, many_over}
use Rattle.fields.proofs.push_many.Goals as goal

pub returns-in_err-used : goal.returns-in_err-used
returns-in_err-used c =
    let inv = c.loop.invariant in
    let test = c.loop-test.true in
    rw (refused_is c.from_residual.ensures.1) (pushes_not (same_then inv.2 c.push_term.ensures.kept) _ (inv.0 ∙ rw (many_turn _ _ _ _ _ _ _ test, run_not c.push_term.ensures c.in_err-used.was)))

pub loop-preserved : goal.loop-preserved
loop-preserved c =
    let inv = c.loop.invariant in
    let at = c.in_ok-used.was in
    let test = c.loop-test.true in
    (inv.0 ∙ rw (many_turn _ _ _ _ _ _ _ test, run_at c.push_term.ensures at), ahead_then inv.1 (c.push_term.ensures.ahead _ _ at), same_then inv.2 c.push_term.ensures.kept)

pub returns : goal.returns
returns c = pushes_at c.loop.invariant.2 _ _ (c.loop.invariant.0 ∙ many_over _ _ _ _ _ _ _ c.loop-test.false) c.loop.invariant.1
