-- `fields::push_groups` meets its contract. The loop's invariant: what is left of the run is the run from the cursor and the group on.
use Rattle.model.proofs.ResultLaws.{refused_is}
use mathlib.Core.Path.{sym, ◌∙◌}
use Rattle.text.proofs.Laws.{number_next}
use Rattle.words.proofs.Slices.{same_then}
use Rattle.fields.specs.Pushing.{most_number}
use Rattle.fields.proofs.Pushing.{number_read, number_not, run_at, run_not, pushes_not, pushes_at, ahead_then, ahead_field, pushable_then, pushable_field, groups_on, groups_none}
use native.Mathlib.Omega.{arith}
use Rattle.fields.proofs.push_groups.Goals as goal

pub push_many-requires : goal.push_many-requires
push_many-requires c =
    let inv = c.loop-g.invariant in
    let next = (number_next _ _ inv.1.placed _ _ _ (sym c.number.ensures ∙ c.in_ok-n.was)).0 in
    let test = c.loop-g-test.true in
    (pushable_field (pushable_then c.requires.0 inv.1 inv.2) next, omega (arith, c.requires.1))

pub returns-in_err-used : goal.returns-in_err-used
returns-in_err-used c =
    let inv = c.loop-g.invariant in
    let test = c.loop-g-test.true in
    let number = number_read inv.1.placed most_number c.number.ensures
    c.in_ok-n.was in
    rw (refused_is c.from_residual-in_err-used.ensures.1) (pushes_not (same_then inv.2 c.push_many.ensures.kept) _ (inv.0 ∙ rw (groups_on _ _ _ _ _ _ test, number, run_not c.push_many.ensures c.in_err-used.was)))

pub returns-in_err-n : goal.returns-in_err-n
returns-in_err-n c =
    let inv = c.loop-g.invariant in
    let refused = number_not inv.1.placed most_number c.number.ensures c.in_err-n.was in
    rw (refused_is c.from_residual.ensures.1) (pushes_not inv.2 _ (inv.0 ∙ rw (groups_on _ _ _ _ _ _ c.loop-g-test.true, refused)))

pub loop-g-preserved : goal.loop-g-preserved
loop-g-preserved c =
    let inv = c.loop-g.invariant in
    let at = c.in_ok-used.was in
    let test = c.loop-g-test.true in
    let told = c.in_ok-n.was in
    let number = number_read inv.1.placed most_number c.number.ensures told in
    let next = (number_next _ _ inv.1.placed _ _ _ (sym c.number.ensures ∙ told)).0 in (
      inv.0 ∙ rw (groups_on _ _ _ _ _ _ test, number, run_at c.push_many.ensures at),
      ahead_then inv.1 (ahead_field next (c.push_many.ensures.ahead _ _ at)),
      same_then inv.2 c.push_many.ensures.kept,
    )

pub returns : goal.returns
returns c = pushes_at c.loop-g.invariant.2 _ _ (c.loop-g.invariant.0 ∙ groups_none _ _ _ _ _ _ c.loop-g-test.false) c.loop-g.invariant.1
