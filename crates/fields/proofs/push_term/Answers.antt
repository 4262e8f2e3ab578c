-- `fields::push_term` meets its contract.
use Rattle.model.proofs.ResultLaws.{refused_is}
use mathlib.Core.Path.{sym, ◌∙◌}
use Rattle.text.proofs.Laws.{term_next}
use Rattle.fields.proofs.Pushing.{one_pushed, one_not}
use native.Mathlib.Omega.{arith}
use Rattle.fields.proofs.push_term.Goals as goal

pub push-requires : goal.push-requires
push-requires c =
    let next = term_next _ _ c.requires.0.placed _ _ _ (sym c.term.ensures ∙ c.in_ok-t.was) in
    (c.requires.0.room, omega (arith, next.1, c.requires.0.few), omega (arith, c.requires.1))

pub overflow_add-result : goal.overflow_add-result
overflow_add-result c =
    let p = c.requires.0 in
    let next = (term_next _ _ p.placed _ _ _ (sym c.term.ensures ∙ c.in_ok-t.was)).0 in
    omega (arith, p.bounded, next.further, next.bounded, p.placed.inside, p.placed.short)

pub returns : goal.returns
returns c =
    one_pushed c.requires.0 _ c.term.ensures c.in_ok-t.was c.push.ensures.refs

pub returns-in_err-t : goal.returns-in_err-t
returns-in_err-t c =
    rw (refused_is c.from_residual.ensures.1) (one_not c.requires.0 _ c.term.ensures c.in_err-t.was)
