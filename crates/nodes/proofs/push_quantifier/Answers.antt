-- `nodes::push_quantifier` meets its contract.
use Rattle.model.proofs.ResultLaws.{refused_is}
use mathlib.Core.Path.{sym, ◌∙◌}
use Rattle.fields.specs.Pushing.{most_number}
use Rattle.text.proofs.Laws.{number_next}
use Rattle.words.proofs.Slices.{same_then}
use Rattle.fields.proofs.Pushing.{run_at, run_not, pushable_then, pushable_field, number_read, number_not}
use Rattle.nodes.proofs.Lines.{end_more, end_none}
use Rattle.nodes.proofs.Quantifiers.{no_body, no_number, no_groups, groups_there, quantifies_not, quantifies_at}
use native.Mathlib.Omega.{arith}
use Rattle.nodes.proofs.push_quantifier.Goals as goal

pub push_term-requires : goal.push_term-requires
push_term-requires c = (c.requires, omega arith)

pub number-requires : goal.number-requires
number-requires c = (c.push_term.ensures.ahead _ _ c.in_ok-one.was).placed

pub push_groups-requires : goal.push_groups-requires
push_groups-requires c =
    let on = c.push_term.ensures.ahead _ _ c.in_ok-one.was in
    let next = number_next _ _ on.placed _ _ _ (sym c.number.ensures ∙ c.in_ok-groups.was) in
    (pushable_field (pushable_then c.requires on c.push_term.ensures.kept) next.0, next.1)

pub returns-then-last : goal.returns-then-last
returns-then-last c =
    let at = c.in_ok-one.was in
    let number = number_read (c.push_term.ensures.ahead _ _ at).placed most_number c.number.ensures c.in_ok-groups.was in
    let whole = groups_there _ _ _ _ (run_at c.push_term.ensures at) number (run_at c.push_groups.ensures c.in_ok-used.was) in
    quantifies_not (whole ∙ end_more _ _ _ c.if-last.true) (same_then c.push_term.ensures.kept c.push_groups.ensures.kept)

pub returns : goal.returns
returns c =
    let at = c.in_ok-one.was in
    let number = number_read (c.push_term.ensures.ahead _ _ at).placed most_number c.number.ensures c.in_ok-groups.was in
    let whole = groups_there _ _ _ _ (run_at c.push_term.ensures at) number (run_at c.push_groups.ensures c.in_ok-used.was) in
    let most = (number_next _ _ (c.push_term.ensures.ahead _ _ at).placed _ _ _ (sym c.number.ensures ∙ c.in_ok-groups.was)).1 in
    quantifies_at (whole ∙ end_none _ _ _ c.if-last.false) most (same_then c.push_term.ensures.kept c.push_groups.ensures.kept)

pub returns-in_err-used : goal.returns-in_err-used
returns-in_err-used c =
    let at = c.in_ok-one.was in
    let number = number_read (c.push_term.ensures.ahead _ _ at).placed most_number c.number.ensures c.in_ok-groups.was in
    rw (refused_is c.from_residual-in_err-used.ensures.1)
    (quantifies_not (no_groups _ _ _ _ (run_at c.push_term.ensures at) number (run_not c.push_groups.ensures c.in_err-used.was))
    (same_then c.push_term.ensures.kept c.push_groups.ensures.kept))

pub returns-in_err-groups : goal.returns-in_err-groups
returns-in_err-groups c =
    let at = c.in_ok-one.was in
    rw (refused_is c.from_residual-in_err-groups.ensures.1)
    (quantifies_not (no_number _ _ _ _ (run_at c.push_term.ensures at) (number_not (c.push_term.ensures.ahead _ _ at).placed most_number c.number.ensures c.in_err-groups.was))
    c.push_term.ensures.kept)

pub returns-in_err-one : goal.returns-in_err-one
returns-in_err-one c =
    rw (refused_is c.from_residual.ensures.1) (quantifies_not (no_body _ _ _ _ (run_not c.push_term.ensures c.in_err-one.was)) c.push_term.ensures.kept)
