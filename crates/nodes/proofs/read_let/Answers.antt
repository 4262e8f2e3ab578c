-- `nodes::read_let` meets its contract.
use Rattle.model.proofs.ResultLaws.{refused_is}
use mathlib.Core.Path.{refl, ap₂, ◌∙◌}
use Rattle.model.specs.Terms.{let_in}
use Rattle.words.proofs.Slices.{same_self, same_then}
use Rattle.fields.proofs.Pushing.{run_at, run_not, pushable_then}
use Rattle.fields.proofs.Runs.{term_ran, rest_ran, term_refused, rest_refused}
use Rattle.nodes.proofs.Terms.{pushable_start, line_not, line_over, line_pushed, line_added}
use Rattle.nodes.proofs.Lines.{let_said, body_refused, let_read, line_bodied, line_body, line_rest}
use native.Mathlib.Omega.{arith}
use Rattle.nodes.proofs.read_let.Goals as goal

pub push_term-requires : goal.push_term-requires
push_term-requires c =
    (pushable_start c.requires.0 c.requires.1, omega arith)

pub push_rest-requires : goal.push_rest-requires
push_rest-requires c =
    pushable_then (pushable_start c.requires.0 c.requires.1) (c.push_term.ensures.ahead _ _ c.in_ok-one.was) c.push_term.ensures.kept

pub returns-in_err-within_limits : goal.returns-in_err-within_limits
returns-in_err-within_limits c =
    let t = c.requires.0 in
    let body = term_ran _ t.term_table.few_rows _ _ _ (run_at c.push_term.ensures c.in_ok-one.was) in
    let run = rest_ran _ t.term_table.few_rows _ _ _ (run_at c.push_rest.ensures c.in_ok-used.was) in
    let line = let_read c.args.k t _ body run in
    rw (refused_is c.from_residual-in_err-within_limits.ensures.1) (line_over t line c.within_limits.ensures c.in_err-within_limits.was)

pub add_let-requires : goal.add_let-requires
add_let-requires c =
    let t = c.requires.0 in
    let body = term_ran _ t.term_table.few_rows _ _ _ (run_at c.push_term.ensures c.in_ok-one.was) in
    let run = rest_ran _ t.term_table.few_rows _ _ _ (run_at c.push_rest.ensures c.in_ok-used.was) in
    let line = let_read c.args.k t _ body run in
    let e = c.in_ok-within_limits.was in
    (line_pushed t line c.within_limits.ensures e, line_bodied t c.within_limits.ensures e _ line)

pub grown-requires : goal.grown-requires
grown-requires c =
    c.requires.0.term_table.few_rows

pub returns : goal.returns
returns c =
    let t = c.requires.0 in
    let body = term_ran _ t.term_table.few_rows _ _ _ (run_at c.push_term.ensures c.in_ok-one.was) in
    let run = rest_ran _ t.term_table.few_rows _ _ _ (run_at c.push_rest.ensures c.in_ok-used.was) in
    let line = let_read c.args.k t _ body run in
    let e = c.in_ok-within_limits.was in
    line_added t line c.within_limits.ensures e c.grown.ensures c.add_let.ensures
    (ap₂ let_in (line_body t c.within_limits.ensures e _ line body.small) (line_rest t c.within_limits.ensures e _ line refl run.small))

pub returns-in_err-used : goal.returns-in_err-used
returns-in_err-used c =
    let t = c.requires.0 in
    let body = term_ran _ t.term_table.few_rows _ _ _ (run_at c.push_term.ensures c.in_ok-one.was) in
    let refused = rest_refused _ _ _ _ (run_not c.push_rest.ensures c.in_err-used.was) in
    rw (refused_is c.from_residual-in_err-used.ensures.1)
    (line_not (let_said _ _ _ body.said ∙ rw refused) (same_self _ _ _) (same_then c.push_term.ensures.kept c.push_rest.ensures.kept))

pub returns-in_err-one : goal.returns-in_err-one
returns-in_err-one c =
    rw (refused_is c.from_residual.ensures.1)
    (line_not (body_refused _ _ _ (term_refused _ _ _ _ (run_not c.push_term.ensures c.in_err-one.was))).0 (same_self _ _ _) c.push_term.ensures.kept)
