-- `nodes::read_label` meets its contract.
use Rattle.model.proofs.ResultLaws.{refused_is}
use mathlib.Core.Path.{ap, ◌∙◌}
use Rattle.model.specs.Terms.{labeled}
use Rattle.words.proofs.Slices.{same_self}
use Rattle.fields.proofs.Pushing.{run_at, run_not}
use Rattle.fields.proofs.Runs.{term_ran, term_refused}
use Rattle.nodes.proofs.Terms.{pushable_start, line_not, line_over, line_pushed, line_added}
use Rattle.nodes.proofs.Lines.{end_more, label_said, body_refused, label_read, line_body}
use native.Mathlib.Omega.{arith}
use Rattle.nodes.proofs.read_label.Goals as goal

pub push_term-requires : goal.push_term-requires
push_term-requires c =
    (pushable_start c.requires.0 c.requires.1, omega arith)

pub returns-then-next : goal.returns-then-next
returns-then-next c =
    let t = c.requires.0 in
    let body = term_ran _ t.term_table.few_rows _ _ _ (run_at c.push_term.ensures c.in_ok-next.was) in
    line_not (label_said _ _ _ body.said ∙ end_more _ _ _ c.if-next.true) (same_self _ _ _) c.push_term.ensures.kept

pub overflow_add-used : goal.overflow_add-used
overflow_add-used c =
    omega (arith, c.requires.0.term_table.few_references)

pub returns-in_err-within_limits : goal.returns-in_err-within_limits
returns-in_err-within_limits c =
    let t = c.requires.0 in
    let body = term_ran _ t.term_table.few_rows _ _ _ (run_at c.push_term.ensures c.in_ok-next.was) in
    let line = label_read c.args.k t _ body c.if-next.false in
    rw (refused_is c.from_residual-in_err-within_limits.ensures.1) (line_over t line c.within_limits.ensures c.in_err-within_limits.was)

pub add_label-requires : goal.add_label-requires
add_label-requires c =
    let t = c.requires.0 in
    let body = term_ran _ t.term_table.few_rows _ _ _ (run_at c.push_term.ensures c.in_ok-next.was) in
    let line = label_read c.args.k t _ body c.if-next.false in
    line_pushed t line c.within_limits.ensures c.in_ok-within_limits.was

pub grown-requires : goal.grown-requires
grown-requires c =
    c.requires.0.term_table.few_rows

pub returns : goal.returns
returns c =
    let t = c.requires.0 in
    let body = term_ran _ t.term_table.few_rows _ _ _ (run_at c.push_term.ensures c.in_ok-next.was) in
    let line = label_read c.args.k t _ body c.if-next.false in
    let e = c.in_ok-within_limits.was in
    line_added t line c.within_limits.ensures e c.grown.ensures c.add_label.ensures (ap labeled (line_body t c.within_limits.ensures e _ line body.small))

pub returns-in_err-next : goal.returns-in_err-next
returns-in_err-next c =
    rw (refused_is c.from_residual.ensures.1)
    (line_not (body_refused _ _ _ (term_refused _ _ _ _ (run_not c.push_term.ensures c.in_err-next.was))).1 (same_self _ _ _) c.push_term.ensures.kept)
