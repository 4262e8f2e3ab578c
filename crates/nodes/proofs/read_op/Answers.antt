-- `nodes::read_op` meets its contract.
use Rattle.model.proofs.ResultLaws.{refused_is}
use mathlib.Core.Path.{ap₂, ◌∙◌}
use Rattle.model.specs.Terms.{app}
use Rattle.words.proofs.Slices.{same_self}
use Rattle.fields.proofs.Ops.{reads_op, reads_op_not}
use Rattle.fields.proofs.Pushing.{run_at, run_not}
use Rattle.fields.proofs.Runs.{rest_ran, rest_refused}
use Rattle.nodes.proofs.Terms.{pushable_start, line_not, line_over, line_pushed, line_added}
use Rattle.nodes.proofs.Lines.{op_code, op_said, word_refused, op_line, line_terms}
use Rattle.nodes.proofs.read_op.Goals as goal

pub read_op_word-requires : goal.read_op_word-requires
read_op_word-requires c = c.requires.1

pub push_rest-requires : goal.push_rest-requires
push_rest-requires c =
    let read = reads_op c.read_op_word.ensures c.in_ok-op.was in
    pushable_start c.requires.0 read.onward.placed

pub returns-in_err-within_limits : goal.returns-in_err-within_limits
returns-in_err-within_limits c =
    let t = c.requires.0 in
    let read = reads_op c.read_op_word.ensures c.in_ok-op.was in
    let run = rest_ran _ t.term_table.few_rows _ _ _ (run_at c.push_rest.ensures c.in_ok-used.was) in
    let line = op_line c.args.k t _ read.said run in
    rw (refused_is c.from_residual-in_err-within_limits.ensures.1) (line_over t line c.within_limits.ensures c.in_err-within_limits.was)

pub add_op-requires : goal.add_op-requires
add_op-requires c =
    let t = c.requires.0 in
    let read = reads_op c.read_op_word.ensures c.in_ok-op.was in
    let run = rest_ran _ t.term_table.few_rows _ _ _ (run_at c.push_rest.ensures c.in_ok-used.was) in
    let line = op_line c.args.k t _ read.said run in
    let pushed = line_pushed t line c.within_limits.ensures c.in_ok-within_limits.was in
    (pushed, (op_code _ c.op_number-word.ensures).0)

pub grown-requires : goal.grown-requires
grown-requires c =
    c.requires.0.term_table.few_rows

pub returns : goal.returns
returns c =
    let t = c.requires.0 in
    let read = reads_op c.read_op_word.ensures c.in_ok-op.was in
    let run = rest_ran _ t.term_table.few_rows _ _ _ (run_at c.push_rest.ensures c.in_ok-used.was) in
    let line = op_line c.args.k t _ read.said run in
    let e = c.in_ok-within_limits.was in
    let word = (op_code _ c.op_number-word.ensures).1 in
    line_added t line c.within_limits.ensures e c.grown.ensures c.add_op.ensures (ap₂ app word (line_terms t c.within_limits.ensures e line run.small))

pub returns-in_err-used : goal.returns-in_err-used
returns-in_err-used c =
    let read = reads_op c.read_op_word.ensures c.in_ok-op.was in
    let refused = rest_refused _ _ _ _ (run_not c.push_rest.ensures c.in_err-used.was) in
    rw (refused_is c.from_residual-in_err-used.ensures.1)
    (line_not (op_said _ _ _ read.said ∙ rw refused) (same_self _ _ _) c.push_rest.ensures.kept)

pub returns-in_err-op : goal.returns-in_err-op
returns-in_err-op c =
    rw (refused_is c.from_residual.ensures.1)
    (line_not (word_refused _ _ _ (reads_op_not c.read_op_word.ensures c.in_err-op.was)) (same_self _ _ _) (same_self _ _ _))
