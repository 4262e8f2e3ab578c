-- `nodes::read_call` meets its contract.
use Rattle.model.proofs.ResultLaws.{refused_is}
use mathlib.Core.Path.{ap₂, ◌∙◌}
use Rattle.model.specs.Terms.{call}
use Rattle.words.proofs.Slices.{same_self}
use Rattle.fields.specs.Spelling.{table_there}
use Rattle.fields.proofs.Pushing.{run_at, run_not}
use Rattle.fields.proofs.Spelling.{reads_name, reads_not}
use Rattle.fields.proofs.Runs.{rest_ran, rest_refused}
use Rattle.nodes.proofs.Terms.{pushable_start, line_not, line_over, line_few, line_pushed, line_added}
use Rattle.nodes.proofs.Lines.{call_said, name_refused, call_read, line_terms}
use Rattle.nodes.proofs.read_call.Goals as goal

pub read_name-requires : goal.read_name-requires
read_name-requires c =
    (table_there c.requires.0.name_table, c.requires.1)

pub push_rest-requires : goal.push_rest-requires
push_rest-requires c =
    let read = reads_name c.read_name.ensures c.in_ok-n.was in
    pushable_start c.requires.0 read.onward.placed

pub returns-in_err-within_limits : goal.returns-in_err-within_limits
returns-in_err-within_limits c =
    let t = c.requires.0 in
    let read = reads_name c.read_name.ensures c.in_ok-n.was in
    let run = rest_ran _ t.term_table.few_rows _ _ _ (run_at c.push_rest.ensures c.in_ok-used.was) in
    let line = call_read c.args.k t _ read run in
    rw (refused_is c.from_residual-in_err-within_limits.ensures.1) (line_over t line c.within_limits.ensures c.in_err-within_limits.was)

pub add_call-requires : goal.add_call-requires
add_call-requires c =
    let t = c.requires.0 in
    let read = reads_name c.read_name.ensures c.in_ok-n.was in
    let run = rest_ran _ t.term_table.few_rows _ _ _ (run_at c.push_rest.ensures c.in_ok-used.was) in
    let line = call_read c.args.k t _ read run in
    let e = c.in_ok-within_limits.was in
    (line_pushed t line c.within_limits.ensures e, (read.spelled.number (line_few t line c.within_limits.ensures e).0).0)

pub grown-requires : goal.grown-requires
grown-requires c =
    c.requires.0.term_table.few_rows

pub returns : goal.returns
returns c =
    let t = c.requires.0 in
    let read = reads_name c.read_name.ensures c.in_ok-n.was in
    let run = rest_ran _ t.term_table.few_rows _ _ _ (run_at c.push_rest.ensures c.in_ok-used.was) in
    let line = call_read c.args.k t _ read run in
    let e = c.in_ok-within_limits.was in
    let name = (read.spelled.number (line_few t line c.within_limits.ensures e).0).1 in
    line_added t line c.within_limits.ensures e c.grown.ensures c.add_call.ensures (ap₂ call name (line_terms t c.within_limits.ensures e line run.small))

pub returns-in_err-used : goal.returns-in_err-used
returns-in_err-used c =
    let read = reads_name c.read_name.ensures
    c.in_ok-n.was in
    let refused = rest_refused _ _ _ _ (run_not c.push_rest.ensures c.in_err-used.was) in
    rw (refused_is c.from_residual-in_err-used.ensures.1)
    (line_not (call_said _ _ _ read.said ∙ rw refused) read.spelled.longer.kept c.push_rest.ensures.kept)

pub returns-in_err-n : goal.returns-in_err-n
returns-in_err-n c =
    let (said, kept) = reads_not c.read_name.ensures c.in_err-n.was in
    rw (refused_is c.from_residual.ensures.1) (line_not (name_refused _ _ _ said).1 kept (same_self _ _ _))
