-- `nodes::read_free` meets its contract.
use Rattle.model.proofs.ResultLaws.{refused_is}
use mathlib.Core.Path.{ap, ◌∙◌}
use Rattle.model.specs.Terms.{free_v}
use Rattle.words.proofs.Slices.{same_self}
use Rattle.fields.specs.Spelling.{table_there}
use Rattle.fields.proofs.Spelling.{reads_name, reads_not}
use Rattle.nodes.proofs.Terms.{line_not, line_over, line_few, line_pushed, line_added}
use Rattle.nodes.proofs.Lines.{end_more, free_said, name_refused, free_read}
use Rattle.nodes.proofs.read_free.Goals as goal

pub read_name-requires : goal.read_name-requires
read_name-requires c =
    (table_there c.requires.0.name_table, c.requires.1)

pub returns-then-next : goal.returns-then-next
returns-then-next c =
    let read = reads_name c.read_name.ensures c.in_ok-n.was in
    line_not (free_said _ _ _ read.said ∙ end_more _ _ _ c.if-next.true) read.spelled.longer.kept (same_self _ _ _)

pub returns-in_err-within_limits : goal.returns-in_err-within_limits
returns-in_err-within_limits c =
    let t = c.requires.0 in
    let read = reads_name c.read_name.ensures c.in_ok-n.was in
    let line = free_read c.args.k t _ read c.if-next.false in
    rw (refused_is c.from_residual-in_err-within_limits.ensures.1) (line_over t line c.within_limits.ensures c.in_err-within_limits.was)

pub add_free-requires : goal.add_free-requires
add_free-requires c =
    let t = c.requires.0 in
    let read = reads_name c.read_name.ensures c.in_ok-n.was in
    let line = free_read c.args.k t _ read c.if-next.false in
    let e = c.in_ok-within_limits.was in
    ((line_pushed t line c.within_limits.ensures e).table, (read.spelled.number (line_few t line c.within_limits.ensures e).0).0)

pub grown-requires : goal.grown-requires
grown-requires c =
    c.requires.0.term_table.few_rows

pub returns : goal.returns
returns c =
    let t = c.requires.0 in
    let read = reads_name c.read_name.ensures c.in_ok-n.was in
    let line = free_read c.args.k t _ read c.if-next.false in
    let e = c.in_ok-within_limits.was in
    line_added t line c.within_limits.ensures e c.grown.ensures c.add_free.ensures (ap free_v (read.spelled.number (line_few t line c.within_limits.ensures e).0).1)

pub returns-in_err-n : goal.returns-in_err-n
returns-in_err-n c =
    let (said, kept) = reads_not c.read_name.ensures c.in_err-n.was in
    rw (refused_is c.from_residual.ensures.1) (line_not (name_refused _ _ _ said).0 kept (same_self _ _ _))
