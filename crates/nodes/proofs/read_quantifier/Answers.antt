-- `nodes::read_quantifier` meets its contract.
use Rattle.model.proofs.ResultLaws.{refused_is}
use Rattle.words.proofs.Slices.{same_self}
use Rattle.nodes.proofs.Terms.{pushable_start, line_not, line_over, line_pushed, line_added}
use Rattle.nodes.proofs.Quantifiers.{quantifier_node, quantifier_read, quantifier_not, quantifier_line, quantifier_patterns, quantifier_row}
use native.Mathlib.Omega.{arith}
use Rattle.nodes.proofs.read_quantifier.Goals as goal

pub push_quantifier-requires : goal.push_quantifier-requires
push_quantifier-requires c =
    pushable_start c.requires.0 c.requires.1

pub returns-in_err-within_limits : goal.returns-in_err-within_limits
returns-in_err-within_limits c =
    let t = c.requires.0 in
    let read = quantifier_read c.push_quantifier.ensures t.term_table.few_rows c.in_ok-used.was in
    let line = quantifier_line c.args.k c.args.c t read c.args.all in
    rw (refused_is c.from_residual-in_err-within_limits.ensures.1) (line_over t line c.within_limits.ensures c.in_err-within_limits.was)

pub add_all-requires : goal.add_all-requires
add_all-requires c =
    let t = c.requires.0 in
    let read = quantifier_read c.push_quantifier.ensures t.term_table.few_rows c.in_ok-used.was in
    let line = quantifier_line c.args.k c.args.c t read c.args.all in
    let e = c.in_ok-within_limits.was in
    let most = c.push_quantifier.ensures.groups _ _ c.in_ok-used.was in
    (line_pushed t line c.within_limits.ensures e, quantifier_patterns c.args.k c.args.c t read c.args.all c.within_limits.ensures e, omega arith)

pub add_some-requires : goal.add_some-requires
add_some-requires c =
    let t = c.requires.0 in
    let read = quantifier_read c.push_quantifier.ensures t.term_table.few_rows c.in_ok-used.was in
    let line = quantifier_line c.args.k c.args.c t read c.args.all in
    let e = c.in_ok-within_limits.was in
    let most = c.push_quantifier.ensures.groups _ _ c.in_ok-used.was in
    (line_pushed t line c.within_limits.ensures e, quantifier_patterns c.args.k c.args.c t read c.args.all c.within_limits.ensures e, omega arith)

pub returns-then-all : goal.returns-then-all
unfolding quantifier_node
returns-then-all c =
    let t = c.requires.0 in
    let read = quantifier_read c.push_quantifier.ensures t.term_table.few_rows c.in_ok-used.was in
    let line = quantifier_line c.args.k c.args.c t read c.args.all in
    let e = c.in_ok-within_limits.was in
    let row = quantifier_row c.args.k c.args.c t read c.args.all c.within_limits.ensures e c.if-all.true in
    line_added t line c.within_limits.ensures e c.grown.ensures c.add_all.ensures row

pub returns : goal.returns
unfolding quantifier_node
returns c =
    let t = c.requires.0 in
    let read = quantifier_read c.push_quantifier.ensures t.term_table.few_rows c.in_ok-used.was in
    let line = quantifier_line c.args.k c.args.c t read c.args.all in
    let e = c.in_ok-within_limits.was in
    let row = quantifier_row c.args.k c.args.c t read c.args.all c.within_limits.ensures e c.if-all.false in
    line_added t line c.within_limits.ensures e c.grown-2.ensures c.add_some.ensures row

pub returns-in_err-used : goal.returns-in_err-used
returns-in_err-used c =
    let few = c.requires.0.term_table.few_rows in
    rw (refused_is c.from_residual.ensures.1)
    (line_not (quantifier_not c.push_quantifier.ensures few c.args.all _ c.in_err-used.was) (same_self _ _ _) c.push_quantifier.ensures.kept)
