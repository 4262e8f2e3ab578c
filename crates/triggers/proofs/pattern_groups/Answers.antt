-- `triggers::pattern_groups` meets its contract.
use native.Mathlib.Omega.{arith}
use mathlib.Core.Path.{ap, ◌∙◌}
use Rattle.terms.specs.Rows.{row_start}
use Rattle.triggers.proofs.Grouping.{patterns_read}
use Rattle.triggers.proofs.pattern_groups.Goals as goal

pub group_count-count-requires : goal.group_count-count-requires
group_count-count-requires c = (c.requires.0, omega arith, omega arith)

pub bare-u-requires : goal.bare-u-requires
bare-u-requires c = (c.requires.0, omega arith)

pub start-start-requires : goal.start-start-requires
start-start-requires c = (c.requires.0, omega arith)

pub overflow_add-start : goal.overflow_add-start
overflow_add-start c =
    omega (arith, c.requires.4, c.start-start.ensures ∙ ap (row_start c.args.rows.now) c.bare-u.ensures)

pub end-end-requires : goal.end-end-requires
end-end-requires c =
    (c.requires.0, omega arith, c.requires.1)

pub returns : goal.returns
returns c =
    patterns_read c.args.rows.now c.args.used c.args.many c.args.t c.group_count-count.ensures
    c.bare-u.ensures c.start-start.ensures c.end-end.ensures
