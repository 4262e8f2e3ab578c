-- `nodes::read_leaf` meets its contract.
use mathlib.Core.Path.{refl, ◌∙◌}
use Rattle.words.proofs.Slices.{same_self}
use Rattle.nodes.proofs.Terms.{under_start, line_not, line_added}
use Rattle.nodes.proofs.Lines.{end_more, leaf_said, leaf_read}
use Rattle.nodes.proofs.read_leaf.Goals as goal

pub returns-then-c : goal.returns-then-c
returns-then-c c = line_not (leaf_said _ _ _ ∙ end_more _ _ _ c.if-c.true) (same_self _ _ _) (same_self _ _ _)

pub add_leaf-requires : goal.add_leaf-requires
add_leaf-requires c =
    c.requires.0.term_table

pub grown-requires : goal.grown-requires
grown-requires c =
    c.requires.0.term_table.few_rows

pub returns : goal.returns
returns c =
    let t = c.requires.0 in
    line_added t (leaf_read _ t _ c.if-c.false) (under_start t) refl c.grown.ensures c.add_leaf.ensures refl
