-- `nodes::read_term` meets its contract.
use Rattle.fields.specs.Wording.{term_kind}
use Rattle.nodes.specs.Growing.{quantifier_kind}
use Rattle.nodes.proofs.Terms.{reads_kind}
use Rattle.nodes.proofs.read_term.Goals as goal

pub returns-in-Free : goal.returns-in-Free
unfolding term_kind quantifier_kind
returns-in-Free c =
    reads_kind _ _ c.in-Free.is c.read_free.ensures

pub returns-in-Leaf : goal.returns-in-Leaf
unfolding term_kind quantifier_kind
returns-in-Leaf c = reads_kind _ _ c.in-Leaf.is c.read_leaf.ensures

pub returns-in-Call : goal.returns-in-Call
unfolding term_kind quantifier_kind
returns-in-Call c =
    reads_kind _ _ c.in-Call.is c.read_call.ensures

pub returns-in-Op : goal.returns-in-Op
unfolding term_kind quantifier_kind
returns-in-Op c =
    reads_kind _ _ c.in-Op.is c.read_op.ensures

pub returns-in-All : goal.returns-in-All
unfolding term_kind quantifier_kind
returns-in-All c =
    reads_kind _ _ c.in-All.is c.read_quantifier.ensures

pub returns-in-Some : goal.returns-in-Some
unfolding term_kind quantifier_kind
returns-in-Some c =
    reads_kind _ _ c.in-Some.is c.read_quantifier-in-Some.ensures

pub returns-in-Let : goal.returns-in-Let
unfolding term_kind quantifier_kind
returns-in-Let c =
    reads_kind _ _ c.in-Let.is c.read_let.ensures

pub returns-in-Label : goal.returns-in-Label
unfolding term_kind quantifier_kind
returns-in-Label c =
    reads_kind _ _ c.in-Label.is c.read_label.ensures
