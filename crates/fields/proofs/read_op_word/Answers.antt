-- `fields::read_op_word` meets its contract.
use Rattle.model.proofs.ResultLaws.{refused_is}
use mathlib.Core.Path.{sym, ◌∙◌}
use native.Mathlib.Omega.{arith}
use Rattle.text.proofs.Laws.{field_next}
use Rattle.fields.proofs.Ops.{op_there, op_lacks, field_lacks, lacked}
use Rattle.fields.proofs.read_op_word.Goals as goal

pub returns-in_err-part : goal.returns-in_err-part
returns-in_err-part c =
    rw (refused_is c.from_residual.ensures.1) (field_lacks c.requires c.field.ensures c.in_err-part.was)

pub op_word-requires : goal.op_word-requires
op_word-requires c =
    let next = field_next _ _ c.requires _ (sym c.field.ensures ∙ c.in_ok-part.was) in
    (next.ordered, next.inside)

pub returns-in_err-op : goal.returns-in_err-op
returns-in_err-op c =
    let (none, form) = lacked _ c.ok_or.ensures.value c.in_err-op.was in
    rw (refused_is c.from_residual-in_err-op.ensures.1, form)
    (op_lacks c.requires c.field.ensures c.in_ok-part.was c.op_word.ensures none)

pub returns : goal.returns
returns c =
    let next = field_next _ _ c.requires _ (sym c.field.ensures ∙ c.in_ok-part.was) in
    op_there c.requires c.field.ensures c.in_ok-part.was c.op_word.ensures (grind arith) next.onward
