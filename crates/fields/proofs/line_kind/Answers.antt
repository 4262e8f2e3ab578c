-- `fields::line_kind` meets its contract.
use mathlib.Core.Path.{sym, ◌∙◌}
use Rattle.model.proofs.ResultLaws.{refused_is}
use Rattle.fields.proofs.Words.{kind_there, kind_over, kind_not, kind_unknown}
use Rattle.fields.proofs.line_kind.Goals as goal

pub returns-in_err-kind : goal.returns-in_err-kind
returns-in_err-kind c = λ s p.
    rw (refused_is c.from_residual.ensures.1) (kind_unknown _ c.word_key.ensures _ c.kind_of.ensures s c.in_err-kind.was)

pub returns-then-not-may_stand : goal.returns-then-not-may_stand
returns-then-not-may_stand c = λ s p.
    kind_not _ c.word_key.ensures _ c.kind_of.ensures s c.in_ok-kind.was
    (sym c.if-not-may_stand.true ∙ c.may_stand.ensures s p)

pub returns-then-too_many : goal.returns-then-too_many
returns-then-too_many c = λ s p.
    kind_over _ c.word_key.ensures _ c.kind_of.ensures s c.in_ok-kind.was
    (sym c.if-not-may_stand.false ∙ c.may_stand.ensures s p) (sym c.if-too_many.true ∙ c.too_many.ensures s p)

pub returns : goal.returns
returns c = λ s p.
    kind_there _ c.word_key.ensures _ c.kind_of.ensures s c.in_ok-kind.was
    (sym c.if-not-may_stand.false ∙ c.may_stand.ensures s p) (sym c.if-too_many.false ∙ c.too_many.ensures s p)
