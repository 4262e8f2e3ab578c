-- `fields::may_stand` meets its contract.
use mathlib.Core.Path.{sym, ap, ◌∙◌}
use Rattle.fields.specs.Wording.{stands}
use Rattle.fields.proofs.Words.{stands_ask, stands_also, stands_also_not, stands_hide, stands_hide_not, stands_later}
use Rattle.fields.proofs.may_stand.Goals as goal

pub returns-in-Ask : goal.returns-in-Ask
returns-in-Ask c = λ s p. c.ask_stands.ensures s p ∙ stands_ask s _ ∙ ap (stands s) (sym c.in-Ask.is)

pub returns-then-in_asks : goal.returns-then-in_asks
returns-then-in_asks c = λ s p. stands_also p (c.in_asks.ensures s p) c.if-in_asks.true ∙ ap (stands s) (sym c.in-Also.is)

pub returns-else-in_asks : goal.returns-else-in_asks
returns-else-in_asks c = λ s p.
    c.if-in_asks.false ∙ stands_also_not p (c.in_asks.ensures s p) c.if-in_asks.false ∙ ap (stands s) (sym c.in-Also.is)

pub returns-then-in_head : goal.returns-then-in_head
returns-then-in_head c = λ s p. stands_hide p (c.in_head.ensures s p) c.if-in_head.true ∙ ap (stands s) (sym c.in-Hide.is)

pub returns-else-in_head : goal.returns-else-in_head
returns-else-in_head c = λ s p.
    c.if-in_head.false ∙ stands_hide_not p (c.in_head.ensures s p) c.if-in_head.false ∙ ap (stands s) (sym c.in-Hide.is)

pub returns-in-Term : goal.returns-in-Term
returns-in-Term c = λ s p. stands_later p c.in-Term.is
