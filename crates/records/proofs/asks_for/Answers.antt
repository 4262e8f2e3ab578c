-- `records::asks_for` meets its contract. The loop's invariant: the queries not looked at decide.
use native.Mathlib.Omega.{arith}
use mathlib.Core.Path.{refl, sym, ◌∙◌}
use Rattle.records.proofs.Chains.{asked_for, query_is, query_other, none_asked}
use Rattle.records.proofs.asks_for.Goals as goal

pub loop-i-init : goal.loop-i-init
loop-i-init c = refl

pub returns-then-at-q : goal.returns-then-at-q
returns-then-at-q c = sym (asked_for _ _ _ ∙ query_is _ _ _ _ _ _ (omega arith) (omega arith) c.at.ensures c.if-at-q.true)

pub loop-i-preserved : goal.loop-i-preserved
loop-i-preserved c = c.loop-i.invariant ∙ query_other _ _ _ _ _ (omega arith) c.at.ensures c.if-at-q.false

pub returns : goal.returns
returns c = sym (asked_for _ _ _ ∙ c.loop-i.invariant ∙ none_asked _ _ _ _ (omega arith))
