-- `precedence::sort_at` meets its contract.
use Rattle.precedence.proofs.Sorts.{sort_none, sort_fact, sort_before, sort_late}
use Rattle.precedence.proofs.sort_at.Goals as goal

pub returns-then-taken-eq0 : goal.returns-then-taken-eq0
returns-then-taken-eq0 c = sort_none _ _ _ _ _ c.at-taken.ensures c.if-taken-eq0.true

pub returns-then-at-eq-ASSUME : goal.returns-then-at-eq-ASSUME
returns-then-at-eq-ASSUME c =
    sort_fact _ _ _ _ _ c.at-taken.ensures c.if-taken-eq0.false _ c.at.ensures c.if-at-eq-ASSUME.true

pub returns-then-at-line : goal.returns-then-at-line
returns-then-at-line c =
    sort_before _ _ _ _ _ c.at-taken.ensures c.if-taken-eq0.false _ c.at.ensures c.if-at-eq-ASSUME.false _ _ c.at-line.ensures c.at-2.ensures c.if-at-line.true

pub returns : goal.returns
returns c =
    sort_late _ _ _ _ _ c.at-taken.ensures c.if-taken-eq0.false _ c.at.ensures c.if-at-eq-ASSUME.false _ _ c.at-line.ensures c.at-2.ensures c.if-at-line.false
