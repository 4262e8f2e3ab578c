-- `terms::end` meets its contract: the test tells the last row.
use Rattle.terms.proofs.Laws.{end_next, end_last}
use mathlib.Core.Path.{sym, ◌∙◌}
use Rattle.terms.proofs.end.Goals as goal

pub returns-then-t-many : goal.returns-then-t-many
returns-then-t-many c = c.at.ensures ∙ sym (end_next _ _ _ _ c.if-t-many.true)

pub returns : goal.returns
returns c = sym (end_last _ _ _ _ c.if-t-many.false)
