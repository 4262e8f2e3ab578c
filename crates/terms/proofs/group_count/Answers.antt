-- `terms::group_count` meets its contract: the test tells an `all`.
use Rattle.terms.proofs.Laws.{groups_all, groups_other}
use mathlib.Core.Path.{sym, ◌∙◌}
use Rattle.terms.proofs.group_count.Goals as goal

pub returns-then-kind-ne-ALL : goal.returns-then-kind-ne-ALL
returns-then-kind-ne-ALL c = sym (groups_other _ _ _ c.bare-u.ensures (λ e. c.if-kind-ne-ALL.true (c.kind.ensures ∙ e)))

pub returns : goal.returns
returns c = c.extra.ensures ∙ sym (groups_all _ _ _ c.bare-u.ensures (sym c.kind.ensures ∙ c.if-kind-ne-ALL.false))
