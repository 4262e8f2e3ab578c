-- `terms::has_head` meets its contract: by the kind.
use Rattle.terms.proofs.Laws.{head_call}
use Rattle.terms.specs.Rows.{has_head}
use mathlib.Core.Path.{◌∙◌, ap, sym}
use Rattle.terms.proofs.has_head.Goals as goal

pub returns-then-k-eq-FREE : goal.returns-then-k-eq-FREE
unfolding has_head
returns-then-k-eq-FREE c = rw (← c.kind-k.ensures, c.if-k-eq-FREE.true)

pub returns-else-k-eq-FREE : goal.returns-else-k-eq-FREE
returns-else-k-eq-FREE c = sym (ap has_head (sym c.kind-k.ensures) ∙ head_call _ c.if-k-eq-FREE.false)
