-- `terms::bare` meets its contract: the test tells a label.
use Rattle.terms.specs.Rows.{row_kind}
use Rattle.terms.proofs.Laws.{bare_label, bare_own}
use Prim.Native.Nat.{◌%◌}
use mathlib.Core.Path.{sym, ap, ◌∙◌}
use Rattle.terms.proofs.bare.Goals as goal

pub returns-then-at-eq-LABEL : goal.returns-then-at-eq-LABEL
unfolding row_kind
returns-then-at-eq-LABEL c = c.at-then-at-eq-LABEL.ensures ∙ sym (bare_label _ _ (ap (◌% 8) (sym c.at.ensures) ∙ c.if-at-eq-LABEL.true))

pub returns : goal.returns
unfolding row_kind
returns c = sym (bare_own _ _ (λ e. c.if-at-eq-LABEL.false (ap (◌% 8) c.at.ensures ∙ e)))
