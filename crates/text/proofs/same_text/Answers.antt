-- `text::same_text` meets its contract.
use mathlib.Core.Path.{◌∙◌}
use Rattle.text.proofs.Laws.{same_pointwise}
use Rattle.text.proofs.same_text.Goals as goal

pub returns : goal.returns
returns c = c.eq.ensures ∙ same_pointwise _ _
