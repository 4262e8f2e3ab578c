-- `text::ends_with` meets its contract.
use mathlib.Core.Path.{sym, ◌∙◌}
use Rattle.text.proofs.Laws.{ends_short, ends_part}
use Rattle.text.proofs.ends_with.Goals as goal

pub returns-then-e-a : goal.returns-then-e-a
returns-then-e-a c = sym (ends_short _ _ _ _ c.requires.1 c.if-e-a.true)

pub returns : goal.returns
returns c =
    let pre = c.requires in
    c.same_text.ensures ∙ sym (ends_part _ _ _ _ pre.1 pre.0 c.if-e-a.false)
