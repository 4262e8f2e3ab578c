-- `text::starts_with` meets its contract.
use mathlib.Core.Path.{sym, ◌∙◌}
use native.Mathlib.Omega.{arith}
use Rattle.text.proofs.Laws.{starts_short, starts_part}
use Rattle.text.proofs.starts_with.Goals as goal

pub returns-then-e-a : goal.returns-then-e-a
returns-then-e-a c = sym (starts_short _ _ _ _ c.requires.1 c.if-e-a.true)

pub returns : goal.returns
returns c =
    let a = c.args in
    c.same_text.ensures ∙ sym (starts_part a.s.now a.a a.e a.prefix.now (omega arith))
