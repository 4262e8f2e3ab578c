-- `records::put_row` meets its contract. The loop's invariant: what is left to write comes to the row.
use mathlib.Core.Path.{refl, sym, ◌∙◌}
use Rattle.records.proofs.Rows.{put_on, put_end}
use borrow.Author.Rules.{rules}
use native.Mathlib.Omega.{arith}
use Rattle.records.proofs.put_row.Goals as goal

pub loop-c-init : goal.loop-c-init
loop-c-init c = (refl, refl)

pub loop-c-preserved : goal.loop-c-preserved
loop-c-preserved c =
    (c.loop-c.invariant.0 ∙ put_on _ _ _ _ (omega arith), search rules)

pub returns : goal.returns
returns c = sym (c.loop-c.invariant.0 ∙ put_end _ _ _ _ (omega arith))
