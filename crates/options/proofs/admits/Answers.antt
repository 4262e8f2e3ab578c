-- `options::admits` meets its contract. The loop's invariant: what is left is the groups after so many halvings.
use mathlib.Core.Path.{◌∙◌}
use native.Mathlib.Omega.{arith}
use Rattle.options.proofs.OptionsOf.{halved_none, halved, admits_is}
use Rattle.options.proofs.admits.Goals as goal

pub loop-init : goal.loop-init
loop-init c = halved_none _ _

pub loop-preserved : goal.loop-preserved
loop-preserved c = halved _ _ _ (omega arith) ∙ c.loop.invariant

pub returns : goal.returns
returns c = admits_is _ _ _ _ c.loop.invariant (omega arith)
