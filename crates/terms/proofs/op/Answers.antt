-- `terms::op` meets its contract.
use Rattle.terms.specs.Rows.{row_op}
use borrow.Author.Rules.{rules}
use Rattle.terms.proofs.op.Goals as goal

pub returns : goal.returns
unfolding row_op
returns c = search rules
