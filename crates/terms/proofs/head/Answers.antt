-- `terms::head` meets its contract.
use Rattle.terms.specs.Rows.{row_head}
use borrow.Author.Rules.{rules}
use Rattle.terms.proofs.head.Goals as goal

pub returns : goal.returns
unfolding row_head
returns c = search rules
