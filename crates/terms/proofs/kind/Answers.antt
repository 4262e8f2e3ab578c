-- `terms::kind` meets its contract.
use Rattle.terms.specs.Rows.{row_kind}
use borrow.Author.Rules.{rules}
use Rattle.terms.proofs.kind.Goals as goal

pub returns : goal.returns
unfolding row_kind
returns c = search rules
