-- `nodes::grown` meets its contract.
use Rattle.model.proofs.ResultLaws.{refused_is}
use Rattle.nodes.specs.Growing.{grown_to, with_term}
use Rattle.nodes.proofs.grown.Goals as goal

pub returns : goal.returns
unfolding grown_to with_term
returns c = rw c.in_ok-added.was

pub returns-in_err-added : goal.returns-in_err-added
unfolding grown_to
returns-in_err-added c = rw (refused_is c.from_residual.ensures.1, c.in_err-added.was)
