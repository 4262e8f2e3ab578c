-- `filing::last_term` meets its contract: by the step of the cursor, and whether a field is left.
use Rattle.model.proofs.ResultLaws.{refused_is}
use Rattle.filing.proofs.Saying.{last_is, last_more, last_refused}
use Rattle.filing.proofs.last_term.Goals as goal

pub returns-then-next : goal.returns-then-next
returns-then-next c =
    last_more c.requires.0 _ c.term.ensures c.in_ok-t.was c.if-next.true

pub returns : goal.returns
returns c =
    last_is c.requires.0 _ c.term.ensures c.in_ok-t.was c.if-next.false

pub returns-in_err-t : goal.returns-in_err-t
returns-in_err-t c =
    rw (refused_is c.from_residual.ensures.1) (last_refused c.requires.0 _ c.term.ensures c.in_err-t.was)
