-- `filing::read_root` meets its contract: by the query, and the rest of the line.
use Rattle.model.proofs.ResultLaws.{refused_is}
use Rattle.fields.proofs.Pushing.{number_read, number_not}
use Rattle.filing.proofs.Saying.{number_placed, number_below, root_then, root_not}
use Rattle.filing.proofs.Recording.{line_not, line_said}
use Rattle.filing.proofs.read_root.Goals as goal

pub number-requires : goal.number-requires
number-requires c =
    c.requires.1

pub read_goal-requires : goal.read_goal-requires
read_goal-requires c = (
  c.requires.0,
  number_placed 255 c.requires.1 c.number.ensures c.in_ok-q.was,
  c.requires.2,
  number_below 255 c.requires.1 c.number.ensures c.in_ok-q.was,
)

pub returns : goal.returns
returns c =
    line_said (root_then _ _ _ (number_read c.requires.1 255 c.number.ensures c.in_ok-q.was)) c.read_goal.ensures

pub returns-in_err-q : goal.returns-in_err-q
returns-in_err-q c =
    rw (refused_is c.from_residual.ensures.1) (line_not _ _ _ _ _ _ _ _ _ (root_not _ _ _ (number_not c.requires.1 255 c.number.ensures c.in_err-q.was)))
