-- `gather::gather_term` meets its contract: a walk under a new mark.
use Rattle.gather.proofs.Gather.{fresh_row, ready_start, gathers_term, gathered_of}
use Rattle.gather.proofs.Rendering.{follows_start}
use Rattle.gather.specs.Visits.{visit_term}
use Rattle.gather.specs.Walks.{term_part}
use native.Mathlib.Omega.{arith}
use Rattle.gather.proofs.gather_term.Goals as goal

pub walk_term-requires : goal.walk_term-requires
walk_term-requires c = (
  ready_start c.requires.0 c.requires.3 c.requires.1 (omega arith) (omega arith),
  c.requires.2,
  fresh_row c.requires.0 c.requires.3 c.requires.2,
)

pub returns : goal.returns
unfolding visit_term term_part
returns c =
    record { set = gathers_term c.requires.0 c.requires.3 c.requires.4 c.requires.5 c.requires.2 c.walk_term.ensures.set; slices = gathered_of c.requires.0 c.requires.3 c.requires.4 c.requires.5 c.walk_term.ensures.set; walk = follows_start c.requires.3 c.walk_term.ensures.walk }
