-- `gather::gather_list` meets its contract: a walk under a new mark.
use Rattle.gather.proofs.Gather.{ready_start, gathers_list, gathered_of}
use Rattle.gather.proofs.Rendering.{follows_start}
use Rattle.gather.specs.Visits.{visit_list}
use Rattle.gather.specs.Walks.{list_part}
use native.Mathlib.Omega.{arith}
use Rattle.gather.proofs.gather_list.Goals as goal

pub walk_list-requires : goal.walk_list-requires
walk_list-requires c = (
  ready_start c.requires.0 c.requires.5 c.requires.1 c.requires.6 c.requires.7,
  record { in_order = omega arith; in_use = omega arith; in_table = λ i l h. c.requires.4 i l (omega arith) },
)

pub returns : goal.returns
unfolding visit_list list_part
returns c =
    record {
      set = gathers_list c.requires.0 c.requires.5 c.requires.6 c.requires.7
          (record { in_order = c.requires.2; in_use = c.requires.3; in_table = c.requires.4 }) c.walk_list.ensures.set;
      slices = gathered_of c.requires.0 c.requires.5 c.requires.6 c.requires.7 c.walk_list.ensures.set;
      walk = follows_start c.requires.5 c.walk_list.ensures.walk;
    }
