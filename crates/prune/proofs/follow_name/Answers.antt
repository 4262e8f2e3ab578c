-- `prune::follow_name` meets its contract.
use borrow.Author.Rules.{rules}
use mathlib.Core.Path.{sym, ◌∙◌}
use Rattle.prune.proofs.Following.{place}
use Rattle.prune.proofs.follow_name.Goals as goal

pub queue_def-requires : goal.queue_def-requires
queue_def-requires c = (
  c.requires.0,
  search (rules, c.requires.1.long),
  place c.requires.1 c.requires.0.low (sym c.at.ensures ∙ c.if-at-ne0.false),
)
