-- `rules::tables::TermTables::is_ambient_refinement` meets its contract: a squash, or the head's name.
use Rattle.model.specs.Lists.{holds, when}
use Rattle.model.specs.Names.{bytes}
use Rattle.model.specs.Summaries.{at, is_ambient_refinement}
use Rattle.rules.proofs.Meaning.{head_law, is_squash_law}
use borrow.Author.Rules.{rules}
use Rattle.rules.proofs.tables.TermTables.is_ambient_refinement.Goals as goal

pub returns-then-is_call : goal.returns-then-is_call
unfolding is_ambient_refinement at holds when bytes
returns-then-is_call c = search (rules, is_squash_law c.args.self.now.tables c.requires, head_law c.args.self.now.tables c.requires)

pub returns-then-not-has_head : goal.returns-then-not-has_head
unfolding is_ambient_refinement at holds when bytes
returns-then-not-has_head c = search (rules, is_squash_law c.args.self.now.tables c.requires, head_law c.args.self.now.tables c.requires)

pub returns : goal.returns
unfolding is_ambient_refinement at holds when bytes
returns c = search (rules, is_squash_law c.args.self.now.tables c.requires, head_law c.args.self.now.tables c.requires)
