-- `rules::tables::TermTables::rule_7` meets its contract: an `and`.
use Rattle.model.specs.Lists.{when}
use Rattle.model.specs.Summaries.{at}
use Rattle.rules.specs.Choices.{Within, choose_7}
use Rattle.rules.proofs.Meaning.{and_law}
use borrow.Author.Rules.{rules}
use Rattle.rules.proofs.tables.TermTables.rule_7.Goals as goal

pub returns-then-not-is_op : goal.returns-then-not-is_op
unfolding choose_7 Within at when
returns-then-not-is_op c = search (rules, and_law c.args.self.now.tables c.requires.1)

pub returns : goal.returns
unfolding choose_7 Within at when
returns c = search (rules, and_law c.args.self.now.tables c.requires.1)
