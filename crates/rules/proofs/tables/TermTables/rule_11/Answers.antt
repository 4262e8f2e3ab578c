-- `rules::tables::TermTables::rule_11` meets its contract: a `true`.
use Rattle.model.specs.Lists.{when}
use Rattle.model.specs.Summaries.{at}
use Rattle.rules.specs.Choices.{Within, choose_11}
use Rattle.rules.proofs.Meaning.{true_law}
use borrow.Author.Rules.{rules}
use Rattle.rules.proofs.tables.TermTables.rule_11.Goals as goal

pub returns-then-not-is_op : goal.returns-then-not-is_op
unfolding choose_11 Within at when
returns-then-not-is_op c = search (rules, true_law c.args.self.now.tables c.requires.1)

pub returns : goal.returns
unfolding choose_11 Within at when
returns c = search (rules, true_law c.args.self.now.tables c.requires.1)
