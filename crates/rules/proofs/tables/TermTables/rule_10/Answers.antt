-- `rules::tables::TermTables::rule_10` meets its contract: an `eq` of two.
use Rattle.model.specs.Summaries.{at}
use Rattle.rules.specs.Choices.{Within, choose_10}
use Rattle.rules.proofs.Meaning.{eq_two_law}
use borrow.Author.Rules.{rules}
use Rattle.rules.proofs.tables.TermTables.rule_10.Goals as goal

pub returns-in_err-left : goal.returns-in_err-left
unfolding choose_10 Within at
returns-in_err-left c = search (rules, eq_two_law c.args.self.now.tables c.requires.1)

pub returns : goal.returns
unfolding choose_10 Within at
returns c = search (rules, eq_two_law c.args.self.now.tables c.requires.1)
