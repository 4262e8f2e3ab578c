-- `rules::tables::TermTables::rule_8` meets its contract: an `eq` of two, then the name.
use Rattle.model.specs.Names.{bytes}
use Rattle.model.specs.Lists.{when}
use Rattle.model.specs.Summaries.{at}
use Rattle.rules.specs.Choices.{Within, choose_8}
use Rattle.rules.proofs.Meaning.{eq_two_law}
use borrow.Author.Rules.{rules}
use Rattle.rules.proofs.tables.TermTables.rule_8.Goals as goal

pub returns-in_err-left : goal.returns-in_err-left
unfolding choose_8 Within at when bytes
returns-in_err-left c = search (rules, eq_two_law c.args.self.now.tables c.requires.1)

pub returns : goal.returns
unfolding choose_8 Within at when bytes
returns c = search (rules, eq_two_law c.args.self.now.tables c.requires.1)
