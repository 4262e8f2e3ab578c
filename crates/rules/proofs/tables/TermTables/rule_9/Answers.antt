-- `rules::tables::TermTables::rule_9` meets its contract: an `iff` of two, then its sides.
use Rattle.model.specs.Lists.{or_else}
use Rattle.model.specs.Summaries.{at}
use Rattle.rules.specs.Choices.{Within, choose_9}
use Rattle.rules.proofs.Meaning.{iff_two_law}
use borrow.Author.Rules.{rules}
use Rattle.rules.proofs.tables.TermTables.rule_9.Goals as goal

pub returns-in_err-left : goal.returns-in_err-left
unfolding choose_9 Within at or_else
returns-in_err-left c = search (rules, iff_two_law c.args.self.now.tables c.requires.1)

pub returns-in_default : goal.returns-in_default
unfolding choose_9 Within at or_else
returns-in_default c = search (rules, iff_two_law c.args.self.now.tables c.requires.1)

pub returns-in_default-has_eq : goal.returns-in_default-has_eq
unfolding choose_9 Within at or_else
returns-in_default-has_eq c = search (rules, iff_two_law c.args.self.now.tables c.requires.1)

pub returns : goal.returns
unfolding choose_9 Within at or_else
returns c = search (rules, iff_two_law c.args.self.now.tables c.requires.1)
