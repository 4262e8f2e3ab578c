-- `rules::tables::TermTables::rule_3` meets its contract: a HasType of two, then its type.
use Rattle.model.specs.Lists.{when}
use Rattle.model.specs.Summaries.{at}
use Rattle.rules.specs.Choices.{Within, choose_3}
use Rattle.rules.proofs.Meaning.{has_type_law}
use borrow.Author.Rules.{rules}
use Rattle.rules.proofs.tables.TermTables.rule_3.Goals as goal

pub returns-in_err-ty : goal.returns-in_err-ty
unfolding choose_3 Within at when
returns-in_err-ty c = search (rules, has_type_law c.args.self.now.tables c.requires.1)

pub returns-then-not-is_ambient_refinement : goal.returns-then-not-is_ambient_refinement
unfolding choose_3 Within at when
returns-then-not-is_ambient_refinement c = search (rules, has_type_law c.args.self.now.tables c.requires.1)

pub returns : goal.returns
unfolding choose_3 Within at when
returns c = search (rules, has_type_law c.args.self.now.tables c.requires.1)
