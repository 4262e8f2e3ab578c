-- `rules::tables::TermTables::has_eq` meets its contract: a Valid of one, then a hasEq of two.
use Rattle.model.specs.Summaries.{at, has_eq}
use Rattle.rules.proofs.Meaning.{prims_has_eq_law, valid_law}
use borrow.Author.Rules.{rules}
use Rattle.rules.proofs.tables.TermTables.has_eq.Goals as goal

pub returns-in_err-valid-clause-argument : goal.returns-in_err-valid-clause-argument
unfolding has_eq at
returns-in_err-valid-clause-argument c = search (rules, valid_law c.args.self.now.tables c.requires)

pub returns-in_err-ty-clause-argument : goal.returns-in_err-ty-clause-argument
unfolding has_eq at
returns-in_err-ty-clause-argument c = search (rules, valid_law c.args.self.now.tables c.requires, prims_has_eq_law {t = c.in_ok-valid.valid} c.args.self.now.tables (search rules))

pub returns-clause-argument : goal.returns-clause-argument
unfolding has_eq at
returns-clause-argument c = search (rules, valid_law c.args.self.now.tables c.requires, prims_has_eq_law {t = c.in_ok-valid.valid} c.args.self.now.tables (search rules))
