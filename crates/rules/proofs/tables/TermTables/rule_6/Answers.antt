-- `rules::tables::TermTables::rule_6` meets its contract: an `eq` of two, then its right.
use Rattle.model.specs.Summaries.{at}
use Rattle.rules.specs.Choices.{Within, choose_6}
use Rattle.rules.proofs.Meaning.{eq_two_law, term_constr_id_law}
use borrow.Author.Rules.{rules}
use Rattle.rules.proofs.tables.TermTables.rule_6.Goals as goal

pub returns-in_err-right : goal.returns-in_err-right
unfolding choose_6 Within at
returns-in_err-right c = search (rules, eq_two_law c.args.self.now.tables c.requires.1)

pub returns-in_err-argument : goal.returns-in_err-argument
unfolding choose_6 Within at
returns-in_err-argument c = search (rules, eq_two_law c.args.self.now.tables c.requires.1, term_constr_id_law {t = c.in_ok-right.right} c.args.self.now.tables (search rules))

pub returns : goal.returns
unfolding choose_6 Within at
returns c = search (rules, eq_two_law c.args.self.now.tables c.requires.1, term_constr_id_law {t = c.in_ok-right.right} c.args.self.now.tables (search rules))
