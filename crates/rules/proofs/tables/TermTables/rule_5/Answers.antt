-- `rules::tables::TermTables::rule_5` meets its contract: four calls in turn.
use Rattle.model.specs.Lists.{or_else}
use Rattle.model.specs.Summaries.{at}
use Rattle.rules.specs.Choices.{Within, choose_5}
use Rattle.rules.proofs.Meaning.{has_type_law, is_tm_arrow_law, is_tot_fun_law, valid_law}
use borrow.Author.Rules.{rules}
use Rattle.rules.proofs.tables.TermTables.rule_5.Goals as goal

pub returns-in-Some : goal.returns-in-Some
unfolding choose_5 Within at or_else
returns-in-Some c = search (rules, valid_law c.args.self.now.tables c.requires.1, has_type_law c.args.self.now.tables c.requires.1, is_tot_fun_law c.args.self.now.tables c.requires.1, is_tm_arrow_law c.args.self.now.tables c.requires.1)

pub returns-in-Some-call_two : goal.returns-in-Some-call_two
unfolding choose_5 Within at or_else
returns-in-Some-call_two c = search (rules, valid_law c.args.self.now.tables c.requires.1, has_type_law c.args.self.now.tables c.requires.1, is_tot_fun_law c.args.self.now.tables c.requires.1, is_tm_arrow_law c.args.self.now.tables c.requires.1)

pub returns-in-Some-call_one : goal.returns-in-Some-call_one
unfolding choose_5 Within at or_else
returns-in-Some-call_one c = search (rules, valid_law c.args.self.now.tables c.requires.1, has_type_law c.args.self.now.tables c.requires.1, is_tot_fun_law c.args.self.now.tables c.requires.1, is_tm_arrow_law c.args.self.now.tables c.requires.1)

pub returns-in-Some-call_one-2 : goal.returns-in-Some-call_one-2
unfolding choose_5 Within at or_else
returns-in-Some-call_one-2 c = search (rules, valid_law c.args.self.now.tables c.requires.1, has_type_law c.args.self.now.tables c.requires.1, is_tot_fun_law c.args.self.now.tables c.requires.1, is_tm_arrow_law c.args.self.now.tables c.requires.1)

pub returns : goal.returns
unfolding choose_5 Within at or_else
returns c = search (rules, valid_law c.args.self.now.tables c.requires.1, has_type_law c.args.self.now.tables c.requires.1, is_tot_fun_law c.args.self.now.tables c.requires.1, is_tm_arrow_law c.args.self.now.tables c.requires.1)
