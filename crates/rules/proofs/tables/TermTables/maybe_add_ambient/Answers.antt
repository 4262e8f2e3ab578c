-- `rules::tables::TermTables::maybe_add_ambient` meets its contract: the first rule that holds.
use Rattle.model.specs.Lists.{find_index, holds}
use Rattle.rules.specs.Choices.{Within, ambient_choice, choose_12, first_choice}
use Rattle.rules.proofs.Choosing.{promised}
use Rattle.rules.proofs.Rules.{place_in}
use borrow.Author.Rules.{rules}
use Rattle.rules.proofs.tables.TermTables.maybe_add_ambient.Goals as goal

pub returns-in-Some : goal.returns-in-Some
unfolding ambient_choice first_choice place_in find_index holds
returns-in-Some c = promised c.args.self.now c.requires.0 c.requires.1 (search rules) (search rules) (search rules)

pub returns-in-Some-rule_2 : goal.returns-in-Some-rule_2
unfolding ambient_choice first_choice place_in find_index holds
returns-in-Some-rule_2 c = promised c.args.self.now c.requires.0 c.requires.1 (search rules) (search rules) (search rules)

pub returns-in-Some-rule_3 : goal.returns-in-Some-rule_3
unfolding ambient_choice first_choice place_in find_index holds
returns-in-Some-rule_3 c = promised c.args.self.now c.requires.0 c.requires.1 (search rules) (search rules) (search rules)

pub returns-in-Some-rule_4 : goal.returns-in-Some-rule_4
unfolding ambient_choice first_choice place_in find_index holds
returns-in-Some-rule_4 c = promised c.args.self.now c.requires.0 c.requires.1 (search rules) (search rules) (search rules)

pub returns-in-Some-rule_5 : goal.returns-in-Some-rule_5
unfolding ambient_choice first_choice place_in find_index holds
returns-in-Some-rule_5 c = promised c.args.self.now c.requires.0 c.requires.1 (search rules) (search rules) (search rules)

pub returns-in-Some-rule_6 : goal.returns-in-Some-rule_6
unfolding ambient_choice first_choice place_in find_index holds
returns-in-Some-rule_6 c = promised c.args.self.now c.requires.0 c.requires.1 (search rules) (search rules) (search rules)

pub returns-in-Some-rule_7 : goal.returns-in-Some-rule_7
unfolding ambient_choice first_choice place_in find_index holds
returns-in-Some-rule_7 c = promised c.args.self.now c.requires.0 c.requires.1 (search rules) (search rules) (search rules)

pub returns-in-Some-rule_8 : goal.returns-in-Some-rule_8
unfolding ambient_choice first_choice place_in find_index holds
returns-in-Some-rule_8 c = promised c.args.self.now c.requires.0 c.requires.1 (search rules) (search rules) (search rules)

pub returns-in-Some-rule_9 : goal.returns-in-Some-rule_9
unfolding ambient_choice first_choice place_in find_index holds
returns-in-Some-rule_9 c = promised c.args.self.now c.requires.0 c.requires.1 (search rules) (search rules) (search rules)

pub returns-in-Some-rule_10 : goal.returns-in-Some-rule_10
unfolding ambient_choice first_choice place_in find_index holds
returns-in-Some-rule_10 c = promised c.args.self.now c.requires.0 c.requires.1 (search rules) (search rules) (search rules)

pub returns-in-Some-rule_11 : goal.returns-in-Some-rule_11
unfolding ambient_choice first_choice place_in find_index holds
returns-in-Some-rule_11 c = promised c.args.self.now c.requires.0 c.requires.1 (search rules) (search rules) (search rules)

pub returns : goal.returns
unfolding ambient_choice first_choice place_in find_index holds choose_12 Within
returns c = promised c.args.self.now c.requires.0 c.requires.1 (search rules) (search rules) (search rules)
