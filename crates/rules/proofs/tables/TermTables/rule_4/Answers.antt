-- `rules::tables::TermTables::rule_4` meets its contract: a Valid of one, an ApplyTT of two, its function, then the token.
use Rattle.model.specs.Lists.{when}
use Rattle.model.specs.Summaries.{at}
use Rattle.rules.specs.Choices.{choose_4, Within}
use Rattle.rules.proofs.Meaning.{apply_tt_law, partial_app_law, valid_law}
use borrow.Author.Rules.{rules}
use Rattle.rules.proofs.tables.TermTables.rule_4.Goals as goal

pub returns-in_err-applied : goal.returns-in_err-applied
unfolding choose_4 Within at when
returns-in_err-applied c = search (rules, valid_law c.args.self.now.tables c.requires.1)

pub returns-in_err-function : goal.returns-in_err-function
unfolding choose_4 Within at when
returns-in_err-function c = search (rules, valid_law c.args.self.now.tables c.requires.1, apply_tt_law {t = c.in_ok-applied.applied} c.args.self.now.tables (search rules))

pub returns-then-not-is_head : goal.returns-then-not-is_head
unfolding choose_4 Within at when
returns-then-not-is_head c = search (rules, valid_law c.args.self.now.tables c.requires.1, apply_tt_law {t = c.in_ok-applied.applied} c.args.self.now.tables (search rules), partial_app_law {t = c.in_ok-function.function} c.args.self.now.tables (search rules))

pub returns : goal.returns
unfolding choose_4 Within at when
returns c = search (rules, valid_law c.args.self.now.tables c.requires.1, apply_tt_law {t = c.in_ok-applied.applied} c.args.self.now.tables (search rules), partial_app_law {t = c.in_ok-function.function} c.args.self.now.tables (search rules))
