-- `rules::tables::TermTables::choose_rule` meets its contract: by the number of groups.
use Rattle.rules.proofs.Choosing.{kind_kinded, number_groups, number_rules}
use Rattle.rules.proofs.Counting.{groups_ready, groups_none}
use Rattle.rules.proofs.Rules.{kind_groups, kind_rules}
use Rattle.rules.specs.Choices.{Within}
use borrow.Author.Tests.{eq-eqb, ne_eqb}
use mathlib.Core.Path.{◌∙◌, sym}
use Rattle.rules.proofs.tables.TermTables.choose_rule.Goals as goal

pub group_count-requires : goal.group_count-requires
group_count-requires c =
    groups_ready c.args.self.now.tables.term_table c.requires.1

pub returns-then-group_count-eq0 : goal.returns-then-group_count-eq0
returns-then-group_count-eq0 c =
    let count = sym c.group_count.ensures ∙ c.if-group_count-eq0.true in
    let none = groups_none c.args.self.now.tables c.requires.1 ∙ eq-eqb _ 0 count in
    let chosen = kind_rules _ _ _ _ none c.maybe_add_ambient.ensures.chosen.choice in
    record {
      chosen = record {
        choice = chosen;
        kind = kind_kinded c.args.self.now.tables c.requires.1 _ chosen;
        within = c.maybe_add_ambient.ensures.chosen.within;
      };
      numbered = λ exclude. c.maybe_add_ambient.ensures.numbered exclude ∙ number_rules c.args.self.now.tables c.requires.1 _ none exclude;
    }

pub returns : goal.returns
unfolding Within
returns c =
    let more = ne_eqb _ 0 (λ e. c.if-group_count-eq0.false (c.group_count.ensures ∙ e)) in
    let some = groups_none c.args.self.now.tables c.requires.1 ∙ more in
    let chosen = kind_groups _ _ _ _ some in
    record {
      chosen = record { choice = chosen; kind = kind_kinded c.args.self.now.tables c.requires.1 _ chosen; within = c.requires.1 };
      numbered = number_groups c.args.self.now.tables c.requires.1 _ some;
    }
