-- `filing::read_fact` meets its contract: by the flag, the group, the term, and the record added.
use Rattle.model.proofs.ResultLaws.{refused_is}
use mathlib.Core.Path.{sym, ◌∙◌}
use Rattle.fields.proofs.Pushing.{number_read, number_not}
use Rattle.filing.proofs.Saying.{number_placed, number_below, group_read, group_not, group_placed, group_most, last_below, fact_is, fact_term_not, fact_group_not, fact_not}
use Rattle.filing.specs.Lines.{fact_adds, fact_stops}
use Rattle.filing.proofs.Naming.{untouched}
use Rattle.filing.proofs.read_fact.Goals as goal

pub number-requires : goal.number-requires
number-requires c =
    c.requires.2

pub number_or-requires : goal.number_or-requires
number_or-requires c =
    number_placed 1 c.requires.2 c.number.ensures c.in_ok-flag.was

pub last_term-requires : goal.last_term-requires
last_term-requires c =
    let after = number_placed 1 c.requires.2 c.number.ensures c.in_ok-flag.was in
    (group_placed after _ c.number_or.ensures c.in_ok-group.was, c.requires.1)

pub add_fact-requires : goal.add_fact-requires
add_fact-requires c =
    let after = number_placed 1 c.requires.2 c.number.ensures c.in_ok-flag.was in (
      c.requires.0,
      last_below _ _ (sym c.last_term.ensures ∙ c.in_ok-t.was),
      c.requires.3,
      number_below 1 c.requires.2 c.number.ensures c.in_ok-flag.was,
      group_most after _ c.number_or.ensures c.in_ok-group.was,
    )

pub returns : goal.returns
returns c =
    let after = number_placed 1 c.requires.2 c.number.ensures c.in_ok-flag.was in
    record {
      «record» = fact_adds c.in_ok-flag.flag c.in_ok-group.group
          (λ m. fact_is _ _ m _ (number_read c.requires.2 1 c.number.ensures c.in_ok-flag.was)
          (group_read after _ c.number_or.ensures c.in_ok-group.was)
          (sym c.last_term.ensures ∙ c.in_ok-t.was)) c.add_fact.ensures.«record»;
      past = c.add_fact.ensures.past;
    }

pub returns-in_err-t : goal.returns-in_err-t
returns-in_err-t c =
    let after = number_placed 1 c.requires.2 c.number.ensures c.in_ok-flag.was in
    record {
      «record» = fact_stops (λ m. fact_term_not _ _ m _ (number_read c.requires.2 1 c.number.ensures c.in_ok-flag.was)
          (group_read after _ c.number_or.ensures c.in_ok-group.was)
          (sym c.last_term.ensures ∙ c.in_err-t.was)) (refused_is c.from_residual-in_err-t.ensures.1);
      past = untouched;
    }

pub returns-in_err-group : goal.returns-in_err-group
returns-in_err-group c =
    let after = number_placed 1 c.requires.2 c.number.ensures c.in_ok-flag.was in
    record {
      «record» = fact_stops (λ m. fact_group_not _ _ m _ (number_read c.requires.2 1 c.number.ensures c.in_ok-flag.was)
          (group_not after _ c.number_or.ensures c.in_err-group.was)) (refused_is c.from_residual-in_err-group.ensures.1);
      past = untouched;
    }

pub returns-in_err-flag : goal.returns-in_err-flag
returns-in_err-flag c =
    record { «record» = fact_stops (λ m. fact_not _ _ m _ (number_not c.requires.2 1 c.number.ensures c.in_err-flag.was)) (refused_is c.from_residual.ensures.1); past = untouched }
