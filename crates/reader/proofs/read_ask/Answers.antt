-- `reader::read_ask` meets its contract: by its numbers, and whether a field is left.
use Rattle.model.proofs.ResultLaws.{refused_is}
use Rattle.filing.proofs.Saying.{number_placed}
use Rattle.reader.proofs.Saying.{counts_grouped, counts_plain, asks_not, asks_options_not, asks_groups_not, asks_more, asks_is}
use Rattle.reader.proofs.read_ask.Goals as goal

pub number-requires-2 : goal.number-requires-2
number-requires-2 c =
    number_placed 255 c.requires.0 c.number.ensures c.in_ok-q.was

pub number_or-requires : goal.number_or-requires
number_or-requires c =
    number_placed 15 (number_placed 255 c.requires.0 c.number.ensures c.in_ok-q.was)
    c.number-2.ensures c.in_ok-options.was

pub returns-then-last : goal.returns-then-last
returns-then-last c =
    asks_more _ c.requires.0 c.number.ensures _ c.in_ok-q.was
    c.number-2.ensures c.in_ok-options.was c.number_or.ensures c.in_ok-groups.was c.if-last.true

pub add_ask-added-requires : goal.add_ask-added-requires
add_ask-added-requires c =
    (c.requires.1, c.requires.2)

pub shape_of-recs-then-grouped : goal.shape_of-recs-then-grouped
shape_of-recs-then-grouped c = c.add_ask-added.ensures.ask.same.same_length

pub returns-then-grouped : goal.returns-then-grouped
returns-then-grouped c =
    asks_is _ c.requires.0 c.number.ensures _ c.in_ok-q.was
    c.number-2.ensures c.in_ok-options.was c.number_or.ensures c.in_ok-groups.was c.if-last.false
    (counts_grouped c.args.k c.add_ask-added.ensures.counts c.if-grouped.true) c.add_ask-added.ensures.ask

pub shape_of-recs-else-grouped : goal.shape_of-recs-else-grouped
shape_of-recs-else-grouped c = c.add_ask-added.ensures.ask.same.same_length

pub returns-else-grouped : goal.returns-else-grouped
returns-else-grouped c =
    asks_is _ c.requires.0 c.number.ensures _ c.in_ok-q.was
    c.number-2.ensures c.in_ok-options.was c.number_or.ensures c.in_ok-groups.was c.if-last.false
    (counts_plain c.args.k c.add_ask-added.ensures.counts c.if-grouped.false) c.add_ask-added.ensures.ask

pub returns-in_err-groups : goal.returns-in_err-groups
returns-in_err-groups c =
    rw (refused_is c.from_residual-in_err-groups.ensures.1) (asks_groups_not _ c.requires.0 c.number.ensures _ c.in_ok-q.was
    c.number-2.ensures c.in_ok-options.was c.number_or.ensures c.in_err-groups.was)

pub returns-in_err-options : goal.returns-in_err-options
returns-in_err-options c =
    rw (refused_is c.from_residual-in_err-options.ensures.1) (asks_options_not _ c.requires.0 c.number.ensures _ c.in_ok-q.was
    c.number-2.ensures c.in_err-options.was)

pub returns-in_err-q : goal.returns-in_err-q
returns-in_err-q c =
    rw (refused_is c.from_residual.ensures.1) (asks_not _ c.requires.0 c.number.ensures _ c.in_err-q.was)
