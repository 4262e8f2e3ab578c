-- `reader::read_also` meets its contract: by its number, and whether a field is left.
use Rattle.model.proofs.ResultLaws.{refused_is}
use Rattle.reader.proofs.Saying.{also_refused, also_longer, also_asks}
use Rattle.reader.proofs.read_also.Goals as goal

pub returns-then-last : goal.returns-then-last
returns-then-last c =
    also_longer _ c.requires.0 c.number.ensures c.in_ok-q.was c.if-last.true

pub add_ask-requires : goal.add_ask-requires
add_ask-requires c =
    (c.requires.2, c.requires.3)

pub shape_of-recs : goal.shape_of-recs
shape_of-recs c = c.add_ask.ensures.ask.same.same_length

pub returns : goal.returns
returns c =
    also_asks _ c.requires.0 c.number.ensures c.in_ok-q.was c.if-last.false c.requires.1
    c.add_ask.ensures.counts c.add_ask.ensures.ask

pub returns-in_err-q : goal.returns-in_err-q
returns-in_err-q c =
    rw (refused_is c.from_residual.ensures.1) (also_refused _ c.requires.0 c.number.ensures c.in_err-q.was)
