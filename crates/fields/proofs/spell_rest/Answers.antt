-- `fields::spell_rest` meets its contract. The loop's invariant: `SpellingOn`.
use Rattle.model.proofs.ResultLaws.{refused_is}
use Rattle.fields.proofs.Spelling.{on_first, on_next, on_not, on_last}
use Rattle.fields.proofs.spell_rest.Goals as goal

pub loop-c-init : goal.loop-c-init
loop-c-init c = on_first c.requires.0 c.requires.1

pub loop-c-preserved : goal.loop-c-preserved
loop-c-preserved c =
    on_next c.loop-c.invariant c.loop-c-test.true c.read_name.ensures c.in_ok-more.was

pub returns-in_err-more : goal.returns-in_err-more
returns-in_err-more c =
    rw (refused_is c.from_residual.ensures.1) (on_not c.loop-c.invariant c.loop-c-test.true c.read_name.ensures c.in_err-more.was)

pub returns : goal.returns
returns c = on_last c.loop-c.invariant c.loop-c-test.false
