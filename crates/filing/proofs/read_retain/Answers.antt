-- `filing::read_retain` meets its contract: by the names, and the record added.
use Rattle.model.proofs.ResultLaws.{refused_is}
use Rattle.filing.proofs.Retaining.{rest_standing, retain_line, retain_not}
use Rattle.filing.proofs.read_retain.Goals as goal

pub spell_rest-requires : goal.spell_rest-requires
spell_rest-requires c =
    (c.requires.0.tables.name_table, c.requires.1)

pub add_retain-requires : goal.add_retain-requires
add_retain-requires c =
    (rest_standing c.args.n c.requires.0 c.spell_rest.ensures c.in_ok-named.was c.spelled.ensures, c.requires.2)

pub returns : goal.returns
returns c =
    retain_line _ c.requires.0 c.spell_rest.ensures c.in_ok-named.was c.spelled.ensures
    c.add_retain.ensures.«record» c.add_retain.ensures.past

pub returns-in_err-named : goal.returns-in_err-named
returns-in_err-named c =
    rw (refused_is c.from_residual.ensures.1) (retain_not _ c.requires.0 c.spell_rest.ensures c.in_err-named.was)
