-- `filing::read_assume` meets its contract: by the name, and the fact added.
use Rattle.model.proofs.ResultLaws.{refused_is}
use Rattle.fields.proofs.Spelling.{reads_name}
use Rattle.filing.proofs.Naming.{spelled_standing}
use Rattle.filing.proofs.Naming.{many_few}
use Rattle.filing.proofs.Saying.{assume_not}
use Rattle.filing.proofs.Recording.{begins, name_not, assume_line}
use Rattle.filing.proofs.read_assume.Goals as goal

pub read_name-requires : goal.read_name-requires
read_name-requires c =
    (begins c.requires.0, c.requires.1)

pub read_fact-requires : goal.read_fact-requires
read_fact-requires c =
    let word = reads_name c.read_name.ensures c.in_ok-i.was in
    (spelled_standing c.args.n c.requires.0 word.spelled c.spelled-known.ensures, many_few c.requires.0 c.spelled-known.ensures, word.onward.placed, c.requires.2)

pub returns : goal.returns
returns c =
    let word = reads_name c.read_name.ensures c.in_ok-i.was in
    assume_line _ c.requires.0 word c.spelled-known.ensures c.read_fact.ensures.past c.read_fact.ensures.«record»

pub returns-in_err-i : goal.returns-in_err-i
returns-in_err-i c =
    rw (refused_is c.from_residual.ensures.1) (name_not _ c.requires.0 c.read_name.ensures c.in_err-i.was (assume_not _ _ _))
