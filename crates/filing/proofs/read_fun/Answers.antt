-- `filing::read_fun` meets its contract: by the name that is read, whether a field is left, and the record added.
use Rattle.model.proofs.ResultLaws.{refused_is}
use Rattle.model.specs.declared.Refusal.TheVariants as refusal
use Rattle.fields.proofs.Spelling.{reads_name}
use Rattle.filing.proofs.Naming.{spelled_standing}
use Rattle.filing.proofs.Saying.{end_more, one_more, one_not, fun_is}
use Rattle.filing.proofs.Recording.{begins, name_not, rest_not, fun_line}
use Rattle.filing.proofs.read_fun.Goals as goal

pub read_name-requires : goal.read_name-requires
read_name-requires c = (begins c.requires.0, c.requires.1)

pub returns-then-last : goal.returns-then-last
returns-then-last c =
    let name = reads_name c.read_name.ensures c.in_ok-i.was in
    rest_not _ c.requires.0 name refusal.Form (one_more _ _ (fun_is _ _ _) name.said (end_more _ _ _ c.if-last.true))

pub add_fun-requires : goal.add_fun-requires
add_fun-requires c =
    let name = reads_name c.read_name.ensures c.in_ok-i.was in
    (spelled_standing c.args.n c.requires.0 name.spelled c.spelled.ensures, c.requires.2)

pub returns : goal.returns
returns c =
    let name = reads_name c.read_name.ensures c.in_ok-i.was in
    fun_line _ c.requires.0 name c.spelled.ensures c.add_fun.ensures.past
    c.if-last.false c.add_fun.ensures.«record»

pub returns-in_err-i : goal.returns-in_err-i
returns-in_err-i c =
    rw (refused_is c.from_residual.ensures.1) (name_not _ c.requires.0 c.read_name.ensures c.in_err-i.was (one_not _ _ (fun_is _ _ _)))
