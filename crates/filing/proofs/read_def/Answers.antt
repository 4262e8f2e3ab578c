-- `filing::read_def` meets its contract: by the name, the term, and the record added.
use Rattle.model.proofs.ResultLaws.{refused_is}
use mathlib.Core.Path.{sym, ◌∙◌}
use Rattle.fields.proofs.Spelling.{reads_name}
use Rattle.filing.proofs.Naming.{spelled_standing}
use Rattle.filing.proofs.Naming.{many_below}
use Rattle.filing.proofs.Saying.{last_below, def_term_not, def_not}
use Rattle.filing.proofs.Recording.{begins, name_not, rest_not, def_line}
use Rattle.filing.proofs.read_def.Goals as goal

pub read_name-requires : goal.read_name-requires
read_name-requires c =
    (begins c.requires.0, c.requires.1)

pub last_term-requires : goal.last_term-requires
last_term-requires c =
    ((reads_name c.read_name.ensures c.in_ok-i.was).onward.placed, c.requires.0.tables.term_table.few_rows)

pub add_def-requires : goal.add_def-requires
add_def-requires c = (
  spelled_standing c.args.n c.requires.0 (reads_name c.read_name.ensures c.in_ok-i.was).spelled c.spelled.ensures,
  many_below c.args.k c.spelled.ensures (last_below _ _ (sym c.last_term.ensures ∙ c.in_ok-t.was)),
  c.requires.2,
)

pub shape_of-names : goal.shape_of-names
shape_of-names c =
    (def_line _ c.requires.0 (reads_name c.read_name.ensures c.in_ok-i.was) c.spelled.ensures
    c.add_def.ensures.past (sym c.last_term.ensures ∙ c.in_ok-t.was)
    c.add_def.ensures.«record»).past.name_words.same_length

pub returns : goal.returns
returns c =
    def_line _ c.requires.0 (reads_name c.read_name.ensures c.in_ok-i.was) c.spelled.ensures
    c.add_def.ensures.past (sym c.last_term.ensures ∙ c.in_ok-t.was) c.add_def.ensures.«record»

pub returns-in_err-t : goal.returns-in_err-t
returns-in_err-t c =
    let name = reads_name c.read_name.ensures c.in_ok-i.was in
    rw (refused_is c.from_residual-in_err-t.ensures.1) (rest_not _ c.requires.0 name _ (def_term_not _ _ _ name.said (sym c.last_term.ensures ∙ c.in_err-t.was)))

pub returns-in_err-i : goal.returns-in_err-i
returns-in_err-i c =
    rw (refused_is c.from_residual.ensures.1) (name_not _ c.requires.0 c.read_name.ensures c.in_err-i.was (def_not _ _ _))
