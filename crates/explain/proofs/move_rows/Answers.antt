-- `explain::move_rows` meets its contract.
use native.Mathlib.Omega.{arith}
use mathlib.Core.Path.{◌∙◌}
use Rattle.explain.proofs.Laws.{moves_rows}
use Rattle.explain.proofs.move_rows.Goals as goal

pub copy-requires : goal.copy-requires
copy-requires c =
    (omega (arith, c.requires.0.on_refs, c.requires.1), omega (arith, c.requires.0.on_run, c.requires.1, c.clear.ensures.same.same_length))

pub close_tables-requires : goal.close_tables-requires
close_tables-requires c =
    (c.requires.0.on_names, c.requires.0.on_refs, c.requires.0.on_rows, c.requires.0.on_recs, c.requires.0.on_lists)

pub shape_of-w5 : goal.shape_of-w5
shape_of-w5 c =
    c.copy.ensures.same.same_length ∙ c.clear.ensures.same.same_length

pub returns : goal.returns
returns c =
    moves_rows c.requires.1 c.clear.ensures c.copy.ensures c.close_tables.ensures
