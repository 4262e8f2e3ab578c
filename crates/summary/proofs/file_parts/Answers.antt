-- `summary::file_parts` meets its contract: the terms that an `and` names are those of its reference words.
use native.Mathlib.Omega.{arith}
use Rattle.summary.proofs.Sorting.{begun_opened, parts_asks, parts_sorts}
use Rattle.summary.proofs.file_parts.Goals as goal

pub triggers_of_list-requires : goal.triggers_of_list-requires
triggers_of_list-requires c =
    let asks = parts_asks c.requires.0 c.requires.2 c.start-a.ensures c.end-e.ensures in
    (c.requires.0, begun_opened c.requires.1 (omega arith) (omega arith), asks.0, asks.1, asks.2)

pub returns : goal.returns
returns c =
    let both = parts_sorts c.args.t c.requires.0 c.requires.2 c.start-a.ensures c.end-e.ensures c.triggers_of_list.ensures.sets
    c.triggers_of_list.ensures.slices c.triggers_of_list.ensures.words c.filed.ensures in
    record { kinds = both.0; words = both.1 }

pub shape_of-names : goal.shape_of-names
shape_of-names c = (returns c).kinds.marks.names_same.same_length

pub shape_of-rows : goal.shape_of-rows
shape_of-rows c = (returns c).kinds.marks.rows_same.same_length

pub shape_of-lists : goal.shape_of-lists
shape_of-lists c = (returns c).kinds.marks.lists_same.same_length
