-- `prune::prune` meets its contract.
use mathlib.Core.Path.{◌∙◌}
use Rattle.prune.proofs.Writing.{lists_length}
use Rattle.prune.proofs.Pruning.{tables_fit, few_kept, listed_room, records_in, pruned}
use Rattle.prune.proofs.prune.Goals as goal

pub list_records-count-requires : goal.list_records-count-requires
list_records-count-requires c =
    tables_fit c.requires

pub put_lines-requires : goal.put_lines-requires
put_lines-requires c = (
  c.requires.filled.recorded.room,
  listed_room c.requires c.list_records-count.ensures,
  few_kept c.requires c.list_records-count.ensures,
  records_in c.requires c.list_records-count.ensures,
)

pub shape_of-run : goal.shape_of-run
shape_of-run c =
    lists_length c.put_lines.ensures ∙ c.list_records-count.ensures.same.same_length

pub returns : goal.returns
returns c =
    pruned c.requires c.list_records-count.ensures c.put_lines.ensures
