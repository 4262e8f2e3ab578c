-- `row_printing::print_rows` is safe and ends.
use Rattle.front.proofs.Laws.{opened_file}
use Rattle.row_printing.proofs.print_rows.Goals as goal

pub print_named-requires : goal.print_named-requires
print_named-requires g c =
    let file = opened_file c.open_file.ensures c.in-Ok.is in
    (file.filled.table, c.requires)
