-- `additions::add_label` meets its contract.
use native.Mathlib.Omega.{arith}
use Rattle.additions.proofs.Lines.{under_low, adds_label}
use Rattle.additions.proofs.add_label.Goals as goal

pub add_row-requires : goal.add_row-requires
add_row-requires c =
    let low = under_low c.requires c.reference.ensures c.bare-under.ensures in
    (c.requires.table.row_room, omega arith, omega arith, omega arith, omega arith, omega arith)

pub returns : goal.returns
returns c = adds_label c.requires c.reference.ensures c.bare-under.ensures (c.add_row.ensures.answer, c.add_row.ensures.rows)
