-- `printing::Lines::table_line` meets its contract.
use Rattle.printing.proofs.Parts.{row_told, reasons_line, check_line}
use Rattle.printing.proofs.Lines.table_line.Goals as goal

pub returns-then-reasons : goal.returns-then-reasons
returns-then-reasons c = row_told _ _ _ _ _ _ _ _ _ c.row_at-r.ensures c.name_of-name.ensures (reasons_line _ _ _ _ _ _ c.if-reasons.true c.row_line.ensures)

pub returns : goal.returns
returns c = row_told _ _ _ _ _ _ _ _ _ c.row_at-r.ensures c.name_of-name.ensures (check_line _ _ _ _ _ _ c.if-reasons.false c.late_line.ensures)
