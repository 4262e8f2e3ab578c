-- `records::put_record` meets its contract.
use Rattle.records.proofs.Rows.{rowed}
use Rattle.records.proofs.put_record.Goals as goal

pub returns : goal.returns
returns c =
    rowed _ _ _ _ _ _ _ _ _ c.requires.0 c.requires.1 c.put_row.ensures
