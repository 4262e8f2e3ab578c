-- `records::with_hide` meets its contract.
use Rattle.records.proofs.with_hide.Goals as goal

pub returns : goal.returns
returns c = rw c.with_record-next.ensures
