-- `printing::put_number` meets its contract.
use Rattle.printing.proofs.put_number.Goals as goal

pub returns : goal.returns
returns c = c.put_count.ensures
