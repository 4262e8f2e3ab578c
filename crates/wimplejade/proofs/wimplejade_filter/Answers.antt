-- `wimplejade::wimplejade_filter` meets its contract.
use Rattle.wimplejade.proofs.wimplejade_filter.Goals as goal

pub returns : goal.returns
returns c = record { answer = _; replied = c.from.ensures; promise = c.filter.ensures }
