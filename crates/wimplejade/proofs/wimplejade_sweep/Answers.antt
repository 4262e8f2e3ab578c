-- `wimplejade::wimplejade_sweep` meets its contract.
use Rattle.wimplejade.proofs.wimplejade_sweep.Goals as goal

pub returns : goal.returns
returns c = record { answer = _; replied = c.from.ensures; promise = c.sweep.ensures }
