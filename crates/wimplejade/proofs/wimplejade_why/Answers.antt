-- `wimplejade::wimplejade_why` meets its contract.
use Rattle.why.proofs.Laws.{called}
use Rattle.wimplejade.proofs.wimplejade_why.Goals as goal

pub returns : goal.returns
returns c = called c.find_rows-told.ensures c.move_rows.ensures.written c.move_rows.ensures.cleared
