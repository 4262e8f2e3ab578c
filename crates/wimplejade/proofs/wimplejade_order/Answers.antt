-- `wimplejade::wimplejade_order` meets its contract.
use Rattle.order.proofs.Laws.{called}
use Rattle.wimplejade.proofs.wimplejade_order.Goals as goal

pub returns : goal.returns
returns c = called c.find_rows-told.ensures c.move_rows.ensures.written c.move_rows.ensures.cleared
