-- `precedence::check_order` meets its contract.
use Rattle.front.proofs.Laws.{opened_file, refused_file}
use Rattle.precedence.proofs.Call.{open_late, open_orders, refused_orders}
use Rattle.precedence.proofs.check_order.Goals as goal

pub list_rows-requires : goal.list_rows-requires
list_rows-requires c =
    open_late (opened_file c.open_file.ensures c.in-Ok.is)

pub returns-in-Ok : goal.returns-in-Ok
returns-in-Ok c =
    open_orders (opened_file c.open_file.ensures c.in-Ok.is) c.list_rows.ensures

pub returns-in-Err : goal.returns-in-Err
returns-in-Err c =
    refused_orders (refused_file c.open_file.ensures c.in-Err.is) c.open_file.ensures.rest c.refused.ensures
