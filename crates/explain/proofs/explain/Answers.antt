-- `explain::explain` meets its contract.
use Rattle.front.proofs.Laws.{opened_file, refused_file}
use Rattle.explain.proofs.Laws.{held_open, short_explains, stopped_explains}
use Rattle.explain.proofs.explain.Goals as goal

pub returns-then-room-lt-MOST_ROWS : goal.returns-then-room-lt-MOST_ROWS
returns-then-room-lt-MOST_ROWS c = short_explains c.if-room-lt-MOST_ROWS.true c.refused.ensures

pub answer_position-requires : goal.answer_position-requires
answer_position-requires c =
    held_open (opened_file c.open_file.ensures c.in-Ok.is)

pub returns-in-Ok : goal.returns-in-Ok
returns-in-Ok c =
    c.answer_position.ensures.told_at _ _ (opened_file c.open_file.ensures c.in-Ok.is) c.if-room-lt-MOST_ROWS.false

pub returns-in-Err : goal.returns-in-Err
returns-in-Err c =
    stopped_explains c.if-room-lt-MOST_ROWS.false (refused_file c.open_file.ensures c.in-Err.is)
    c.open_file.ensures.rest c.refused-in-Err.ensures
