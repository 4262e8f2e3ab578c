-- `explain::answer_position` meets its contract.
use native.Mathlib.Omega.{arith}
use mathlib.Core.Logic.{inl, inr}
use Rattle.front.proofs.Slices.{rest_long}
use Rattle.front.proofs.Laws.{rest_work}
use Rattle.explain.proofs.Laws.{position_none, position_told}
use Rattle.explain.proofs.answer_position.Goals as goal
use Rattle.explain.proofs.answer_position.Goals.{then-position-eq0-via-then-position-eq0, then-position-eq0-via-else-position-eq0+then-k-position}

pub close_file-requires : goal.close_file-requires
close_file-requires c = c.requires.long

pub returns-then-position-eq0 : goal.returns-then-position-eq0
returns-then-position-eq0 c =
    elim c.then-position-eq0.branch [
      | then-position-eq0-via-then-position-eq0 w ↦ position_none (inl w.if-position-eq0.true) c.close_file.ensures c.refused.ensures
      | then-position-eq0-via-else-position-eq0+then-k-position w ↦
          position_none (inr w.if-k-position.true) c.close_file.ensures c.refused.ensures
    ]

pub ask_at-a-requires : goal.ask_at-a-requires
ask_at-a-requires c =
    (omega (arith, c.requires.few_asks, c.if-k-position.false, c.if-position-eq0.false), c.requires.long.on_recs)

pub tell-told-requires : goal.tell-told-requires
tell-told-requires c =
    record {
      filled = c.requires.filled;
      row_room = c.requires.long.on_refs;
      room = c.requires.long.on_run;
      asked = rw c.ask_at-a.ensures (omega (arith, c.requires.few_asks, c.if-k-position.false, c.if-position-eq0.false));
      small = c.requires.small;
      table = _;
      read = c.requires.read;
    }

pub move_rows-requires : goal.move_rows-requires
move_rows-requires c =
    (rest_long c.requires.long (rest_work c.tell-told.ensures.row_words c.tell-told.ensures.run_words), c.tell-told.ensures.few)

pub returns : goal.returns
returns c =
    position_told c.requires c.if-position-eq0.false c.if-k-position.false c.ask_at-a.ensures c.tell-told.ensures c.move_rows.ensures
