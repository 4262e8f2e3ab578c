-- `records::add_def` meets its contract.
use native.Mathlib.Omega.{arith}
use Rattle.model.specs.Outcome.{working_words}
use Rattle.records.specs.Adding.{full}
use Rattle.records.proofs.Funs.{row_past, small_row, untouched}
use Rattle.model.proofs.ResultLaws.{refused_is}
use Rattle.gather.proofs.Room.{room_some, room_none}
use Rattle.records.proofs.Uses.{gathered_uses, gathered_over, gathered_past, past_taken, def_repeated, def_crowded, def_over, def_added}
use Rattle.words.proofs.Slices.{same_self}
use Rattle.records.proofs.add_def.Goals as goal

pub returns-then-k-gt-MOST_NAMES : goal.returns-then-k-gt-MOST_NAMES
returns-then-k-gt-MOST_NAMES c = record { «record» = full c.if-k-gt-MOST_NAMES.true; past = untouched }

pub overflow_add-i : goal.overflow_add-i
overflow_add-i c =
    let (st, known) = c.requires.0 c.if-k-gt-MOST_NAMES.false in
    omega (arith, st.tables.name_table.room, st.tables.name_table.few, known)

pub at-requires : goal.at-requires
at-requires c =
    let (st, known) = c.requires.0 c.if-k-gt-MOST_NAMES.false in
    omega (arith, st.tables.name_table.room, st.tables.name_table.few, known)

pub returns-then-at-gt0 : goal.returns-then-at-gt0
returns-then-at-gt0 c =
    let (st, known) = c.requires.0 c.if-k-gt-MOST_NAMES.false in
    record { «record» = def_repeated st _ known c.at.ensures _ c.if-at-gt0.true; past = untouched }

pub returns-then-k-ge-MOST_RECORDS : goal.returns-then-k-ge-MOST_RECORDS
returns-then-k-ge-MOST_RECORDS c =
    let (st, known) = c.requires.0 c.if-k-gt-MOST_NAMES.false in
    record { «record» = def_crowded st _ known c.at.ensures _ c.if-at-gt0.false c.if-k-ge-MOST_RECORDS.true; past = untouched }

pub overflow_cast-mark : goal.overflow_cast-mark
overflow_cast-mark c =
    let st = (c.requires.0 c.if-k-gt-MOST_NAMES.false).0 in
    omega (arith, st.few_marks, st.recorded.few, st.recorded.few_entries)

pub gather_term-requires : goal.gather_term-requires
gather_term-requires c =
    let st = (c.requires.0 c.if-k-gt-MOST_NAMES.false).0 in
    (st.tables.term_table, st.tables.name_table.room, c.requires.1, st.fresh, st.recorded.few_uses, omega (arith, st.recorded.lists_room))

pub returns-in_err-uses : goal.returns-in_err-uses
returns-in_err-uses c =
    let (st, known) = c.requires.0 c.if-k-gt-MOST_NAMES.false in
    let (none, over) = room_none _ _ c.ok_or.ensures.value c.in_err-uses.was in
    let slices = c.gather_term.ensures.slices in
    rw (refused_is c.from_residual.ensures.1, over) (record {
      «record» = def_over st _ known c.at.ensures _ c.if-at-gt0.false c.if-k-ge-MOST_RECORDS.false
          (gathered_over st _ c.gather_term.ensures.set slices none);
      past = gathered_past st _ c.gather_term.ensures.set slices (same_self 0 working_words _);
    })

pub overflow_add-names : goal.overflow_add-names
overflow_add-names c =
    let (st, known) = c.requires.0 c.if-k-gt-MOST_NAMES.false in
    omega (arith, st.tables.name_table.room, st.tables.name_table.few, known)

pub overflow_cast-names : goal.overflow_cast-names
overflow_cast-names c =
    let (st, known) = c.requires.0 c.if-k-gt-MOST_NAMES.false in
    omega (arith, st.tables.name_table.room, st.tables.name_table.few, known)

pub overflow_add-names-2 : goal.overflow_add-names-2
overflow_add-names-2 c =
    let (st, known) = c.requires.0 c.if-k-gt-MOST_NAMES.false in
    omega (arith, st.tables.name_table.room, st.tables.name_table.few, known)

pub offset_bounds-names-i : goal.offset_bounds-names-i
offset_bounds-names-i c =
    let (st, known) = c.requires.0 c.if-k-gt-MOST_NAMES.false in
    omega (arith, st.tables.name_table.room, st.tables.name_table.few, known)

pub bounds-names-i : goal.bounds-names-i
bounds-names-i c =
    let (st, known) = c.requires.0 c.if-k-gt-MOST_NAMES.false in
    omega (arith, st.tables.name_table.room, st.tables.name_table.few, known, c.gather_term.ensures.slices.names_same.same_length)

pub overflow_add-k : goal.overflow_add-k
overflow_add-k c =
    let st = (c.requires.0 c.if-k-gt-MOST_NAMES.false).0 in
    omega (arith, st.few_marks, st.recorded.few, st.recorded.few_entries)

pub put_record-requires : goal.put_record-requires
put_record-requires c =
    let (st, known) = c.requires.0 c.if-k-gt-MOST_NAMES.false in
    let uses = gathered_uses st _ c.gather_term.ensures.set c.gather_term.ensures.slices (room_some _ _ c.ok_or.ensures.value c.in_ok-uses.was) in (
      c.if-k-ge-MOST_RECORDS.false,
      st.recorded.room,
      small_row _ _ _ _ _ _ _ _ _ _ _ _ st c.with_record-next.ensures st.recorded.few_entries uses.fits (omega arith) c.requires.2
          (omega (arith, st.tables.name_table.few, known)) (omega (arith, c.requires.1, st.tables.term_table.few_rows)) (omega arith) (omega arith) (omega arith),
    )

pub returns : goal.returns
returns c =
    let (st, known) = c.requires.0 c.if-k-gt-MOST_NAMES.false in
    let slices = c.gather_term.ensures.slices in
    let uses = gathered_uses st _ c.gather_term.ensures.set slices (room_some _ _ c.ok_or.ensures.value c.in_ok-uses.was) in
    record { «record» = def_added st _ known c.at.ensures _ c.if-at-gt0.false c.if-k-ge-MOST_RECORDS.false c.with_record-next.ensures c.put_record.ensures uses; past = past_taken _ _ (omega (arith, st.tables.name_table.few, known)) (gathered_past st _ c.gather_term.ensures.set slices (row_past c.put_record.ensures)) }
