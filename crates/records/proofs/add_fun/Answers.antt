-- `records::add_fun` meets its contract.
use native.Mathlib.Omega.{arith}
use Rattle.records.specs.Adding.{full}
use Rattle.records.proofs.Funs.{small_row, untouched, fun_repeated, fun_crowded, fun_added, fun_past}
use Rattle.records.proofs.add_fun.Goals as goal

pub returns-then-k-gt-MOST_NAMES : goal.returns-then-k-gt-MOST_NAMES
returns-then-k-gt-MOST_NAMES c = record { «record» = full c.if-k-gt-MOST_NAMES.true; past = untouched }

pub overflow_add-i : goal.overflow_add-i
overflow_add-i c =
    let (st, known) = c.requires.0 c.if-k-gt-MOST_NAMES.false in
    omega (arith, st.tables.name_table.room, st.tables.name_table.few)

pub at-requires : goal.at-requires
at-requires c =
    let (st, known) = c.requires.0 c.if-k-gt-MOST_NAMES.false in
    omega (arith, st.tables.name_table.room, st.tables.name_table.few)

pub returns-then-at-gt0 : goal.returns-then-at-gt0
returns-then-at-gt0 c =
    let (st, known) = c.requires.0 c.if-k-gt-MOST_NAMES.false in
    record { «record» = fun_repeated st _ known c.at.ensures c.if-at-gt0.true; past = untouched }

pub returns-then-k-ge-MOST_RECORDS : goal.returns-then-k-ge-MOST_RECORDS
returns-then-k-ge-MOST_RECORDS c =
    let (st, known) = c.requires.0 c.if-k-gt-MOST_NAMES.false in
    record { «record» = fun_crowded st _ known c.at.ensures c.if-at-gt0.false c.if-k-ge-MOST_RECORDS.true; past = untouched }

pub overflow_add-names : goal.overflow_add-names
overflow_add-names c =
    let (st, known) = c.requires.0 c.if-k-gt-MOST_NAMES.false in
    omega (arith, st.tables.name_table.room, st.tables.name_table.few)

pub overflow_cast-names : goal.overflow_cast-names
overflow_cast-names c =
    let (st, known) = c.requires.0 c.if-k-gt-MOST_NAMES.false in
    omega (arith, st.tables.name_table.room, st.tables.name_table.few)

pub overflow_add-names-2 : goal.overflow_add-names-2
overflow_add-names-2 c =
    let (st, known) = c.requires.0 c.if-k-gt-MOST_NAMES.false in
    omega (arith, st.tables.name_table.room, st.tables.name_table.few)

pub offset_bounds-names-i : goal.offset_bounds-names-i
offset_bounds-names-i c =
    let (st, known) = c.requires.0 c.if-k-gt-MOST_NAMES.false in
    omega (arith, st.tables.name_table.room, st.tables.name_table.few)

pub bounds-names-i : goal.bounds-names-i
bounds-names-i c =
    let (st, known) = c.requires.0 c.if-k-gt-MOST_NAMES.false in
    omega (arith, st.tables.name_table.room, st.tables.name_table.few)

pub put_record-requires : goal.put_record-requires
put_record-requires c =
    let (st, known) = c.requires.0 c.if-k-gt-MOST_NAMES.false in (
      c.if-k-ge-MOST_RECORDS.false,
      st.recorded.room,
      small_row _ _ _ _ _ _ _ _ _ _ _ _ st c.with_record-next.ensures st.recorded.few_entries st.recorded.few_uses (omega arith) c.requires.1
          (omega (arith, st.tables.name_table.few)) (omega arith) (omega arith) (omega arith) (omega arith),
    )

pub returns : goal.returns
returns c =
    let (st, known) = c.requires.0 c.if-k-gt-MOST_NAMES.false in
    record { «record» = fun_added st _ known c.at.ensures c.if-at-gt0.false c.if-k-ge-MOST_RECORDS.false c.with_record-next.ensures c.put_record.ensures; past = fun_past st _ known c.at.ensures _ c.put_record.ensures }
