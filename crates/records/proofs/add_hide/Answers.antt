-- `records::add_hide` meets its contract.
use native.Mathlib.Omega.{arith}
use Rattle.records.specs.Adding.{full}
use Rattle.records.proofs.Funs.{untouched, small_row}
use Rattle.records.proofs.Hiding.{few_hides, hide_crowded, hide_added, hide_past}
use Rattle.records.proofs.add_hide.Goals as goal

pub returns-then-k-gt-MOST_NAMES : goal.returns-then-k-gt-MOST_NAMES
returns-then-k-gt-MOST_NAMES c = record { «record» = full c.if-k-gt-MOST_NAMES.true; past = untouched }

pub returns-then-k-ge-MOST_RECORDS : goal.returns-then-k-ge-MOST_RECORDS
returns-then-k-ge-MOST_RECORDS c =
    let (st, known) = c.requires.0 c.if-k-gt-MOST_NAMES.false in
    record { «record» = hide_crowded st _ known c.if-k-ge-MOST_RECORDS.true; past = untouched }

pub exclude-requires : goal.exclude-requires
exclude-requires c =
    let (st, known) = c.requires.0 c.if-k-gt-MOST_NAMES.false in
    (omega (arith, st.tables.name_table.few, known), st.tables.name_table.room)

pub with_hide-next-requires : goal.with_hide-next-requires
with_hide-next-requires c =
    let (st, known) = c.requires.0 c.if-k-gt-MOST_NAMES.false in
    (c.if-k-ge-MOST_RECORDS.false, few_hides st)

pub put_record-requires : goal.put_record-requires
put_record-requires c =
    let (st, known) = c.requires.0 c.if-k-gt-MOST_NAMES.false in (
      c.if-k-ge-MOST_RECORDS.false,
      st.recorded.room,
      small_row _ _ _ _ _ _ _ _ _ _ _ _ st c.with_hide-next.ensures st.recorded.few_entries st.recorded.few_uses (omega arith)
          c.requires.1 (omega (arith, st.tables.name_table.few, known)) (omega arith) (omega arith) (omega arith) (omega arith),
    )

pub returns : goal.returns
returns c =
    let (st, known) = c.requires.0 c.if-k-gt-MOST_NAMES.false in
    rw c.exclude.ensures (record { «record» = hide_added st _ known c.if-k-ge-MOST_RECORDS.false c.with_hide-next.ensures c.put_record.ensures; past = hide_past st _ known c.put_record.ensures })
