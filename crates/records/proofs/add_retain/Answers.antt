-- `records::add_retain` meets its contract.
use native.Mathlib.Omega.{arith}
use Rattle.model.specs.Outcome.{working_words}
use Rattle.words.proofs.Slices.{same_self}
use Rattle.records.specs.Adding.{full}
use Rattle.records.proofs.Funs.{untouched, row_past, small_row, retain_crowded, retain_added}
use Rattle.records.proofs.add_retain.Goals as goal

pub returns-then-k-gt-MOST_NAMES : goal.returns-then-k-gt-MOST_NAMES
returns-then-k-gt-MOST_NAMES c = record { «record» = full c.if-k-gt-MOST_NAMES.true; past = untouched }

pub returns-then-k-ge-MOST_RECORDS : goal.returns-then-k-ge-MOST_RECORDS
returns-then-k-ge-MOST_RECORDS c =
    record { «record» = retain_crowded (c.requires.0 c.if-k-gt-MOST_NAMES.false) _ c.if-k-ge-MOST_RECORDS.true; past = untouched }

pub put_record-requires : goal.put_record-requires
put_record-requires c =
    let st = c.requires.0 c.if-k-gt-MOST_NAMES.false in (
      c.if-k-ge-MOST_RECORDS.false,
      st.recorded.room,
      small_row _ _ _ _ _ _ _ _ _ _ _ _ st c.with_record-next.ensures st.recorded.few_entries st.recorded.few_uses (omega arith)
          c.requires.1 (omega arith) (omega arith) (omega arith) (omega arith) (omega arith),
    )

pub shape_of-recs : goal.shape_of-recs
shape_of-recs c = c.put_record.ensures.same_length

pub returns : goal.returns
returns c =
    let st = c.requires.0 c.if-k-gt-MOST_NAMES.false in
    record { «record» = retain_added st _ c.if-k-ge-MOST_RECORDS.false c.with_record-next.ensures c.put_record.ensures; past = record { name_words = same_self 0 working_words _; row_words = same_self 0 working_words _; record_words = row_past c.put_record.ensures; list_words = same_self 0 working_words _ } }
