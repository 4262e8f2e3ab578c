-- Tables that stand: before the first line, with the ask, and with more names and terms.
use Prim.Native.Nat.{ℕ, ◌+◌, ◌≤◌, ◌<◌}
use native.Mathlib.Omega.{arith}
use mathlib.Core.Path.{◌≡◌, refl}
use mathlib.Core.List.{List}
use lib.ListN.{length, get_or}
use Rattle.model.specs.Reading.{most_names}
use Rattle.model.specs.declared.Counts.{Counts}
use Rattle.model.specs.Outcome.{working_words}
use Rattle.names.specs.Table.{name_of}
use Rattle.names.proofs.Laws.{empty_table}
use Rattle.terms.proofs.Table.{empty_rows}
use Rattle.records.specs.Columns.{record_kind, record_name, retain_kind, taken_column, first_column, taken_at, first_entry}
use Rattle.records.specs.States.{decls_of, roots_of, hides_of, hidden_of}
use Rattle.records.specs.Filing.{newest, entries_before, Stocked}
use Rattle.records.specs.Writing.{no_counts}
use Rattle.records.specs.Adding.{Standing}
use Rattle.records.proofs.Chaining.{chained_kept}
use Rattle.records.proofs.Recording.{Agree, hidden_stay, decls_stay, roots_stay}
use Rattle.records.proofs.Keeping.{filing_kept, taken_kept}

-- ---- before the first line

module _ (file names refs rows recs lists : List ℕ) (short : length file ≤ 65535) (name_room : working_words ≤ length names)
    (ref_room : working_words ≤ length refs) (row_room : working_words ≤ length rows)
    (record_room : working_words ≤ length recs) (lists_room : working_words ≤ length lists) (names_zero : (i : ℕ) → i < working_words → get_or names i 0 ≡ 0)
    (rows_zero : (i : ℕ) → i < working_words → get_or rows i 0 ≡ 0) where
  stocked_start : Stocked file names recs lists 0 0
  unfolding entries_before newest
  stocked_start = record {
    filing = record {
      starts = λ i h. absurd (omega arith);
      whole = refl;
      sized = λ i h. absurd (omega arith);
      only_facts = λ i h d. absurd (omega arith);
      facts = λ i e h a b. absurd (omega arith);
      flagged = λ e h. absurd (omega arith);
      ended = λ i h l. absurd (omega arith);
    };
    taken = record {
      took = λ i h k. absurd (omega arith);
      low = λ n l. omega (arith, names_zero (taken_column + n) (omega arith));
      takes = λ n i l e. absurd (omega (arith, names_zero (taken_column + n) (omega arith)));
    };
    chained = record { first = λ n l. names_zero (first_column + n) (omega arith); next = λ e h l. absurd (omega arith) };
  }

  -- cleared slices stand
  pub standing_start : Standing file names refs rows recs lists no_counts
  unfolding hides_of
  standing_start = record {
    tables = record { name_table = empty_table file names name_room short; term_table = empty_rows refs rows 0 ref_room row_room (omega arith) };
    recorded = record {
      room = record_room;
      lists_room = lists_room;
      few = omega arith;
      few_entries = omega arith;
      few_uses = omega arith;
      kinds = λ i h. absurd (omega arith);
      named_in = λ i h q. absurd (omega arith);
      rising = λ i h. absurd (omega arith);
      uses_in = λ i h. absurd (omega arith);
      entries_in = λ i h. absurd (omega arith);
      use_words = λ j h. absurd (omega arith);
      entry_words = λ e h. absurd (omega arith);
    };
    termed = λ i h q. absurd (omega arith);
    fresh = record {
      row_marks = λ t l. omega (arith, rows_zero (12288 + t) (omega arith));
      name_marks = λ n l. omega (arith, names_zero (8192 + n) (omega arith));
    };
    few_marks = omega arith;
    stocked = stocked_start;
    hiding = record { counted = refl; excludes = λ n h. absurd (omega arith) };
  }

-- ---- with more names and terms

-- a slice with the same names, taken and first words
pub record Beside (file names names' : List ℕ) (named : ℕ) : Type 0 where
  pub same : (n : ℕ) → n < named → name_of file names' n ≡ name_of file names n
  pub taken : (n : ℕ) → n < most_names → taken_at names' n ≡ taken_at names n
  pub first : (n : ℕ) → n < most_names → first_entry names' n ≡ first_entry names n

module _ {file names refs rows recs lists names' : List ℕ} {k : Counts} (st : Standing file names refs rows recs lists k)
    (b : Beside file names names' k.names) where
  -- the records stay
  agree : Agree (name_of file names) (name_of file names') recs lists recs lists k.names k.records k.entries k.uses
  agree = record { same = b.same; rows = λ c i l h. refl; lists_length = refl; use_words = λ j h. refl; entry_words = λ e h. refl }

  -- so does what is filed
  pub stocked_longer : Stocked file names' recs lists k.records k.entries
  stocked_longer =
      let small : (i : ℕ) → i < k.records → record_kind recs i < retain_kind → record_name recs i < most_names =
      λ i l h. omega (arith, st.recorded.named_in i l (λ z. omega arith), st.tables.name_table.few) in
      record {
        filing = filing_kept agree st.recorded st.stocked.filing (λ e h. refl);
        taken = taken_kept (λ c i l h. refl) st.stocked.taken small b.taken;
        chained = chained_kept st.stocked.chained b.first (λ e l. refl) (λ e l. refl);
      }

  -- and the background and the roots
  pub decls_longer : decls_of (name_of file names') recs lists k.records ≡ decls_of (name_of file names) recs lists k.records
  decls_longer = decls_stay agree st.recorded k.records (omega arith)

  pub roots_longer : roots_of (name_of file names') recs lists k.records ≡ roots_of (name_of file names) recs lists k.records
  roots_longer = roots_stay agree st.recorded k.records (omega arith)

  pub hidden_longer : hidden_of (name_of file names') recs k.records ≡ hidden_of (name_of file names) recs k.records
  hidden_longer = hidden_stay agree st.recorded k.records (omega arith)
