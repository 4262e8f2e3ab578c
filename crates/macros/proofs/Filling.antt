-- Tables that stand, with the macro column filled.
use Prim.Native.Nat.{ℕ, ◌+◌, ◌%◌, ◌≤◌, ◌<◌}
use native.Mathlib.Omega.{arith}
use mathlib.Core.Path.{◌≡◌, sym, ap, ◌∙◌}
use mathlib.Core.List.{List}
use lib.ListN.{length}
use Rattle.model.specs.Reading.{most_names, most_records}
use Rattle.model.specs.declared.Counts.{Counts}
use Rattle.model.specs.Outcome.{working_words}
use Rattle.names.specs.Known.{excluded_mark}
use Rattle.names.specs.Table.{name_code}
use Rattle.names.proofs.Coded.{table_kept}
use Rattle.words.specs.Slices.{SameBut}
use Rattle.records.specs.Columns.{taken_column, macro_column, first_column, taken_at}
use Rattle.records.specs.Adding.{Standing}
use Rattle.records.proofs.Chaining.{newest_cong}
use Rattle.records.proofs.Standing.{Beside, stocked_longer}
use Rattle.macros.specs.Macros.{macro_count, start_word, macro_word, MacrosOpened, Filled}

-- the words of macros do not depend on the column
macro_same : {names names' : List ℕ} (recs : List ℕ) (named n : ℕ) → named ≤ most_names → n < most_names → SameBut macro_column named names names'
    → macro_word names' recs named n ≡ macro_word names recs named n
unfolding macro_word start_word
macro_same {names} {names'} recs named n few low s =
    let code : (m : ℕ) → m < most_names → name_code names' m ≡ name_code names m = λ m l. ap (◌% excluded_mark) (s.same_words (6144 + m) (λ a b. omega arith)) in
    rw (
      s.same_words (taken_column + n) (λ a b. omega arith),
      code n low,
      newest_cong (name_code names') (name_code names) (name_code names n + macro_count) named (λ m l. code m (omega arith)),
    )

module _ {file names refs rows recs lists : List ℕ} {k : Counts} (st : Standing file names refs rows recs lists k) where
  -- what filling it asks
  pub standing_opens : (k.names ≤ most_names) × (working_words ≤ length names) × (working_words ≤ length recs)
      × ((n : ℕ) → n < k.names → taken_at names n ≤ most_records)
  standing_opens =
      let few = st.tables.name_table.few in
      (few, st.tables.name_table.room, st.recorded.room, λ n l. omega (arith, st.stocked.taken.low n (omega arith), st.recorded.few))

  -- the tables are then as a run asks
  pub standing_filled : {names' : List ℕ} → MacrosOpened names recs names' k.names k.names → Filled file names' recs lists k
  standing_filled {names'} o =
      let few = st.tables.name_table.few in
      let kept = table_kept st.tables.name_table o.same.same_length (λ i l. o.same.same_words i (λ a b. omega arith)) in
      let beside : Beside file names names' k.names = record {
        same = kept.name;
        taken = λ n l. o.same.same_words (taken_column + n) (λ a b. omega arith);
        first = λ n l. o.same.same_words (first_column + n) (λ a b. omega arith);
      } in
      record {
        table = kept.table;
        recorded = st.recorded;
        stocked = stocked_longer st beside;
        macros = λ n l. o.macros n l ∙ sym (macro_same recs k.names n few (omega arith) o.same);
      }
