-- The rows on numbers: the reached records by the byte order of their names, and for each the names by rank that it lists and
-- that were met no later than its round.
use Rattle.std.specs.Prelude.{ℕ, ◌+◌, ◌*◌, ◌-◌, ◌%◌, ◌≤◌, ◌<◌, ◌≡◌, Bool, ◌&&◌, List, map, T, leb, eqb, length, get_or, take}
use Rattle.model.specs.Lists.{any, keep, collect}
use Rattle.model.specs.Reading.{most_records, most_entries}
use Rattle.model.specs.Outcome.{working_words}
use Rattle.model.specs.Explaining.{most_rows}
use Rattle.model.specs.declared.Counts.{Counts}
use Rattle.model.specs.declared.Row.{Row}
use Rattle.words.specs.Slices.{SameBut}
use Rattle.rows.specs.Rows.{words_of}
use Rattle.names.specs.Table.{ranked}
use Rattle.triggers.specs.Entries.{last_flag}
use Rattle.records.specs.Columns.{record_line, entries_end, taken_at}
use Rattle.records.specs.States.{entries_at}
use Rattle.firing.specs.Tables.{Laid}
use Rattle.firing.specs.Met.{reached_column, is_met}
use Rattle.suppliers.specs.Notes.{supplier_column}
use Rattle.prune.specs.Listing.{from, reached_records}
use Rattle.prune.specs.Loops.{Index}

-- the supplier of a name, and one, as it stands in the slice
abbrev pub supplied : List ℕ → ℕ → ℕ
supplied run n = get_or run (supplier_column + n) 0

-- the third number of a row is below this
abbrev pub half_word : ℕ
half_word = 65536

-- whether an entry of a record has the name
unfoldable pub lists_name : List ℕ → List ℕ → ℕ → ℕ → Bool
lists_name recs lists i n = any (λ x. eqb (x % last_flag) n) (entries_at recs lists i)

-- whether a reached record has a row for a name
unfoldable pub row_due : List ℕ → List ℕ → List ℕ → ℕ → ℕ → Bool
row_due recs lists run i n = lists_name recs lists i n && (is_met run n && leb (get_or run n 0) (get_or run (reached_column + i) 0))

-- the row, where `noted` is the column of suppliers
unfoldable pub row_at : List ℕ → (ℕ → ℕ) → ℕ → ℕ → Row
row_at recs noted i n = record { line = record_line recs i; number = n; cause = record_line recs (noted n - 1) }

-- the rows of a record, by rank
unfoldable pub rows_at : List ℕ → List ℕ → List ℕ → List ℕ → (ℕ → ℕ) → ℕ → ℕ → List Row
rows_at names recs lists run noted named i =
    map (row_at recs noted i) (keep (row_due recs lists run i) (map (ranked names) (from 0 named)))

-- all rows
unfoldable pub rows_in : List ℕ → List ℕ → List ℕ → List ℕ → (ℕ → ℕ) → Counts → List Row
rows_in names recs lists run noted k =
    collect (rows_at names recs lists run noted k.names) (reached_records names run k.names)

-- a record whose entries can be read
pub record EntriesIn (recs lists : List ℕ) (i : ℕ) : Type 0 where
  pub record_room : working_words ≤ length recs
  pub list_room : working_words ≤ length lists
  pub low : i < most_records
  pub high : entries_end recs i ≤ most_entries

-- a word of the column of suppliers that has one: the number of a record on a small line, and one
pub record Supplier (recs : List ℕ) (records word : ℕ) : Type 0 where
  pub some : 0 < word
  pub low : word ≤ records
  pub line : record_line recs (word - 1) < half_word

-- what the rows ask of the tables and of the slice after a run and its suppliers
pub record Explainable (names refs recs lists run : List ℕ) (k : Counts) : Type 0 where
  pub laid : Laid names recs lists k
  pub index : Index names k.names
  pub took : (n : ℕ) → n < k.names → taken_at names n ≤ k.records
  pub row_room : working_words ≤ length refs
  pub run_room : working_words ≤ length run
  pub suppliers : (n : ℕ) → n < k.names → T (is_met run n) → Supplier recs k.records (supplied run n)
  pub fits : length (rows_in names recs lists run (supplied run) k) ≤ most_rows

-- all rows in words from the start of a slice on
pub record RowsPut (names recs lists run : List ℕ) (k : Counts) (before after : List ℕ) (r : ℕ) : Type 0 where
  pub count : r ≡ length (rows_in names recs lists run (supplied run) k)
  pub words : take (2 * r) after ≡ words_of (rows_in names recs lists run (supplied run) k)
  pub same : SameBut 0 (2 * r) before after
