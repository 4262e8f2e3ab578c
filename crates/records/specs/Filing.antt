-- What the record table, the filed entries and the names' columns of filing hold after some lines.
use Rattle.std.specs.Prelude.{ℕ, zero, suc, ◌+◌, ◌-◌, ◌≤◌, ◌<◌, ◌≡◌, cond, ◌⊎◌, List, eqb, length, get_or}
use Rattle.model.specs.Names.{Name}
use Rattle.model.specs.Summaries.{entries}
use Rattle.model.specs.Reading.{most_names, most_records, most_entries, most_uses}
use Rattle.model.specs.Outcome.{working_words}
use Rattle.names.specs.Table.{name_of, Excludes}
use Rattle.triggers.specs.Entries.{disjuncts_of, last_flag, no_name}
use Rattle.records.specs.Columns.{record_kind, record_name, record_term, uses_start, uses_end, entries_start, entries_end, assume_kind, retain_kind, hide_kind, entry_word, entry_name, entry_fact, next_entry, taken_at, first_entry}
use Rattle.records.specs.States.{entries_at, hides_of, excluded_of}

-- the record table: each row has its kind, its name (a retain has none) and its two lists, and the words in use are numbers of
-- names
pub record Records (recs lists : List ℕ) (named records filed uses : ℕ) : Type 0 where
  pub room : working_words ≤ length recs
  pub lists_room : working_words ≤ length lists
  pub few : records ≤ most_records
  pub few_entries : filed ≤ most_entries
  pub few_uses : uses ≤ most_uses
  pub kinds : (i : ℕ) → i < records → record_kind recs i ≤ hide_kind
  pub named_in : (i : ℕ) → i < records → (record_kind recs i ≡ retain_kind → ⊥) → record_name recs i < named
  pub rising : (i : ℕ) → i < records → uses_start recs i ≤ uses_end recs i
  pub uses_in : (i : ℕ) → i < records → uses_end recs i ≤ uses
  pub entries_in : (i : ℕ) → i < records → entries_end recs i ≤ filed
  pub use_words : (j : ℕ) → j < uses → get_or lists j 0 < named
  pub entry_words : (e : ℕ) → e < filed → (entry_name lists e < named) ⊎ (entry_name lists e ≡ no_name)

-- the term of each fact is one of the table
abbrev pub Termed : List ℕ → ℕ → ℕ → Type 0
Termed recs records terms = (i : ℕ) → i < records → record_kind recs i ≡ assume_kind → record_term recs i < terms

-- one more than the last number below e of which f is n, 0 where there is none
unfoldable pub newest : (ℕ → ℕ) → ℕ → ℕ → ℕ
newest f n zero = 0
newest f n (suc e) = let older = newest f n e in cond (eqb (f e) n) (suc e) older

-- the filed entries stand on the chains of their names, newest first; that of an empty disjunct on none
pub record Chained (names lists : List ℕ) (filed : ℕ) : Type 0 where
  pub first : (n : ℕ) → n < most_names → first_entry names n ≡ newest (entry_name lists) n filed
  pub next : (e : ℕ) → e < filed → entry_name lists e < no_name → next_entry lists e ≡ newest (entry_name lists) (entry_name lists e) e

-- where the entries of the records before the n-th end
unfoldable pub entries_before : List ℕ → ℕ → ℕ
entries_before recs zero = 0
entries_before recs (suc n) = entries_end recs n

-- the entries of the records follow each other, as many as their disjuncts take; only facts have some, and each says its fact
pub record Filing (name : ℕ → Name) (recs lists : List ℕ) (records filed : ℕ) : Type 0 where
  pub starts : (i : ℕ) → i < records → entries_start recs i ≡ entries_before recs i
  pub whole : entries_before recs records ≡ filed
  pub sized : (i : ℕ) → i < records → entries_end recs i ≡ entries_start recs i + entries (disjuncts_of name (entries_at recs lists i))
  pub only_facts : (i : ℕ) → i < records → (record_kind recs i ≡ assume_kind → ⊥) → entries_end recs i ≡ entries_start recs i
  pub facts : (i e : ℕ) → i < records → entries_start recs i ≤ e → e < entries_end recs i → entry_fact lists e ≡ i
  -- an entry is a name's number or none, and the last of a record ends its disjunct
  pub flagged : (e : ℕ) → e < filed → entry_word lists e < last_flag + last_flag
  pub ended : (i : ℕ) → i < records → entries_start recs i < entries_end recs i → last_flag ≤ entry_word lists (entries_end recs i - 1)

-- the taken column says which assume, fun or def took a name
pub record Taken (names recs : List ℕ) (records : ℕ) : Type 0 where
  pub took : (i : ℕ) → i < records → record_kind recs i < retain_kind → taken_at names (record_name recs i) ≡ i + 1
  pub low : (n : ℕ) → n < most_names → taken_at names n ≤ records
  pub takes : (n i : ℕ) → n < most_names → taken_at names n ≡ i + 1 → (record_kind recs i < retain_kind) × (record_name recs i ≡ n)

-- what filing keeps beside the record table
pub record Stocked (file names recs lists : List ℕ) (records filed : ℕ) : Type 0 where
  pub filing : Filing (name_of file names) recs lists records filed
  pub taken : Taken names recs records
  pub chained : Chained names lists filed

-- the hide lines are as many as are counted, and the name table tells the excluded names
pub record Hiding (file names recs : List ℕ) (named records hides : ℕ) : Type 0 where
  pub counted : length (hides_of recs records) ≡ hides
  pub excludes : Excludes (excluded_of (name_of file names) recs records) file names named
