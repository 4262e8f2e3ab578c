-- A summary put into the tables: its entries put on the chains of their names, its row written, its name taken.
use Rattle.std.specs.Prelude.{ℕ, ◌+◌, ◌≤◌, ◌<◌, ◌≡◌, List, length, get_or, set}
use Rattle.model.specs.Reading.{most_names, most_records, most_entries}
use Rattle.model.specs.Outcome.{working_words}
use Rattle.model.specs.declared.Counts.{Counts}
use Rattle.words.specs.Slices.{SameBut}
use Rattle.summary.specs.declared.Summary.{Summary}
use Rattle.records.specs.Columns.{assume_kind, code_of, fact_column, next_column, first_column, taken_column, entry_fact}
use Rattle.records.specs.Filing.{Chained}
use Rattle.records.specs.Writing.{with_record, Small, Rowed}

-- the entries from one on up to another put on the chains of their names, as those of a record
pub record Chains (names lists names' lists' : List ℕ) (from to fact : ℕ) : Type 0 where
  pub chained : Chained names' lists' to
  pub names_same : SameBut first_column most_names names names'
  pub lists_length : length lists' ≡ length lists
  pub lists_words : (i : ℕ) → (fact_column + from ≤ i → i < fact_column + to → ⊥) → (next_column + from ≤ i → i < next_column + to → ⊥)
      → get_or lists' i 0 ≡ get_or lists i 0
  pub facts : (e : ℕ) → from ≤ e → e < to → entry_fact lists' e ≡ fact

-- what putting a summary into the tables asks
pub record Puttable (names recs lists : List ℕ) (k : Counts) (line name flag group term : ℕ) (s : Summary) : Type 0 where
  pub chained : Chained names lists k.entries
  pub name_room : working_words ≤ length names
  pub record_room : working_words ≤ length recs
  pub lists_room : working_words ≤ length lists
  pub few : k.records < most_records
  pub known : name < most_names
  pub more : k.entries ≤ s.entries
  pub few_entries : s.entries ≤ most_entries
  pub small : Small k (with_record k s.named s.entries s.uses s.mark) assume_kind line name term flag (code_of s.kind) group

-- a summary put into the tables: the counts, the row, the name taken, the entries chained
pub record Puts (names recs lists names' recs' lists' : List ℕ) (k : Counts) (line name flag group term : ℕ) (s : Summary) (r : Counts) : Type 0 where
  pub counts : r ≡ with_record k s.named s.entries s.uses s.mark
  pub row : Rowed recs recs' k r assume_kind line name term flag (code_of s.kind) group
  pub chains : Chains (set names (taken_column + name) (k.records + 1)) lists names' lists' k.entries s.entries k.records
