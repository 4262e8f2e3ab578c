-- The numbers that an engine asks for, in the slices.
use Rattle.std.specs.Prelude.{ℕ, ◌+◌, ◌≤◌, ◌<◌, ◌≡◌, Bool, cond, not, ◌||◌, true, ◌&&◌, List, eqb, length, get_or}
use Rattle.model.specs.Reading.{most_names, most_records, most_entries, most_uses, pretyping_axioms, no_ambients}
use Rattle.model.specs.Outcome.{working_words}
use Rattle.model.specs.declared.Asked.{Asked}
use Rattle.model.specs.declared.Counts.{Counts}
use Rattle.triggers.specs.Entries.{Entries, disjuncts_of_words, no_name}
use Rattle.records.specs.Columns.{record_name, record_flag, uses_start, uses_end, entries_start, entries_end, entry_name, entry_fact, next_entry, macro_at, first_entry, record_kind, summary_code, root_kind, code_of}
use Rattle.records.specs.States.{uses_at, entries_at, takes_part, ask_of}
use Rattle.records.specs.Filing.{newest}
use Rattle.macros.specs.Macros.{opened_word, opens_at, Filled}
use Rattle.firing.specs.Held.{Held, Fits}
use Rattle.firing.specs.Firing.{opened_all}
use Rattle.firing.specs.declared.tables.RecordTables.{RecordTables}
use Rattle.model.specs.Rounds.{asks_for}
use Rattle.model.specs.declared.AsumKind.TheVariants.{Ambient}

-- whether a record is retainable: its flag is 0, or option 2 is on
unfoldable pub retained : List ℕ → Asked → ℕ → Bool
retained recs a i = not (eqb (record_flag recs i) 1) || pretyping_axioms (ask_of recs a)

-- the name on which an entry waits; none where its fact is not admitted
unfoldable pub waits_on : List ℕ → List ℕ → Asked → ℕ → ℕ
waits_on recs lists a e = cond (takes_part recs (ask_of recs a) (entry_fact lists e)) (entry_name lists e) no_name

-- the numbers in the slices
unfoldable pub held_of : List ℕ → List ℕ → List ℕ → Counts → Asked → Held
held_of names recs lists k a =
    record {
      named = k.names;
      records = k.records;
      entries = k.entries;
      takes_part = takes_part recs (ask_of recs a);
      retains = retained recs a;
      row_name = record_name recs;
      frees = uses_at recs lists;
      disjuncts = λ i. disjuncts_of_words (entries_at recs lists i);
      opens = λ n. opens_at recs lists (macro_at names n);
      entry_name = waits_on recs lists a;
      entry_fact = entry_fact lists;
    }

-- what a record meets: its free names, and what they open to
abbrev pub record_meets : List ℕ → List ℕ → List ℕ → ℕ → List ℕ
record_meets names recs lists i = opened_all (λ n. opens_at recs lists (macro_at names n)) (uses_at recs lists i)

-- whether an engine starts with a record: a root of the ask's queries or, without option 1, an ambient root that the ask admits
unfoldable pub starts_at : List ℕ → Asked → ℕ → Bool
starts_at recs a i =
    cond (eqb (record_kind recs i) root_kind)
    (asks_for (ask_of recs a) (record_flag recs i))
    (eqb (summary_code recs i) (code_of (Ambient true)) && (takes_part recs (ask_of recs a) i && not (no_ambients (ask_of recs a))))

-- what the steps of an engine ask of the slices, whatever the ask
pub record Laid (names recs lists : List ℕ) (k : Counts) : Type 0 where
  pub fits : (a : Asked) → Fits (held_of names recs lists k a)
  pub name_room : working_words ≤ length names
  pub record_room : working_words ≤ length recs
  pub list_room : working_words ≤ length lists
  pub few_names : k.names ≤ most_names
  pub few_records : k.records ≤ most_records
  pub few_entries : k.entries ≤ most_entries
  pub use_place : (i : ℕ) → i < k.records → (uses_start recs i ≤ uses_end recs i) × (uses_end recs i ≤ most_uses)
  pub use_small : (i j : ℕ) → i < k.records → uses_start recs i ≤ j → j < uses_end recs i → get_or lists j 0 < k.names
  pub entry_place : (i : ℕ) → i < k.records → (entries_start recs i ≤ entries_end recs i) × (entries_end recs i ≤ most_entries)
  pub entry_words : (i : ℕ) → i < k.records → Entries k.names (entries_at recs lists i)
  pub entry_facts : (e : ℕ) → e < k.entries → entry_fact lists e < k.records
  pub macro_record : (n : ℕ) → n < k.names → macro_at names n < opened_word → macro_at names n ≤ k.records
  pub macro_name : (n : ℕ) → n < k.names → opened_word ≤ macro_at names n → macro_at names n < opened_word + k.names
  pub first : (n : ℕ) → n < k.names → first_entry names n ≡ newest (entry_name lists) n k.entries
  pub next : (e : ℕ) → e < k.entries → entry_name lists e < no_name → next_entry lists e ≡ newest (entry_name lists) (entry_name lists e) e

-- the same of the tables that are lent
abbrev pub IsLaid : RecordTables → Type 0
IsLaid t = Laid t.names.now t.recs.now t.lists.now t.k

-- the numbers in them
abbrev pub held_in : RecordTables → Asked → Held
held_in t a = held_of t.names.now t.recs.now t.lists.now t.k a

-- what the reader filled them with
abbrev pub IsFilled : List ℕ → RecordTables → Type 0
IsFilled file t = Filled file t.names.now t.recs.now t.lists.now t.k
