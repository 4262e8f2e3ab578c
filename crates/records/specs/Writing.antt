-- The row of a record written, and the counts with it.
use Rattle.std.specs.Prelude.{ℕ, ◌+◌, ◌*◌, ◌≤◌, ◌<◌, ◌≡◌, Bool, false, List, [], ◌∷◌, length, get_or, set}
use Rattle.model.specs.Reading.{Head, ask, ask2, also, hide, most_groups, most_records}
use Rattle.model.specs.declared.Counts.{Counts}
use Rattle.records.specs.Columns.{record_word, record_kind, record_line, record_name, record_term, record_flag, uses_start, uses_end, entries_start, entries_end}
use Rattle.records.specs.Columns.{summary_code, record_group, ask_query_column, ask_columns, ask_room, ask_query, ask_options, ask_kind, ask_groups, asked_kind, also_kind}
use Rattle.words.specs.Slices.{SameBut}

-- words into the columns of a record's row, from the c-th column on
unfoldable pub put_row : List ℕ → ℕ → ℕ → List ℕ → List ℕ
put_row recs i c [] = recs
put_row recs i c (v ∷ vs) = put_row (set recs (c * most_records + i) v) i (c + 1) vs

-- the counts with a record more: how many hide lines, names, entries and uses there are then, and the next mark
abbrev pub with_line : Counts → ℕ → ℕ → ℕ → ℕ → ℕ → Counts
with_line k hides named entries uses mark = record {
  asks = k.asks;
  grouped = k.grouped;
  hides = hides;
  names = named;
  references = k.references;
  terms = k.terms;
  records = k.records + 1;
  entries = entries;
  uses = uses;
  mark = mark;
}

-- the same of a record that is no hide line
abbrev pub with_record : Counts → ℕ → ℕ → ℕ → ℕ → Counts
with_record k named entries uses mark = with_line k k.hides named entries uses mark

-- the counts with a hide line more
abbrev pub with_hide : Counts → Counts
with_hide k = with_line k (k.hides + 1) k.names k.entries k.uses k.mark

-- the counts before the first line; the first mark is 1, since a cleared slice has marks 0
abbrev pub no_counts : Counts
no_counts = record { asks = 0; grouped = false; hides = 0; names = 0; references = 0; terms = 0; records = 0; entries = 0; uses = 0; mark = 1 }

-- the counts with an ask more, and whether the file is of the form with groups
abbrev pub with_ask : Counts → Bool → Counts
with_ask k grouped = record {
  asks = k.asks + 1;
  grouped = grouped;
  hides = k.hides;
  names = k.names;
  references = k.references;
  terms = k.terms;
  records = k.records;
  entries = k.entries;
  uses = k.uses;
  mark = k.mark;
}

-- the words of a position stay
abbrev pub AskStays : List ℕ → List ℕ → ℕ → Type 0
AskStays recs recs' i =
    (ask_query recs' i ≡ ask_query recs i)
    × (ask_options recs' i ≡ ask_options recs i)
    × (ask_kind recs' i ≡ ask_kind recs i)
    × (ask_groups recs' i ≡ ask_groups recs i)

-- the ask after those counted written, and no word of another position
pub record AskedAt (recs recs' : List ℕ) (k : Counts) (kind query options groups : ℕ) : Type 0 where
  pub inside : k.asks < ask_room
  pub same : SameBut ask_query_column ask_columns recs recs'
  pub others : (i : ℕ) → i < ask_room → (i ≡ k.asks → ⊥) → AskStays recs recs' i
  pub kind_is : ask_kind recs' k.asks ≡ kind
  pub query_is : ask_query recs' k.asks ≡ query
  pub options_is : ask_options recs' k.asks ≡ options
  pub groups_is : ask_groups recs' k.asks ≡ groups

-- the position of a line of the head written: an ask of the older form admits all groups; an also line stands behind another,
-- and has no options and no groups of its own
unfoldable pub PositionAt : List ℕ → List ℕ → Counts → Head → Type 0
PositionAt recs recs' k (ask q options) = AskedAt recs recs' k asked_kind q options most_groups
PositionAt recs recs' k (ask2 q options groups) = AskedAt recs recs' k asked_kind q options groups
PositionAt recs recs' k (also q) = (0 < k.asks) × AskedAt recs recs' k also_kind q 0 0
PositionAt recs recs' k (hide name) = ⊥

-- numbers that fit a word
pub record Small (k k' : Counts) (kind line name term flag code group : ℕ) : Type 0 where
  pub small_kind : kind < 4294967296
  pub small_line : line < 4294967296
  pub small_name : name < 4294967296
  pub small_term : term < 4294967296
  pub small_flag : flag < 4294967296
  pub small_uses : k.uses < 4294967296
  pub small_uses' : k'.uses < 4294967296
  pub small_entries : k.entries < 4294967296
  pub small_entries' : k'.entries < 4294967296
  pub small_code : code < 4294967296
  pub small_group : group < 4294967296

-- the columns of a row
abbrev pub row_columns : ℕ
row_columns = 11

-- the row of the record after those counted: its free names and entries are those counted since; other rows stay
pub record Rowed (recs recs' : List ℕ) (k k' : Counts) (kind line name term flag code group : ℕ) : Type 0 where
  pub same_length : length recs' ≡ length recs
  pub others : (c j : ℕ) → j < most_records → (j ≡ k.records → ⊥) → record_word recs' (c * most_records) j ≡ record_word recs (c * most_records) j
  pub past : (j : ℕ) → row_columns * most_records ≤ j → get_or recs' j 0 ≡ get_or recs j 0
  pub kind_is : record_kind recs' k.records ≡ kind
  pub line_is : record_line recs' k.records ≡ line
  pub name_is : record_name recs' k.records ≡ name
  pub term_is : record_term recs' k.records ≡ term
  pub flag_is : record_flag recs' k.records ≡ flag
  pub uses_from : uses_start recs' k.records ≡ k.uses
  pub uses_to : uses_end recs' k.records ≡ k'.uses
  pub entries_from : entries_start recs' k.records ≡ k.entries
  pub entries_to : entries_end recs' k.records ≡ k'.entries
  pub code_is : summary_code recs' k.records ≡ code
  pub group_is : record_group recs' k.records ≡ group
