-- Trigger entries in a lent slice: an entry is the number of a name, or `no_name` for a disjunct that has none; `last_flag`
-- is added to the last entry of its disjunct. The names of a disjunct stand in the order in which its walk finds them.
use Rattle.std.specs.Prelude.{ℕ, ◌+◌, ◌-◌, ◌%◌, ◌≤◌, ◌<◌, ◌≡◌, cond, ◌⊎◌, length, get_or, set, ltb, Option, None, Some}
use mathlib.Core.List.{List, [], ◌∷◌, ◌++◌, map, Memᴰ}
use Rattle.model.specs.Lists.{part}
use Rattle.model.specs.Names.{Name, from_list}
use Rattle.model.specs.Summaries.{entries}
use Rattle.model.specs.Reading.{most_names, most_terms}
use Rattle.model.specs.Outcome.{working_words}
use Rattle.words.specs.Slices.{word_limit, SameBut}
use Rattle.gather.specs.Sets.{name_mark_column, row_mark_column, Fresh}
use Rattle.triggers.specs.declared.Filed.{Filed}

-- where the entries of the facts start in the slice, and where they end
abbrev pub entries_base : ℕ
entries_base = 6144

abbrev pub entries_column_end : ℕ
entries_column_end = 8192

-- the entry of a disjunct that has no name
abbrev pub no_name : ℕ
no_name = 2048

-- what is added to the last entry of its disjunct
abbrev pub last_flag : ℕ
last_flag = 4096

-- the number of the name of an entry, if it has one
unfoldable pub entry_number : ℕ → List ℕ
entry_number w = cond (ltb (w % last_flag) no_name) (w % last_flag ∷ []) []

-- numbers at the front of the first disjunct
unfoldable pub before_first : List ℕ → List (List ℕ) → List (List ℕ)
before_first ns [] = ns ∷ []
before_first ns (d ∷ ds) = (ns ++ d) ∷ ds

-- the disjuncts that entries hold, as numbers of names
unfoldable pub disjuncts_of_words : List ℕ → List (List ℕ)
disjuncts_of_words [] = []
disjuncts_of_words (w ∷ ws) =
    let more = disjuncts_of_words ws in
    cond (ltb w last_flag) (before_first (entry_number w) more) (entry_number w ∷ more)

-- the disjuncts that entries hold: a set of names each
unfoldable pub disjuncts_of : (ℕ → Name) → List ℕ → List (List Name)
disjuncts_of name ws = map (λ ns. from_list (map name ns)) (disjuncts_of_words ws)

-- entries whose names are among `named` names, and whose last ends its disjunct
pub record Entries (named : ℕ) (ws : List ℕ) : Type 0 where
  pub small : (w : ℕ) → Memᴰ w ws → (w % last_flag < named) ⊎ (w % last_flag ≡ no_name)
  pub flagged : (w : ℕ) → Memᴰ w ws → w < last_flag + last_flag
  pub closed : (i : ℕ) → i + 1 ≡ length ws → last_flag ≤ get_or ws i 0

-- so many disjuncts, whose entries end there
abbrev pub filed_sets : ℕ → ℕ → Option Filed
filed_sets n e =
    let f : Filed = record { sets = n; end = e } in
    Some f

-- where the entries end: at 8,192 where there is no room for all
unfoldable pub filed_end : Option Filed → ℕ
filed_end (Some f) = f.end
filed_end None = entries_column_end

-- what filing disjuncts from `at` on comes to: their entries in order, their number and where they end, or that there are
-- more than fit
pub data Files (name : ℕ → Name) (named : ℕ) (sets : List (List Name)) (at : ℕ) (lists : List ℕ) : Option Filed → Type 0 where
  all_sets : {n e : ℕ}
      → disjuncts_of name (part lists at e) ≡ sets → n ≡ length sets → e ≡ at + entries sets → e ≤ entries_column_end
      → Entries named (part lists at e)
      → Files name named sets at lists (filed_sets n e)
  no_room : entries_column_end < at + entries sets → Files name named sets at lists None

-- the slices after filing: in the tables only marks change, all below the next one; in `lists` only the entries, one or more
-- for each set
pub record EntriesFilled (names rows lists names' rows' lists' : List ℕ) (mark at : ℕ) (r : Option Filed) : Type 0 where
  pub names_same : SameBut name_mark_column most_names names names'
  pub rows_same : SameBut row_mark_column most_terms rows rows'
  pub lists_same : SameBut at (filed_end r - at) lists lists'
  pub low : at ≤ filed_end r
  pub high : filed_end r ≤ entries_column_end
  pub few : (n e : ℕ) → r ≡ filed_sets n e → n + at ≤ e
  pub fresh : (n e : ℕ) → r ≡ filed_sets n e → Fresh names' rows' (mark + (e - at))

-- what ending a disjunct comes to
pub data Closes (lists lists' : List ℕ) (at end : ℕ) : Option Filed → Type 0 where
  last : at < end → lists' ≡ set lists (end - 1) (get_or lists (end - 1) 0 + last_flag) → Closes lists lists' at end (filed_sets 1 end)
  empty : at ≡ end → at < entries_column_end → lists' ≡ set lists at (no_name + last_flag) → Closes lists lists' at end (filed_sets 1 (at + 1))
  over : at ≡ end → entries_column_end ≤ at → lists' ≡ lists → Closes lists lists' at end None

-- what filing from `at` on asks: marks below the next one, and a mark for each entry that is left
pub record Opened (names rows lists : List ℕ) (mark at : ℕ) : Type 0 where
  pub name_room : working_words ≤ length names
  pub fresh : Fresh names rows mark
  pub low : at ≤ entries_column_end
  pub high : entries_column_end ≤ length lists
  pub few_marks : mark + (entries_column_end - at) < word_limit
