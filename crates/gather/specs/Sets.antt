-- Sets of names gathered from the terms of a table: marks, and what the slices hold then.
use Rattle.std.specs.Prelude.{ℕ, ◌+◌, ◌-◌, ◌≤◌, ◌<◌, ◌≡◌, ◌↔◌, ◌⊎◌, length, get_or, T}
use mathlib.Core.List.{List, map, Memᴰ}
use Rattle.model.specs.Lists.{part}
use Rattle.model.specs.Names.{Name, from_list, mem}
use Rattle.model.specs.Reading.{most_names, most_terms}
use Rattle.words.specs.Slices.{SameBut}
use Rattle.names.specs.Table.{is_excluded}
use Rattle.std.specs.Prelude.{Option, None as none, Some as some}

-- the columns of marks, by their first word: by name, and by row
abbrev pub name_mark_column : ℕ
name_mark_column = 8192

abbrev pub row_mark_column : ℕ
row_mark_column = 12288

-- the mark of a row
abbrev pub row_mark : List ℕ → ℕ → ℕ
row_mark rows t = get_or rows (row_mark_column + t) 0

-- the mark of a name
abbrev pub name_mark : List ℕ → ℕ → ℕ
name_mark names n = get_or names (name_mark_column + n) 0

-- every mark of the two tables is below this one
pub record Fresh (names rows : List ℕ) (mark : ℕ) : Type 0 where
  pub row_marks : (t : ℕ) → t < most_terms → row_mark rows t < mark
  pub name_marks : (n : ℕ) → n < most_names → name_mark names n < mark

-- names for the numbers of a name table: no two alike, and those that the table says are excluded are those of a list
pub record Named (exclude : List Name) (name : ℕ → Name) (names : List ℕ) (named : ℕ) : Type 0 where
  pub distinct : (m n : ℕ) → m < named → n < named → name m ≡ name n → m ≡ n
  pub excluded : (n : ℕ) → n < named → is_excluded names n ≡ mem (name n) exclude

-- where the names end after gathering: at the room's end where there is no room for all
unfoldable pub ended : ℕ → Option ℕ → ℕ
ended room (some n) = n
ended room none = room

-- what gathering a set of names into a slice from `at` on comes to, where there is room up to `room`: the numbers of its
-- names, each once and each below `named`, or numbers of some of its names and that there are more than fit
pub data Gathers (name : ℕ → Name) (named : ℕ) (set : List Name) (at room : ℕ) (lists : List ℕ) : Option ℕ → Type 0 where
  all_names : {n : ℕ}
      → from_list (map name (part lists at n)) ≡ set → length set + at ≡ n → n ≤ room
      → ((i : ℕ) → at ≤ i → i < n → get_or lists i 0 < named)
      → Gathers name named set at room lists (some n)
  no_room : room < length set + at
      → ((i : ℕ) → at ≤ i → i < room → (get_or lists i 0 < named) × T (mem (name (get_or lists i 0)) set))
      → Gathers name named set at room lists none

-- the slices after gathering: in the tables only marks change, each to the set's or not at all; in `lists` only the places of
-- the numbers, within the room; the names with the set's mark are those in `lists`
pub record Gathered (names rows lists names' rows' lists' : List ℕ) (mark at room : ℕ) (r : Option ℕ) : Type 0 where
  pub names_same : SameBut name_mark_column most_names names names'
  pub rows_same : SameBut row_mark_column most_terms rows rows'
  pub lists_same : SameBut at (ended room r - at) lists lists'
  pub grows : at ≤ ended room r
  pub fits : ended room r ≤ room
  pub small : (i : ℕ) → at ≤ i → i < ended room r → get_or lists' i 0 < most_names
  pub name_marks : (k : ℕ) → k < most_names → (name_mark names' k ≡ mark) ⊎ (name_mark names' k ≡ name_mark names k)
  pub row_marks : (t : ℕ) → t < most_terms → (row_mark rows' t ≡ mark) ⊎ (row_mark rows' t ≡ row_mark rows t)
  pub marks : (k : ℕ) → k < most_names → (name_mark names' k ≡ mark) ↔ Memᴰ k (part lists' at (ended room r))
