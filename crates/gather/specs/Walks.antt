-- What a walk over the terms comes to, in numbers of names.
use Rattle.std.specs.Prelude.{ℕ, ◌-◌, ◌≤◌, ◌<◌, ◌≡◌, false, ◌⊎◌, length, get_or, T}
use mathlib.Core.List.{List, [], Memᴰ}
use Rattle.model.specs.Lists.{fold_left, part}
use Rattle.model.specs.Reading.{most_names, most_terms}
use Rattle.model.specs.Outcome.{working_words}
use Rattle.std.specs.Prelude.{Option, None as none, Some as some}
use Rattle.terms.specs.Rows.{term_of, row_kind, row_head, row_start, row_end, has_head, terms_of_words, Rows}
use Rattle.words.specs.Slices.{SameBut}
use Rattle.names.specs.Table.{is_excluded}
use Rattle.gather.specs.Sets.{name_mark_column, row_mark_column, Fresh, row_mark, name_mark, ended}
use Rattle.gather.specs.Visits.{Visit, visit_head, visit_below, WalksAs}

-- name number k is free in term t: its head, or free in a term that it names
pub data Occurs (refs rows : List ℕ) (used many : ℕ) : ℕ → ℕ → Type 0 where
  own : {t k : ℕ} → T (has_head (row_kind rows t)) → row_head rows t ≡ k → Occurs refs rows used many t k
  under : {t k : ℕ} (i : ℕ) → row_start rows t ≤ i → i < row_end rows used many t
      → Occurs refs rows used many (term_of (get_or refs i 0)) k → Occurs refs rows used many t k

-- term u is reached from term t: it is t, or reached from a term that t names
pub data Reached (refs rows : List ℕ) (used many : ℕ) : ℕ → ℕ → Type 0 where
  itself : {t u : ℕ} → t ≡ u → Reached refs rows used many t u
  below : {t u : ℕ} (i : ℕ) → row_start rows t ≤ i → i < row_end rows used many t
      → Reached refs rows used many (term_of (get_or refs i 0)) u → Reached refs rows used many t u

-- whether a name counts: it is not excluded
pub record NameCounts (names : List ℕ) (k : ℕ) : Type 0 where
  pub small : k < most_names
  pub counted : is_excluded names k ≡ false

-- k is the head of term t, and counts
pub record Own (names rows : List ℕ) (t k : ℕ) : Type 0 where
  pub headed : T (has_head (row_kind rows t))
  pub is : row_head rows t ≡ k
  pub counts : NameCounts names k

-- k is free in term t, and counts
pub record Free (names refs rows : List ℕ) (used many t k : ℕ) : Type 0 where
  pub occurs : Occurs refs rows used many t k
  pub counts : NameCounts names k

-- k is free in a term that a reference from a up to e names, and counts
pub record Among (names refs rows : List ℕ) (used many a e k : ℕ) : Type 0 where
  pub place : ℕ
  pub low : a ≤ place
  pub high : place < e
  pub free : Free names refs rows used many (term_of (get_or refs place 0)) k

-- what adding a head asks
pub record Heads (names rows lists : List ℕ) (t count room : ℕ) : Type 0 where
  pub name_room : working_words ≤ length names
  pub row_room : working_words ≤ length rows
  pub is_row : t < most_terms
  pub head_small : T (has_head (row_kind rows t)) → row_head rows t < most_names
  pub low : count ≤ room
  pub high : room ≤ length lists

-- the names that count of a marked term are marked
pub record MarksClosed (names refs rows : List ℕ) (used many mark : ℕ) : Type 0 where
  pub marked : (t k : ℕ) → t < many → row_mark rows t ≡ mark → Free names refs rows used many t k → name_mark names k ≡ mark

-- what a walk asks of the slices
pub record WalkReady (names refs rows lists : List ℕ) (used many mark count room : ℕ) : Type 0 where
  pub table : Rows refs rows used many most_names
  pub name_room : working_words ≤ length names
  pub closed : MarksClosed names refs rows used many mark
  pub low : count ≤ room
  pub high : room ≤ length lists

-- references from a up to e, each to a term of the table
pub record References (refs : List ℕ) (used many a e : ℕ) : Type 0 where
  pub in_order : a ≤ e
  pub in_use : e ≤ used
  pub in_table : (i : ℕ) → a ≤ i → i < e → term_of (get_or refs i 0) < many

-- the names with the mark are those in `lists` from a place up to n, each once
pub record MarkedListed (names lists : List ℕ) (mark from n : ℕ) : Type 0 where
  pub place : (k : ℕ) → k < most_names → name_mark names k ≡ mark → (i : ℕ) × ((from ≤ i) × (i < n) × (get_or lists i 0 ≡ k))
  pub small : (i : ℕ) → from ≤ i → i < n → get_or lists i 0 < most_names
  pub marked : (i : ℕ) → from ≤ i → i < n → name_mark names (get_or lists i 0) ≡ mark
  pub once : (i j : ℕ) → from ≤ i → i < j → j < n → get_or lists i 0 ≡ get_or lists j 0 → ⊥

-- all names of the set are marked, or there is no room for one of them
pub data Comes (P : ℕ → Type 0) (names : List ℕ) (mark : ℕ) : Option ℕ → Type 0 where
  whole : {n : ℕ} → ((k : ℕ) → P k → name_mark names k ≡ mark) → Comes P names mark (some n)
  over : {k : ℕ} → P k → k < most_names → (name_mark names k ≡ mark → ⊥) → Comes P names mark none

-- what adding the names of a set comes to
pub record Steps (P : ℕ → Type 0) (names lists names' lists' : List ℕ) (mark count room : ℕ) (r : Option ℕ) : Type 0 where
  pub names_same : SameBut name_mark_column most_names names names'
  pub lists_same : SameBut count (ended room r - count) lists lists'
  pub name_marks : (k : ℕ) → k < most_names → (name_mark names' k ≡ mark) ⊎ (name_mark names' k ≡ name_mark names k)
  pub grows : count ≤ ended room r
  pub fits : ended room r ≤ room
  pub listed : (from : ℕ) → from ≤ count → MarkedListed names lists mark from count → MarkedListed names' lists' mark from (ended room r)
  pub sound : (k : ℕ) → k < most_names → name_mark names' k ≡ mark → (name_mark names k ≡ mark) ⊎ P k
  pub comes : Comes P names' mark r

-- what a walk comes to
pub record Walks (P : ℕ → Type 0) (names refs rows lists names' rows' lists' : List ℕ) (used many mark count room : ℕ) (r : Option ℕ) : Type 0 where
  pub steps : Steps P names lists names' lists' mark count room r
  pub rows_same : SameBut row_mark_column most_terms rows rows'
  pub row_marks : (t : ℕ) → t < most_terms → (row_mark rows' t ≡ mark) ⊎ (row_mark rows' t ≡ row_mark rows t)
  pub closed : MarksClosed names' refs rows' used many mark

-- a part of a walk, of the names and rows before the walk and the room for its names
abbrev pub Part : Type 0
Part = List ℕ → List ℕ → ℕ → Visit → Visit

-- the head of a term
unfoldable pub head_part : ℕ → Part
head_part t names rows room v = visit_head names [] rows 0 0 room v t

-- a term
unfoldable pub term_part : List ℕ → ℕ → ℕ → ℕ → Part
term_part refs used many t names rows room v = visit_below names refs rows used many room many v t

-- the terms that the references from a up to e name
unfoldable pub list_part : List ℕ → ℕ → ℕ → ℕ → ℕ → Part
list_part refs used many a e names rows room v = fold_left (visit_below names refs rows used many room many) v (terms_of_words (part refs a e))

-- the slices are those of a walk under a new mark, and its numbers are those of names and of rows
pub record Renders (v : Visit) (names rows lists names' rows' lists' : List ℕ) (mark from : ℕ) (r : Option ℕ) : Type 0 where
  pub new : Fresh names rows mark
  pub walk : WalksAs v names rows lists names' rows' lists' mark from r
  pub found_small : (n : ℕ) → Memᴰ n v.found → n < most_names
  pub walked_small : (t : ℕ) → Memᴰ t v.walked → t < most_terms

-- slices of a walk come to those of the walk with this part more
pub record Follows (part : Part) (names rows lists names' rows' lists' : List ℕ) (mark count room : ℕ) (r : Option ℕ) : Type 0 where
  pub follows : {names₀ rows₀ lists₀ : List ℕ} {from : ℕ} {v : Visit} → Renders v names₀ rows₀ lists₀ names rows lists mark from (some count)
      → Renders (part names₀ rows₀ (room - from) v) names₀ rows₀ lists₀ names' rows' lists' mark from r
