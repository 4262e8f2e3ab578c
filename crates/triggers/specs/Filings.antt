-- Sets of names filed as trigger entries, one after the other: every word of the slices, and where filing stops.
use Rattle.std.specs.Prelude.{ℕ, ◌+◌, ◌-◌, ◌≡◌, Bool, true, false, cond, not, ◌||◌, List, [], ◌∷◌, length, eqb, ltb, Option, None}
use Rattle.model.specs.Lists.{concat, fold_left, part}
use Rattle.terms.specs.Rows.{row_start, row_end, groups_of_words, bare_of, groups_at}
use Rattle.gather.specs.Sets.{name_mark_column, row_mark_column}
use Rattle.gather.specs.Visits.{Visit, visit_list, marked_at, put}
use Rattle.triggers.specs.declared.Filed.{Filed}
use Rattle.triggers.specs.Entries.{filed_sets, entries_column_end, no_name, last_flag}

-- how far filing is: the slices, the mark of the next set, the place of the next entry, and whether a set had no room; mark
-- and place say nothing then
pub record FilingState : Type 0 where
  pub names : List ℕ
  pub rows : List ℕ
  pub lists : List ℕ
  pub mark : ℕ
  pub end : ℕ
  pub full : Bool

-- filing that goes on with these slices, under this mark and from this place on
abbrev pub filing : List ℕ → List ℕ → List ℕ → ℕ → ℕ → FilingState
filing names rows lists mark end = record { names = names; rows = rows; lists = lists; mark = mark; end = end; full = false }

-- the entries of a set, by the numbers of its names: the last has the flag; an empty set takes one
unfoldable pub set_words : List ℕ → List ℕ
set_words [] = (no_name + last_flag) ∷ []
set_words (n ∷ []) = (n + last_flag) ∷ []
set_words (n ∷ m ∷ ns) = n ∷ set_words (m ∷ ns)

-- the set that a walk found: its marks and its entries; where these have no room, since the walk stopped or an empty set
-- comes at the end, the numbers found stand without the flag on the last
unfoldable pub file_set : FilingState → Visit → FilingState
file_set f v =
    let ended = set_words v.found in
    let full = v.full || ltb entries_column_end (f.end + length ended) in
    let written = cond full v.found ended in
    record {
      names = marked_at name_mark_column f.mark v.found f.names;
      rows = marked_at row_mark_column f.mark v.walked f.rows;
      lists = put f.end written f.lists;
      mark = f.mark + length written;
      end = f.end + length written;
      full = full;
    }

-- the reference words of a table, and its counts
module _ (refs : List ℕ) (used many : ℕ) where
  -- the free names of terms as one set; after a set without room none is filed
  unfoldable pub file_list : FilingState → List ℕ → FilingState
  file_list f ts =
      let more = file_set f (visit_list f.names refs f.rows used many (entries_column_end - f.end) ts) in
      cond f.full f more

  -- the pattern groups of the `all` under a term's labels
  unfoldable pub groups_under : List ℕ → ℕ → List (List ℕ)
  groups_under rows t =
      let u = bare_of rows t in
      groups_of_words (part refs (row_start rows u + 1) (row_end rows used many u)) (groups_at rows t)

  -- the triggers of a term: a set for each group
  unfoldable pub file_groups : FilingState → ℕ → FilingState
  file_groups f t = fold_left file_list f (groups_under f.rows t)

  -- the triggers of terms
  unfoldable pub file_parts : FilingState → List ℕ → FilingState
  file_parts f ts = fold_left file_groups f ts

  -- the walk that asks whether a term's triggers are empty: that of its one group, without room, so that it stops at the first
  -- name; a term without groups counts as empty, one with two or more does not, and neither is walked
  unfoldable pub ask_empty : List ℕ → List ℕ → ℕ → Visit
  ask_empty names rows t =
      let walk = visit_list names refs rows used many 0 (concat (groups_under rows t)) in
      let unwalked : Visit = record { found = []; walked = []; full = ltb 1 (groups_at rows t) } in
      cond (eqb (groups_at rows t) 1) walk unwalked

-- the answer and every word of the slices after asking under a mark
pub record AsksAs (v : Visit) (names rows lists names' rows' lists' : List ℕ) (mark : ℕ) (r : Bool) : Type 0 where
  pub answer : r ≡ not v.full
  pub name_words : names' ≡ names
  pub row_words : rows' ≡ marked_at row_mark_column mark v.walked rows
  pub lists_words : lists' ≡ lists

-- the answer and every word of the slices after filing so many sets from `at` on, under marks from `mark` on
pub data FilesAs (f : FilingState) (count : ℕ) (names' rows' lists' : List ℕ) (mark at : ℕ) : Option Filed → Type 0 where
  as_sets : {n e : ℕ} → n ≡ count → f ≡ filing names' rows' lists' (mark + (e - at)) e → FilesAs f count names' rows' lists' mark at (filed_sets n e)
  as_full : f.full ≡ true → names' ≡ f.names → rows' ≡ f.rows → lists' ≡ f.lists → FilesAs f count names' rows' lists' mark at None
