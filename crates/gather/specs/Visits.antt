-- The walk that gathers a set: depth first, each term once. What it finds, in which order, and where it stops.
use Rattle.std.specs.Prelude.{ℕ, zero, suc, ◌+◌, ◌≡◌, Bool, true, false, cond, not, ◌&&◌, ◌||◌, List, [], ◌∷◌, ◌++◌, length, set, eqb, ltb}
use Rattle.model.specs.Lists.{any, fold_left, part}
use Rattle.terms.specs.Rows.{row_kind, row_head, row_start, row_end, has_head, terms_of_words}
use Rattle.names.specs.Table.{is_excluded}
use Rattle.gather.specs.Sets.{name_mark_column, row_mark_column}
use Rattle.std.specs.Prelude.{Option, None as none, Some as some}

-- how far a walk is: the numbers of the names found, the terms walked to their end, and whether a name had no room
pub record Visit : Type 0 where
  pub found : List ℕ
  pub walked : List ℕ
  pub full : Bool

-- before the first term
unfoldable pub start_visit : Visit
start_visit = record { found = []; walked = []; full = false }

-- whether a number is in a list
unfoldable pub has : List ℕ → ℕ → Bool
has ns n = any (eqb n) ns

-- a name more, where there is room for so many
unfoldable pub find : ℕ → Visit → ℕ → Visit
find room v n =
    cond (ltb (length v.found) room)
    (record { found = v.found ++ (n ∷ []); walked = v.walked; full = false })
    (record { found = v.found; walked = v.walked; full = true })

-- a term is walked to its end, unless the walk has stopped
unfoldable pub finish : ℕ → Visit → Visit
finish t v = cond v.full v (record { found = v.found; walked = v.walked ++ (t ∷ []); full = false })

-- a table's walks, with room for so many names
module _ (names refs rows : List ℕ) (used many room : ℕ) where
  -- the head of a term: found, unless it has none, the name is excluded, or it was found before
  unfoldable pub visit_head : Visit → ℕ → Visit
  visit_head v t =
      let n = row_head rows t in
      let counts = has_head (row_kind rows t) && not (is_excluded names n) in
      cond (counts && not (has v.found n)) (find room v n) v

  -- a term below `depth`: its head, then the terms that it names; a term walked before is not walked again
  unfoldable pub visit_below : ℕ → Visit → ℕ → Visit
  visit_below zero v t = v
  visit_below (suc depth) v t =
      let below = fold_left (visit_below depth) (visit_head v t) (terms_of_words (part refs (row_start rows t) (row_end rows used many t))) in
      cond (v.full || has v.walked t) v (finish t below)

  -- the walk of a term
  unfoldable pub visit_term : ℕ → Visit
  visit_term t = visit_below many start_visit t

  -- the walk of a list of terms
  unfoldable pub visit_list : List ℕ → Visit
  visit_list ts = fold_left (visit_below many) start_visit ts

-- what a walk comes to, where the first name goes to the place `at`
unfoldable pub walk_answer : ℕ → Visit → Option ℕ
walk_answer at v = cond v.full none (some (at + length v.found))

-- a slice with a mark at these numbers of a column
unfoldable pub marked_at : ℕ → ℕ → List ℕ → List ℕ → List ℕ
marked_at column mark ns slice = fold_left (λ l n. set l (column + n) mark) slice ns

-- a slice with these words from a place on
unfoldable pub put : ℕ → List ℕ → List ℕ → List ℕ
put at [] slice = slice
put at (n ∷ ns) slice = put (at + 1) ns (set slice at n)

-- the answer and every word of the slices after a walk
pub record WalksAs (v : Visit) (names rows lists names' rows' lists' : List ℕ) (mark at : ℕ) (r : Option ℕ) : Type 0 where
  pub answer : r ≡ walk_answer at v
  pub name_words : names' ≡ marked_at name_mark_column mark v.found names
  pub row_words : rows' ≡ marked_at row_mark_column mark v.walked rows
  pub lists_words : lists' ≡ put at v.found lists
