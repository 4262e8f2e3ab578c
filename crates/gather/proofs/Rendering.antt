-- The slices during a walk: each way through the functions comes to the slices of the walk with a part more.
use Prim.Native.Nat.{ℕ, ◌+◌, ◌-◌, ◌%◌, ◌≤◌, ◌<◌}
use native.Mathlib.Omega.{arith}
use mathlib.Core.Path.{◌≡◌, refl, sym, ap, ◌∙◌}
use mathlib.Core.Bool.{Bool, true, false, cond, not, ◌&&◌}
use mathlib.Core.Logic.{⊎_elim}
use mathlib.Core.List.Memᴰ
use mathlib.Core.List.{List, [], ◌∷◌, ◌++◌}
use lib.ListN.{length, get_or, set, length-append}
use borrow.Author.Tests.{lt-ltb, le-ltb}
use Rattle.model.specs.Lists.{fold_left, part}
use Rattle.model.proofs.ListLaws.{true_T, fold_left_append}
use Rattle.model.proofs.PartLaws.{part_nil}
use Rattle.std.specs.Prelude.{Option, None as none, Some as some}
use Rattle.terms.specs.Rows.{row_kind, row_head, row_start, row_end, has_head, terms_of_words, Rows}
use Rattle.terms.proofs.Groups.{terms_split, terms_more}
use Rattle.words.specs.Slices.{SameBut}
use Rattle.names.specs.Table.{is_excluded}
use Rattle.gather.specs.Sets.{row_mark, name_mark, Fresh}
use Rattle.gather.specs.Visits.{Visit, start_visit, has, find, finish, visit_head, visit_below, walk_answer, marked_at, put, WalksAs}
use Rattle.gather.specs.Walks.{Heads, WalkReady, References, Part, head_part, term_part, list_part, Renders, Follows}
use Rattle.words.proofs.Slices.{same_back}
use Rattle.gather.proofs.Walking.{excluded_same, kind_same, head_same, start_same, end_same, rows_marked}
use Rattle.gather.proofs.Visiting.{marked_more, marked_same, marked_has, unmarked_has, put_more, fold_full, visit_parts}

-- ---- what the slices tell of a walk

-- after names the walk has not stopped, and the names end at its last
pub answer_names : (from : ℕ) (v : Visit) {n : ℕ} → some n ≡ walk_answer from v → (v.full ≡ false) × (n ≡ from + length v.found)
unfolding walk_answer
answer_names from v {n} e = go v.full refl e
  where
    go : (b : Bool) → v.full ≡ b → some n ≡ cond b none (some (from + length v.found))
        → (v.full ≡ false) × (n ≡ from + length v.found)
    go true q e = let z : ◌≡◌ {A = ℕ} 0 1 = cc in let n : ⊥ = omega arith in absurd n
    go false q e = (q, cc)

-- without room it has
pub answer_full : (from : ℕ) (v : Visit) → none ≡ walk_answer from v → v.full ≡ true
unfolding walk_answer
answer_full from v e = go v.full refl e
  where
    go : (b : Bool) → v.full ≡ b → none ≡ cond b none (some (from + length v.found)) → v.full ≡ true
    go true q e = q
    go false q e = let z : ◌≡◌ {A = ℕ} 0 1 = cc in let n : ⊥ = omega arith in absurd n

module _ {v : Visit} {names rows lists names' rows' lists' : List ℕ} {mark from : ℕ} {r : Option ℕ} (h : Renders v names rows lists names' rows' lists' mark from r) where
  -- the names differ in marks alone
  names_as : SameBut 8192 2048 names names'
  names_as = rw h.walk.name_words (marked_same 8192 mark 2048 v.found names h.found_small)

  -- and so do the rows
  rows_as : SameBut 12288 4096 rows rows'
  rows_as = rw h.walk.row_words (marked_same 12288 mark 4096 v.walked rows h.walked_small)

  -- a name with the mark was found
  found_true : (n : ℕ) → n < 2048 → name_mark names' n ≡ mark → has v.found n ≡ true
  found_true n l e = marked_has 8192 mark n v.found names (λ q. let z = h.new.name_marks n l in omega arith) (rw h.walk.name_words at e)

  -- a name without it was not
  found_false : (n : ℕ) → n < 2048 → 16384 ≤ length names' → (name_mark names' n ≡ mark → ⊥) → has v.found n ≡ false
  found_false n l k d = unmarked_has 8192 mark n v.found names (λ q. let z = h.new.name_marks n l in omega arith) (omega (arith, names_as.same_length))
      (λ q. d (rw h.walk.name_words q))

  -- a row with the mark was walked
  walked_true : (t : ℕ) → t < 4096 → row_mark rows' t ≡ mark → has v.walked t ≡ true
  walked_true t l e = marked_has 12288 mark t v.walked rows (λ q. let z = h.new.row_marks t l in omega arith) (rw h.walk.row_words at e)

  -- a row without it was not
  walked_false : (t : ℕ) → t < 4096 → 16384 ≤ length rows' → (row_mark rows' t ≡ mark → ⊥) → has v.walked t ≡ false
  walked_false t l k d = unmarked_has 12288 mark t v.walked rows (λ q. let z = h.new.row_marks t l in omega arith) (omega (arith, rows_as.same_length))
      (λ q. d (rw h.walk.row_words q))

-- ---- the head of a term

-- the walk of a head by its tests
head_by : (names rows : List ℕ) (room : ℕ) (v : Visit) (t n : ℕ) {a b c : Bool} → n ≡ row_head rows t → has_head (row_kind rows t) ≡ a
    → is_excluded names n ≡ b → has v.found n ≡ c
    → head_part t names rows room v ≡ cond ((a && not b) && not c) (find room v n) v
unfolding head_part visit_head
head_by names rows room v t n i p q s = rw (← i, p, q, s)

-- a name more, where there is room
find_more : (room : ℕ) (v : Visit) (n : ℕ) → length v.found < room
    → find room v n ≡ record { found = v.found ++ (n ∷ []); walked = v.walked; full = false }
unfolding find
find_more room v n h = rw (lt-ltb (length v.found) room h)

-- and where there is none
find_full : (room : ℕ) (v : Visit) (n : ℕ) → room ≤ length v.found → find room v n ≡ record { found = v.found; walked = v.walked; full = true }
unfolding find
find_full room v n h = rw (le-ltb (length v.found) room h)

module _ {names rows lists : List ℕ} {t count room : ℕ} (h : Heads names rows lists t count room) (mark : ℕ) where
  -- the row has no head
  pub follow_none : has_head (row_kind rows t) ≡ false → Follows (head_part t) names rows lists names rows lists mark count room (some count)
  follow_none e = record {
    follows = λ {names₀} {rows₀} {lists₀} {from} {v} w.
        let k : has_head (row_kind rows₀ t) ≡ false = ap has_head (sym (kind_same (rows_as w) t h.is_row)) ∙ e in
        rw (head_by names₀ rows₀ (room - from) v t (row_head rows₀ t) refl k refl refl) w;
  }

  module _ (n : ℕ) (is : n ≡ row_head rows t) (headed : has_head (row_kind rows t) ≡ true) where
    -- the head is the number of a name
    small : n < 2048
    small = rw is (h.head_small (true_T headed))

    -- the walk of the head by what the slices tell of it
    head_told : {names₀ rows₀ lists₀ : List ℕ} {from : ℕ} {v : Visit} {b c : Bool} → Renders v names₀ rows₀ lists₀ names rows lists mark from (some count)
        → is_excluded names n ≡ b → has v.found n ≡ c → head_part t names₀ rows₀ (room - from) v ≡ cond (not b && not c) (find (room - from) v n) v
    head_told {names₀} {rows₀} {from} {v} w p q =
        let s = small in
        head_by names₀ rows₀ (room - from) v t n (is ∙ head_same (rows_as w) t h.is_row) (ap has_head (sym (kind_same (rows_as w) t h.is_row)) ∙ headed)
        (sym (excluded_same (names_as w) n s) ∙ p) q

    -- the head does not count
    pub follow_excluded : is_excluded names n ≡ true → Follows (head_part t) names rows lists names rows lists mark count room (some count)
    follow_excluded e = record { follows = λ w. rw (head_told w e refl) w }

    module _ (counted : is_excluded names n ≡ false) where
      -- the head is there already
      pub follow_found : name_mark names n ≡ mark → Follows (head_part t) names rows lists names rows lists mark count room (some count)
      follow_found e = record { follows = λ w. rw (head_told w counted (found_true w n small e)) w }

      module _ (new : name_mark names n ≡ mark → ⊥) where
        -- there is no room for the head
        pub follow_over : room ≤ count → Follows (head_part t) names rows lists names rows lists mark count room none
        unfolding walk_answer
        follow_over e = record {
          follows = λ {from} {v} w.
              let (going, ends) = answer_names from v w.walk.answer in
              rw (head_told w counted (found_false w n small h.name_room new) ∙ find_full (room - from) v n (omega arith))
              (record {
                new = w.new;
                walk = record { answer = refl; name_words = w.walk.name_words; row_words = w.walk.row_words; lists_words = w.walk.lists_words };
                found_small = w.found_small;
                walked_small = w.walked_small;
              });
        }

        -- the head is added
        pub follow_added : count < room → Follows (head_part t) names rows lists (set names (8192 + n) mark) rows (set lists count n) mark count room
            (some (count + 1))
        unfolding walk_answer
        follow_added e = record {
          follows = λ {names₀} {rows₀} {lists₀} {from} {v} w.
              let (going, ends) = answer_names from v w.walk.answer in
              let more : count + 1 ≡ from + length (v.found ++ (n ∷ [])) = simp length-append (omega arith) in
              rw (head_told w counted (found_false w n small h.name_room new) ∙ find_more (room - from) v n (omega arith))
              (record {
                new = w.new;
                walk = record {
                  answer = ap some more;
                  name_words = rw w.walk.name_words (sym (marked_more 8192 mark v.found n names₀));
                  row_words = w.walk.row_words;
                  lists_words = rw (w.walk.lists_words, ends) (sym (put_more from v.found n lists₀));
                };
                found_small = λ m i. ⊎_elim (w.found_small m) (λ j. let q : m ≡ n = Memᴰ.eq_of_singleton j in rw q small)
                    (Memᴰ.append_cases v.found i);
                walked_small = w.walked_small;
              });
        }

-- ---- parts one after the other

-- two parts, one after the other
abbrev both : Part → Part → Part
both f g names rows room v = g names rows room (f names rows room v)

-- one part after another
follows_then : {f g : Part} {names rows lists names' rows' lists' names'' rows'' lists'' : List ℕ} {mark count n room : ℕ} {r : Option ℕ}
    → Follows f names rows lists names' rows' lists' mark count room (some n) → Follows g names' rows' lists' names'' rows'' lists'' mark n room r
    → Follows (both f g) names rows lists names'' rows'' lists'' mark count room r
follows_then x y = record { follows = λ w. y.follows (x.follows w) }

-- an answer that was taken apart
pub follows_is : {f : Part} {names rows lists names' rows' lists' : List ℕ} {mark count room : ℕ} {r r' : Option ℕ} → r ≡ r'
    → Follows f names rows lists names' rows' lists' mark count room r → Follows f names rows lists names' rows' lists' mark count room r'
follows_is e w = rw e at w

-- a part under a new mark is the walk
pub follows_start : {f : Part} {names rows lists names' rows' lists' : List ℕ} {mark from room : ℕ} {r : Option ℕ} → Fresh names rows mark
    → Follows f names rows lists names' rows' lists' mark from room r
    → WalksAs (f names rows (room - from) start_visit) names rows lists names' rows' lists' mark from r
unfolding start_visit walk_answer marked_at put fold_left
follows_start {from} new w =
    let z : from ≡ from + 0 = omega arith in
    (w.follows (record {
      new = new;
      walk = record { answer = ap some z; name_words = refl; row_words = refl; lists_words = refl };
      found_small = λ n i. absurd (Memᴰ.not-nil i);
      walked_small = λ n i. absurd (Memᴰ.not-nil i);
    })).walk

-- ---- a term

-- a walk that has stopped does not finish a term
finish_full : (t : ℕ) (v : Visit) → v.full ≡ true → finish t v ≡ v
unfolding finish
finish_full t v h = rw h

-- any other does
finish_more : (t : ℕ) (v : Visit) → v.full ≡ false → finish t v ≡ record { found = v.found; walked = v.walked ++ (t ∷ []); full = false }
unfolding finish
finish_more t v h = rw h

module _ {names refs rows lists : List ℕ} {used many mark count room t : ℕ} (h : WalkReady names refs rows lists used many mark count room) (l : t < many) where
  module _ {names₀ rows₀ lists₀ : List ℕ} {from : ℕ} {v : Visit} (w : Renders v names₀ rows₀ lists₀ names rows lists mark from (some count)) where
    -- the rows before the walk are a table
    table₀ : Rows refs rows₀ used many 2048
    table₀ = rows_marked (same_back (rows_as w)) h.table

    -- the term is a row
    is_row : t < 4096
    is_row = let few = h.table.few_rows in omega arith

    -- a term with the mark is not walked
    term_there : row_mark rows t ≡ mark → term_part refs used many t names₀ rows₀ (room - from) v ≡ v
    unfolding term_part
    term_there e = rw (visit_parts names₀ refs rows₀ used many (room - from) table₀ v t l, (answer_names from v w.walk.answer).0, walked_true w t is_row e)

    -- any other is: its head, then the terms that it names
    term_open : {a e : ℕ} → (row_mark rows t ≡ mark → ⊥) → a ≡ row_start rows t → e ≡ row_end rows used many t
        → term_part refs used many t names₀ rows₀ (room - from) v ≡ finish t (both (head_part t) (list_part refs used many a e) names₀ rows₀ (room - from) v)
    unfolding term_part list_part head_part visit_head
    term_open d p q =
        rw (
          visit_parts names₀ refs rows₀ used many (room - from) table₀ v t l,
          (answer_names from v w.walk.answer).0,
          walked_false w t is_row h.table.row_room d,
          p,
          q,
          start_same (rows_as w) t is_row,
          end_same (rows_as w) used many t h.table.few_rows l,
        )

  -- a term with the mark
  pub follow_there : row_mark rows t ≡ mark → Follows (term_part refs used many t) names rows lists names rows lists mark count room (some count)
  follow_there e = record { follows = λ w. rw (term_there w e) w }

  module _ {a e : ℕ} (new : row_mark rows t ≡ mark → ⊥) (p : a ≡ row_start rows t) (q : e ≡ row_end rows used many t) where
    -- there is no room for one of the names
    term_stop : {names' rows' lists' : List ℕ} → Follows (both (head_part t)
        (list_part refs used many a e)) names rows lists names' rows' lists' mark count room none
        → Follows (term_part refs used many t) names rows lists names' rows' lists' mark count room none
    term_stop x = record {
      follows = λ {from} w. let y = x.follows w in rw (term_open w new p q ∙ finish_full t _ (answer_full from _ y.walk.answer)) y;
    }

    module _ {names' lists' names'' rows'' lists'' : List ℕ} {n : ℕ} (x : Follows (head_part t) names rows lists names' rows lists' mark count room (some n)) where
      -- there is no room for a name of the terms that it names
      pub follow_list_full : Follows (list_part refs used many a e) names' rows lists' names'' rows'' lists'' mark n room none
          → Follows (term_part refs used many t) names rows lists names'' rows'' lists'' mark count room none
      follow_list_full y = term_stop (follows_then x y)

      -- the term is marked
      pub follow_marked : {m : ℕ} → Follows (list_part refs used many a e) names' rows lists' names'' rows'' lists'' mark n room (some m)
          → Follows (term_part refs used many t) names rows lists names'' (set rows'' (12288 + t) mark) lists'' mark count room (some m)
      unfolding walk_answer
      follow_marked y = record {
        follows = λ {names₀} {rows₀} {lists₀} {from} {v} w.
            let z = (follows_then x y).follows w in
            let u : Visit = both (head_part t) (list_part refs used many a e) names₀ rows₀ (room - from) v in
            let (going, ends) = answer_names from u z.walk.answer in
            rw (term_open w new p q ∙ finish_more t u going)
            (record {
              new = w.new;
              walk = record {
                answer = ap some ends;
                name_words = z.walk.name_words;
                row_words = rw z.walk.row_words (sym (marked_more 12288 mark u.walked t rows₀));
                lists_words = z.walk.lists_words;
              };
              found_small = z.found_small;
              walked_small = λ s i. ⊎_elim (z.walked_small s) (λ j. let q : s ≡ t = Memᴰ.eq_of_singleton j in rw q (is_row w))
                  (Memᴰ.append_cases u.walked i);
            });
      }

  -- there is no room for the head
  pub follow_head_full : {names' lists' : List ℕ} → (row_mark rows t ≡ mark → ⊥)
      → Follows (head_part t) names rows lists names' rows lists' mark count room none
      → Follows (term_part refs used many t) names rows lists names' rows lists' mark count room none
  unfolding list_part
  follow_head_full new x = term_stop new refl refl (record {
    follows = λ {names₀} {rows₀} {lists₀} {from} {v} w.
        let y = x.follows w in
        let u : Visit = head_part t names₀ rows₀ (room - from) v in
        rw (fold_full names₀ refs rows₀ used many (room - from) many u (terms_of_words (part refs (row_start rows t) (row_end rows used many t)))
        (answer_full from u y.walk.answer)) y;
  })

-- ---- a list

-- no term
pub follow_nil : (refs : List ℕ) (used many a : ℕ) {names rows lists : List ℕ} {mark count room : ℕ}
    → Follows (list_part refs used many a a) names rows lists names rows lists mark count room (some count)
unfolding list_part terms_of_words fold_left
follow_nil refs used many a = record { follows = λ w. rw (part_nil refs a a (omega arith)) w }

module _ {names refs rows lists : List ℕ} {used many mark count room a e i : ℕ} (h : WalkReady names refs rows lists used many mark count room)
    (g : References refs used many a e) (low : a ≤ i) (high : i < e) where
  -- the list is in the slice
  fits : e ≤ length refs
  fits = omega (arith, g.in_use, h.table.ref_room, h.table.few_references)

  -- the terms up to one place and the term there are those up to the next
  pub follow_next : {names' rows' lists' names'' rows'' lists'' : List ℕ} {n t : ℕ} {r : Option ℕ} → t ≡ get_or refs i 0 % 4096
      → Follows (list_part refs used many a i) names rows lists names' rows' lists' mark count room (some n)
      → Follows (term_part refs used many t) names' rows' lists' names'' rows'' lists'' mark n room r
      → Follows (list_part refs used many a (i + 1)) names rows lists names'' rows'' lists'' mark count room r
  unfolding list_part term_part fold_left
  follow_next is x y = record {
    follows = λ {names₀} {rows₀} {lists₀} {from} {v} w.
        let long = fits in
        rw (
          terms_more refs a i low (omega arith),
          fold_left_append (visit_below names₀ refs rows₀ used many (room - from) many) v (terms_of_words (part refs a i)) (get_or refs i 0 % 4096 ∷ []),
          ← is,
        ) ((follows_then x y).follows w);
  }

  -- where there is no room for the terms up to a place there is none for the list's
  pub follow_stop : {names' rows' lists' : List ℕ} → Follows (list_part refs used many a (i + 1)) names rows lists names' rows' lists' mark count room none
      → Follows (list_part refs used many a e) names rows lists names' rows' lists' mark count room none
  unfolding list_part
  follow_stop x = record {
    follows = λ {names₀} {rows₀} {lists₀} {from} {v} w.
        let y = x.follows w in
        let u : Visit = fold_left (visit_below names₀ refs rows₀ used many (room - from) many) v (terms_of_words (part refs a (i + 1))) in
        rw (
          terms_split refs a (i + 1) e (omega arith) (omega arith) fits,
          fold_left_append (visit_below names₀ refs rows₀ used many (room - from) many) v (terms_of_words (part refs a (i + 1)))
              (terms_of_words (part refs (i + 1) e)),
          fold_full names₀ refs rows₀ used many (room - from) many u (terms_of_words (part refs (i + 1) e)) (answer_full from u y.walk.answer),
        ) y;
  }

-- the terms up to the end are the list's
pub follow_end : {refs : List ℕ} {used many a i e : ℕ} {names rows lists names' rows' lists' : List ℕ} {mark count room : ℕ} {r : Option ℕ}
    → References refs used many a e → i ≤ e → e ≤ i
    → Follows (list_part refs used many a i) names rows lists names' rows' lists' mark count room r
    → Follows (list_part refs used many a e) names rows lists names' rows' lists' mark count room r
follow_end {i} {e} g l k x =
    let q : i ≡ e = omega arith in
    rw q at x
