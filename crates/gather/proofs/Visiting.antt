-- The walk as it is defined: marks of a column, a term's walk by its parts, and lists of terms.
use Prim.Native.Nat.{ℕ, zero, suc, ◌+◌, ◌%◌, ◌≤◌, ◌<◌}
use native.Mathlib.Nat.{not-suc-le-zero}
use native.Mathlib.Omega.{arith}
use mathlib.Core.Path.{◌≡◌, refl, sym, ap, ◌∙◌}
use mathlib.Core.Bool.{Bool, true, false, cond, ◌||◌, true≢false}
use mathlib.Core.Logic.{⊎_elim}
use mathlib.Core.List.{List, [], ◌∷◌, ◌++◌, Memᴰ}
use lib.ListN.{length, get_or, set, length-set}
use lib.Seq.{get_or-set_same, get_or-set_other}
use lib.Dec.{eqb}
use borrow.Author.Tests.{eqb-true, eq-eqb}
use Rattle.model.specs.Lists.{any, fold_left, part}
use Rattle.model.proofs.ListLaws.{T_true, true_T, any_intro, any_elim, map_intro, map_elim, fold_left_append}
use Rattle.model.proofs.PartLaws.{part_elim, part_intro}
use Rattle.terms.specs.Rows.{row_start, row_end, terms_of_words, Rows}
use Rattle.terms.proofs.Laws.{equal}
use Rattle.words.specs.Slices.{SameBut}
use Rattle.gather.specs.Visits.{Visit, has, finish, visit_head, visit_below, marked_at, put}
use Rattle.words.proofs.Slices.{same_self, same_then, same_set}

-- ---- numbers of a list

-- a number that is had is a member
pub has_in : (ns : List ℕ) (n : ℕ) → has ns n ≡ true → Memᴰ n ns
unfolding has
has_in ns n h = let (m, i, t) = any_elim (eqb n) ns (true_T h) in rw (eqb-true n m (T_true (eqb n m) t)) i

-- a member is had
pub in_has : {ns : List ℕ} {n : ℕ} → Memᴰ n ns → has ns n ≡ true
unfolding has
in_has {ns} {n} m = T_true (any (eqb n) ns) (any_intro (eqb n) m (true_T (eq-eqb n n refl)))

-- ---- marks of a column

module _ (column mark : ℕ) where
  -- one mark more
  pub marked_more : (ns : List ℕ) (n : ℕ) (l : List ℕ) → marked_at column mark (ns ++ (n ∷ [])) l ≡ set (marked_at column mark ns l) (column + n) mark
  unfolding marked_at fold_left
  marked_more ns n l = fold_left_append (λ l n. set l (column + n) mark) l ns (n ∷ [])

  -- marks of a column leave the rest
  pub marked_same : (size : ℕ) (ns l : List ℕ) → ((n : ℕ) → Memᴰ n ns → n < size) → SameBut column size l (marked_at column mark ns l)
  unfolding marked_at fold_left
  marked_same size [] l h = same_self column size l
  marked_same size (n ∷ ns) l h =
      let s = h n (Memᴰ.head refl) in
      same_then (same_set column size l (column + n) mark (omega arith) (omega arith))
      (marked_same size ns (set l (column + n) mark) (λ m i. h m (Memᴰ.tail i)))

  module _ (n : ℕ) where
    -- a mark stays
    mark_stays : (ns l : List ℕ) → column + n < length l → get_or l (column + n) 0 ≡ mark → get_or (marked_at column mark ns l) (column + n) 0 ≡ mark
    unfolding marked_at fold_left
    mark_stays [] l k e = e
    mark_stays (m ∷ ns) l k e = mark_stays ns (set l (column + m) mark) (rw (length-set l (column + m) mark) k) (⊎_elim
        (λ q. rw q (get_or-set_same l (column + m) mark 0 (rw q at k)))
        (λ d. get_or-set_other l (column + m) (column + n) mark 0 (λ q. d (omega arith)) ∙ e)
        (equal n m))

    -- a number of the list has the mark
    pub mark_in : {ns : List ℕ} (l : List ℕ) → column + n < length l → Memᴰ n ns → get_or (marked_at column mark ns l) (column + n) 0 ≡ mark
    unfolding marked_at fold_left
    mark_in l k (Memᴰ.head {x = m} {xs} e) = mark_stays xs (set l (column + m) mark) (rw (length-set l (column + m) mark) k)
        (rw e (get_or-set_same l (column + m) mark 0 (rw e at k)))
    mark_in l k (Memᴰ.tail {x = m} i) = mark_in (set l (column + m) mark) (rw (length-set l (column + m) mark) k) i

    -- the mark of any other number stays
    pub mark_out : (ns l : List ℕ) → (Memᴰ n ns → ⊥) → get_or (marked_at column mark ns l) (column + n) 0 ≡ get_or l (column + n) 0
    unfolding marked_at fold_left
    mark_out [] l h = refl
    mark_out (m ∷ ns) l h = mark_out ns (set l (column + m) mark) (λ i. h (Memᴰ.tail i))
        ∙ get_or-set_other l (column + m) (column + n) mark 0 (λ q. h (Memᴰ.head (omega arith)))

    module _ (ns l : List ℕ) (new : get_or l (column + n) 0 ≡ mark → ⊥) where
      -- a number with a new mark is one of the list
      pub marked_has : get_or (marked_at column mark ns l) (column + n) 0 ≡ mark → has ns n ≡ true
      marked_has e = go (has ns n) refl
        where
          go : (b : Bool) → has ns n ≡ b → has ns n ≡ true
          go true h = h
          go false h = absurd (new (sym (mark_out ns l (λ i. true≢false (sym (in_has i) ∙ h))) ∙ e))

      -- a number without it is none of the list
      pub unmarked_has : column + n < length l → (get_or (marked_at column mark ns l) (column + n) 0 ≡ mark → ⊥) → has ns n ≡ false
      unmarked_has k d = go (has ns n) refl
        where
          go : (b : Bool) → has ns n ≡ b → has ns n ≡ false
          go true h = absurd (d (mark_in l k (has_in ns n h)))
          go false h = h

-- one word more
pub put_more : (at : ℕ) (ns : List ℕ) (n : ℕ) (l : List ℕ) → put at (ns ++ (n ∷ [])) l ≡ set (put at ns l) (at + length ns) n
unfolding put
put_more at [] n l = ap (λ i. set l i n) (omega arith)
put_more at (m ∷ ns) n l = put_more (at + 1) ns n (set l at m) ∙ ap (λ i. set (put (at + 1) ns (set l at m)) i n) (omega arith)

-- ---- the walk

-- what agrees on the members folds alike
fold_cong : {A : Type 0} (f g : A → ℕ → A) (l : List ℕ) → ((a : A) (n : ℕ) → Memᴰ n l → f a n ≡ g a n) → (a : A) → fold_left f a l ≡ fold_left g a l
unfolding fold_left
fold_cong f g [] h a = refl
fold_cong f g (n ∷ l) h a = rw (h a n (Memᴰ.head refl)) (fold_cong f g l (λ b m i. h b m (Memᴰ.tail i)) (g a n))

-- a term that references name stands at one of them
pub term_place : (refs : List ℕ) (a e : ℕ) {u : ℕ} → e ≤ length refs → Memᴰ u (terms_of_words (part refs a e))
    → (i : ℕ) × ((a ≤ i) × (i < e) × (get_or refs i 0 % 4096 ≡ u))
unfolding terms_of_words
term_place refs a e h m =
    let (w, n, q) = map_elim (λ w. w % 4096) (part refs a e) m in
    let p = part_elim {l = refs} {a = a} {e = e} h n in
    (p.place, (p.low, p.high, ap (◌% 4096) p.is ∙ q))

-- the term at a reference is one that they name
pub place_term : (refs : List ℕ) (a e i : ℕ) → e ≤ length refs → a ≤ i → i < e → Memᴰ (get_or refs i 0 % 4096) (terms_of_words (part refs a e))
unfolding terms_of_words
place_term refs a e i h l k = map_intro (λ w. w % 4096) (part_intro refs a e i h l k)

module _ {refs rows : List ℕ} {used many named : ℕ} (r : Rows refs rows used many named) {t : ℕ} (l : t < many) where
  -- the references of a row are in the slice
  pub row_fits : row_end rows used many t ≤ length refs
  row_fits = omega (arith, r.ref_room, r.few_references, r.in_use t l)

  -- a term that a row names is a lower one
  pub lower_in : {u : ℕ} → Memᴰ u (terms_of_words (part refs (row_start rows t) (row_end rows used many t))) → u < t
  lower_in m = let (i, (a, b, q)) = term_place refs (row_start rows t) (row_end rows used many t) row_fits m in rw (← q) (r.lower t i l a b)

module _ (names refs rows : List ℕ) (used many room : ℕ) where
  -- a walk that has stopped goes on no more
  pub visit_full : (depth : ℕ) (v : Visit) (t : ℕ) → v.full ≡ true → visit_below names refs rows used many room depth v t ≡ v
  unfolding visit_below
  visit_full zero v t h = refl
  visit_full (suc depth) v t h = rw h

  -- nor over a list
  pub fold_full : (depth : ℕ) (v : Visit) (ts : List ℕ) → v.full ≡ true → fold_left (visit_below names refs rows used many room depth) v ts ≡ v
  unfolding fold_left
  fold_full depth v [] h = refl
  fold_full depth v (t ∷ ts) h = rw (visit_full depth v t h) (fold_full depth v ts h)

  module _ {named : ℕ} (r : Rows refs rows used many named) where
    -- any depth above a term is as good
    pub visit_depth : (n m : ℕ) (v : Visit) (t : ℕ) → t < n → t < m → t < many
        → visit_below names refs rows used many room n v t ≡ visit_below names refs rows used many room m v t
    unfolding visit_below
    visit_depth zero m v t h k l = absurd (not-suc-le-zero h)
    visit_depth (suc n) zero v t h k l = absurd (not-suc-le-zero k)
    visit_depth (suc n) (suc m) v t h k l =
        ap (λ w. cond (v.full || has v.walked t) v (finish t w))
        (fold_cong (visit_below names refs rows used many room n) (visit_below names refs rows used many room m)
        (terms_of_words (part refs (row_start rows t) (row_end rows used many t)))
        (λ w u i. let d = lower_in r l i in visit_depth n m w u (omega arith) (omega arith) (omega arith)) (visit_head names refs rows used many room v t))

    -- the walk of a term by its parts, all at one depth
    pub visit_parts : (v : Visit) (t : ℕ) → t < many → visit_below names refs rows used many room many v t
        ≡ cond (v.full || has v.walked t) v (finish t (fold_left (visit_below names refs rows used many room many)
        (visit_head names refs rows used many room v t) (terms_of_words (part refs (row_start rows t) (row_end rows used many t)))))
    unfolding visit_below
    visit_parts v t l = visit_depth many (suc many) v t l (omega arith) l

-- ---- the words of references, one after the other
