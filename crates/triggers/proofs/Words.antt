-- Every word of the slices after filing: one set, sets after a set without room, and the groups of a term.
use Prim.Native.Nat.{ℕ, zero, suc, ◌+◌, ◌-◌, ◌%◌, ◌≤◌, ◌<◌}
use native.Mathlib.Numerals.{add-one}
use native.Mathlib.Omega.{arith}
use mathlib.Core.Path.{◌≡◌, refl, sym, ap, ap₂, ◌∙◌}
use mathlib.Core.Bool.{Bool, true, false, cond, ◌||◌}
use mathlib.Core.Logic.{⊎_elim}
use mathlib.Core.List.Memᴰ
use mathlib.Core.List.{List, [], ◌∷◌, map, map-append, append-nil}
use lib.ListN.{length, get_or, set, length-set}
use lib.Seq.{ext_get_or, get_or-set_same, set-set}
use lib.Dec.{ltb}
use borrow.Author.Tests.{lt-ltb, le-ltb, ne_eqb}
use Rattle.model.specs.Lists.{concat, fold_left, sum, part}
use Rattle.model.proofs.ListLaws.{fold_left_append, sum_append}
use Rattle.model.proofs.PartLaws.{part_nil}
use Rattle.terms.specs.Rows.{terms_of_words, group_of_words, groups_of_words, groups_at}
use Rattle.terms.proofs.Laws.{below, groups_all}
use Rattle.terms.proofs.Groups.{terms_split, terms_more}
use Rattle.std.specs.Prelude.{Option, None, Some}
use Rattle.gather.specs.Sets.{Gathered, ended}
use Rattle.gather.specs.Visits.{Visit, visit_list, marked_at, put, WalksAs}
use Rattle.gather.proofs.Rendering.{answer_names, answer_full}
use Rattle.triggers.specs.declared.Filed.{Filed}
use Rattle.triggers.specs.Entries.{filed_sets, filed_end, Closes, last, empty, over, Opened}
use Rattle.triggers.specs.Filings.{FilingState, filing, set_words, file_set, file_list, groups_under, file_groups, file_parts, ask_empty, AsksAs, FilesAs, as_sets, as_full}
use Rattle.triggers.proofs.Marked.{All, patterns, groups_here}

-- ---- one set

-- a set with a name has an entry for each
entry_length : (ns : List ℕ) → 0 < length ns → length (set_words ns) ≡ length ns
unfolding set_words
entry_length [] h = absurd (let z : ⊥ = omega arith in z)
entry_length (n ∷ []) h = refl
entry_length (n ∷ m ∷ ns) h = ap suc (entry_length (m ∷ ns) (omega arith))

-- its entries are the numbers, with 4096 added to the last
entry_put : (ns : List ℕ) (at i : ℕ) (lists : List ℕ) → i + 1 ≡ at + length ns → at ≤ i → i < length lists
    → put at (set_words ns) lists ≡ set (put at ns lists) i (get_or (put at ns lists) i 0 + 4096)
unfolding set_words put
entry_put [] at i lists e h l = absurd (let z : ⊥ = omega arith in z)
entry_put (n ∷ []) at i lists e h l =
    let q : at ≡ i = omega arith in
    rw (q, get_or-set_same lists i n 0 l, set-set lists i n (n + 4096))
entry_put (n ∷ m ∷ ns) at i lists e h l = entry_put (m ∷ ns) (at + 1) i (set lists at n) (omega arith) (omega arith) (rw (length-set lists at n) l)

-- a filed set, by whether it has room and by the words that it writes
set_by : (f : FilingState) (v : Visit) {b : Bool} {ws : List ℕ} → (v.full || ltb 8192 (f.end + length (set_words v.found))) ≡ b
    → cond b v.found (set_words v.found) ≡ ws
    → file_set f v ≡ record {
      names = marked_at 8192 f.mark v.found f.names;
      rows = marked_at 12288 f.mark v.walked f.rows;
      lists = put f.end ws f.lists;
      mark = f.mark + length ws;
      end = f.end + length ws;
      full = b;
    }
unfolding file_set
set_by f v p q = rw (p, q)

-- filing that goes on, by its parts
filing_as : {a a' b b' c c' : List ℕ} {m m' e e' : ℕ} → a ≡ a' → b ≡ b' → c ≡ c' → m ≡ m' → e ≡ e' → filing a b c m e ≡ filing a' b' c' m' e'
filing_as p q s t u = rw (p, q, s, t, u)

module _ {names rows lists names₁ rows₁ lists₁ : List ℕ} {mark at : ℕ} {v : Visit} {w : Option ℕ} (h : Opened names rows lists mark at)
    (x : WalksAs v names rows lists names₁ rows₁ lists₁ mark at w) where
  -- a set whose names have no room
  pub words_over : w ≡ None → FilesAs (file_set (filing names rows lists mark at) v) 1 names₁ rows₁ lists₁ mark at None
  words_over e =
      let q = answer_full at v (sym e ∙ x.answer) in
      rw (set_by (filing names rows lists mark at) v {b = true} (rw q) refl) (as_full refl x.name_words x.row_words x.lists_words)

  -- a set that was ended
  pub words_closed : {end : ℕ} {lists₂ : List ℕ} {r : Option Filed} → w ≡ Some end → end ≤ 8192 → Closes lists₁ lists₂ at end r
      → FilesAs (file_set (filing names rows lists mark at) v) 1 names₁ rows₁ lists₂ mark at r
  unfolding set_words put
  words_closed {end} {lists₂} e fits (last some q) =
      let (going, ends) = answer_names at v (sym e ∙ x.answer) in
      let long : length (set_words v.found) ≡ length v.found = entry_length v.found (omega arith) in
      let written : put at (set_words v.found) lists ≡ lists₂ = entry_put v.found at (end - 1) lists (omega arith) (omega arith) (omega (arith, h.high))
      ∙ sym (q ∙ ap (λ o. set o (end - 1) (get_or o (end - 1) 0 + 4096)) x.lists_words) in
      as_sets {e = end} refl
      (set_by (filing names rows lists mark at) v {b = false} (rw (going, le-ltb 8192 (at + length (set_words v.found)) (omega arith))) refl
      ∙ filing_as (sym x.name_words) (sym x.row_words) written (omega arith) (omega arith))
  words_closed {end} {lists₂} e fits (empty i l q) = none v.found refl
    where
      none : (ns : List ℕ) → v.found ≡ ns → FilesAs (file_set (filing names rows lists mark at) v) 1 names₁ rows₁ lists₂ mark at (filed_sets 1 (at + 1))
      none [] n = as_sets {e = at + 1} refl
          (set_by (filing names rows lists mark at) v {b = false} {ws = 6144 ∷ []}
          (rw ((answer_names at v (sym e ∙ x.answer)).0, n, le-ltb 8192 (at + 1) (omega arith))) (rw n)
          ∙ filing_as (sym x.name_words) (sym x.row_words) (sym (q ∙ ap (λ o. set o at 6144) (x.lists_words ∙ ap (λ ns. put at ns lists) n)))
          (omega arith) refl)
      none (m ∷ ns) n = absurd (let z : ⊥ = omega (arith, (answer_names at v (sym e ∙ x.answer)).1, ap length n) in z)
  words_closed {end} {lists₂} e fits (over i l q) = none v.found refl
    where
      none : (ns : List ℕ) → v.found ≡ ns → FilesAs (file_set (filing names rows lists mark at) v) 1 names₁ rows₁ lists₂ mark at None
      none [] n = rw (set_by (filing names rows lists mark at) v {b = true} {ws = v.found}
          (rw ((answer_names at v (sym e ∙ x.answer)).0, n, lt-ltb 8192 (at + 1) (omega arith))) refl)
          (as_full refl x.name_words x.row_words (q ∙ x.lists_words))
      none (m ∷ ns) n = absurd (let z : ⊥ = omega (arith, (answer_names at v (sym e ∙ x.answer)).1, ap length n) in z)

-- ---- one after another

-- an answer after so many sets
unfoldable pub after : ℕ → Option Filed → Option Filed
after n (Some f) = filed_sets (n + f.sets) f.end
after n None = None

-- sets after sets
pub words_then : {names₁ rows₁ lists₁ names₂ rows₂ lists₂ : List ℕ} {mark at n m i j : ℕ} {f : FilingState} {r : Option Filed} (step : FilingState → FilingState) → at ≤ m
    → m ≤ filed_end r
    → FilesAs f i names₁ rows₁ lists₁ mark at (filed_sets n m)
    → FilesAs (step (filing names₁ rows₁ lists₁ (mark + (m - at)) m)) j names₂ rows₂ lists₂ (mark + (m - at)) m r
    → FilesAs (step f) (i + j) names₂ rows₂ lists₂ mark at (after n r)
unfolding after filed_end
words_then {names₂} {rows₂} {lists₂} step l k (as_sets a p) (as_sets {e = e} b q) = as_sets {e = e} (ap₂ ◌+◌ a b)
    (ap step p ∙ q ∙ ap (λ k. filing names₂ rows₂ lists₂ k e) (omega arith))
words_then step l k (as_sets a p) (as_full x y z w) = rw p (as_full x y z w)

-- the same filing, said in another way
pub words_as : {names₁ rows₁ lists₁ : List ℕ} {mark at i j : ℕ} {f g : FilingState} {r : Option Filed} → f ≡ g → i ≡ j → FilesAs f i names₁ rows₁ lists₁ mark at r
    → FilesAs g j names₁ rows₁ lists₁ mark at r
words_as p q x = rw (← p, ← q) x

-- where there is no room for sets there is none for more
pub words_more : {names₁ rows₁ lists₁ : List ℕ} {mark at i j : ℕ} {f g : FilingState} → (f.full ≡ true → g ≡ f) → FilesAs f i names₁ rows₁ lists₁ mark at None
    → FilesAs g j names₁ rows₁ lists₁ mark at None
words_more q (as_full x y z w) = rw (q x) (as_full x y z w)

-- how many sets an answer has
pub words_count : {names₁ rows₁ lists₁ : List ℕ} {mark at i n e : ℕ} {f : FilingState} {r : Option Filed} → r ≡ filed_sets n e → FilesAs f i names₁ rows₁ lists₁ mark at r
    → n ≡ i
words_count {n = n} {e = e} q (as_sets {n = m} {e = k} a p) =
    let same : ◌≡◌ {A = Filed} (record { sets = m; end = k }) (record { sets = n; end = e }) = cc in
    sym (ap (λ f. f.sets) same) ∙ a
words_count q (as_full x y z w) = let z : ◌≡◌ {A = ℕ} 0 1 = cc in let n : ⊥ = omega arith in absurd n

-- no set
pub words_none : {names rows lists : List ℕ} {mark at : ℕ} → FilesAs (filing names rows lists mark at) 0 names rows lists mark at (filed_sets 0 at)
words_none {names} {rows} {lists} {mark} {at} = as_sets {e = at} refl (ap (λ k. filing names rows lists k at) (omega arith))

-- what stays as it is without room stays so over a list
fold_stays : {A : Type 0} (g : FilingState → A → FilingState) → ((f : FilingState) (x : A) → f.full ≡ true → g f x ≡ f) → (f : FilingState) (l : List A) → f.full ≡ true
    → fold_left g f l ≡ f
unfolding fold_left
fold_stays g s f [] h = refl
fold_stays g s f (x ∷ l) h = rw (s f x h) (fold_stays g s f l h)

module _ (refs : List ℕ) (used many : ℕ) where
  -- after a set without room none is filed
  pub list_stays : (f : FilingState) (ts : List ℕ) → f.full ≡ true → file_list refs used many f ts ≡ f
  unfolding file_list
  list_stays f ts h = rw h

  -- nor those of a term
  groups_stay : (f : FilingState) (t : ℕ) → f.full ≡ true → file_groups refs used many f t ≡ f
  unfolding file_groups
  groups_stay f t h = fold_stays (file_list refs used many) list_stays f (groups_under refs used many f.rows t) h

  module _ (f : FilingState) where
    -- one group more
    pub filed_group : (ws : List ℕ) (g : ℕ) → file_list refs used many (fold_left (file_list refs used many) f (groups_of_words ws g)) (group_of_words ws g)
        ≡ fold_left (file_list refs used many) f (groups_of_words ws (g + 1))
    unfolding groups_of_words fold_left
    filed_group ws g = rw (add-one g) (sym (fold_left_append (file_list refs used many) f (groups_of_words ws g) (group_of_words ws g ∷ [])))

    -- after a group without room none is filed
    pub filed_groups : (ws : List ℕ) (m n : ℕ) → m ≤ n → (fold_left (file_list refs used many) f (groups_of_words ws m)).full ≡ true
        → fold_left (file_list refs used many) f (groups_of_words ws n) ≡ fold_left (file_list refs used many) f (groups_of_words ws m)
    unfolding groups_of_words fold_left
    filed_groups ws m zero h x =
        let e : m ≡ 0 = omega arith in
        rw e
    filed_groups ws m (suc n) h x = ⊎_elim
        (λ (k : m < suc n).
        let q = filed_groups ws m n (omega arith) x in
        fold_left_append (file_list refs used many) f (groups_of_words ws n) (group_of_words ws n ∷ [])
        ∙ list_stays (fold_left (file_list refs used many) f (groups_of_words ws n)) (group_of_words ws n) (rw q x) ∙ q)
        (λ (k : suc n ≤ m). let e : m ≡ suc n = omega arith in rw e)
        (below m (suc n))

    -- the groups of a term
    pub filed_all : {t groups u e : ℕ} → All refs f.rows used many t groups u e
        → fold_left (file_list refs used many) f (groups_of_words (patterns refs f.rows used many u) groups) ≡ file_groups refs used many f t
    unfolding file_groups
    filed_all a = ap (fold_left (file_list refs used many) f) (groups_here a)

    -- a term without groups
    pub filed_none : (t : ℕ) {groups : ℕ} → groups ≡ groups_at f.rows t → groups ≡ 0 → f ≡ file_groups refs used many f t
    unfolding file_groups groups_under groups_of_words fold_left
    filed_none t c z = rw (← c, z)

    module _ (a i : ℕ) (low : a ≤ i) where
      -- one term more
      pub filed_part : (t : ℕ) → i < length refs → t ≡ get_or refs i 0 % 4096
          → file_groups refs used many (file_parts refs used many f (terms_of_words (part refs a i))) t
          ≡ file_parts refs used many f (terms_of_words (part refs a (i + 1)))
      unfolding file_parts fold_left
      filed_part t l is = rw (
        terms_more refs a i low l,
        fold_left_append (file_groups refs used many) f (terms_of_words (part refs a i)) (get_or refs i 0 % 4096 ∷ []),
        is,
      )

      -- after a term without room none is filed
      pub filed_parts : (e : ℕ) → i ≤ e → e ≤ length refs → (file_parts refs used many f (terms_of_words (part refs a i))).full ≡ true
          → file_parts refs used many f (terms_of_words (part refs a e)) ≡ file_parts refs used many f (terms_of_words (part refs a i))
      unfolding file_parts
      filed_parts e k l x =
          rw (terms_split refs a i e low k l, fold_left_append (file_groups refs used many) f (terms_of_words (part refs a i)) (terms_of_words (part refs i e)))
          (fold_stays (file_groups refs used many) groups_stay (fold_left (file_groups refs used many) f (terms_of_words (part refs a i)))
          (terms_of_words (part refs i e)) x)

-- the groups of the terms up to a place and of the term there
pub counted_more : (rows refs : List ℕ) (a i t : ℕ) → a ≤ i → i < length refs → t ≡ get_or refs i 0 % 4096
    → sum (map (groups_at rows) (terms_of_words (part refs a i))) + groups_at rows t ≡ sum (map (groups_at rows) (terms_of_words (part refs a (i + 1))))
unfolding sum
counted_more rows refs a i t low l is =
    rw (
      terms_more refs a i low l,
      map-append (groups_at rows) (terms_of_words (part refs a i)) (get_or refs i 0 % 4096 ∷ []),
      sum_append (map (groups_at rows) (terms_of_words (part refs a i))) (groups_at rows (get_or refs i 0 % 4096) ∷ []),
      is,
    )
    (omega arith)

-- ---- the walk that finds no name

module _ (refs : List ℕ) (used many : ℕ) (names rows lists : List ℕ) (t mark : ℕ) {groups : ℕ} (counts : groups ≡ groups_at rows t) where
  -- without a group the answer is yes
  pub asked_none : groups ≡ 0 → AsksAs (ask_empty refs used many names rows t) names rows lists names rows lists mark true
  unfolding ask_empty marked_at fold_left
  asked_none z = rw (sym counts ∙ z) (record { answer = refl; name_words = refl; row_words = refl; lists_words = refl })

  -- with two or more it is no
  pub asked_more : (groups ≡ 0 → ⊥) → (groups ≡ 1 → ⊥) → AsksAs (ask_empty refs used many names rows t) names rows lists names rows lists mark false
  unfolding ask_empty marked_at fold_left
  asked_more z n = rw (← counts, ne_eqb groups 1 n, lt-ltb 1 groups (omega arith))
      (record { answer = refl; name_words = refl; row_words = refl; lists_words = refl })

-- the walk of one group, without room
pub walked_one : {refs rows : List ℕ} {used many t groups u e : ℕ} (names : List ℕ) (a at : ℕ) → All refs rows used many t groups u e → groups ≡ 1
    → terms_of_words (part refs a e) ≡ group_of_words (patterns refs rows used many u) 0
    → visit_list names refs rows used many (at - at) (terms_of_words (part refs a e)) ≡ ask_empty refs used many names rows t
unfolding ask_empty concat groups_of_words
walked_one {refs} {rows} {used} {many} {t} {groups} {u} {e} names a at all one is =
    let room : at - at ≡ 0 = omega arith in
    let here : groups_under refs used many rows t ≡ group_of_words (patterns refs rows used many u) 0 ∷ [] = sym (groups_here all)
    ∙ ap (groups_of_words (patterns refs rows used many u)) one in
    rw (
      groups_all rows t u all.bare all.is_all ∙ sym all.counted ∙ one,
      here,
      append-nil (group_of_words (patterns refs rows used many u) 0),
      room,
      is,
    )

-- gathering without room leaves the names
pub names_kept : {names rows lists names' rows' lists' : List ℕ} {mark at : ℕ} {r : Option ℕ} → Gathered names rows lists names' rows' lists' mark at at r
    → names' ≡ names
names_kept {names} {names' = names'} {lists' = lists'} {at = at} {r = r} g =
    ext_get_or 0 names' names g.names_same.same_length (λ i l. ⊎_elim
    (λ (h : i < 8192). g.names_same.same_words i (λ a b. omega arith))
    (λ (h : 8192 ≤ i). ⊎_elim
    (λ (k : i < 10240).
    let q : 8192 + (i - 8192) ≡ i = omega arith in
    rw (← q) (⊎_elim
    (λ e. absurd (Memᴰ.not-nil (rw (part_nil lists' at (ended at r) g.fits) at ((g.marks (i - 8192) (omega arith)).0 e))))
    (λ e. e)
    (g.name_marks (i - 8192) (omega arith))))
    (λ (k : 10240 ≤ i). g.names_same.same_words i (λ a b. omega arith))
    (below i 10240))
    (below i 8192))

-- and it leaves the slice
pub lists_kept : {names rows lists names' rows' lists' : List ℕ} {mark at : ℕ} {r : Option ℕ} → Gathered names rows lists names' rows' lists' mark at at r → lists' ≡ lists
lists_kept {lists = lists} {lists' = lists'} g =
    let hi = g.fits in
    ext_get_or 0 lists' lists g.lists_same.same_length (λ i l. g.lists_same.same_words i (λ a b. omega arith))
