-- The names that entry words list, and their count: of words that are as many as their sets take entries each counts once.
use Prim.Native.Nat.{ℕ, zero, suc, ◌+◌, ◌%◌, max, ◌≤◌, ◌<◌}
use native.Mathlib.Omega.{arith}
use mathlib.Core.Path.{◌≡◌, refl, sym, ap, ap₂, ◌∙◌}
use mathlib.Core.Bool.{Bool, true, false, cond, ◌&&◌}
use mathlib.Core.Logic.{⊎_elim}
use mathlib.Core.List.{List, [], ◌∷◌, ◌++◌, map, append_assoc, Memᴰ}
use lib.ListN.{length, get_or, length-append}
use lib.Dec.{ltb}
use borrow.Author.Tests.{ltb-true, lt-ltb}
use Rattle.model.specs.Lists.{count, sum, collect, concat, part}
use Rattle.model.specs.Names.{Name, order, add, add_by, from_list}
use Rattle.model.specs.Summaries.{entries}
use Rattle.std.specs.declared.cmp.Ordering.{Ordering as Order}
use Rattle.std.specs.declared.cmp.Ordering.TheVariants.{Less as Before, Equal as Same, Greater as After}
use Rattle.model.proofs.ListLaws.{count_append, concat_intro, concat_elim, collect_intro, collect_elim, map_intro, map_elim}
use Rattle.model.proofs.SetLaws.{add_length, from_list_length, mem_intro, mem_elim, mem_from_list}
use Rattle.model.proofs.PartLaws.{part_nil, part_snoc}
use Rattle.triggers.specs.Entries.{disjuncts_of, disjuncts_of_words, before_first, entry_number, last_flag, no_name}
use Rattle.firing.specs.Held.{upto}

-- ---- a set as long as its list counts as the list does

swap : (a b : Bool) (n : ℕ) → cond a (1 + cond b (1 + n) n) (cond b (1 + n) n) ≡ cond b (1 + cond a (1 + n) n) (cond a (1 + n) n)
swap true true n = refl
swap true false n = refl
swap false true n = refl
swap false false n = refl

add_count : (p : Name → Bool) (n : Name) (s : List Name) → length (add n s) ≡ suc (length s) → count p (add n s) ≡ count p (n ∷ s)
unfolding add add_by count
add_count p n [] e = refl
add_count p n (m ∷ ms) e = go (order n m) e (add_count p n ms)
  where
    go : (o : Order) → length (add_by o n m ms (add n ms)) ≡ suc (suc (length ms))
        → (length (add n ms) ≡ suc (length ms) → count p (add n ms) ≡ count p (n ∷ ms))
        → count p (add_by o n m ms (add n ms)) ≡ count p (n ∷ m ∷ ms)
    go Before e ih = refl
    go Same e ih = absurd (omega arith)
    go After e ih = rw (ih (omega arith)) (swap (p m) (p n) (count p ms))

set_count : (p : Name → Bool) (l : List Name) → length (from_list l) ≡ length l → count p (from_list l) ≡ count p l
unfolding from_list count
set_count p [] e = refl
set_count p (n ∷ l) e =
    let a = add_length n (from_list l) in
    let b = from_list_length l in
    let s : length (from_list l) ≡ length l = omega arith in
    add_count p n (from_list l) (omega arith) ∙ ap (λ k. cond (p n) (1 + k) k) (set_count p l s)

add_some : (n : Name) (s : List Name) → 0 < length (add n s)
unfolding add add_by
add_some n [] = omega arith
add_some n (m ∷ ms) = go (order n m)
  where
    go : (o : Order) → 0 < length (add_by o n m ms (add n ms))
    go Before = omega arith
    go Same = omega arith
    go After = omega arith

-- a set takes as many entries as its list only if it is as long
same_size : (l : List Name) → max 1 (length l) ≤ max 1 (length (from_list l)) → length (from_list l) ≡ length l
unfolding from_list
same_size [] e = refl
same_size (n ∷ l) e =
    let a = from_list_length l in
    let b = add_length n (from_list l) in
    let c = add_some n (from_list l) in
    omega arith

fewer : (name : ℕ → Name) (ds : List (List ℕ))
    → sum (map (λ d. max 1 (length (from_list (map name d)))) ds) ≤ sum (map (λ d. max 1 (length (map name d))) ds)
unfolding sum
fewer name [] = omega arith
fewer name (d ∷ ds) = let a = from_list_length (map name d) in let b = fewer name ds in omega arith

-- disjuncts that take as many entries as they have numbers count as their numbers do
sets_count : (p : Name → Bool) (name : ℕ → Name) (ds : List (List ℕ))
    → sum (map (λ d. max 1 (length (map name d))) ds) ≤ sum (map (λ d. max 1 (length (from_list (map name d)))) ds)
    → count p (concat (map (λ d. from_list (map name d)) ds)) ≡ sum (map (λ d. count p (map name d)) ds)
unfolding concat sum count
sets_count p name [] e = refl
sets_count p name (d ∷ ds) e =
    let a = from_list_length (map name d) in
    let b = fewer name ds in
    count_append p (from_list (map name d)) (concat (map (λ d. from_list (map name d)) ds))
    ∙ rw (set_count p (map name d) (same_size (map name d) (omega arith)), sets_count p name ds (omega arith))

-- ---- the numbers of disjuncts are those of their words

front_concat : (ns : List ℕ) (ds : List (List ℕ)) → concat (before_first ns ds) ≡ ns ++ concat ds
unfolding before_first concat
front_concat ns [] = refl
front_concat ns (d ∷ ds) = append_assoc ns d (concat ds)

words_concat : (ws : List ℕ) → concat (disjuncts_of_words ws) ≡ collect entry_number ws
unfolding disjuncts_of_words concat collect
words_concat [] = refl
words_concat (w ∷ ws) = go (ltb w last_flag) ∙ ap (entry_number w ++◌) (words_concat ws)
  where
    go : (b : Bool)
        → concat (cond b (before_first (entry_number w) (disjuncts_of_words ws)) (entry_number w ∷ disjuncts_of_words ws))
        ≡ entry_number w ++ concat (disjuncts_of_words ws)
    go true = front_concat (entry_number w) (disjuncts_of_words ws)
    go false = refl

sum_concat : (q : ℕ → Bool) (ds : List (List ℕ)) → sum (map (λ d. count q d) ds) ≡ count q (concat ds)
unfolding sum concat count
sum_concat q [] = refl
sum_concat q (d ∷ ds) = ap (count q d +◌) (sum_concat q ds) ∙ sym (count_append q d (concat ds))

one_more : (b : Bool) (m n : ℕ) → m ≡ n → cond b 1 0 + m ≡ cond b (1 + n) n
one_more true m n e = omega arith
one_more false m n e = omega arith

number_count : (q : ℕ → Bool) (w : ℕ) → count q (entry_number w) ≡ cond (ltb (w % last_flag) no_name && q (w % last_flag)) 1 0
unfolding entry_number count
number_count q w = go (ltb (w % last_flag) no_name)
  where
    go : (b : Bool) → count q (cond b (w % last_flag ∷ []) []) ≡ cond (b && q (w % last_flag)) 1 0
    go true = refl
    go false = refl

numbers_count : (q : ℕ → Bool) (ws : List ℕ)
    → count q (collect entry_number ws) ≡ count (λ w. ltb (w % last_flag) no_name && q (w % last_flag)) ws
unfolding collect count
numbers_count q [] = refl
numbers_count q (w ∷ ws) =
    count_append q (entry_number w) (collect entry_number ws)
    ∙ rw (number_count q w) (one_more (ltb (w % last_flag) no_name && q (w % last_flag)) _ _ (numbers_count q ws))

-- ---- words hold no more numbers than they are

number_size : (w : ℕ) → length (entry_number w) ≤ 1
unfolding entry_number
number_size w = go (ltb (w % last_flag) no_name)
  where
    go : (b : Bool) → length (cond b (w % last_flag ∷ []) []) ≤ 1
    go true = omega arith
    go false = omega arith

-- how many entries numbers would take
abbrev size : List (List ℕ) → ℕ
size ds = sum (map (λ d. max 1 (length d)) ds)

front_size : (ns : List ℕ) (ds : List (List ℕ)) → length ns ≤ 1 → size (before_first ns ds) ≤ 1 + size ds
unfolding before_first sum
front_size ns [] h = omega arith
front_size ns (d ∷ ds) h = let a = length-append ns d in omega arith

words_size : (ws : List ℕ) → size (disjuncts_of_words ws) ≤ length ws
unfolding disjuncts_of_words sum
words_size [] = omega arith
words_size (w ∷ ws) = go (ltb w last_flag) (words_size ws)
  where
    go : (b : Bool) → size (disjuncts_of_words ws) ≤ length ws
        → size (cond b (before_first (entry_number w) (disjuncts_of_words ws)) (entry_number w ∷ disjuncts_of_words ws)) ≤ suc (length ws)
    go true h = let a = front_size (entry_number w) (disjuncts_of_words ws) (number_size w) in omega arith
    go false h = let a = number_size w in omega arith

-- ---- the count of the listed names

map_length : (name : ℕ → Name) (d : List ℕ) → length (map name d) ≡ length d
map_length name [] = refl
map_length name (n ∷ d) = ap suc (map_length name d)

named_size : (name : ℕ → Name) (ds : List (List ℕ)) → sum (map (λ d. max 1 (length (map name d))) ds) ≡ size ds
unfolding sum
named_size name [] = refl
named_size name (d ∷ ds) = ap₂ ◌+◌ (ap (max 1) (map_length name d)) (named_size name ds)

sets_size : (name : ℕ → Name) (ds : List (List ℕ))
    → entries (map (λ d. from_list (map name d)) ds) ≡ sum (map (λ d. max 1 (length (from_list (map name d)))) ds)
unfolding entries sum
sets_size name [] = refl
sets_size name (d ∷ ds) = ap (max 1 (length (from_list (map name d))) +◌) (sets_size name ds)

count_map : (p : Name → Bool) (name : ℕ → Name) (d : List ℕ) → count p (map name d) ≡ count (λ n. p (name n)) d
unfolding count
count_map p name [] = refl
count_map p name (n ∷ d) = ap (λ k. cond (p (name n)) (1 + k) k) (count_map p name d)

counts_map : (p : Name → Bool) (name : ℕ → Name) (ds : List (List ℕ))
    → sum (map (λ d. count p (map name d)) ds) ≡ sum (map (λ d. count (λ n. p (name n)) d) ds)
unfolding sum
counts_map p name [] = refl
counts_map p name (d ∷ ds) = ap₂ ◌+◌ (count_map p name d) (counts_map p name ds)

-- words that are as many as their sets take entries count as the sets do
pub listed_count : (p : Name → Bool) (name : ℕ → Name) (ws : List ℕ) → length ws ≡ entries (disjuncts_of name ws)
    → count p (concat (disjuncts_of name ws)) ≡ count (λ w. ltb (w % last_flag) no_name && p (name (w % last_flag))) ws
unfolding disjuncts_of
listed_count p name ws e =
    let ds = disjuncts_of_words ws in
    let a = words_size ws in
    let b = named_size name ds in
    let c = sets_size name ds in
    sets_count p name ds (omega arith) ∙ counts_map p name ds ∙ sum_concat (λ n. p (name n)) ds
    ∙ ap (count (λ n. p (name n))) (words_concat ws) ∙ numbers_count (λ n. p (name n)) ws

-- ---- the count over places is that over their words

one_count : (q : ℕ → Bool) (w m n : ℕ) → m ≡ n → cond (q w) (1 + m) m ≡ n + count q (w ∷ [])
unfolding count
one_count q w m n e = go (q w)
  where
    go : (b : Bool) → cond b (1 + m) m ≡ n + cond b (1 + 0) 0
    go true = omega arith
    go false = omega arith

pub places_count : (q : ℕ → Bool) (l : List ℕ) (b s d : ℕ) → b + (s + d) ≤ length l
    → count (λ e. q (get_or l (b + e) 0)) (upto (s + d))
    ≡ count (λ e. q (get_or l (b + e) 0)) (upto s) + count q (part l (b + s) (b + (s + d)))
unfolding upto count
places_count q l b s zero h =
    let e : s + 0 ≡ s = omega arith in
    rw (e, part_nil l (b + s) (b + s) (omega arith)) (omega arith)
places_count q l b s (suc d) h =
    let e : s + suc d ≡ suc (s + d) = omega arith in
    let f : b + suc (s + d) ≡ b + (s + d) + 1 = omega arith in
    rw (
      e,
      f,
      part_snoc l (b + s) (b + (s + d)) (omega arith) (omega arith),
      count_append q (part l (b + s) (b + (s + d))) (get_or l (b + (s + d)) 0 ∷ []),
    )
    (one_count q (get_or l (b + (s + d)) 0) _ _ (places_count q l b s d (omega arith)) ∙ assoc _ _ _)
  where
    assoc : (x y z : ℕ) → x + y + z ≡ x + (y + z)
    assoc x y z = omega arith

-- ---- the listed names are those of the words

number_elim : (w n : ℕ) → Memᴰ n (entry_number w) → (n ≡ w % last_flag) × (w % last_flag < no_name)
unfolding entry_number
number_elim w n m = go (ltb (w % last_flag) no_name) refl m
  where
    go : (b : Bool) → ltb (w % last_flag) no_name ≡ b → Memᴰ n (cond b (w % last_flag ∷ []) []) → (n ≡ w % last_flag) × (w % last_flag < no_name)
    go true e m =
        (⊎_elim (λ q. q) (λ q. absurd (mathlib.Core.List.Memᴰ.not-nil q)) (mathlib.Core.List.Memᴰ.cases_cons m), ltb-true (w % last_flag) no_name e)
    go false e m = absurd (mathlib.Core.List.Memᴰ.not-nil m)

number_intro : (w : ℕ) → w % last_flag < no_name → Memᴰ (w % last_flag) (entry_number w)
unfolding entry_number
number_intro w h = rw (lt-ltb (w % last_flag) no_name h) (mathlib.Core.List.Memᴰ.head refl)

pub word_listed : (name : ℕ → Name) (ws : List ℕ) {w : ℕ} → Memᴰ w ws → w % last_flag < no_name
    → Memᴰ (name (w % last_flag)) (concat (disjuncts_of name ws))
unfolding disjuncts_of
word_listed name ws {w} m h =
    let k : Memᴰ (w % last_flag) (concat (disjuncts_of_words ws)) =
    rw (words_concat ws) (collect_intro entry_number m (number_intro w h)) in
    let (d, i, j) = concat_elim (disjuncts_of_words ws) k in
    concat_intro (map_intro (λ ns. from_list (map name ns)) i)
    (mem_elim ((mem_from_list (name (w % last_flag)) (map name d)).1 (mem_intro (map_intro name j))))

pub listed_word : (name : ℕ → Name) (ws : List ℕ) {k : Name} → Memᴰ k (concat (disjuncts_of name ws))
    → (w : ℕ) × Memᴰ w ws × (w % last_flag < no_name) × (k ≡ name (w % last_flag))
unfolding disjuncts_of
listed_word name ws {k} m =
    let (s, i, j) = concat_elim (map (λ ns. from_list (map name ns)) (disjuncts_of_words ws)) m in
    let (d, x, y) = map_elim (λ ns. from_list (map name ns)) (disjuncts_of_words ws) i in
    let (n, u, v) = map_elim name d (mem_elim ((mem_from_list k (map name d)).0 (mem_intro (rw (← y) at j)))) in
    let (w, a, b) = collect_elim entry_number ws (rw (words_concat ws) at (concat_intro x u)) in
    let (p, q) = number_elim w n b in
    (w, a, q, sym v ∙ ap name p)

-- a number of a disjunct is that of a word
pub numbers_elim : (ws : List ℕ) {d : List ℕ} {n : ℕ} → Memᴰ d (disjuncts_of_words ws) → Memᴰ n d
    → (w : ℕ) × Memᴰ w ws × (n ≡ w % last_flag) × (w % last_flag < no_name)
numbers_elim ws {d} {n} p q =
    let (w, a, b) = collect_elim entry_number ws (rw (words_concat ws) at (concat_intro p q)) in
    let (e, l) = number_elim w n b in
    (w, a, e, l)
