-- Laws of the known names and their head codes, and of a table whose names and head codes stay.
use Prim.Native.Nat.{ℕ, zero, suc, ◌+◌, ◌-◌, ◌%◌, ◌≤◌, ◌<◌}
use native.Mathlib.Nat.{mod-eq_of_lt, add-mod_right}
use native.Mathlib.Omega.{arith}
use mathlib.Core.Path.{◌≡◌, refl, sym, ap, ◌∙◌}
use mathlib.Core.Logic.{◌⊎◌, inl, inr, ⊎_elim, ◌↔◌}
use mathlib.Core.Bool.{Bool, true, false, cond, not, ◌&&◌, ◌||◌, and-false}
use mathlib.Core.List.{List, [], ◌∷◌, ◌++◌, map}
use lib.ListN.{length, take, drop, get_or}
use lib.Dec.{T, T_not, not_T, leb, ltb}
use borrow.Author.Tests.{lt-ltb, le-ltb, le-leb, lt-leb}
use Rattle.model.specs.Lists.{any}
use Rattle.model.specs.Names.{Name, bytes, order, is_same, by_byte, same, mem}
use Rattle.model.specs.Summaries.{common_names, exclude_names}
use Rattle.model.proofs.ListLaws.{T_true, T_false, true_T}
use Rattle.model.proofs.SetLaws.{same_refl, same_eq, mem_first, mem_later, from_list_mem}
use Rattle.names.specs.Known.{known_names, code_from, head_code, excluded_mark, marked_code, head_word}
use Rattle.names.specs.Table.{name_code, name_of, table_names, Table}
use Rattle.names.proofs.Codes.{known_length}

-- ---- codes

-- whether no name comes twice
all_distinct : List Name → Bool
all_distinct [] = true
all_distinct (m ∷ ms) = let more = all_distinct ms in not (mem m ms) && more

-- both of two tests
both : (a b : Bool) → T (a && b) → T a × T b
both true b t = (tt, t)
both false b t = absurd t

-- a code is 0 or the place of a name
abbrev Ranged : ℕ → ℕ → ℕ → Type 0
Ranged k size c = (c ≡ 0) ⊎ ((k ≤ c) × (c < k + size))

-- what `code_from` gives is so
code_ranged : (k : ℕ) (ks : List Name) (n : Name) → Ranged k (length ks) (code_from k ks n)
unfolding code_from
code_ranged k [] n = inl refl
code_ranged k (m ∷ ms) n = go (same n m) (code_from (k + 1) ms n) (code_ranged (k + 1) ms n)
  where
    go : (t : Bool) (c : ℕ) → Ranged (k + 1) (length ms) c → Ranged k (suc (length ms)) (cond t k c)
    go true c r = inr (omega arith, omega arith)
    go false c r = ⊎_elim inl (λ (l, h). inr (omega arith, omega arith)) r

-- a name whose code is a place is the name there
code_elim : (k : ℕ) (ks : List Name) (n : Name) (i : ℕ) → 1 ≤ k → i < length ks → code_from k ks n ≡ k + i → n ≡ get_or ks i []
unfolding code_from
code_elim k [] n i p h e = absurd (omega arith)
code_elim k (m ∷ ms) n i p h e = go i h (same n m) refl e (λ j. code_elim (k + 1) ms n j (omega arith))
  where
    go : (i : ℕ) → i < suc (length ms) → (t : Bool) → same n m ≡ t → cond t k (code_from (k + 1) ms n) ≡ k + i
        → ((j : ℕ) → j < length ms → code_from (k + 1) ms n ≡ k + 1 + j → n ≡ get_or ms j [])
        → n ≡ get_or (m ∷ ms) i []
    go zero h true d e later = same_eq (true_T d)
    go (suc i) h true d e later = absurd (omega arith)
    go zero h false d e later = ⊎_elim (λ z. absurd (omega arith)) (λ (l, r). absurd (omega arith)) (code_ranged (k + 1) ms n)
    go (suc i) h false d e later = later i (omega arith) (omega arith)

-- a name of a list is in it
getD_mem : (ks : List Name) (i : ℕ) → i < length ks → T (mem (get_or ks i []) ks)
getD_mem [] i h = absurd (omega arith)
getD_mem (m ∷ ms) zero h = mem_first m ms
getD_mem (m ∷ ms) (suc i) h = mem_later (get_or ms i []) m ms (getD_mem ms i (omega arith))

-- where no name comes twice, the code of a name is its place
code_intro : (k : ℕ) (ks : List Name) (i : ℕ) → i < length ks → T (all_distinct ks) → code_from k ks (get_or ks i []) ≡ k + i
unfolding code_from all_distinct
code_intro k [] i h d = absurd (omega arith)
code_intro k (m ∷ ms) zero h d = rw (T_true (same m m) (same_refl m)) (omega arith)
code_intro k (m ∷ ms) (suc i) h d =
    let (new, more) = both (not (mem m ms)) (all_distinct ms) d in
    let other = not_T (same (get_or ms i []) m) (λ t. T_not (mem m ms) new (rw (same_eq t) at (getD_mem ms i (omega arith)))) in
    rw (T_false (same (get_or ms i []) m) other) (code_intro (k + 1) ms i (omega arith) more ∙ omega arith)

-- a name is in the first of two lists if its code is one of that list's
code_first : (k : ℕ) (ks ls : List Name) (n : Name) → 1 ≤ k
    → mem n ks ≡ (ltb 0 (code_from k (ks ++ ls) n) && ltb (code_from k (ks ++ ls) n) (k + length ks))
unfolding code_from mem any
code_first k [] ls n p =
    ⊎_elim
    (λ z. sym (rw (le-ltb 0 (code_from k ls n) (omega arith))))
    (λ (l, r). sym (rw (le-ltb (code_from k ls n) (k + 0) (omega arith)) (and-false (ltb 0 (code_from k ls n)))))
    (code_ranged k ls n)
code_first k (m ∷ ms) ls n p = go (same n m) (mem n ms) (code_from (k + 1) (ms ++ ls) n) (code_first (k + 1) ms ls n (omega arith))
  where
    go : (t b : Bool) (c : ℕ) → b ≡ (ltb 0 c && ltb c (k + 1 + length ms))
        → (t || b) ≡ (ltb 0 (cond t k c) && ltb (cond t k c) (k + suc (length ms)))
    go true b c e = sym (rw (lt-ltb 0 k (omega arith), lt-ltb k (k + suc (length ms)) (omega arith)))
    go false b c e =
        let s : k + 1 + length ms ≡ k + suc (length ms) = omega arith in
        e ∙ ap (λ (q : ℕ). ltb 0 c && ltb c q) s

-- the known names, as bytes
known : List Name
known = map bytes known_names

-- no two of them are the same
known_distinct : T (all_distinct known)
unfolding known known_names common_names bytes all_distinct mem any same is_same order by_byte
known_distinct = tt

-- the head code of a name is c, from 1 to 25, where the name is the c-th known one
pub code_exact : (n : Name) (c : ℕ) → 1 ≤ c → c ≤ 25 → (head_code n ≡ c) ↔ (n ≡ get_or (map bytes known_names) (c - 1) [])
unfolding head_code known
code_exact n c p h =
    let s : 1 + (c - 1) ≡ c = omega arith in (
      λ e. code_elim 1 known n (c - 1) (omega arith) (omega (arith, known_length)) (e ∙ sym s),
      λ e. ap (code_from 1 known) e ∙ code_intro 1 known (c - 1) (omega (arith, known_length)) known_distinct ∙ s,
    )

-- a name is one of `exclude_names` where its head code is one of 1 to 9
code_excluded : (n : Name) → mem n exclude_names ≡ (ltb 0 (head_code n) && ltb (head_code n) 10)
unfolding exclude_names head_code known_names common_names
code_excluded n =
    let names = map bytes known_names in
    from_list_mem n (take 9 names) ∙ code_first 1 (take 9 names) (drop 9 names) n (omega arith)

-- the head code of a name is below the mark
head_small : (n : Name) → head_code n < excluded_mark
unfolding head_code known
head_small n = ⊎_elim (λ z. omega arith) (λ (l, h). omega (arith, known_length)) (code_ranged 1 known n)

-- a marked code has the code, and the mark tells whether it is that of one of `exclude_names`
marked_exact : (c : ℕ) → c < excluded_mark → (marked_code c % excluded_mark ≡ c) × (leb excluded_mark (marked_code c) ≡ (ltb 0 c && ltb c 10))
unfolding marked_code
marked_exact c h = go (ltb 0 c && ltb c 10)
  where
    go : (t : Bool) → (cond t (c + 32) c % 32 ≡ c) × (leb 32 (cond t (c + 32) c) ≡ t)
    go true = (add-mod_right c 32 ∙ mod-eq_of_lt h, le-leb 32 (c + 32) (omega arith))
    go false = (mod-eq_of_lt h, lt-leb 32 c h)

-- the word of a new name has its head code
pub word_code : (n : Name) → head_word n % excluded_mark ≡ head_code n
unfolding head_word
word_code n = (marked_exact (head_code n) (head_small n)).0

-- it is marked where the name is one of `exclude_names`
pub word_excluded : (n : Name) → leb excluded_mark (head_word n) ≡ mem n exclude_names
unfolding head_word
word_excluded n = (marked_exact (head_code n) (head_small n)).1 ∙ sym (code_excluded n)

-- the word of no head code is none
pub word_none : (n : Name) {c : ℕ} → c ≡ head_code n → c ≡ 0 → 0 ≡ head_word n
unfolding head_word marked_code
word_none n e z = sym (rw (sym e ∙ z))

-- that of a code below 10 is marked
pub word_marked : (n : Name) {c : ℕ} → c ≡ head_code n → (c ≡ 0 → ⊥) → c < 10 → c + excluded_mark ≡ head_word n
unfolding head_word marked_code
word_marked n {c} e z h = sym (rw (← e, lt-ltb 0 c (omega arith), lt-ltb c 10 h))

-- any other is the code
pub word_other : (n : Name) {c : ℕ} → c ≡ head_code n → 10 ≤ c → c ≡ head_word n
unfolding head_word marked_code
word_other n {c} e h = sym (rw (← e, le-ltb c 10 h, and-false (ltb 0 c)))

-- ---- a table whose names and head codes stay

-- a slice whose table, its names, and the name of each number are those of the first
pub record Kept (file w w' : List ℕ) (named : ℕ) : Type 0 where
  pub table : Table file w' named
  pub names : table_names file w' named ≡ table_names file w named
  pub name : (n : ℕ) → n < named → name_of file w' n ≡ name_of file w n

module _ (file w w' : List ℕ) (words : (i : ℕ) → i < 6144 → get_or w' i 0 ≡ get_or w i 0) where
  -- the name of a number stays
  name_stays : (n : ℕ) → n < 2048 → name_of file w' n ≡ name_of file w n
  unfolding name_of
  name_stays n h = rw (words n (omega arith), words (2048 + n) (omega arith))

  -- the names by number stay
  names_stay : (k : ℕ) → k ≤ 2048 → table_names file w' k ≡ table_names file w k
  unfolding table_names
  names_stay zero h = refl
  names_stay (suc k) h = rw (names_stay k (omega arith), name_stays k (omega arith))

-- a slice as long, with the same words below 6144 and the same head codes, is a table of the same names
pub table_coded : {file w w' : List ℕ} {named : ℕ} → Table file w named → length w' ≡ length w → ((i : ℕ) → i < 6144 → get_or w' i 0 ≡ get_or w i 0)
    → ((n : ℕ) → n < named → name_code w' n ≡ name_code w n) → Kept file w w' named
table_coded {file} {w} {w'} {named} table size words codes =
    let few = table.few in
    let rank : (r : ℕ) → r < named → get_or w' (4096 + r) 0 ≡ get_or w (4096 + r) 0 = λ r h. words (4096 + r) (omega arith) in
    let name : (n : ℕ) → n < named → name_of file w' n ≡ name_of file w n = λ n h. name_stays file w w' words n (omega arith) in
    record {
      table = record {
        room = rw size table.room;
        short = table.short;
        few = few;
        inside = λ n h. rw (words n (omega arith), words (2048 + n) (omega arith)) (table.inside n h);
        numbers = λ r h. rw (rank r h) (table.numbers r h);
        each = λ n h. let (r, l, e) = table.each n h in (r, l, rank r l ∙ e);
        ascending = λ r q h l.
            rw (rank r (omega arith), rank q l, name (get_or w (4096 + r) 0) (table.numbers r (omega arith)), name (get_or w (4096 + q) 0) (table.numbers q l))
            (table.ascending r q h l);
        codes = λ n h. codes n h ∙ rw (name n h) (table.codes n h);
      };
      names = names_stay file w w' words named few;
      name = name;
    }

-- so is one as long with the same words below 8192
pub table_kept : {file w w' : List ℕ} {named : ℕ} → Table file w named → length w' ≡ length w → ((i : ℕ) → i < 8192 → get_or w' i 0 ≡ get_or w i 0)
    → Kept file w w' named
table_kept table size words =
    let few = table.few in
    table_coded table size (λ i h. words i (omega arith)) (λ n h. ap (◌% excluded_mark) (words (6144 + n) (omega arith)))
