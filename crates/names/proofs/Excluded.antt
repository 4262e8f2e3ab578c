-- Laws of the excluded names of a table.
use Prim.Native.Nat.{ℕ, zero, suc, ◌+◌, ◌%◌, ◌≤◌, ◌<◌}
use native.Mathlib.Nat.{mod-mod, add-mod_right}
use native.Mathlib.Omega.{arith}
use mathlib.Core.Path.{◌≡◌, refl, sym, ap, ap₂, ◌∙◌}
use mathlib.Core.Logic.{inr, ⊎_elim}
use mathlib.Core.Bool.{true, false, ◌||◌, or-true, or-false}
use mathlib.Core.List.Memᴰ
use mathlib.Core.List.{List, [], ◌∷◌, ◌++◌, map, append_assoc, map-append, Memᴰ}
use lib.ListN.{length, get_or}
use lib.Seq.{get_or-set_same}
use lib.Dec.{not_T, leb}
use borrow.Author.Tests.{le-leb}
use Rattle.model.specs.Lists.{any, keep}
use Rattle.model.specs.Names.{Name, same, mem}
use Rattle.model.specs.Summaries.{exclude_names}
use Rattle.model.proofs.ListLaws.{T_true, T_false, T_ext, any_append, keep_intro, keep_elim, map_intro, map_elim, map_cong}
use Rattle.model.proofs.SetLaws.{same_refl, same_eq, mem_intro, mem_elim}
use Rattle.words.specs.Slices.{SameBut}
use Rattle.words.proofs.Slices.{same_set}
use Rattle.names.specs.Known.{excluded_mark}
use Rattle.names.specs.Table.{code_word, name_code, name_of, is_excluded, Excludes, excluded_at, Tells, Table}
use Rattle.names.proofs.Laws.{Stands, under, level, over, stands, below_or, last_or, distinct}
use Rattle.names.proofs.Entering.{entered_code, entered_keeps, entered_new}
use Rattle.names.proofs.Spelling.{WasKnown, IsNew, IsFull}
use Rattle.names.proofs.Coded.{word_excluded, Kept, table_coded}

-- a slice with the same words below 8192 tells the same
pub excluded_kept : (w w' : List ℕ) → ((i : ℕ) → i < 8192 → get_or w' i 0 ≡ get_or w i 0) → (n : ℕ) → n < 2048 → is_excluded w' n ≡ is_excluded w n
unfolding is_excluded
excluded_kept w w' words n h = rw (words (6144 + n) (omega arith))

-- ---- a table with no fewer names

-- a table tells what it tells
pub tells_same : {file w : List ℕ} {named : ℕ} → Tells file w w named named
tells_same = record { old = λ n h. refl; new = λ n p h few. absurd (omega arith) }

-- so does a slice with the same words below 8192
pub tells_kept : {file w w' : List ℕ} {named : ℕ} → named ≤ 2048 → ((i : ℕ) → i < 8192 → get_or w' i 0 ≡ get_or w i 0) → Tells file w w' named named
tells_kept {w} {w'} few words =
    record { old = λ n h. excluded_kept w w' words n (omega arith); new = λ n p h l. absurd (omega arith) }

-- one table after another
pub tells_then : {file w w₁ w₂ : List ℕ} {named named₁ named₂ : ℕ} → named ≤ named₁ → named₁ ≤ named₂
    → ((n : ℕ) → n < named₁ → name_of file w₂ n ≡ name_of file w₁ n)
    → Tells file w w₁ named named₁ → Tells file w₁ w₂ named₁ named₂ → Tells file w w₂ named named₂
tells_then {named₁ = named₁} p q same s t = record {
  old = λ n h. t.old n (omega arith) ∙ s.old n h;
  new = λ n l h few.
      ⊎_elim
      (λ k. t.new n k h few)
      (λ k. t.old n k ∙ s.new n l k (omega arith) ∙ ap (λ m. mem m exclude_names) (sym (same n k)))
      (below_or named₁ n);
}

-- a name that was known
pub tells_known : {file w w' : List ℕ} {named a e n : ℕ} → WasKnown file w w' named a e n → Tells file w w' named named
tells_known k = rw k.kept tells_same

-- a name that is new
pub tells_new : {file w w' : List ℕ} {named a e n : ℕ} → Table file w named → a ≤ e → IsNew file w w' named a e n → Tells file w w' named (named + 1)
unfolding is_excluded
tells_new {file} {w} {named = named} {a} {e} table o k =
    let few = k.few in
    let within = k.lacks.within in
    let room = table.room in
    rw k.slice
    (record {
      old = λ n h. ap (leb excluded_mark)
          (entered_keeps file w named a e k.rank within few room (6144 + n) (λ x. omega arith) (λ x. omega arith) (λ x. omega arith) (inr (omega arith)));
      new = λ n p h l.
          let is : n ≡ named = omega arith in
          rw (is, entered_code file w named a e k.rank within few room, entered_new file w named a e k.rank within few room o) (word_excluded _);
    })

-- a name for which there is no room
pub tells_full : {file w w' : List ℕ} {named named' a e : ℕ} → IsFull file w w' named a e → Tells file w w' named named'
tells_full k = rw k.kept (record { old = λ n h. refl; new = λ n p h l. absurd (omega (arith, k.full)) })

-- ---- the names that are excluded

-- there is a list of the excluded names of a table, whichever they are
pub excludes_some : {file w : List ℕ} {named : ℕ} → Table file w named → (exclude : List Name) × Excludes exclude file w named
excludes_some {file} {w} {named} table = (map (name_of file w) (keep (is_excluded w) (numbers named)), exact)
  where
    numbers : ℕ → List ℕ
    numbers zero = []
    numbers (suc k) = k ∷ numbers k

    listed : (k n : ℕ) → n < k → Memᴰ n (numbers k)
    listed zero n h = absurd (omega arith)
    listed (suc k) n h = ⊎_elim Memᴰ.head (λ l. Memᴰ.tail (listed k n l)) (last_or k h)

    below : (k n : ℕ) → Memᴰ n (numbers k) → n < k
    below zero n m = absurd (Memᴰ.not-nil m)
    below (suc k) n m = ⊎_elim (λ e. omega arith) (λ l. omega (arith, below k n l)) (Memᴰ.cases_cons m)

    exact : Excludes (map (name_of file w) (keep (is_excluded w) (numbers named))) file w named
    exact n h = T_ext
        (λ t. mem_intro (map_intro (name_of file w) (keep_intro (is_excluded w) (listed named n h) t)))
        (λ t.
        let (m, k, e) = map_elim (name_of file w) (keep (is_excluded w) (numbers named)) (mem_elim t) in
        let (l, u) = keep_elim (is_excluded w) (numbers named) k in
        rw (distinct table m n (below named m l) h e) at u)

-- a name is in two lists together where it is in one of them
mem_both : (n : Name) (l m : List Name) → mem n (l ++ m) ≡ (mem n l || mem n m)
unfolding mem
mem_both n l m = any_append (same n) l m

-- or is the last of a list
mem_last : (n m : Name) (l : List Name) → mem n (l ++ (m ∷ [])) ≡ (mem n l || same n m)
unfolding mem any
mem_last n m l = any_append (same n) l (m ∷ []) ∙ ap (mem n l ||◌) (or-false (same n m))

-- in a table a number that is not listed has none of the listed names
not_listed : {file w : List ℕ} {named : ℕ} → Table file w named → (n : ℕ) → n < named → (hs : List ℕ) → ((h : ℕ) → Memᴰ h hs → h < named)
    → (Memᴰ n hs → ⊥) → mem (name_of file w n) (map (name_of file w) hs) ≡ false
not_listed {file} {w} table n l hs small h =
    T_false (mem (name_of file w n) (map (name_of file w) hs)) (not_T (mem (name_of file w n) (map (name_of file w) hs))
    (λ t.
    let (m, k, e) = map_elim (name_of file w) hs (mem_elim t) in
    h (rw (distinct table m n (small m k) l e) at k)))

-- a table with no fewer names: the names that were excluded are, and of the others those of `exclude_names`
pub excludes_more : {file w w' : List ℕ} {named named' : ℕ} → Table file w' named' → named ≤ named'
    → ((n : ℕ) → n < named → name_of file w' n ≡ name_of file w n) → Tells file w w' named named'
    → (hs : List ℕ) → ((h : ℕ) → Memᴰ h hs → h < named)
    → Excludes (exclude_names ++ map (name_of file w) hs) file w named → Excludes (exclude_names ++ map (name_of file w') hs) file w' named'
excludes_more {file} {w} {w'} {named} table more same tells hs small before n h =
    ⊎_elim
    (λ (p : named ≤ n).
    let none = not_listed table n h hs (λ k m. omega (arith, small k m)) (λ m. omega (arith, small n m)) in
    tells.new n p h table.few
    ∙ sym (mem_both (name_of file w' n) exclude_names (map (name_of file w') hs) ∙ rw none (or-false (mem (name_of file w' n) exclude_names))))
    (λ (p : n < named).
    tells.old n p ∙ before n p
    ∙ ap₂ (λ m l. mem m (exclude_names ++ l)) (sym (same n p)) (sym (map_cong (name_of file w') (name_of file w) hs (λ k m. same k (small k m)))))
    (below_or named n)

-- ---- a name excluded

-- only the word of its head code changes
pub excluded_but : (w : List ℕ) (n : ℕ) → SameBut (6144 + n) 1 w (excluded_at w n)
unfolding excluded_at
excluded_but w n = same_set (6144 + n) 1 w (6144 + n) (name_code w n + excluded_mark) (omega arith) (omega arith)

-- the word of the name is its head code, marked
excluded_word : (w : List ℕ) (n : ℕ) → 6144 + n < length w → code_word (excluded_at w n) n ≡ name_code w n + excluded_mark
unfolding excluded_at
excluded_word w n h = get_or-set_same w (6144 + n) (name_code w n + excluded_mark) 0 h

-- the name is excluded
pub excluded_this : (w : List ℕ) (n : ℕ) → 6144 + n < length w → is_excluded (excluded_at w n) n ≡ true
unfolding is_excluded
excluded_this w n h = rw (excluded_word w n h) (le-leb excluded_mark (name_code w n + excluded_mark) (omega arith))

-- the others are as before
pub excluded_other : (w : List ℕ) (n m : ℕ) → (m ≡ n → ⊥) → is_excluded (excluded_at w n) m ≡ is_excluded w m
unfolding is_excluded
excluded_other w n m h = ap (leb excluded_mark) ((excluded_but w n).same_words (6144 + m) (λ a b. h (omega arith)))

-- the table has the same names
pub excluded_table : {file w : List ℕ} {named : ℕ} → Table file w named → (n : ℕ) → n < named → Kept file w (excluded_at w n) named
excluded_table {w} {named} table n l =
    let room = table.room in
    let few = table.few in
    let but = excluded_but w n in
    table_coded table but.same_length (λ i h. but.same_words i (λ a b. omega arith)) codes
  where
    codes : (m : ℕ) → m < named → name_code (excluded_at w n) m ≡ name_code w m
    codes m h = go (stands m n)
      where
        go : Stands m n → name_code (excluded_at w n) m ≡ name_code w m
        go (under k) = ap (◌% excluded_mark) ((excluded_but w n).same_words (6144 + m) (λ a b. omega arith))
        go (over k) = ap (◌% excluded_mark) ((excluded_but w n).same_words (6144 + m) (λ a b. omega arith))
        go (level k) =
            let few = table.few in
            let room = table.room in
            rw (k, excluded_word w n (omega arith), add-mod_right (name_code w n) excluded_mark, mod-mod (code_word w n) excluded_mark)

-- the excluded names are those before, and that one
pub excludes_one : {file w : List ℕ} {named : ℕ} → Table file w named → (n : ℕ) → n < named → (hs : List ℕ) → ((h : ℕ) → Memᴰ h hs → h < named)
    → Excludes (exclude_names ++ map (name_of file w) hs) file w named
    → Excludes (exclude_names ++ map (name_of file (excluded_at w n)) (hs ++ (n ∷ []))) file (excluded_at w n) named
excludes_one {file} {w} {named} table n l hs small before m h = go (stands m n) ∙ sym joined
  where
    kept : Kept file w (excluded_at w n) named
    kept = excluded_table table n l

    name : ℕ → Name
    name = name_of file (excluded_at w n)

    joined : mem (name m) (exclude_names ++ map name (hs ++ (n ∷ []))) ≡ (is_excluded w m || same (name m) (name n))
    joined =
        rw (map-append name hs (n ∷ []), ← append_assoc exclude_names (map name hs) (name n ∷ []))
        (mem_last (name m) (name n) (exclude_names ++ map name hs)
        ∙ ap (◌|| same (name m) (name n))
        (ap₂ (λ x y. mem x (exclude_names ++ y)) (kept.name m h) (map_cong name (name_of file w) hs (λ k u. kept.name k (small k u))) ∙ sym (before m h)))

    other : (m ≡ n → ⊥) → is_excluded (excluded_at w n) m ≡ (is_excluded w m || same (name m) (name n))
    other e =
        let new = T_false (same (name m) (name n)) (not_T (same (name m) (name n)) (λ t. e (distinct kept.table m n h l (same_eq t)))) in
        excluded_other w n m e ∙ sym (rw new (or-false (is_excluded w m)))

    go : Stands m n → is_excluded (excluded_at w n) m ≡ (is_excluded w m || same (name m) (name n))
    go (under k) = other (λ e. omega arith)
    go (over k) = other (λ e. omega arith)
    go (level k) =
        let few = table.few in
        let room = table.room in
        rw (k, excluded_this w n (omega arith), T_true (same (name n) (name n)) (same_refl (name n))) (sym (or-true (is_excluded w n)))
