-- Laws of lists: numbers in order, upward and downward; what is kept of them, mapped, turned round.
use Prim.Native.Nat.{ℕ, zero, suc, ◌+◌, ◌-◌, ◌≤◌, ◌<◌}
use native.Mathlib.Omega.{arith}
use mathlib.Core.Path.{◌≡◌, refl, sym, ap, ap₂, ◌∙◌}
use mathlib.Core.Logic.{⊎_elim}
use mathlib.Core.Bool.{Bool, true, false, cond, ◌&&◌, and_comm}
use mathlib.Core.List.Memᴰ
use mathlib.Core.List.{List, [], ◌∷◌, ◌++◌, map, reverse, reverse-cons, reverse-append, append-nil, Memᴰ}
use lib.Dec.{T, not_T}
use Rattle.model.specs.Lists.{keep, collect}
use Rattle.model.proofs.ListLaws.{cond_true, cond_false, keep_cong, keep_none, keep_append, collect_append}
use Rattle.terms.proofs.Laws.{equal}
use Rattle.firing.specs.Held.{upto}
use Rattle.prune.specs.Listing.{from}

-- ---- what is kept and collected

module _ {A : Type 0} where
  -- two tests one after the other
  pub keep_keep : (p q : A → Bool) (l : List A) → keep p (keep q l) ≡ keep (λ x. q x && p x) l
  unfolding keep
  keep_keep p q [] = refl
  keep_keep p q (x ∷ l) = go (q x) (keep_keep p q l)
    where
      go : (b : Bool) → keep p (keep q l) ≡ keep (λ x. q x && p x) l
          → keep p (cond b (x ∷ keep q l) (keep q l)) ≡ cond (b && p x) (x ∷ keep (λ x. q x && p x) l) (keep (λ x. q x && p x) l)
      go true h = ap (λ r. cond (p x) (x ∷ r) r) h
      go false h = h

  -- in either order
  pub keep_comm : (p q : A → Bool) (l : List A) → keep p (keep q l) ≡ keep q (keep p l)
  keep_comm p q l =
      keep_keep p q l ∙ keep_cong (λ x. q x && p x) (λ x. p x && q x) l (λ x m. and_comm (q x) (p x)) ∙ sym (keep_keep q p l)

  -- what is kept of a list turned round
  pub keep_reverse : (p : A → Bool) (l : List A) → keep p (reverse l) ≡ reverse (keep p l)
  unfolding keep
  keep_reverse p [] = refl
  keep_reverse p (x ∷ l) =
      ap (keep p) (reverse-cons x l) ∙ keep_append p (reverse l) (x ∷ []) ∙ ap (◌++ keep p (x ∷ [])) (keep_reverse p l) ∙ go (p x)
    where
      go : (b : Bool) → reverse (keep p l) ++ cond b (x ∷ []) [] ≡ reverse (cond b (x ∷ keep p l) (keep p l))
      go true = sym (reverse-cons x (keep p l))
      go false = append-nil (reverse (keep p l))

  -- to keep is to collect one or none of each
  pub keep_collect_one : (p : A → Bool) (l : List A) → keep p l ≡ collect (λ x. cond (p x) (x ∷ []) []) l
  unfolding keep collect
  keep_collect_one p [] = refl
  keep_collect_one p (x ∷ l) = go (p x) (keep_collect_one p l)
    where
      go : (b : Bool) {r : List A} → keep p l ≡ r → cond b (x ∷ keep p l) (keep p l) ≡ cond b (x ∷ []) [] ++ r
      go true h = ap (x ∷◌) h
      go false h = h

module _ {A B : Type 0} where
  -- what is kept of a mapped list
  pub keep_map : (p : B → Bool) (f : A → B) (l : List A) → keep p (map f l) ≡ map f (keep (λ x. p (f x)) l)
  unfolding keep
  keep_map p f [] = refl
  keep_map p f (x ∷ l) = go (p (f x)) (keep_map p f l)
    where
      go : (b : Bool) → keep p (map f l) ≡ map f (keep (λ x. p (f x)) l)
          → cond b (f x ∷ keep p (map f l)) (keep p (map f l)) ≡ map f (cond b (x ∷ keep (λ x. p (f x)) l) (keep (λ x. p (f x)) l))
      go true h = ap (f x ∷◌) h
      go false h = h

  -- to collect from what is kept
  pub collect_keep : (f : A → List B) (p : A → Bool) (l : List A) → collect f (keep p l) ≡ collect (λ x. cond (p x) (f x) []) l
  unfolding keep collect
  collect_keep f p [] = refl
  collect_keep f p (x ∷ l) = go (p x) (collect_keep f p l)
    where
      go : (b : Bool) {r : List B} → collect f (keep p l) ≡ r → collect f (cond b (x ∷ keep p l) (keep p l)) ≡ cond b (f x) [] ++ r
      go true h = ap (f x ++◌) h
      go false h = h

  -- what is collected, turned round
  pub reverse_collect : (f : A → List B) (l : List A) → reverse (collect f l) ≡ collect (λ x. reverse (f x)) (reverse l)
  unfolding collect
  reverse_collect f [] = refl
  reverse_collect f (x ∷ l) =
      reverse-append (f x) (collect f l)
      ∙ ap₂ ◌++◌ (reverse_collect f l) (sym (append-nil (reverse (f x))))
      ∙ sym (collect_append (λ x. reverse (f x)) (reverse l) (x ∷ []))
      ∙ ap (collect (λ x. reverse (f x))) (sym (reverse-cons x l))

-- to collect from what is collected
pub collect_collect : {A B C : Type 0} (g : B → List C) (f : A → List B) (l : List A) → collect g (collect f l) ≡ collect (λ x. collect g (f x)) l
unfolding collect
collect_collect g f [] = refl
collect_collect g f (x ∷ l) = collect_append g (f x) (collect f l) ∙ ap (collect g (f x) ++◌) (collect_collect g f l)

-- ---- numbers in order

-- where the n numbers from a on stand
pub from_elim : (a n : ℕ) {i : ℕ} → Memᴰ i (from a n) → (a ≤ i) × (i < a + n)
unfolding from
from_elim a zero m = absurd (Memᴰ.not-nil m)
from_elim a (suc n) m =
    ⊎_elim (λ e. (omega arith, omega arith)) (λ k. let (h, l) = from_elim (a + 1) n k in (omega arith, omega arith)) (Memᴰ.cases_cons m)

-- a number of the first n
pub from_below : (n : ℕ) {i : ℕ} → Memᴰ i (from 0 n) → i < n
from_below n m = let (h, l) = from_elim 0 n m in omega arith

-- one more at the end
pub from_snoc : (a n : ℕ) → from a (suc n) ≡ from a n ++ ((a + n) ∷ [])
unfolding from
from_snoc a zero = ap (◌∷ []) (let e : a ≡ a + 0 = omega arith in e)
from_snoc a (suc n) = ap (a ∷◌) (from_snoc (a + 1) n ∙ ap (λ i. from (a + 1) n ++ (i ∷ [])) (let e : a + 1 + n ≡ a + suc n = omega arith in e))

-- what the numbers from r on give: what the first gives, and the rest; past the last, nothing
pub collect_from : {A : Type 0} (f : ℕ → List A) (r n : ℕ) → r < n
    → collect f (from r (n - r)) ≡ f r ++ collect f (from (r + 1) (n - (r + 1)))
unfolding collect from
collect_from f r n h = ap (λ (k : ℕ). collect f (from r k)) (let e : n - r ≡ suc (n - (r + 1)) = omega arith in e)

pub collect_past : {A : Type 0} (f : ℕ → List A) (r n : ℕ) → n ≤ r → collect f (from r (n - r)) ≡ []
unfolding collect from
collect_past f r n h = ap (λ (k : ℕ). collect f (from r k)) (let e : n - r ≡ 0 = omega arith in e)

-- downward is upward turned round
pub upto_reverse : (n : ℕ) → upto n ≡ reverse (from 0 n)
unfolding upto from
upto_reverse zero = refl
upto_reverse (suc n) =
    ap (n ∷◌) (upto_reverse n)
    ∙ sym (ap reverse (from_snoc 0 n ∙ ap (λ i. from 0 n ++ (i ∷ [])) (let e : 0 + n ≡ n = omega arith in e)) ∙ reverse-append (from 0 n) (n ∷ []))

-- the same counted from 1
pub upto_reverse_1 : (n : ℕ) → map (λ j. j + 1) (upto n) ≡ reverse (from 1 n)
unfolding upto from
upto_reverse_1 zero = refl
upto_reverse_1 (suc n) =
    ap₂ ◌∷◌ (let e : n + 1 ≡ 1 + n = omega arith in e) (upto_reverse_1 n)
    ∙ sym (ap reverse (from_snoc 1 n) ∙ reverse-append (from 1 n) ((1 + n) ∷ []))

-- a test that holds of one number only keeps that
pub keep_only : (p : ℕ → Bool) (a n i : ℕ) → a ≤ i → i < a + n → T (p i) → ((j : ℕ) → Memᴰ j (from a n) → T (p j) → j ≡ i)
    → keep p (from a n) ≡ i ∷ []
unfolding keep from
keep_only p a zero i h l t only = absurd (omega arith)
keep_only p a (suc n) i h l t only =
    ⊎_elim
    (λ (e : a ≡ i).
    cond_true (p a) (a ∷ keep p (from (a + 1) n)) (keep p (from (a + 1) n)) (rw e t)
    ∙ ap₂ ◌∷◌ e (keep_none p (from (a + 1) n)
    (λ j m. not_T (p j) (λ u. let (k, r) = from_elim (a + 1) n m in omega (arith, only j (Memᴰ.tail m) u)))))
    (λ (d : a ≡ i → ⊥).
    cond_false (p a) (a ∷ keep p (from (a + 1) n)) (keep p (from (a + 1) n)) (not_T (p a) (λ u. d (only a (Memᴰ.head refl) u)))
    ∙ keep_only p (a + 1) n i (omega arith) (omega arith) t (λ j m. only j (Memᴰ.tail m)))
    (equal a i)
