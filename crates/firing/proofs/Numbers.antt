-- Numbers below a bound: sets of their names, counts of those of which a test holds.
use Prim.Native.Nat.{ℕ, zero, suc, ◌+◌, ◌≤◌, ◌<◌}
use native.Mathlib.Omega.{arith}
use mathlib.Core.Path.{◌≡◌, refl, sym, ap, ◌∙◌}
use mathlib.Core.Bool.{Bool, true, false, not, cond}
use mathlib.Core.Logic.{◌⊎◌, inl, inr, ⊎_elim}
use mathlib.Core.List.Memᴰ
use mathlib.Core.List.{List, [], ◌∷◌, map, Memᴰ}
use lib.Dec.{T}
use lib.ListN.{length}
use Rattle.model.specs.Lists.{keep, count}
use Rattle.model.specs.Names.{Name, mem, from_list}
use Rattle.model.proofs.ListLaws.{map_intro, map_elim, keep_intro, keep_elim, keep_none, T_ext, T_true, T_false, count_cong, count_keep}
use Rattle.model.proofs.SetLaws.{Ascending, ascending_from_list, mem_intro, mem_elim, mem_from_list}
use Rattle.terms.proofs.Laws.{equal}
use Rattle.firing.specs.Held.{upto, set_of}

pub upto_intro : {n i : ℕ} → i < n → Memᴰ i (upto n)
unfolding upto
upto_intro {n = zero} {i} l = absurd (omega arith)
upto_intro {n = suc n} {i} l = ⊎_elim (λ e. Memᴰ.head e) (λ d. Memᴰ.tail (upto_intro {n = n} (omega (arith, d)))) (equal i n)

pub upto_elim : (n : ℕ) {i : ℕ} → Memᴰ i (upto n) → i < n
unfolding upto
upto_elim zero m = absurd (Memᴰ.not-nil m)
upto_elim (suc n) {i} m = ⊎_elim (λ e. omega (arith, e)) (λ k. let l = upto_elim n k in omega (arith, l)) (Memᴰ.cases_cons m)

pub not_not : (b : Bool) → T b → T (not (not b))
not_not true t = tt
not_not false t = absurd t

-- ---- sets of names

module _ (name : ℕ → Name) (test : ℕ → Bool) where
  pub set_intro : {N n : ℕ} → n < N → T (test n) → T (mem (name n) (set_of name test N))
  unfolding set_of
  set_intro {N} {n} l t =
      (mem_from_list (name n) (map name (keep test (upto N)))).1 (mem_intro (map_intro name (keep_intro test (upto_intro l) t)))

  pub set_elim : (N : ℕ) {k : Name} → T (mem k (set_of name test N)) → (n : ℕ) × (n < N) × T (test n) × (k ≡ name n)
  unfolding set_of
  set_elim N {k} t =
      let (n, m, e) = map_elim name (keep test (upto N)) (mem_elim ((mem_from_list k (map name (keep test (upto N)))).0 t)) in
      let (i, u) = keep_elim test (upto N) m in
      (n, upto_elim N i, u, sym e)

  pub set_ascending : (N : ℕ) → Ascending (set_of name test N)
  unfolding set_of
  set_ascending N = ascending_from_list (map name (keep test (upto N)))

  -- a name is in the set where the test holds, if no other number has it
  pub set_at : (N n : ℕ) → n < N → ((m : ℕ) → m < N → T (test m) → name n ≡ name m → n ≡ m) → mem (name n) (set_of name test N) ≡ test n
  set_at N n l apart = T_ext (λ t. let (m, k, u, e) = set_elim N t in rw (apart m k u e) u) (λ t. set_intro l t)

  -- the test holds nowhere
  pub set_none : (n : ℕ) → ((i : ℕ) → i < n → T (not (test i))) → set_of name test n ≡ []
  unfolding set_of from_list
  set_none n h = rw (keep_none test (upto n) (λ i m. h i (upto_elim n m)))

-- ---- counts

-- a count is at most how many there are
pub count_upto : (p : ℕ → Bool) (n : ℕ) → count p (upto n) ≤ n
unfolding count upto
count_upto p zero = omega arith
count_upto p (suc n) = go (p n) (count_upto p n)
  where
    go : (b : Bool) → count p (upto n) ≤ n → cond b (1 + count p (upto n)) (count p (upto n)) ≤ suc n
    go true l = omega arith
    go false l = omega arith

-- tests that agree from a on count alike there
pub range_agree : (p q : ℕ → Bool) (a d : ℕ) → ((i : ℕ) → a ≤ i → i < a + d → p i ≡ q i)
    → count p (upto (a + d)) + count q (upto a) ≡ count p (upto a) + count q (upto (a + d))
unfolding count upto
range_agree p q a zero same = let e : a + 0 ≡ a = omega arith in rw e
range_agree p q a (suc d) same =
    let e : a + suc d ≡ suc (a + d) = omega arith in
    rw (e, same (a + d) (omega arith) (omega arith)) (go (q (a + d)) (range_agree p q a d (λ i l m. same i l (omega arith))))
  where
    go : (b : Bool) → count p (upto (a + d)) + count q (upto a) ≡ count p (upto a) + count q (upto (a + d))
        → cond b (1 + count p (upto (a + d))) (count p (upto (a + d))) + count q (upto a)
        ≡ count p (upto a) + cond b (1 + count q (upto (a + d))) (count q (upto (a + d)))
    go true h = omega arith
    go false h = h

pub count_none : (test : ℕ → Bool) (l : List ℕ) → ((i : ℕ) → T (not (test i))) → count test l ≡ 0
count_none test l h = count_keep test l ∙ ap length (keep_none test l (λ i m. h i))

-- where a test holds of one number below N it is counted
pub count_some : (p : ℕ → Bool) (N i : ℕ) → i < N → T (p i) → 0 < count p (upto N)
count_some p N i l t = rw (count_keep p (upto N)) (mem_some (keep_intro p (upto_intro l) t))
  where
    mem_some : {l : List ℕ} → Memᴰ i l → 0 < length l
    mem_some (Memᴰ.head e) = omega arith
    mem_some (Memᴰ.tail m) = omega arith

-- two tests that differ at one number below N
pub count_less : (p q : ℕ → Bool) (N i : ℕ) → i < N → T (p i) → T (not (q i)) → ((j : ℕ) → j < N → (j ≡ i → ⊥) → q j ≡ p j)
    → count q (upto N) + 1 ≡ count p (upto N)
unfolding upto count
count_less p q zero i l t u same = absurd (omega arith)
count_less p q (suc N) i l t u same =
    ⊎_elim
    (λ (e : i ≡ N). here (T_true (p N) (rw e at t)) (T_false (q N) (rw e at u))
    (count_cong q p (upto N) (λ j m. let k = upto_elim N m in same j (omega arith) (λ d. omega arith))))
    (λ d. there (q N) (same N (omega arith) (λ e. d (sym e))) (count_less p q N i (omega (arith, d)) t u (λ j k. same j (omega arith))))
    (equal i N)
  where
    here : p N ≡ true → q N ≡ false → count q (upto N) ≡ count p (upto N)
        → cond (q N) (1 + count q (upto N)) (count q (upto N)) + 1 ≡ cond (p N) (1 + count p (upto N)) (count p (upto N))
    here a b c = rw (a, b) (omega arith)

    there : (b : Bool) → b ≡ p N → count q (upto N) + 1 ≡ count p (upto N)
        → cond b (1 + count q (upto N)) (count q (upto N)) + 1 ≡ cond (p N) (1 + count p (upto N)) (count p (upto N))
    there true e c = rw (← e) (omega arith)
    there false e c = rw (← e) c

-- two tests of which never both hold, and a third that holds where one of them does
pub count_both : (p q s : ℕ → Bool) (l : List ℕ)
    → ((e : ℕ) → Memᴰ e l → ((p e ≡ s e) × (q e ≡ false)) ⊎ ((q e ≡ s e) × (p e ≡ false))) → count p l + count q l ≡ count s l
unfolding count
count_both p q s [] h = refl
count_both p q s (e ∷ l) h = go (h e (Memᴰ.head refl)) (count_both p q s l (λ d m. h d (Memᴰ.tail m)))
  where
    go : ((p e ≡ s e) × (q e ≡ false)) ⊎ ((q e ≡ s e) × (p e ≡ false)) → count p l + count q l ≡ count s l
        → count p (e ∷ l) + count q (e ∷ l) ≡ count s (e ∷ l)
    go (inl (a, b)) c = rw (a, b) (left (s e) c)
      where
        left : (b : Bool) → count p l + count q l ≡ count s l → cond b (1 + count p l) (count p l) + count q l ≡ cond b (1 + count s l) (count s l)
        left true c = omega arith
        left false c = c
    go (inr (a, b)) c = rw (a, b) (right (s e) c)
      where
        right : (b : Bool) → count p l + count q l ≡ count s l → count p l + cond b (1 + count q l) (count q l) ≡ cond b (1 + count s l) (count s l)
        right true c = omega arith
        right false c = c
