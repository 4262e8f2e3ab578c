-- Laws of the first place at which a test holds, and of the number of a name.
use Prim.Native.Nat.{ℕ, zero, suc, ◌≤◌, ◌<◌}
use native.Mathlib.Omega.{arith}
use mathlib.Core.Path.{◌≡◌, refl}
use mathlib.Core.Bool.{Bool, true, false, cond, not}
use mathlib.Core.List.{List, [], ◌∷◌, Memᴰ}
use lib.Dec.{T}
use lib.ListN.{length, get_or}
use Rattle.model.specs.Lists.{any, find_index}
use Rattle.model.specs.Names.{Name, same, name_number}
use Rattle.model.proofs.ListLaws.{any_intro, cond_true, cond_false}
use Rattle.model.proofs.SetLaws.{same_eq, same_refl}

module _ {A : Type 0} (test : A → Bool) (d : A) where
  -- the first place is no later than one at which the test holds
  pub index_le : (l : List A) (k : ℕ) → k < length l → T (test (get_or l k d)) → find_index test l ≤ k
  unfolding find_index
  index_le [] k h t = absurd (omega arith)
  index_le (x ∷ xs) zero h t = rw (cond_true (test x) 0 (suc (find_index test xs)) t) (omega arith)
  index_le (x ∷ xs) (suc k) h t = go (test x) (index_le xs k (omega arith) t)
    where
      go : (b : Bool) → find_index test xs ≤ k → cond b 0 (suc (find_index test xs)) ≤ suc k
      go true i = omega arith
      go false i = omega arith

  -- it is a place of the list, if the test holds of some element
  pub index_in : (l : List A) → T (any test l) → find_index test l < length l
  unfolding find_index any
  index_in [] t = absurd t
  index_in (x ∷ xs) t = go (test x) refl (index_in xs)
    where
      go : (b : Bool) → test x ≡ b → (T (any test xs) → find_index test xs < length xs) → cond b 0 (suc (find_index test xs)) < suc (length xs)
      go true e below = omega arith
      go false e below = let i = below (rw e at t) in omega arith

  -- where it is a place of the list, the test holds there
  pub index_holds : (l : List A) → find_index test l < length l → T (test (get_or l (find_index test l) d))
  unfolding find_index
  index_holds [] h = absurd (omega arith)
  index_holds (x ∷ xs) h = go (test x) refl h (index_holds xs)
    where
      go : (b : Bool) → test x ≡ b → cond b 0 (suc (find_index test xs)) < suc (length xs)
          → (find_index test xs < length xs → T (test (get_or xs (find_index test xs) d)))
          → T (test (get_or (x ∷ xs) (cond b 0 (suc (find_index test xs))) d))
      go true e h below = rw e tt
      go false e h below = below (omega arith)

  -- it holds at no earlier place
  pub index_before : (l : List A) (k : ℕ) → k < find_index test l → T (not (test (get_or l k d)))
  unfolding find_index
  index_before [] k h = absurd (omega arith)
  index_before (x ∷ xs) k h = go (test x) refl k h (index_before xs)
    where
      go : (b : Bool) → test x ≡ b → (k : ℕ) → k < cond b 0 (suc (find_index test xs))
          → ((j : ℕ) → j < find_index test xs → T (not (test (get_or xs j d)))) → T (not (test (get_or (x ∷ xs) k d)))
      go true e k h below = absurd (omega arith)
      go false e zero h below = rw e tt
      go false e (suc k) h below = below k (omega arith)

module _ {A : Type 0} (test : A → Bool) (x : A) (xs : List A) where
  -- the first place, by the first element
  pub index_here : T (test x) → find_index test (x ∷ xs) ≡ 0
  unfolding find_index
  index_here t = cond_true (test x) 0 (suc (find_index test xs)) t

  pub index_later : T (not (test x)) → find_index test (x ∷ xs) ≡ suc (find_index test xs)
  unfolding find_index
  index_later t = cond_false (test x) 0 (suc (find_index test xs)) t

-- a name of the list has its number
pub number_in : (names : List Name) {n : Name} → Memᴰ n names
    → (name_number names n < length names) × (get_or names (name_number names n) [] ≡ n)
unfolding name_number
number_in names {n} i =
    let h = index_in (λ m. same m n) [] names (any_intro (λ m. same m n) i (same_refl n)) in
    (h, same_eq (index_holds (λ m. same m n) [] names h))

-- and no lower one
pub number_le : (names : List Name) {n : Name} (k : ℕ) → k < length names → get_or names k [] ≡ n → name_number names n ≤ k
unfolding name_number
number_le names {n} k h e = index_le (λ m. same m n) [] names k h (rw e (same_refl n))
