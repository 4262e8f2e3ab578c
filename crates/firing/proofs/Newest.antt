-- The newest number of a value.
use Prim.Native.Nat.{ℕ, zero, suc, ◌-◌, ◌<◌}
use native.Mathlib.Omega.{arith}
use mathlib.Core.Path.{◌≡◌, refl}
use mathlib.Core.Bool.{Bool, true, false, cond}
use mathlib.Core.Logic.{⊎_elim}
use lib.Dec.{eqb}
use borrow.Author.Tests.{eqb-true, eqb-false}
use Rattle.terms.proofs.Laws.{equal}
use Rattle.records.specs.Filing.{newest}

module _ (f : ℕ → ℕ) (n : ℕ) where
  -- it has the value
  pub newest_at : (k m : ℕ) → newest f n k ≡ suc m → (m < k) × (f m ≡ n)
  unfolding newest
  newest_at zero m e = absurd (omega arith)
  newest_at (suc k) m e = go (eqb (f k) n) refl e (newest_at k m)
    where
      go : (b : Bool) → eqb (f k) n ≡ b → cond b (suc k) (newest f n k) ≡ suc m → (newest f n k ≡ suc m → (m < k) × (f m ≡ n)) → (m < suc k) × (f m ≡ n)
      go true q e ih = let z : m ≡ k = omega arith in (omega arith, rw z (eqb-true (f k) n q))
      go false q e ih = let (a, b) = ih e in (omega arith, b)

  -- where there is none, no number has it
  pub newest_none : (k : ℕ) → newest f n k ≡ 0 → (m : ℕ) → m < k → f m ≡ n → ⊥
  unfolding newest
  newest_none zero e m l q = omega arith
  newest_none (suc k) e m l q = go (eqb (f k) n) refl e (newest_none k)
    where
      go : (b : Bool) → eqb (f k) n ≡ b → cond b (suc k) (newest f n k) ≡ 0 → (newest f n k ≡ 0 → (m : ℕ) → m < k → f m ≡ n → ⊥) → ⊥
      go true r e ih = omega arith
      go false r e ih =
          ⊎_elim (λ (z : m ≡ k). eqb-false (f k) n r (rw z at q)) (λ (z : m ≡ k → ⊥). ih e m (omega arith) q) (equal m k)

-- the newest has the value
pub newest_value : (f : ℕ → ℕ) (n k : ℕ) → 0 < newest f n k → f (newest f n k - 1) ≡ n
newest_value f n k l = (newest_at f n k (newest f n k - 1) (omega arith)).1
