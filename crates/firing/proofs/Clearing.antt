-- The columns set to zero: nothing is met or reached; how many records are not reached, and names not met, at most.
use Prim.Native.Nat.{ℕ, zero, suc, ◌+◌, ◌≤◌, ◌<◌}
use native.Mathlib.Omega.{arith}
use mathlib.Core.Path.{◌≡◌, refl, sym, ◌∙◌}
use mathlib.Core.Bool.{not}
use mathlib.Core.Logic.{⊎_elim}
use mathlib.Core.List.{List}
use lib.Dec.{T}
use lib.ListN.{length, get_or, length-set}
use lib.Seq.{ext_get_or, get_or-set_same, get_or-set_other}
use borrow.Author.Tests.{le-ltb}
use Rattle.model.specs.Reading.{most_records}
use Rattle.model.proofs.ListLaws.{false_T}
use Rattle.terms.proofs.Laws.{below, equal}
use Rattle.words.specs.Slices.{Zeroed}
use Rattle.firing.specs.Met.{reached_column, is_met, is_reached, unreached, unmet, zeroed_to}
use Rattle.firing.proofs.Numbers.{count_upto}

pub clear_length : (n : ℕ) (w : List ℕ) → length (zeroed_to n w) ≡ length w
unfolding zeroed_to
clear_length zero w = refl
clear_length (suc n) w = length-set (zeroed_to n w) n 0 ∙ clear_length n w

pub clear_zero : (n : ℕ) (w : List ℕ) → n ≤ length w → (i : ℕ) → i < n → ◌≡◌ {A = ℕ} (get_or (zeroed_to n w) i 0) 0
unfolding zeroed_to
clear_zero zero w l i k = absurd (omega arith)
clear_zero (suc n) w l i k =
    ⊎_elim
    (λ (q : i ≡ n). rw q (get_or-set_same (zeroed_to n w) n 0 0 (let e = clear_length n w in omega arith)))
    (λ d. get_or-set_other (zeroed_to n w) n i 0 0 d ∙ clear_zero n w (omega arith) i (omega (arith, d)))
    (equal i n)

pub clear_far : (n : ℕ) (w : List ℕ) (i : ℕ) → n ≤ i → get_or (zeroed_to n w) i 0 ≡ get_or w i 0
unfolding zeroed_to
clear_far zero w i k = refl
clear_far (suc n) w i k = get_or-set_other (zeroed_to n w) n i 0 0 (λ e. omega arith) ∙ clear_far n w i (omega arith)

-- what clears a column from word 0 on
pub zeroed_is : (n : ℕ) (w v : List ℕ) → n ≤ length w → Zeroed 0 n w v → v ≡ zeroed_to n w
zeroed_is n w v l z =
    ext_get_or 0 v (zeroed_to n w) (z.same.same_length ∙ sym (clear_length n w)) words
  where
    words : (i : ℕ) → i < length v → get_or v i 0 ≡ get_or (zeroed_to n w) i 0
    words i h =
        ⊎_elim (λ (x : i < n). z.zero i (omega arith) (omega arith) ∙ sym (clear_zero n w l i x))
        (λ (x : n ≤ i). z.same.same_words i (λ a b. omega arith) ∙ sym (clear_far n w i x)) (below i n)

pub few_unreached : (w : List ℕ) → unreached w ≤ most_records
unfolding unreached
few_unreached w = count_upto (λ i. not (is_reached w i)) most_records

pub few_unmet : (n : ℕ) (w : List ℕ) → unmet n w ≤ n
unfolding unmet
few_unmet n w = count_upto (λ m. not (is_met w m)) n

-- a word that is zero marks nothing
pub none_met : (w : List ℕ) (n : ℕ) → ◌≡◌ {A = ℕ} (get_or w n 0) 0 → T (not (is_met w n))
unfolding is_met
none_met w n e = false_T (le-ltb 0 (get_or w n 0) (omega arith))

pub none_reached : (w : List ℕ) (i : ℕ) → ◌≡◌ {A = ℕ} (get_or w (reached_column + i) 0) 0 → T (not (is_reached w i))
unfolding is_reached
none_reached w i e = false_T (le-ltb 0 (get_or w (reached_column + i) 0) (omega arith))
