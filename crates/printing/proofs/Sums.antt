-- Sums of the first numbers of a list, and counts padded with zeros.
use Prim.Native.Nat.{ℕ, zero, suc, ◌+◌, ◌-◌, ◌≤◌, ◌<◌}
use native.Mathlib.Numerals.{add-one}
use native.Mathlib.Omega.{arith}
use mathlib.Core.Path.{◌≡◌, refl, sym, ap, ◌∙◌}
use mathlib.Core.Bool.{Bool, true, false}
use mathlib.Core.List.{List, [], ◌∷◌, ◌++◌}
use lib.Dec.{leb}
use lib.ListN.{length, take, get_or, replicate, length-append}
use lib.Seq.{take_all}
use borrow.Author.Tests.{leb-true, leb-false}
use Rattle.model.specs.Lists.{sum}
use Rattle.model.specs.Reading.{most_asks}
use Rattle.model.specs.Outcome.{padded}
use Rattle.model.proofs.ListLaws.{zero_at}

-- one number more
sum_suc : (l : List ℕ) (i : ℕ) → sum (take (suc i) l) ≡ sum (take i l) + get_or l i 0
unfolding sum
sum_suc [] zero = refl
sum_suc [] (suc i) = refl
sum_suc (n ∷ l) zero = omega arith
sum_suc (n ∷ l) (suc i) = omega (arith, sum_suc l i)

pub sum_next : (l : List ℕ) (i n : ℕ) → n ≡ sum (take i l) → n + get_or l i 0 ≡ sum (take (i + 1) l)
sum_next l i n e = rw (add-one i, sum_suc l i, e)

-- the first numbers sum to no more than all
sum_first : (l : List ℕ) (i : ℕ) → sum (take i l) ≤ sum l
unfolding sum
sum_first [] zero = omega arith
sum_first [] (suc i) = omega arith
sum_first (n ∷ l) zero = omega arith
sum_first (n ∷ l) (suc i) = omega (arith, sum_first l i)

-- so do they with the next
pub sum_within : (l : List ℕ) (i n : ℕ) → n ≡ sum (take i l) → n + get_or l i 0 ≤ sum l
sum_within l i n e = omega (arith, sum_first l (i + 1), sum_next l i n e)

-- none, and all
pub sum_none : (l : List ℕ) → 0 ≡ sum (take 0 l)
unfolding sum
sum_none l = refl

pub sum_all : (l : List ℕ) (i n : ℕ) → n ≡ sum (take i l) → length l ≤ i → n ≡ sum l
sum_all l i n e h = e ∙ ap sum (take_all i l h)

-- a place before the end of the numbers, with one place more for each, is at one of them
pub sum_inside : (l : List ℕ) (i n j : ℕ) → n ≡ sum (take i l) → n + i ≤ j → j < sum l + length l → i < length l
sum_inside l i n j e h k = go (leb (length l) i) refl
  where
    go : (b : Bool) → leb (length l) i ≡ b → i < length l
    go false b = leb-false (length l) i b
    go true b = absurd (omega (arith, sum_all l i n e (leb-true (length l) i b), leb-true (length l) i b))

-- ---- counts padded with zeros

-- a count at a place is that before the zeros
pub padded_at : (l : List ℕ) (i : ℕ) → get_or (padded l) i 0 ≡ get_or l i 0
unfolding padded
padded_at l i = go l (most_asks - length l) i
  where
    go : (l : List ℕ) (n i : ℕ) → get_or (l ++ replicate n 0) i 0 ≡ get_or l i 0
    go [] n i = zero_at n i
    go (x ∷ l) n zero = refl
    go (x ∷ l) n (suc i) = go l n i

-- zeros sum to 0
zeros_first : (n i : ℕ) → sum (take i (replicate n 0)) ≡ 0
unfolding sum
zeros_first zero zero = refl
zeros_first zero (suc i) = refl
zeros_first (suc n) zero = refl
zeros_first (suc n) (suc i) = omega (arith, zeros_first n i)

-- the first counts sum to the same without the zeros
pub padded_first : (l : List ℕ) (i : ℕ) → sum (take i (padded l)) ≡ sum (take i l)
unfolding padded sum
padded_first l i = go l (most_asks - length l) i
  where
    go : (l : List ℕ) (n i : ℕ) → sum (take i (l ++ replicate n 0)) ≡ sum (take i l)
    go [] n zero = refl
    go [] n (suc i) = zeros_first n (suc i)
    go (x ∷ l) n zero = refl
    go (x ∷ l) n (suc i) = omega (arith, go l n i)

-- so do all
pub padded_sum : (l : List ℕ) → sum (padded l) ≡ sum l
padded_sum l =
    let n = length l + length (padded l) in
    sym (ap sum (take_all n (padded l) (omega arith))) ∙ padded_first l n ∙ ap sum (take_all n l (omega arith))

-- there are no fewer with the zeros
pub padded_long : (l : List ℕ) → length l ≤ length (padded l)
unfolding padded
padded_long l = omega (arith, length-append l (replicate (most_asks - length l) 0))
