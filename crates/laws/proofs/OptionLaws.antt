-- The options that are on sum to the options number, the groups that are admitted to the groups number.
use Prim.Native.Nat.{ℕ, zero, suc, ◌+◌, ◌*◌, ◌/◌, ◌%◌, ◌^◌, ◌≤◌, ◌<◌}
use native.Mathlib.Nat.{div-one, pow-succ', div-div-eq-div-mul}
use native.Mathlib.Omega.{arith}
use mathlib.Core.Path.{◌≡◌, refl, sym, ap}
use mathlib.Core.Bool.{Bool, true, false, cond}
use lib.Dec.{T, eqb, eqb_refl}
use borrow.Author.Tests.{eqb-true, eqb-false}
use Rattle.model.specs.Reading.{Ask, no_ambients, pretyping_axioms, prune_decls, follow_bodies, most_options}
use Rattle.model.specs.Rounds.{admits}
use Rattle.laws.specs.Places.{option_at, values_on}

-- the option at place 0 counts what remains by 2
last_digit : (n : ℕ) → cond (option_at 0 n) 1 0 ≡ n % 2
unfolding option_at
last_digit n = go (eqb (n % 2) 1) refl
  where
    go : (b : Bool) → eqb (n % 2) 1 ≡ b → cond b 1 0 ≡ n % 2
    go true e = sym (eqb-true (n % 2) 1 e)
    go false e = let other = eqb-false (n % 2) 1 e in omega arith

-- the values of k options that are on sum to the number
pub places_sum : (k n : ℕ) → n < 2 ^ k → values_on k n ≡ n
unfolding values_on
places_sum zero n h = omega arith
places_sum (suc k) n h = omega (arith, last_digit n, places_sum k (n / 2) (omega arith))

-- the option at a place, by one division
pub option_at_power : (k n : ℕ) → option_at k n ≡ eqb (n / 2 ^ k % 2) 1
unfolding option_at
option_at_power zero n = rw (div-one n)
option_at_power (suc k) n = rw (option_at_power k (n / 2), div-div-eq-div-mul n 2 (2 ^ k), pow-succ' 2 k)

-- one less than a power of 2 is on at each place below it
pub all_places_on : (k m n : ℕ) → k < m → n + 1 ≡ 2 ^ m → T (option_at k n)
unfolding option_at
all_places_on k zero n h e = absurd (omega arith)
all_places_on zero (suc m) n h e =
    let double = pow-succ' 2 m in
    let odd : n % 2 ≡ 1 = omega arith in
    rw odd (eqb_refl 1)
all_places_on (suc k) (suc m) n h e =
    let double = pow-succ' 2 m in
    all_places_on k m (n / 2) (omega arith) (omega arith)

-- a group is admitted where the groups number is on at its place
pub admits_at_place : (a : Ask) (k : ℕ) → admits a k ≡ option_at k a.groups
unfolding admits
admits_at_place a k = sym (option_at_power k a.groups)

-- the values of one option more: that at place k counts 2 ^ k
pub values_more : (k n : ℕ) → values_on (suc k) n ≡ values_on k n + cond (option_at k n) (2 ^ k) 0
unfolding values_on
values_more zero n = omega arith
values_more (suc k) n =
    let more = values_more k (n / 2) in
    let twice : cond (option_at (suc k) n) (2 ^ suc k) 0 ≡ 2 * cond (option_at k (n / 2)) (2 ^ k) 0 = unfold option_at in (rw (pow-succ' 2 k) (doubled (option_at k (n / 2)))) in
    omega arith
  where
    doubled : (b : Bool) → cond b (2 * 2 ^ k) 0 ≡ 2 * cond b (2 ^ k) 0
    doubled true = refl
    doubled false = refl

-- each option of an ask is at its place
pub options_at_places : (a : Ask)
    → (no_ambients a ≡ option_at 0 a.options)
    × (pretyping_axioms a ≡ option_at 1 a.options)
    × (prune_decls a ≡ option_at 2 a.options)
    × (follow_bodies a ≡ option_at 3 a.options)
unfolding no_ambients pretyping_axioms prune_decls follow_bodies option_at
options_at_places a = (
  refl,
  refl,
  ap (λ (n : ℕ). eqb (n % 2) 1) (let e : a.options / 4 ≡ a.options / 2 / 2 = omega arith in e),
  ap (λ (n : ℕ). eqb (n % 2) 1) (let e : a.options / 8 ≡ a.options / 2 / 2 / 2 = omega arith in e),
)

-- an option that is on counts its value
counts : (b : Bool) (v : ℕ) → cond b v 0 ≡ v * cond b 1 0
counts true v = omega arith
counts false v = omega arith

-- four options, by the places
four_places : (n : ℕ)
    → values_on 4 n
    ≡ cond (option_at 0 n) 1 0 + 2 * (cond (option_at 1 n) 1 0 + 2 * (cond (option_at 2 n) 1 0 + 2 * (cond (option_at 3 n) 1 0 + 2 * 0)))
unfolding values_on option_at
four_places n = refl

-- the options of an ask that are on, each at its value, sum to its number
pub options_sum : (a : Ask) → a.options ≤ most_options
    → cond (no_ambients a) 1 0 + cond (pretyping_axioms a) 2 0 + cond (prune_decls a) 4 0 + cond (follow_bodies a) 8 0 ≡ a.options
options_sum a h =
    let (first, second, third, fourth) = options_at_places a in
    rw (first, second, third, fourth)
    (omega (
      arith,
      counts (option_at 1 a.options) 2,
      counts (option_at 2 a.options) 4,
      counts (option_at 3 a.options) 8,
      four_places a.options,
      places_sum 4 a.options (omega arith),
    ))
