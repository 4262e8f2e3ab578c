-- The sort of a name, by the record that took it.
use Prim.Native.Nat.{ℕ, ◌+◌, ◌-◌, ◌≤◌, ◌<◌}
use native.Mathlib.Omega.{arith}
use mathlib.Core.Path.{◌≡◌}
use mathlib.Core.List.{List, [], ◌∷◌}
use lib.ListN.{get_or}
use borrow.Author.Tests.{eq-eqb, ne_eqb, lt-ltb, le-ltb}
use Rattle.records.specs.Columns.{record_kind, record_line, assume_kind, taken_at}
use Rattle.std.specs.Prelude.{Option, None, Some}
use Rattle.precedence.specs.Sorts.{sort_number, sort_at, late_at, sorted_row, has_stamp}
use Rattle.precedence.specs.declared.Sort.{Sort}
use Rattle.precedence.specs.declared.Sort.TheVariants.{Late, Neither}

module _ (names recs : List ℕ) (i n t : ℕ) (e : t ≡ taken_at names n) where
  -- none took it
  pub sort_none : t ≡ 0 → Some Neither ≡ sort_at names recs i n
  unfolding sort_at
  sort_none z = rw (← e, eq-eqb t 0 z)

  module _ (d : t ≡ 0 → ⊥) (x : ℕ) (q : x ≡ record_kind recs (t - 1)) where
    -- a fact took it
    pub sort_fact : x ≡ assume_kind → Some Neither ≡ sort_at names recs i n
    unfolding sort_at
    sort_fact z = rw (← e, ne_eqb t 0 d, ← q, eq-eqb x 0 z)

    -- a def or fun took it, on an earlier line or not
    module _ (f : x ≡ assume_kind → ⊥) (a b : ℕ) (u : a ≡ record_line recs i) (v : b ≡ record_line recs (t - 1)) where
      pub sort_before : b < a → None ≡ sort_at names recs i n
      unfolding sort_at
      sort_before h = rw (← e, ne_eqb t 0 d, ← q, ne_eqb x 0 f, ← u, ← v, lt-ltb b a h)

      pub sort_late : a ≤ b → Some Late ≡ sort_at names recs i n
      unfolding sort_at
      sort_late h = rw (← e, ne_eqb t 0 d, ← q, ne_eqb x 0 f, ← u, ← v, le-ltb b a h)

-- the number of a sort is small
pub sort_small : (s : Sort) → sort_number s ≤ 2
unfolding sort_number
sort_small Late = omega arith
sort_small Neither = omega arith

module _ (names recs refs : List ℕ) (i n x : ℕ) (e : x ≡ get_or refs n 0) where
  -- a name without the stamp
  pub late_not : (x ≡ i + 1 → ⊥) → None ≡ late_at names recs (has_stamp refs i) i n
  unfolding late_at
  late_not z = rw (← e, ne_eqb x (i + 1) z)

  -- with it
  pub late_sort : x ≡ i + 1 → {s : Option Sort} → s ≡ sort_at names recs i n → s ≡ late_at names recs (has_stamp refs i) i n
  unfolding late_at
  late_sort z q = rw (← e, eq-eqb x (i + 1) z) q

-- no row without a sort
pub row_none : (recs : List ℕ) (i n : ℕ) {s : Option Sort} → s ≡ None → sorted_row recs i n s ≡ []
unfolding sorted_row
row_none recs i n e = rw e

-- one by a sort
pub row_one : (recs : List ℕ) (i n : ℕ) {s : Option Sort} {sort : Sort} → s ≡ Some sort
    → sorted_row recs i n s ≡ record { line = record_line recs i; number = n; cause = sort_number sort } ∷ []
unfolding sorted_row
row_one recs i n e = rw e
