-- What the functions of this crate rest on, said of plain lists: the table's rows and references.
use Prim.Native.Nat.{ℕ, ◌+◌, ◌≤◌, ◌<◌}
use mathlib.Core.Path.{◌≡◌, refl}
use mathlib.Core.Bool.{Bool, true, false}
use mathlib.Core.Logic.{◌⊎◌, inl, inr}
use mathlib.Core.List.{List}
use lib.Dec.{eqb, ltb}
use borrow.Author.Tests.{eq-eqb, ne_eqb, lt-ltb, le-ltb, eqb-true, eqb-false, ltb-true, ltb-false}
use Rattle.terms.specs.Rows.{row_kind, row_start, row_extra, row_end, bare_of, groups_at, has_head}

-- two numbers are equal or not
pub equal : (m n : ℕ) → (m ≡ n) ⊎ (m ≡ n → ⊥)
equal m n = go (eqb m n) refl
  where
    go : (b : Bool) → eqb m n ≡ b → (m ≡ n) ⊎ (m ≡ n → ⊥)
    go true e = inl (eqb-true m n e)
    go false e = inr (eqb-false m n e)

-- a number is below another or not
pub below : (m n : ℕ) → (m < n) ⊎ (n ≤ m)
below m n = go (ltb m n) refl
  where
    go : (b : Bool) → ltb m n ≡ b → (m < n) ⊎ (n ≤ m)
    go true e = inl (ltb-true m n e)
    go false e = inr (ltb-false m n e)

-- ---- rows

-- the references of a row end where those of the next start
pub end_next : (rows : List ℕ) (used many t : ℕ) → t + 1 < many → row_end rows used many t ≡ row_start rows (t + 1)
unfolding row_end
end_next rows used many t h = rw (lt-ltb (t + 1) many h)

-- those of the last row end with the last reference
pub end_last : (rows : List ℕ) (used many t : ℕ) → many ≤ t + 1 → row_end rows used many t ≡ used
unfolding row_end
end_last rows used many t h = rw (le-ltb (t + 1) many h)

-- a label's term is in its row
pub bare_label : (rows : List ℕ) (t : ℕ) → row_kind rows t ≡ 7 → bare_of rows t ≡ row_extra rows t
unfolding bare_of
bare_label rows t h = rw (eq-eqb (row_kind rows t) 7 h)

-- any other term is its own
pub bare_own : (rows : List ℕ) (t : ℕ) → (row_kind rows t ≡ 7 → ⊥) → bare_of rows t ≡ t
unfolding bare_of
bare_own rows t h = rw (ne_eqb (row_kind rows t) 7 h)

-- an `all` has the groups of its row
pub groups_all : (rows : List ℕ) (t u : ℕ) → u ≡ bare_of rows t → row_kind rows u ≡ 4 → groups_at rows t ≡ row_extra rows u
unfolding groups_at
groups_all rows t u e h = rw (← e, eq-eqb (row_kind rows u) 4 h)

-- another term has none
pub groups_other : (rows : List ℕ) (t u : ℕ) → u ≡ bare_of rows t → (row_kind rows u ≡ 4 → ⊥) → groups_at rows t ≡ 0
unfolding groups_at
groups_other rows t u e h = rw (← e, ne_eqb (row_kind rows u) 4 h)

-- a `free` has a head
pub head_free : (kind : ℕ) → kind ≡ 0 → has_head kind ≡ true
unfolding has_head
head_free kind h = rw h

-- else a call alone has
pub head_call : (kind : ℕ) → (kind ≡ 0 → ⊥) → has_head kind ≡ eqb kind 2
unfolding has_head
head_call kind h = rw (ne_eqb kind 0 h)
