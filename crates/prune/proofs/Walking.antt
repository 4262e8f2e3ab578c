-- The loops that list what is picked of the numbers below n, upward or downward.
use Prim.Native.Nat.{ℕ, ◌+◌, ◌-◌, ◌≤◌, ◌<◌}
use native.Mathlib.Omega.{arith}
use mathlib.Core.Path.{◌≡◌}
use mathlib.Core.Bool.{Bool, true, false}
use mathlib.Core.List.{List}
use lib.ListN.{length, set}
use Rattle.model.specs.Reading.{no_ambients, most_records}
use Rattle.model.specs.declared.Asked.{Asked}
use Rattle.model.specs.declared.Counts.{Counts}
use Rattle.records.specs.States.{ask_of}
use Rattle.firing.specs.Held.{upto}
use Rattle.prune.specs.Listing.{from, picked, ambient_at, ambient_records}
use Rattle.prune.specs.Loops.{kept_column, Behind, KeptBehind}
use Rattle.prune.proofs.Picking.{from_next, from_end, picked_next, picked_end}
use Rattle.prune.proofs.Writing.{Going, going_start, going_end, lists_none, pick_none, pick_one, pick_room}

-- ---- upward

-- the numbers from r on are left
pub record Rising (column : ℕ) (w : List ℕ) (m : ℕ) (pick : ℕ → ℕ) (n : ℕ) (v : List ℕ) (to r : ℕ) : Type 0 where
  pub high : r ≤ n
  pub going : Going column w m (picked pick (from 0 n)) v to (picked pick (from r (n - r)))

pub rising_start : (column : ℕ) (w : List ℕ) (m : ℕ) (pick : ℕ → ℕ) (n : ℕ) → Rising column w m pick n w m 0
rising_start column w m pick n =
    let e : n - 0 ≡ n = omega arith in
    record { high = omega arith; going = rw e (going_start column w m (picked pick (from 0 n))) }

module _ {column : ℕ} {w : List ℕ} {m : ℕ} {pick : ℕ → ℕ} {n : ℕ} {v : List ℕ} {to r : ℕ}
    (s : Rising column w m pick n v to r) where
  abbrev later : List ℕ
  later = picked pick (from (r + 1) (n - (r + 1)))

  module _ (h : r < n) {t : ℕ} (e : t ≡ pick r) where
    pub rising_none : t ≡ 0 → Rising column w m pick n v to (r + 1)
    rising_none z = record { high = omega arith; going = pick_none later s.going (from_next pick r n h) e z }

    pub rising_one : (t ≡ 0 → ⊥) → Rising column w m pick n (set v (column + to) (t - 1)) (to + 1) (r + 1)
    rising_one z = record { high = omega arith; going = pick_one later s.going (from_next pick r n h) e z }

    pub rising_room : {most : ℕ} → (t ≡ 0 → ⊥) → m + length (picked pick (from 0 n)) ≤ most → to < most
    rising_room z f = pick_room later s.going (from_next pick r n h) e z f

  pub rising_end : n ≤ r → Behind column w m (picked pick (from 0 n)) v to
  rising_end h = going_end s.going (from_end pick r n h)

-- ---- downward

-- the numbers below i are left
pub record Falling (w : List ℕ) (m : ℕ) (pick : ℕ → ℕ) (n : ℕ) (v : List ℕ) (to i : ℕ) : Type 0 where
  pub high : i ≤ n
  pub going : Going kept_column w m (picked pick (upto n)) v to (picked pick (upto i))

pub falling_start : (w : List ℕ) (m : ℕ) (pick : ℕ → ℕ) (n : ℕ) → Falling w m pick n w m n
falling_start w m pick n = record { high = omega arith; going = going_start kept_column w m (picked pick (upto n)) }

module _ {w : List ℕ} {m : ℕ} {pick : ℕ → ℕ} {n : ℕ} {v : List ℕ} {to i : ℕ} (s : Falling w m pick n v to i) where
  module _ (h : 0 < i) {t : ℕ} (e : t ≡ pick (i - 1)) where
    pub falling_none : t ≡ 0 → Falling w m pick n v to (i - 1)
    falling_none z =
        let b = s.high in
        record { high = omega arith; going = pick_none (picked pick (upto (i - 1))) s.going (picked_next pick i h) e z }

    pub falling_one : (t ≡ 0 → ⊥) → Falling w m pick n (set v (kept_column + to) (t - 1)) (to + 1) (i - 1)
    falling_one z =
        let b = s.high in
        record { high = omega arith; going = pick_one (picked pick (upto (i - 1))) s.going (picked_next pick i h) e z }

    pub falling_room : (t ≡ 0 → ⊥) → m + length (picked pick (upto n)) ≤ most_records → to < most_records
    falling_room z f = pick_room (picked pick (upto (i - 1))) s.going (picked_next pick i h) e z f

  pub falling_end : i ≤ 0 → KeptBehind w m (picked pick (upto n)) v to
  falling_end h = going_end s.going (picked_end pick i h)

-- ---- option 1

module _ (recs : List ℕ) (k : Counts) (a : Asked) {x : Bool} (e : x ≡ no_ambients (ask_of recs a)) where
  -- no ambients with it
  pub ambients_off : (w : List ℕ) (m : ℕ) → x ≡ true → KeptBehind w m (ambient_records recs k a) w m
  unfolding ambient_records
  ambients_off w m t = rw (← e, t) (lists_none kept_column w m)

  -- without it they are those picked
  ambients_on : x ≡ false → ambient_records recs k a ≡ picked (ambient_at recs a) (upto k.records)
  unfolding ambient_records
  ambients_on t = rw (← e, t)

  pub ambients_listed : {w v : List ℕ} {m to : ℕ} → x ≡ false → KeptBehind w m (picked (ambient_at recs a) (upto k.records)) v to
      → KeptBehind w m (ambient_records recs k a) v to
  ambients_listed t l = rw (ambients_on t) l

  pub ambients_fit : (m : ℕ) → x ≡ false → m + length (ambient_records recs k a) ≤ most_records
      → m + length (picked (ambient_at recs a) (upto k.records)) ≤ most_records
  ambients_fit m t f = rw (ambients_on t) at f
