-- What is picked are records of the table.
use Prim.Native.Nat.{ℕ, suc, ◌-◌, ◌≤◌, ◌<◌}
use native.Mathlib.Omega.{arith}
use mathlib.Core.Path.{◌≡◌, refl}
use mathlib.Core.Bool.{Bool, true, false, cond}
use mathlib.Core.List.Memᴰ
use mathlib.Core.List.{List, [], ◌∷◌, Memᴰ}
use lib.Dec.{eqb}
use borrow.Author.Tests.{eqb-false}
use Rattle.model.specs.Reading.{no_ambients}
use Rattle.model.specs.declared.Asked.{Asked}
use Rattle.model.specs.declared.Counts.{Counts}
use Rattle.model.proofs.ListLaws.{cond_case, keep_elim, collect_elim}
use Rattle.records.specs.States.{ask_of}
use Rattle.firing.specs.Held.{upto}
use Rattle.firing.specs.Met.{is_reached}
use Rattle.firing.proofs.Numbers.{upto_elim}
use Rattle.firing.proofs.Background.{only}
use Rattle.prune.specs.Listing.{from, record_behind, picked, taker, reached_at, ambient_at, is_goal, reached_records, ambient_records, goal_records, followed_stamp, added_at, added_records}
use Rattle.prune.proofs.Ranges.{from_below}
use Rattle.prune.proofs.Picking.{ambient_small}

-- a record by its number and one
pub one_elim : (t : ℕ) {i : ℕ} → Memᴰ i (record_behind t) → t ≡ suc i
unfolding record_behind
one_elim t {i} m = go (eqb t 0) refl m
  where
    go : (b : Bool) → eqb t 0 ≡ b → Memᴰ i (cond b [] ((t - 1) ∷ [])) → t ≡ suc i
    go true e m = absurd (Memᴰ.not-nil m)
    go false e m = let d = eqb-false t 0 e in let q = only m in omega arith

-- what is picked, by the number that picks it
pub picked_elim : (pick : ℕ → ℕ) (l : List ℕ) {i : ℕ} → Memᴰ i (picked pick l) → (r : ℕ) × Memᴰ r l × (pick r ≡ suc i)
unfolding picked
picked_elim pick l m = let (r, a, b) = collect_elim (λ r. record_behind (pick r)) l m in (r, a, one_elim (pick r) b)

-- what is picked of numbers that pick records below a bound
picked_small : (pick : ℕ → ℕ) (l : List ℕ) (n : ℕ) → ((r : ℕ) → Memᴰ r l → pick r ≤ n) → {x : ℕ} → Memᴰ x (picked pick l) → x < n
picked_small pick l n low m = let (r, i, e) = picked_elim pick l m in let b = low r i in omega arith

pub reached_low : (names run : List ℕ) (r : ℕ) → reached_at names run r ≤ taker names r
unfolding reached_at
reached_low names run r =
    cond_case (λ x. x ≤ taker names r) (eqb (taker names r) 0) (omega arith)
    (cond_case (λ x. x ≤ taker names r) (is_reached run (taker names r - 1)) (omega arith) (omega arith))

pub reached_small : (names w : List ℕ) (named n : ℕ) → ((r : ℕ) → r < named → taker names r ≤ n) → {x : ℕ}
    → Memᴰ x (reached_records names w named) → x < n
reached_small names w named n low m =
    picked_small (reached_at names w) (from 0 named) n
    (λ r i. let a = reached_low names w r in let c = low r (from_below named i) in omega arith) m

added_low : (names : List ℕ) (stamp : ℕ → ℕ) (r : ℕ) → added_at names stamp r ≤ taker names r
unfolding added_at
added_low names stamp r = cond_case (λ x. x ≤ taker names r) (eqb (stamp r) followed_stamp) (omega arith) (omega arith)

pub added_small : (names : List ℕ) (stamp : ℕ → ℕ) (named n : ℕ) → ((r : ℕ) → r < named → taker names r ≤ n) → {x : ℕ}
    → Memᴰ x (added_records names named stamp) → x < n
added_small names stamp named n low m =
    picked_small (added_at names stamp) (from 0 named) n
    (λ r i. let a = added_low names stamp r in let c = low r (from_below named i) in omega arith) m

pub ambients_small : (recs : List ℕ) (k : Counts) (a : Asked) {x : ℕ} → Memᴰ x (ambient_records recs k a) → x < k.records
unfolding ambient_records
ambients_small recs k a {x} m = go (no_ambients (ask_of recs a)) m
  where
    go : (b : Bool) → Memᴰ x (cond b [] (picked (ambient_at recs a) (upto k.records))) → x < k.records
    go true m = absurd (Memᴰ.not-nil m)
    go false m =
        picked_small (ambient_at recs a) (upto k.records) k.records
        (λ r i. let y = ambient_small recs a r refl in let b = upto_elim k.records i in omega arith) m

pub goals_small : (recs : List ℕ) (k : Counts) (a : Asked) {x : ℕ} → Memᴰ x (goal_records recs k a) → x < k.records
goals_small recs k a m = from_below k.records (keep_elim (is_goal recs a) (from 0 k.records) m).0
