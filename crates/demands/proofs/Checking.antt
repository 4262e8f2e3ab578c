-- Change 9, of the call: what it comes to, each exactly when, and the table as it is left.
use Prim.Native.Nat.{ℕ, ◌≤◌, ◌<◌}
use native.Mathlib.Omega.{arith}
use mathlib.Core.Path.{◌≡◌, refl, ◌∙◌}
use mathlib.Core.Logic.{◌⊎◌, inl, inr, ⊎_elim}
use mathlib.Core.List.{List}
use lib.Dec.{leb, leb→le, nleb→lt}
use lib.ListN.{length, drop}
use lib.Seq.{take_at, drop_at}
use Rattle.model.specs.Reading.{State}
use Rattle.model.specs.Outcome.{Lent, Front, stopped, opened, front}
use Rattle.model.specs.Precedence.{late_rows}
use Rattle.model.specs.Checking.{Checked, refusal_at, listed_rows, checked, rows_fitting, check, table_after}
use Rattle.model.specs.declared.Refusal.{Refusal}
use Rattle.model.specs.declared.Refusal.TheVariants as refusal
use Rattle.model.specs.declared.Row.{Row}
use Rattle.model.proofs.ListLaws.{T_dec, T_true, T_false}
use Rattle.demands.specs.Demand1.{OfFront}
use Rattle.demands.specs.Checking.{WhenTableShort, WhenRowsListed, CheckExact, LongTable, RowsKept}
use Rattle.demands.proofs.Demand1.{clash, file_opened, front_stops, not_8}
use Rattle.demands.proofs.Slices.{front_length}
use Rattle.demands.proofs.Precedence.{late_rows_bound}

-- 8 or the rows of a state
data TableView (room : ℕ) (s : State) : Checked → Type 0 where
  lacking : room < length (late_rows s) → TableView room s (refusal_at refusal.Room (length (late_rows s)))
  listing : length (late_rows s) ≤ room → TableView room s (listed_rows (late_rows s))

table_view : (room : ℕ) (s : State) → TableView room s (rows_fitting room (checked (opened s)))
unfolding rows_fitting checked
table_view room s = ⊎_elim
    (λ t. rw (T_true (leb (length (late_rows s)) room) t) (listing (leb→le (length (late_rows s)) room t)))
    (λ t. rw (T_false (leb (length (late_rows s)) room) t) (lacking (nleb→lt (length (late_rows s)) room t)))
    (T_dec (leb (length (late_rows s)) room))

-- what the call comes to where the file is open, and where it stops
pub open_check : (file : List ℕ) (works : List Lent) (room : ℕ) {s : State} → front file works ≡ opened s
    → check file works room ≡ rows_fitting room (checked (opened s))
unfolding check
open_check file works room e = rw e

pub stopped_check : (file : List ℕ) (works : List Lent) (room : ℕ) {r : Refusal} {n : ℕ} → front file works ≡ stopped r n
    → check file works room ≡ refusal_at r n
unfolding check rows_fitting checked
stopped_check file works room e = rw e

-- what the call comes to, with the reason
data CheckView (file : List ℕ) (works : List Lent) (room : ℕ) : Checked → Type 0 where
  stops : {r : Refusal} {n : ℕ} → front file works ≡ stopped r n → CheckView file works room (refusal_at r n)
  tight : (s : State) → front file works ≡ opened s → room < length (late_rows s)
      → CheckView file works room (refusal_at refusal.Room (length (late_rows s)))
  roomy : (s : State) → front file works ≡ opened s → length (late_rows s) ≤ room → CheckView file works room (listed_rows (late_rows s))

fits : {file : List ℕ} {works : List Lent} {room : ℕ} (s : State) → front file works ≡ opened s → {c : Checked} → TableView room s c → CheckView file works room c
fits s e (lacking h) = tight s e h
fits s e (listing h) = roomy s e h

check_view : (file : List ℕ) (works : List Lent) (room : ℕ) → CheckView file works room (check file works room)
check_view file works room = go (front file works) refl
  where
    go : (f : Front) → front file works ≡ f → CheckView file works room (check file works room)
    go (stopped r n) e = rw (stopped_check file works room e) (stops e)
    go (opened s) e = rw (open_check file works room e) (fits s e (table_view room s))

module _ (file : List ℕ) (works : List Lent) (room : ℕ) where
  -- a refusal is 8 or one of the front
  own_refusal : (r : Refusal) (n : ℕ) → {c : Checked} → CheckView file works room c → c ≡ refusal_at r n → (r ≡ refusal.Room) ⊎ OfFront r
  own_refusal r n (stops {r = q} {n = m} e) p = let is : q ≡ r = cc in inr (rw is at (front_stops file works q m e))
  own_refusal r n (tight s e h) p = inl cc
  own_refusal r n (roomy s e h) p = absurd (clash cc)

  -- any other refusal than 8 is that of the front
  refused_front : (r : Refusal) (n : ℕ) → (r ≡ refusal.Room → ⊥) → {c : Checked} → CheckView file works room c → c ≡ refusal_at r n → front file works ≡ stopped r n
  refused_front r n other (stops {r = q} {n = m} e) p =
      let is : q ≡ r = cc in
      let place : m ≡ n = cc in
      rw (is, place) at e
  refused_front r n other (tight s e h) p = absurd (other cc)
  refused_front r n other (roomy s e h) p = absurd (clash cc)

  -- 8 is given where the rows are more than the table has
  refused_room : (place : ℕ) {c : Checked} → CheckView file works room c → c ≡ refusal_at refusal.Room place → WhenTableShort file works room place
  refused_room place (stops {r = q} {n = m} e) p = let is : q ≡ refusal.Room = cc in absurd (not_8 (front_stops file works q m e) is)
  refused_room place (tight s e h) p = let (j, f) = (file_opened file works s).0 e in (j, (s, f, cc, h))
  refused_room place (roomy s e h) p = absurd (clash cc)

  room_refused : (place : ℕ) → WhenTableShort file works room place → check file works room ≡ refusal_at refusal.Room place
  room_refused place (j, (s, f, is, h)) = rw is (open_check file works room ((file_opened file works s).1 (j, f)) ∙ at (table_view room s))
    where
      at : {c : Checked} → TableView room s c → c ≡ refusal_at refusal.Room (length (late_rows s))
      at (lacking k) = refl
      at (listing k) = absurd (omega arith)

  -- the rows are given where the table holds them
  rows_given : (given : List Row) {c : Checked} → CheckView file works room c → c ≡ listed_rows given → WhenRowsListed file works room given
  rows_given given (stops e) p = absurd (clash cc)
  rows_given given (tight s e h) p = absurd (clash cc)
  rows_given given (roomy s e h) p =
      let (j, f) = (file_opened file works s).0 e in
      let is : given ≡ late_rows s = cc in
      (j, (s, f, is, rw is h))

  given_rows : (given : List Row) → WhenRowsListed file works room given → check file works room ≡ listed_rows given
  given_rows given (j, (s, f, is, h)) = rw is (open_check file works room ((file_opened file works s).1 (j, f)) ∙ at (table_view room s))
    where
      below : length (late_rows s) ≤ room
      below = rw is at h

      at : {c : Checked} → TableView room s c → c ≡ listed_rows (late_rows s)
      at (lacking k) = absurd (omega (arith, below, k))
      at (listing k) = refl

-- the call comes to what it does exactly when
pub check_exact : CheckExact
check_exact file works room =
    record {
      refused = λ r n other. (refused_front file works room r n other (check_view file works room), stopped_check file works room);
      refused_8 = λ place. (refused_room file works room place (check_view file works room), room_refused file works room place);
      rows_listed = λ given. (rows_given file works room given (check_view file works room), given_rows file works room given);
      own_refusal = λ r n. own_refusal file works room r n (check_view file works room);
    }

-- a table of 6,144 rows holds them
pub long_table : LongTable
long_table file works room place h e =
    let (j, (s, f, is, k)) = ((check_exact file works room).refused_8 place).0 e in
    omega (arith, h, k, (late_rows_bound file s f).1)

-- the table after a call
pub rows_kept : RowsKept
unfolding table_after
rows_kept (refusal_at r place) table = refl
rows_kept (listed_rows given) table =
    λ h. (front_length given table (length given) refl h, take_at given (drop (length given) table) (length given) refl, drop_at given (drop (length given) table) (length given) refl)
