-- Document 02, Change 9, of the call: what it comes to, each exactly when, and what it leaves of the table.
use Rattle.std.specs.Prelude.{ℕ, ◌≤◌, ◌<◌, ◌≡◌, ◌↔◌, ◌⊎◌, List, length, take, drop}
use Rattle.model.specs.Reading.{State}
use Rattle.model.specs.Outcome.{Lent, stopped, front}
use Rattle.model.specs.Precedence.{late_rows}
use Rattle.model.specs.Checking.{Checked, refusal_at, listed_rows, check, table_after}
use Rattle.model.specs.declared.Refusal.{Refusal}
use Rattle.model.specs.declared.Refusal.TheVariants as refusal
use Rattle.model.specs.declared.Row.{Row}
use Rattle.demands.specs.LinesRead.{LinesRead}
use Rattle.demands.specs.Demand1.{LinesJudged, OfFront}

-- "8 is a row table too short for them, with the rows needed as its place"
abbrev pub WhenTableShort : List ℕ → List Lent → ℕ → ℕ → Type 0
WhenTableShort file works room place =
    LinesJudged file works
    × ((s : State) × LinesRead file s × (place ≡ length (late_rows s)) × (room < length (late_rows s)))

-- the rows, which the table holds
abbrev pub WhenRowsListed : List ℕ → List Lent → ℕ → List Row → Type 0
WhenRowsListed file works room given =
    LinesJudged file works × ((s : State) × LinesRead file s × (given ≡ late_rows s) × (length given ≤ room))

-- what the call comes to: a refusal of the front, each exactly as Demand1 says of the front; 8; or the rows
pub record Checks (file : List ℕ) (works : List Lent) (room : ℕ) : Type 0 where
  pub refused : (r : Refusal) (n : ℕ) → (r ≡ refusal.Room → ⊥)
      → (check file works room ≡ refusal_at r n) ↔ (front file works ≡ stopped r n)
  pub refused_8 : (place : ℕ) → (check file works room ≡ refusal_at refusal.Room place) ↔ WhenTableShort file works room place
  pub rows_listed : (given : List Row) → (check file works room ≡ listed_rows given) ↔ WhenRowsListed file works room given
  pub own_refusal : (r : Refusal) (n : ℕ) → check file works room ≡ refusal_at r n → (r ≡ refusal.Room) ⊎ OfFront r

abbrev pub CheckExact : Type 0
CheckExact = (file : List ℕ) (works : List Lent) (room : ℕ) → Checks file works room

-- a table of 6,144 rows is never too short
abbrev pub LongTable : Type 0
LongTable =
    (file : List ℕ) (works : List Lent) (room place : ℕ) → 6144 ≤ room
    → check file works room ≡ refusal_at refusal.Room place → ⊥

-- "Only listed rows are written, none on a refusal, and their count is told"
abbrev pub TableLeft : Checked → List Row → Type 0
TableLeft (refusal_at r place) table = table_after (refusal_at r place) table ≡ table
TableLeft (listed_rows given) table =
    length given ≤ length table
    → (length (table_after (listed_rows given) table) ≡ length table)
    × (take (length given) (table_after (listed_rows given) table) ≡ given)
    × (drop (length given) (table_after (listed_rows given) table) ≡ drop (length given) table)

abbrev pub RowsKept : Type 0
RowsKept = (c : Checked) (table : List Row) → TableLeft c table
