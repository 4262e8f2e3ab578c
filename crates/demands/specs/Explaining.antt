-- Document 02, Change 2, of the call: what it comes to, each exactly when, and what it leaves of the table; Change 7: 15, and the
-- ask or also line "named by its position from 1".
use Rattle.std.specs.Prelude.{ℕ, suc, ◌≤◌, ◌<◌, ◌≡◌, ◌↔◌, ◌⊎◌, List, ◌∷◌, length, take, drop}
use Rattle.model.specs.Reading.{Ask, State}
use Rattle.model.specs.Outcome.{Lent, stopped, front}
use Rattle.model.specs.Reasons.{rows, met_number}
use Rattle.model.specs.Explaining.{Explanation, refusal_at, no_position, told, row_table, explanation, table_after}
use Rattle.model.specs.declared.Refusal.{Refusal}
use Rattle.model.specs.declared.Row.{Row}
use Rattle.demands.specs.LinesRead.{LinesRead, At}
use Rattle.demands.specs.Demand1.{ShortSlice, LinesJudged}

-- the slices that 7 counts: the table and the working slices
abbrev pub with_table : ℕ → List Lent → List Lent
with_table table works = row_table table ∷ works

-- "7 also covers a table below 2,048 rows, in its old place"
abbrev pub ShortTable : Type 0
ShortTable = (table : ℕ) (works : List Lent) → ShortSlice (with_table table works) ↔ ((table < 2048) ⊎ ShortSlice works)

-- "15 when the named position has no ask line, after all lines are read, with place 0"
abbrev pub When15 : List ℕ → ℕ → List Lent → ℕ → Type 0
When15 file position works table =
    LinesJudged file (with_table table works)
    × ((s : State) × LinesRead file s × ((position ≡ 0) ⊎ (length s.asks < position)))

-- the rows and the number of names met, of the ask at the position; they fit into the table
abbrev pub WhenTold : List ℕ → ℕ → List Lent → ℕ → List Row → ℕ → Type 0
WhenTold file position works table given met =
    LinesJudged file (with_table table works)
    × ((s : State) × LinesRead file s × ((a : Ask) × ((k : ℕ) × (position ≡ suc k) × At s.asks k a)
    × (given ≡ rows a s) × (met ≡ met_number a s) × (length given ≤ table)))

-- what the call comes to: a refusal of the front, each exactly as Demand1 says of the front; 15; or the rows
pub record Explains (file : List ℕ) (position : ℕ) (works : List Lent) (table : ℕ) : Type 0 where
  pub refused : (r : Refusal) (n : ℕ)
      → (explanation file position works table ≡ refusal_at r n) ↔ (front file (with_table table works) ≡ stopped r n)
  pub refused_15 : (explanation file position works table ≡ no_position) ↔ When15 file position works table
  pub rows_told : (given : List Row) (met : ℕ)
      → (explanation file position works table ≡ told given met) ↔ WhenTold file position works table given met

abbrev pub Explained : Type 0
Explained = (file : List ℕ) (position : ℕ) (works : List Lent) (table : ℕ) → Explains file position works table

-- "The rows filled are counted too, rows past them stay untouched .. A refusal touches no row"
abbrev pub TableKept : Explanation → List Row → Type 0
TableKept (refusal_at r place) table = table_after (refusal_at r place) table ≡ table
TableKept no_position table = table_after no_position table ≡ table
TableKept (told given met) table =
    length given ≤ length table
    → (length (table_after (told given met) table) ≡ length table)
    × (take (length given) (table_after (told given met) table) ≡ given)
    × (drop (length given) (table_after (told given met) table) ≡ drop (length given) table)

abbrev pub TableExact : Type 0
TableExact = (e : Explanation) (table : List Row) → TableKept e table
