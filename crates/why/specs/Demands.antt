-- Document 02, Change 2, of a call of reasons: what it answers and leaves, for every file, position, table and lent slice.
use Rattle.std.specs.Prelude.{ℕ, suc, ◌≤◌, ◌<◌, ◌≡◌, ◌↔◌, ◌⊎◌, length, take, drop}
use mathlib.Core.List.{List, ◌∷◌, Memᴰ}
use Rattle.model.specs.Lines.{lines}
use Rattle.model.specs.Names.{Name}
use Rattle.model.specs.Summaries.{Fact}
use Rattle.model.specs.Reading.{Ask, State}
use Rattle.model.specs.Outcome.{Lent, refusal_number}
use Rattle.model.specs.Working.{sizes}
use Rattle.model.specs.Reasons.{rows, met_number}
use Rattle.model.specs.Explaining.{row_table}
use Rattle.model.specs.declared.Refusal.{Refusal}
use Rattle.model.specs.declared.Row.{Row}
use Rattle.demands.specs.LinesRead.{LinesRead, At, Distinct}
use Rattle.demands.specs.Demand1.{OfFront, LinesJudged}
use Rattle.demands.specs.Asks.{asks_on}
use Rattle.demands.specs.Spelling.{SpelledInOrder}
use Rattle.demands.specs.Explaining.{When15}
use Rattle.demands.specs.Reasons.{ReachedBy, RowDue, Reason, RowFor, RowsRise, MetCounted, Grounded}
use Rattle.front.specs.Demand.{FrontDemand}
use Rattle.why.specs.Call.{Call, Exact}

-- its slices as 7 counts them: the table and the working slices
abbrev pub all_slices : Call → List Lent
all_slices c = row_table (length c.table) ∷ sizes c.lent

-- the call accepts the file
abbrev pub Accepts : Call → Type 0
Accepts c = c.answer.refusal ≡ 0

-- it refuses, with this number and place
abbrev pub Refuses : Call → ℕ → ℕ → Type 0
Refuses c number place = (c.answer.refusal ≡ number) × (c.answer.place ≡ place)

-- demand 1: it accepts, or refuses with a refusal of the front or 15, each exactly under its condition; a refusal has no counts and
-- "touches no row"
pub record Demand1 (c : Call) : Type 0 where
  pub refusals : Accepts c ⊎ (((r : Refusal) × OfFront r × Refuses c (refusal_number r) c.answer.place) ⊎ Refuses c 15 0)
  pub told : Accepts c ↔ (LinesJudged c.file (all_slices c) × ((s : State) × LinesRead c.file s
      × ((k : ℕ) × (c.position ≡ suc k) × (k < length s.asks))))
  pub front : FrontDemand (Refuses c) c.file (all_slices c) c.lent c.left
  pub refused_15 : (place : ℕ)
      → Refuses c 15 place ↔ ((place ≡ 0) × When15 c.file c.position (sizes c.lent) (length c.table))
  pub no_counts : (Accepts c → ⊥) → (c.answer.met ≡ 0) × (c.answer.rows ≡ 0)
  pub no_row : (Accepts c → ⊥) → c.table' ≡ c.table

-- the rows filled, from the start of the table on; "rows past them stay untouched"
abbrev pub filled : Call → List Row
filled c = take c.answer.rows c.table'

-- what an accepted call tells of the ask at its position
pub record ToldOf (c : Call) (s : State) (a : Ask) : Type 0 where
  pub rows_are : filled c ≡ rows a s
  pub counted_rows : c.answer.rows ≡ length (rows a s)
  pub past : drop c.answer.rows c.table' ≡ drop c.answer.rows c.table
  pub place : c.answer.place ≡ 0
  -- the numbers of names are those of first spelling, a trimmed token's after the names of its line
  pub spelled : SpelledInOrder c.file s
  -- a row is filled exactly for a reason
  pub exact : (r : Row) → Memᴰ r (filled c) ↔ Reason a s r
  -- there is one for each reached fact and each of its listed names met by the end of its round
  pub one_row : (f : Fact) (n : Name) → RowDue a s f n → RowFor a s f n
  -- "A supplier's round is always lower than its fact's"
  pub lower : (r : Row) (q : Reason a s r) → suc q.supplier_round ≤ q.due.round
  -- by fact name, then by listed name, each once
  pub in_order : RowsRise a s (filled c) × Distinct (filled c)
  -- following suppliers from any reached fact ends at a root or an ambient root
  pub grounded : (f : Fact) → ReachedBy a s f → Grounded a s f
  -- the number of the numbered names that are met
  pub met : c.answer.met ≡ met_number a s
  pub met_counted : MetCounted a s

-- the demands of a call; where it accepts, of the state that reading its file ends in and of the ask at its position
pub record Demands (c : Call) : Type 0 where
  pub demand_1 : Demand1 c
  pub accepted : Accepts c → (s : State) × LinesRead c.file s × (s.asks ≡ asks_on (lines c.file)) × ((a : Ask)
      × ((k : ℕ) × (c.position ≡ suc k) × At s.asks k a) × ToldOf c s a)

-- what a call leaves meets them
abbrev pub DemandsMet : Type 0
DemandsMet = (c : Call) → Exact c → Demands c

-- both
pub record KeptPromise (c : Call) : Type 0 where
  pub exact : Exact c
  pub demands : Demands c
