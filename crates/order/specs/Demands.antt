-- Document 02, Change 9, of a call of the order check: what it answers and leaves, for every file, table and lent slice.
use Rattle.std.specs.Prelude.{ℕ, ◌≤◌, ◌≡◌, ◌↔◌, ◌⊎◌, length, take, drop}
use mathlib.Core.List.{List, Memᴰ}
use Rattle.model.specs.Names.{Name}
use Rattle.model.specs.Reading.{Decl, State}
use Rattle.model.specs.Rounds.{definitions}
use Rattle.model.specs.Outcome.{Lent, refusal_number}
use Rattle.model.specs.Working.{sizes}
use Rattle.model.specs.Precedence.{late_rows}
use Rattle.model.specs.declared.Refusal.{Refusal}
use Rattle.model.specs.declared.Row.{Row}
use Rattle.demands.specs.LinesRead.{LinesRead}
use Rattle.demands.specs.Demand1.{OfFront, LinesJudged}
use Rattle.demands.specs.Spelling.{SpelledInOrder}
use Rattle.demands.specs.Checking.{WhenTableShort}
use Rattle.demands.specs.Precedence.{LateReason, LateRise, Depends, ComesBefore}
use Rattle.front.specs.Demand.{FrontDemand}
use Rattle.order.specs.Call.{Call, Exact}

-- its working slices as 7 counts them
abbrev pub works : Call → List Lent
works c = sizes c.lent

-- the call accepts the file
abbrev pub Accepts : Call → Type 0
Accepts c = c.answer.refusal ≡ 0

-- it refuses, with this number and place
abbrev pub Refuses : Call → ℕ → ℕ → Type 0
Refuses c number place = (c.answer.refusal ≡ number) × (c.answer.place ≡ place)

-- demand 1: it accepts, or refuses with a refusal of the front or 8, each exactly under its condition; a refusal has no rows and
-- writes none
pub record Demand1 (c : Call) : Type 0 where
  pub refusals : Accepts c
      ⊎ (((r : Refusal) × OfFront r × Refuses c (refusal_number r) c.answer.place) ⊎ Refuses c 8 c.answer.place)
  pub listed : Accepts c
      ↔ (LinesJudged c.file (works c) × ((s : State) × LinesRead c.file s × (length (late_rows s) ≤ length c.table)))
  pub front : FrontDemand (Refuses c) c.file (works c) c.lent c.left
  pub refused_8 : (place : ℕ) → Refuses c 8 place ↔ WhenTableShort c.file (works c) (length c.table) place
  pub no_rows : (Accepts c → ⊥) → c.answer.rows ≡ 0
  pub no_row : (Accepts c → ⊥) → c.table' ≡ c.table

-- the rows written, from the start of the table on
abbrev pub written : Call → List Row
written c = take c.answer.rows c.table'

-- what an accepted call lists
pub record Lists (c : Call) (s : State) : Type 0 where
  pub rows_are : written c ≡ late_rows s
  -- "their count is told"
  pub counted : c.answer.rows ≡ length (late_rows s)
  pub place : c.answer.place ≡ 0
  -- "Only listed rows are written"
  pub past : drop c.answer.rows c.table' ≡ drop c.answer.rows c.table
  pub spelled : SpelledInOrder c.file s
  -- a row is written exactly for a reason
  pub exact : (r : Row) → Memᴰ r (written c) ↔ LateReason s r
  -- "by line and then by name in byte order"
  pub in_order : LateRise s (written c)
  pub few : c.answer.rows ≤ 6144
  -- "if an accepted check lists no row of the first sort, no definition depends on itself through the free names of bodies"
  pub no_circle : ((r : Row) → Memᴰ r (written c) → r.cause ≡ 1 → ⊥) → (d : Decl) → Depends (definitions s.decls) d d → ⊥
  -- without a row every name that a body uses has its def or fun on an earlier line
  pub declared_before : c.answer.rows ≡ 0
      → (d : Decl) → Memᴰ d (definitions s.decls) → (n : Name) → Memᴰ n d.free_names → ComesBefore s.decls d n

-- the demands of a call; where it accepts, of the state that reading its file ends in
pub record Demands (c : Call) : Type 0 where
  pub demand_1 : Demand1 c
  pub accepted : Accepts c → (s : State) × LinesRead c.file s × Lists c s

-- what a call leaves meets them
abbrev pub DemandsMet : Type 0
DemandsMet = (c : Call) → Exact c → Demands c

-- both
pub record KeptPromise (c : Call) : Type 0 where
  pub exact : Exact c
  pub demands : Demands c
