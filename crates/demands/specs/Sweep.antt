-- Document 02, Change 10, for every accepted file and every ask over it, also lines included: the sweep ends as the rounds do,
-- and its passes are told.
use Rattle.std.specs.Prelude.{ℕ, suc, ◌≤◌, ◌≡◌, List, length, get_or}
use Rattle.model.specs.Reading.{Ask, State}
use Rattle.model.specs.Rounds.{facts, macros}
use Rattle.model.specs.Bodies.{kept_followed}
use Rattle.model.specs.Outcome.{Lent, Position, refusal_at, lists, outcome, answer}
use Rattle.model.specs.Sweep.{Sweep, facts_with_triggers, sweep_start, sweep, sweep_answer}
use Rattle.model.specs.declared.Answer.{Answer}
use Rattle.model.specs.declared.Refusal.{Refusal}
use Rattle.model.specs.declared.Swept.{Swept}
use Rattle.laws.specs.Passes.{Sweeps}
use Rattle.demands.specs.LinesRead.{LinesRead, records_for, At}
use Rattle.demands.specs.Demand2.{followed_list}
use Rattle.demands.specs.Demand3.{run_of}

-- the sweep of an ask over a file that was read
abbrev pub sweep_of : Ask → State → Sweep
sweep_of a s = sweep a (records_for a s) s.roots

-- "to reach the same facts and meet the same names as the first engine"; "its .. list" is "the first engine's"
pub record SameEnd (a : Ask) (s : State) : Type 0 where
  pub same_reached : (sweep_of a s).reached ≡ (run_of a s).reached
  pub same_met : (sweep_of a s).met ≡ (run_of a s).met
  pub same_list : kept_followed a (records_for a s) s.roots (sweep_of a s).reached ≡ followed_list a s

abbrev pub SweepIsRun : Type 0
SweepIsRun = (file : List ℕ) (s : State) → LinesRead file s → (a : Ask) → SameEnd a s

-- "repeats until a pass adds none", "the last one counted": each pass but the last leaves more facts reached, the last the same,
-- and the passes are as many
abbrev pub PassesExact : Type 0
PassesExact =
    (file : List ℕ) (s : State) → LinesRead file s → (a : Ask)
    → Sweeps a (macros (records_for a s)) (facts (records_for a s)) (sweep_of a s).passes
    (sweep_start a (records_for a s) s.roots) (sweep_of a s)

-- "at most the facts with triggers plus one"
abbrev pub PassesBound : Type 0
PassesBound =
    (file : List ℕ) (s : State) → LinesRead file s → (a : Ask)
    → (sweep_of a s).passes ≤ suc (facts_with_triggers (facts (records_for a s)))

-- every sweep has a pass: by its passes an answer tells an ask from a position past the last
abbrev pub PassesSome : Type 0
PassesSome = (file : List ℕ) (s : State) → LinesRead file s → (a : Ask) → 1 ≤ (sweep_of a s).passes

-- the answer of the sweep beside that of the first engine
pub record AsFirst (sweeping : Swept) (first : Answer) : Type 0 where
  pub verdict : sweeping.verdict ≡ first.verdict
  pub place : sweeping.place ≡ first.place
  pub kept : sweeping.kept ≡ first.kept

-- its passes, of the ask at each position
pub record PassesAt (passes : List ℕ) (s : State) (i : ℕ) (a : Ask) : Type 0 where
  pub exact : get_or passes i 0 ≡ (sweep_of a s).passes
  pub some : 1 ≤ get_or passes i 0
  pub few : get_or passes i 0 ≤ suc (facts_with_triggers (facts (records_for a s)))

-- "Its refusals and list are the first engine's": verdict, place and kept counts; its passes "are told exactly for each ask",
-- sixteen counts, 0 past the last position and in a refused answer
pub record TellsSweep (file : List ℕ) (works : List Lent) (room : ℕ) : Type 0 where
  pub first : AsFirst (sweep_answer file works room) (answer (outcome file works room))
  pub sixteen : length (sweep_answer file works room).passes ≡ 16
  pub told : (ps : List Position) (s : State) → outcome file works room ≡ lists ps → LinesRead file s
      → (i : ℕ) (a : Ask) → At s.asks i a → PassesAt (sweep_answer file works room).passes s i a
  pub past : (ps : List Position) (s : State) → outcome file works room ≡ lists ps → LinesRead file s
      → (i : ℕ) → length s.asks ≤ i → get_or (sweep_answer file works room).passes i 0 ≡ 0
  pub refused : (r : Refusal) (place : ℕ) → outcome file works room ≡ refusal_at r place
      → (i : ℕ) → get_or (sweep_answer file works room).passes i 0 ≡ 0

abbrev pub SweepTells : Type 0
SweepTells = (file : List ℕ) (works : List Lent) (room : ℕ) → TellsSweep file works room
