-- Demand 1 of the call, and Change 10: what `sweep` answers and leaves, for every file and every lent slice.
use Rattle.std.specs.Prelude.{ℕ, ◌≤◌, ◌≡◌, ◌↔◌, ◌⊎◌, List, ◌++◌, length, take, drop, get_or}
use Rattle.model.specs.Lists.{sum}
use Rattle.model.specs.Lines.{lines}
use Rattle.model.specs.Reading.{Ask, State}
use Rattle.model.specs.Rounds.{facts, macros}
use Rattle.model.specs.Outcome.{Lent, all_kept, filtered}
use Rattle.model.specs.Sweep.{sweep_start}
use Rattle.model.specs.Working.{sizes}
use Rattle.model.specs.declared.Swept.{Swept}
use Rattle.model.specs.declared.Verdict.TheVariants as verdict
use Rattle.laws.specs.Passes.{Sweeps}
use Rattle.demands.specs.LinesRead.{LinesRead, records_for, At}
use Rattle.demands.specs.Demand1.{LinesJudged, When8, all_lengths}
use Rattle.demands.specs.Demand2.{followed_list}
use Rattle.demands.specs.FileOrder.{InOrder}
use Rattle.demands.specs.Asks.{asks_on, GoodAsks}
use Rattle.demands.specs.Sweep.{sweep_of, SameEnd, PassesAt}
use Rattle.front.specs.Demand.{verdict_number, FrontDemand}
use Rattle.filter.specs.Call as first
use Rattle.sweep.specs.Call.{Call, Exact}

-- its working slices as 7 counts them
abbrev pub works : Call → List Lent
works c = sizes c.lent

-- the call accepts the file
abbrev pub Accepts : Call → Type 0
Accepts c = c.answer.verdict ≡ verdict.Accepted

-- it refuses, with this number and place
abbrev pub Refuses : Call → ℕ → ℕ → Type 0
Refuses c number place = (verdict_number c.answer.verdict ≡ number) × (c.answer.place ≡ place)

-- the counts at a position are 0
pub record NoneSwept (a : Swept) (i : ℕ) : Type 0 where
  pub kept : get_or a.kept i 0 ≡ 0
  pub passes : get_or a.passes i 0 ≡ 0

-- demand 1: "the call still returns, with a list or with one of" the refusals 1 to 13 "and its place, each under its
-- condition .. and never otherwise. A refusal writes nothing to the result slice, and the working slices come back as document 01
-- fixes."
pub record Demand1 (c : Call) : Type 0 where
  pub refusals : Accepts c ⊎ ((number : ℕ) × (1 ≤ number) × (number ≤ 13) × Refuses c number c.answer.place)
  pub listed : Accepts c
      ↔ (LinesJudged c.file (works c) × ((s : State) × LinesRead c.file s × (all_lengths s ≤ length c.out)))
  pub front : FrontDemand (Refuses c) c.file (works c) c.lent c.left
  pub refused_8 : (place : ℕ) → Refuses c 8 place ↔ When8 c.file (works c) (length c.out) place
  pub no_counts : (Accepts c → ⊥) → (i : ℕ) → NoneSwept c.answer i
  pub nothing_written : (Accepts c → ⊥) → c.out' ≡ c.out

-- the call lists these lines at a position: as many as its count says, behind the lists of the positions before it
pub record CallLists (c : Call) (i : ℕ) (lines : List ℕ) : Type 0 where
  pub count : get_or c.answer.kept i 0 ≡ length lines
  pub listed : take (get_or c.answer.kept i 0) (drop (sum (take i c.answer.kept)) c.out') ≡ lines

-- document 02, Change 7: the asks are those of the ask and also lines, in their order, each in range; the result slice begins
-- with their lists, end to end, and is as it was behind them; counts past the last position are 0
pub record InSequence (c : Call) (s : State) : Type 0 where
  pub asked : s.asks ≡ asks_on (lines c.file)
  pub good : GoodAsks s
  pub result : c.out' ≡ all_kept (filtered s) ++ drop (length (all_kept (filtered s))) c.out
  pub past : (i : ℕ) → length s.asks ≤ i → NoneSwept c.answer i

-- of the ask at a position
pub record PositionDemands (c : Call) (s : State) (i : ℕ) (a : Ask) : Type 0 where
  -- the facts that it asks of are the summaries of the assume lines
  pub summaries : InOrder c.file s
  -- its list is that of the first engine's run, with what bodies add
  pub lists : CallLists c i (followed_list a s)
  -- "it is proved to reach the same facts and meet the same names as the first engine"
  pub same : SameEnd a s
  -- "Its passes, the last one counted, are told exactly for each ask and are at most the facts with triggers plus one"
  pub passes : PassesAt c.answer.passes s i a
  pub passes_end : Sweeps a (macros (records_for a s)) (facts (records_for a s)) (get_or c.answer.passes i 0)
      (sweep_start a (records_for a s) s.roots) (sweep_of a s)

-- the demands of a call; where it accepts, of the state that reading its file ends in and of each of its asks
pub record Demands (c : Call) : Type 0 where
  pub demand_1 : Demand1 c
  pub accepted : Accepts c → (s : State) × LinesRead c.file s × InSequence c s
      × ((i : ℕ) (a : Ask) → At s.asks i a → PositionDemands c s i a)

-- what `sweep` promises meets them
abbrev pub DemandsMet : Type 0
DemandsMet = (c : Call) → Exact c → Demands c

-- both
pub record KeptPromise (c : Call) : Type 0 where
  pub exact : Exact c
  pub demands : Demands c

-- a call of the first engine and one of the second answer alike: verdict, place, kept counts, and the lines written
pub record AnsweredAlike (c : first.Call) (d : Call) : Type 0 where
  pub verdict : d.answer.verdict ≡ c.answer.verdict
  pub place : d.answer.place ≡ c.answer.place
  pub kept : d.answer.kept ≡ c.answer.kept
  pub written : List ℕ
  pub first_writes : c.out' ≡ written ++ drop (length written) c.out
  pub sweep_writes : d.out' ≡ written ++ drop (length written) d.out

-- "Its refusals and list are the first engine's": of a call of `filter` and one of `sweep` on one file over slices of the same
-- lengths
abbrev pub AsFirstOfCalls : Type 0
AsFirstOfCalls =
    (c : first.Call) (d : Call) → first.Exact c → Exact d
    → d.file ≡ c.file → sizes d.lent ≡ sizes c.lent → length d.out ≡ length c.out
    → AnsweredAlike c d
