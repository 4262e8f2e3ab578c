-- The rounds of a run as its history, of every ask over the records of a file.
use Rattle.std.specs.Prelude.{ℕ, suc, ◌≤◌, ◌≡◌, ◌↔◌, List, T, length}
use Rattle.model.specs.Names.{Name, mem}
use Rattle.model.specs.Summaries.{Fact}
use Rattle.model.specs.Reading.{Ask, State}
use Rattle.model.specs.Rounds.{Run, facts, macros, first_run, first_scanned, history, end_of, round_of, round_met}
use Rattle.laws.specs.History.{IsHistory}
use Rattle.demands.specs.LinesRead.{LinesRead, records_for}
use Rattle.demands.specs.Demand3.{run_of}

-- the history of the run of an ask over a file that was read
abbrev pub history_for : Ask → State → List Run
history_for a s = history a (records_for a s) s.roots

-- the history is that of document 01's rounds: the state before round 1, one for each round, and the run last
pub record StatesOf (a : Ask) (s : State) : Type 0 where
  pub follows : IsHistory a (macros (records_for a s)) (facts (records_for a s)) first_run
      (first_scanned a (facts (records_for a s)) s.roots)
      (history_for a s) (run_of a s)
  pub count : length (history_for a s) ≡ suc (run_of a s).rounds
  pub last : end_of (history_for a s) (run_of a s).rounds ≡ run_of a s

abbrev pub HistoryExact : Type 0
HistoryExact = (a : Ask) (s : State) → StatesOf a s

-- a name is met, and a fact is reached, at the end of a round exactly where its own round is no later
pub record FromItsRound (a : Ask) (s : State) (k : ℕ) : Type 0 where
  pub met : (n : Name) → T (mem n (end_of (history_for a s) k).met) ↔ (round_met (history_for a s) n ≤ k)
  pub reached : (f : Fact) → T (mem f.name (end_of (history_for a s) k).reached) ↔ (round_of (history_for a s) f ≤ k)

abbrev pub RoundsTold : Type 0
RoundsTold = (file : List ℕ) (s : State) → LinesRead file s → (a : Ask) (k : ℕ) → k ≤ (run_of a s).rounds → FromItsRound a s k
