-- The rounds of a run as its history.
use Prim.Native.Nat.{ℕ, ◌≤◌}
use native.Mathlib.Omega.{arith}
use mathlib.Core.Logic.{◌↔◌}
use mathlib.Core.Bool.{Bool}
use lib.Dec.{T}
use Rattle.model.specs.Lists.{find_index}
use Rattle.model.specs.Names.{mem}
use Rattle.model.specs.Reading.{Ask, State}
use Rattle.model.specs.Rounds.{Run, first_run, end_of, round_of, round_met}
use Rattle.model.proofs.IndexLaws.{index_le, index_holds}
use Rattle.laws.proofs.FuelLaws.{history_follows}
use Rattle.laws.proofs.HistoryLaws.{history_length, history_end}
use Rattle.demands.specs.LinesRead.{records_for}
use Rattle.demands.specs.Demand3.{run_of}
use Rattle.demands.specs.WellFormed.{WellFormed}
use Rattle.demands.specs.History.{history_for, HistoryExact, FromItsRound, RoundsTold}
use Rattle.demands.proofs.Background.{well_for}
use Rattle.demands.proofs.HistoryLaws.{met_later, reached_later}

-- the history is that of document 01's rounds, and the run is its last state
pub history_exact : HistoryExact
history_exact a s =
    record {
      follows = history_follows a (records_for a s) s.roots;
      count = history_length a (records_for a s) s.roots;
      last = history_end a (records_for a s) s.roots;
    }

module _ (a : Ask) (s : State) (test : Run → Bool)
    (later : (j k : ℕ) → j ≤ k → k ≤ (run_of a s).rounds → T (test (end_of (history_for a s) j)) → T (test (end_of (history_for a s) k))) where
  -- what stays once it holds, holds at the end of a round exactly where it first does no later
  from_first : (k : ℕ) → k ≤ (run_of a s).rounds → T (test (end_of (history_for a s) k)) ↔ (find_index test (history_for a s) ≤ k)
  unfolding end_of
  from_first k l =
      let e = history_length a (records_for a s) s.roots in (
        λ t. index_le test first_run (history_for a s) k (omega arith) t,
        λ h. later _ k h l (index_holds test first_run (history_for a s) (omega arith)),
      )

-- over well-formed records a name is met, and a fact is reached, from its round on
pub from_its_round : (a : Ask) (s : State) → WellFormed (records_for a s) s.roots → (k : ℕ) → k ≤ (run_of a s).rounds → FromItsRound a s k
unfolding round_met round_of
from_its_round a s wf k l =
    record {
      met = λ n. from_first a s (λ r. mem n r.met) (λ i j h m. met_later a (records_for a s) s.roots wf i j h m n) k l;
      reached = λ f. from_first a s (λ r. mem f.name r.reached) (λ i j h m. reached_later a (records_for a s) s.roots wf i j h m f.name) k l;
    }

-- so it is over those of an accepted file
pub rounds_told : RoundsTold
rounds_told file s e a k l = from_its_round a s (well_for file s e a) k l
