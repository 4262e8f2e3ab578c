-- The states of a history.
use Prim.Native.Nat.{ℕ, zero, suc, ◌+◌}
use native.Mathlib.Omega.{arith}
use mathlib.Core.Path.{◌≡◌, refl, sym, ap}
use mathlib.Core.List.{List, ◌∷◌}
use lib.ListN.{length}
use Rattle.model.specs.Names.{Name}
use Rattle.model.specs.Summaries.{Fact}
use Rattle.model.specs.Reading.{Ask, Summary, Root}
use Rattle.model.specs.Pruning.{Map}
use Rattle.model.specs.Rounds.{Run, facts, macros, after_round, first_run, run, history, end_of}
use Rattle.laws.specs.History.{IsHistory, last, more}
use Rattle.laws.proofs.FuelLaws.{history_follows}

module _ (a : Ask) (ms : Map (List Name)) (fs : List Fact) where
  -- a history begins with its first state
  pub first_state : {r : Run} {scanned : List Name} {end : Run} {h : List Run} → IsHistory a ms fs r scanned h end → (rest : List Run) × (h ≡ r ∷ rest)
  first_state (last t) = (_, refl)
  first_state (more t e) = (_, refl)

  -- it has one state for each round, and the first
  pub states_count : {r end : Run} {scanned : List Name} {h : List Run} → IsHistory a ms fs r scanned h end → length h + r.rounds ≡ suc end.rounds
  unfolding after_round
  states_count (last t) = omega arith
  states_count (more t e) = let i = states_count e in omega arith

  -- its last state is that in which the rounds end
  pub last_state : {r end : Run} {scanned : List Name} {h : List Run} → IsHistory a ms fs r scanned h end → (k : ℕ) → suc k ≡ length h → end_of h k ≡ end
  unfolding end_of
  last_state (last t) zero e = absurd (omega arith)
  last_state (last t) (suc zero) e = refl
  last_state (last t) (suc (suc k)) e = absurd (omega arith)
  last_state (more t f) zero e = let (rest, q) = first_state f in absurd (omega (arith, rw q at e))
  last_state (more t f) (suc k) e = last_state f k (omega arith)

module _ (a : Ask) (decls : List Summary) (roots : List Root) where
  -- the history of a run has a state for each round, and the first
  pub history_length : length (history a decls roots) ≡ suc (run a decls roots).rounds
  history_length = let e = states_count a (macros decls) (facts decls) (history_follows a decls roots) in omega arith

  -- its first state is that before round 1
  pub history_start : end_of (history a decls roots) 0 ≡ first_run
  unfolding end_of
  history_start = let (rest, q) = first_state a (macros decls) (facts decls) (history_follows a decls roots) in ap (λ (h : List Run). end_of h 0) q

  -- its last state is the run
  pub history_end : end_of (history a decls roots) (run a decls roots).rounds ≡ run a decls roots
  history_end = last_state a (macros decls) (facts decls) (history_follows a decls roots) (run a decls roots).rounds (sym history_length)
