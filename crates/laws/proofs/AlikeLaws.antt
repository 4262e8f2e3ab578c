-- Asks that differ in what a run does not look at: a round looks at option 2 alone, a run at the queries and option 1 too.
use Prim.Native.Nat.{ℕ, zero, suc}
use mathlib.Core.Path.{◌≡◌, refl, ◌∙◌, ap}
use mathlib.Core.List.{List, [], ◌∷◌}
use Rattle.model.specs.Names.{Name}
use Rattle.model.specs.Summaries.{Fact}
use Rattle.model.specs.Reading.{Ask, Summary, Root, no_ambients, pretyping_axioms}
use Rattle.model.specs.Pruning.{Map}
use Rattle.model.specs.Rounds.{Run, first_run, facts, macros, retainable, fresh, after_round, next_scanned, rounds_from, most_rounds, asks_for, goal_roots, ambient_roots, first_scanned, run}
use Rattle.model.specs.Also.{with_queries, also_scanned, stretch_start, stretch, chain}

module _ (a b : Ask) (same_axioms : pretyping_axioms a ≡ pretyping_axioms b) (ms : Map (List Name)) (fs : List Fact) where
  -- a round reaches the same facts
  fresh_alike : (r : Run) (scanned : List Name) → fresh a ms fs r scanned ≡ fresh b ms fs r scanned
  unfolding fresh retainable
  fresh_alike r scanned = rw same_axioms

  -- it ends in the same state
  after_alike : (r : Run) (scanned : List Name) → after_round a ms fs r scanned ≡ after_round b ms fs r scanned
  unfolding after_round
  after_alike r scanned = rw (fresh_alike r scanned)

  -- the next one scans the same
  next_alike : (r : Run) (scanned : List Name) → next_scanned a ms fs r scanned ≡ next_scanned b ms fs r scanned
  unfolding next_scanned
  next_alike r scanned = rw (fresh_alike r scanned)

  -- all rounds come to the same
  pub rounds_alike : (fuel : ℕ) (r : Run) (scanned : List Name) → rounds_from a ms fs fuel r scanned ≡ rounds_from b ms fs fuel r scanned
  unfolding rounds_from
  rounds_alike zero r scanned = refl
  rounds_alike (suc fuel) r scanned =
      rw (after_alike r scanned, next_alike r scanned, rounds_alike fuel (after_round b ms fs r scanned) (next_scanned b ms fs r scanned))

-- the roots of the same queries
pub goals_alike : (a b : Ask) (roots : List Root) → a.queries ≡ b.queries → goal_roots a roots ≡ goal_roots b roots
unfolding goal_roots asks_for
goals_alike a b roots e = rw e

-- the same first round
first_alike : (a b : Ask) (fs : List Fact) (roots : List Root) → a.queries ≡ b.queries → no_ambients a ≡ no_ambients b
    → first_scanned a fs roots ≡ first_scanned b fs roots
unfolding first_scanned ambient_roots
first_alike a b fs roots e ambients = rw (goals_alike a b roots e, ambients)

-- the same run, over any records and roots
pub run_alike : (a b : Ask) → a.queries ≡ b.queries → no_ambients a ≡ no_ambients b → pretyping_axioms a ≡ pretyping_axioms b
    → (decls : List Summary) (roots : List Root) → run a decls roots ≡ run b decls roots
unfolding run
run_alike a b e ambients axioms decls roots =
    rw (first_alike a b (facts decls) roots e ambients)
    (rounds_alike a b axioms (macros decls) (facts decls) (most_rounds (facts decls)) first_run (first_scanned b (facts decls) roots))

-- the same chain, line for line, whatever the queries of the asks
pub chain_alike : (a b : Ask) → no_ambients a ≡ no_ambients b → pretyping_axioms a ≡ pretyping_axioms b
    → (decls : List Summary) (roots : List Root) (qs : List ℕ) → chain a decls roots qs ≡ chain b decls roots qs
unfolding chain stretch with_queries no_ambients pretyping_axioms
chain_alike a b ambients axioms decls roots [] = refl
chain_alike a b ambients axioms decls roots (q ∷ []) =
    run_alike (with_queries a (q ∷ [])) (with_queries b (q ∷ [])) refl ambients axioms decls roots
chain_alike a b ambients axioms decls roots (q ∷ p ∷ qs) =
    ap (λ (r : Run). stretch a decls roots r q) (chain_alike a b ambients axioms decls roots (p ∷ qs))
    ∙ rounds_alike a b axioms (macros decls) (facts decls) (most_rounds (facts decls)) (stretch_start (chain b decls roots (p ∷ qs))) (also_scanned q roots)
