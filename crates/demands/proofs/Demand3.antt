-- Demand 3: "Whenever the call accepts a file, the reached facts are a closed set and every closed set contains them; .."
use Rattle.model.specs.Rounds.{facts}
use Rattle.demands.specs.LinesRead.{records_for}
use Rattle.demands.specs.Demand3.{run_of, ReachedClosed, ReachedLeast, ReachedListed, VisitsExact, RoundsExact, RoundsBound, RoundsSome}
use Rattle.laws.proofs.FuelLaws.{run_ends, run_bound, run_some}
use Rattle.demands.proofs.RoundsLaws.{run_met, run_visits, run_closed, run_least}
use Rattle.demands.proofs.ListedLaws.{kept_not_ambient, reached_facts_intro, reached_facts_elim, reached_ascending}
use Rattle.demands.proofs.Background.{well_for}

-- "the reached facts are a closed set"
pub reached_closed : ReachedClosed
reached_closed file s e a = run_closed a (records_for a s) s.roots (well_for file s e a)

-- "and every closed set contains them"
pub reached_least : ReachedLeast
reached_least file s e a = run_least a (records_for a s) s.roots (well_for file s e a)

-- "they are the facts on the kept list that are not ambient, each once and in the order of document 01"
pub reached_listed : ReachedListed
reached_listed file s e a =
    let wf = well_for file s e a in
    record {
      not_ambient = kept_not_ambient a (records_for a s) s.roots wf;
      all_reached = λ f m t. reached_facts_intro (facts (records_for a s)) (run_of a s).reached m t;
      only_reached = λ f m. reached_facts_elim (facts (records_for a s)) (run_of a s).reached m;
      ascending = reached_ascending a (records_for a s) s.roots wf;
    }

-- "The visits reported are exactly the filed trigger entries whose name was met, each counted once"
pub visits_exact : VisitsExact
visits_exact file s e a =
    let wf = well_for file s e a in
    (run_met a (records_for a s) s.roots wf, run_visits a (records_for a s) s.roots wf)

-- "the rounds are exactly those of document 01"
pub rounds_exact : RoundsExact
rounds_exact file s e a = run_ends a (records_for a s) s.roots

-- "at most one more than the distinct trigger names filed"
pub rounds_bound : RoundsBound
rounds_bound file s e a = run_bound a (records_for a s) s.roots

-- every run has a round
pub rounds_some : RoundsSome
rounds_some file s e a = run_some a (records_for a s) s.roots
