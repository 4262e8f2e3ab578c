-- Document 02, Change 11, for every accepted file and every ask over it: the queries of an ask are those of its chain, the last
-- first, and where a chain has two or more its last line is an also line.
use Rattle.std.specs.Prelude.{ℕ, suc, ◌+◌, ◌≤◌, ◌≡◌, ◌↔◌, ◌⊎◌, ◌≢◌, not, ◌&&◌, eqb, length, drop}
use mathlib.Core.List.{List, [], ◌∷◌, ◌++◌, map, Memᴰ}
use Rattle.model.specs.Lists.{keep, collect, sum}
use Rattle.model.specs.Names.{mem, from_list}
use Rattle.model.specs.Reading.{Ask, Root, State}
use Rattle.model.specs.Rounds.{Run, facts, macros, filed, visits}
use Rattle.model.specs.Bodies.{kept_followed}
use Rattle.model.specs.Also.{with_queries, chain, stretch_visits}
use Rattle.model.specs.Outcome.{Lent, Position, lists, outcome}
use Rattle.laws.specs.Fuel.{Ends}
use Rattle.demands.specs.LinesRead.{LinesRead, records_for, At}
use Rattle.demands.specs.Demand2.{followed_list}
use Rattle.demands.specs.Demand3.{run_of}

-- where the chain of an ask stands after some queries, the last first
abbrev pub chain_at : Ask → State → List ℕ → Run
chain_at a s qs = chain a (records_for a s) s.roots qs

-- where it stands after its last line
abbrev pub chain_of : Ask → State → Run
chain_of a s = chain_at a s a.queries

-- and before that line
abbrev pub chain_before : Ask → State → Run
chain_before a s = chain_at a s (drop 1 a.queries)

-- "goes on from that answer": where a chain stands after some queries is where that of the ask with these alone stands
abbrev pub ChainByLines : Type 0
ChainByLines = (a : Ask) (s : State) (qs : List ℕ) → chain_at a s qs ≡ chain_of (with_queries a qs) s

-- the chain of an ask reaches and meets what a fresh run over all its roots does, and gives the list of that run
pub record AsFresh (a : Ask) (s : State) : Type 0 where
  pub same_reached : (chain_of a s).reached ≡ (run_of a s).reached
  pub same_met : (chain_of a s).met ≡ (run_of a s).met
  pub same_list : kept_followed a (records_for a s) s.roots (chain_of a s).reached ≡ followed_list a s

-- "The list given is what a fresh run over all the roots so far, by line, would give"
abbrev pub ChainIsFresh : Type 0
ChainIsFresh =
    (file : List ℕ) (s : State) → LinesRead file s → (a : Ask) (q : ℕ) (qs : List ℕ) → a.queries ≡ q ∷ qs → AsFresh a s

-- "by line": neither the order of the queries in a chain nor a query that comes again makes a difference to the list
abbrev pub RootsByLine : Type 0
RootsByLine =
    (a : Ask) (s : State) (ps qs : List ℕ) → ((q : ℕ) → Memᴰ q ps ↔ Memᴰ q qs)
    → followed_list (with_queries a ps) s ≡ followed_list (with_queries a qs) s

-- an ask line alone has the visits and the rounds of its run
pub record AsRun (a : Ask) (s : State) : Type 0 where
  pub same_visits : stretch_visits (chain_before a s).met (chain_of a s).met (facts (records_for a s))
      ≡ visits (run_of a s).met (facts (records_for a s))
  pub same_rounds : (chain_of a s).rounds ≡ (run_of a s).rounds

abbrev pub FirstIsRun : Type 0
FirstIsRun = (a : Ask) (s : State) (q : ℕ) → a.queries ≡ q ∷ [] → AsRun a s

-- "the visits of its stretch alone, the filed entries whose name is first met in it": met by the fresh run over all the roots
-- so far and not by that over those before
abbrev pub StretchVisitsExact : Type 0
StretchVisitsExact =
    (file : List ℕ) (s : State) → LinesRead file s → (a : Ask) (q p : ℕ) (qs : List ℕ) → a.queries ≡ q ∷ p ∷ qs
    → stretch_visits (chain_before a s).met (chain_of a s).met (facts (records_for a s))
    ≡ length (keep (λ n. mem n (run_of a s).met && not (mem n (run_of (with_queries a (p ∷ qs)) s).met))
    (filed (facts (records_for a s))))

-- the visits of each line of a chain, the last first
unfoldable pub visits_of_lines : Ask → State → List ℕ → List ℕ
visits_of_lines a s [] = []
visits_of_lines a s (q ∷ qs) =
    stretch_visits (chain_at a s qs).met (chain_at a s (q ∷ qs)).met (facts (records_for a s)) ∷ visits_of_lines a s qs

-- "these and those before it in its chain sum to the fresh run's visits"
abbrev pub VisitsSum : Type 0
VisitsSum =
    (file : List ℕ) (s : State) → LinesRead file s → (a : Ask) (q : ℕ) (qs : List ℕ) → a.queries ≡ q ∷ qs
    → sum (visits_of_lines a s a.queries) ≡ visits (run_of a s).met (facts (records_for a s))

-- among what a call tells, what the lines of the chain of an ask at a place come to: that of the ask itself is the last, there
-- is one for each of its queries, and their visits sum to those of the fresh run
pub record ChainTold (ps : List Position) (i : ℕ) (a : Ask) (s : State) : Type 0 where
  pub before : List Position
  pub its : List Position
  pub after : List Position
  pub are : ps ≡ before ++ (its ++ after)
  pub last_at : length before + length its ≡ suc i
  pub as_many : length its ≡ length a.queries
  pub sum_is : sum (map (λ (p : Position). p.visits) its) ≡ visits (run_of a s).met (facts (records_for a s))

-- so of what a call answers at each place
abbrev pub VisitsTold : Type 0
VisitsTold =
    (file : List ℕ) (works : List Lent) (room : ℕ) (ps : List Position) (s : State)
    → outcome file works room ≡ lists ps → LinesRead file s
    → (i : ℕ) (a : Ask) → At s.asks i a → ChainTold ps i a s

-- "The rounds are those of the stretch alone, whose first round scans the roots added": counted from 1, from what was met and
-- reached before; each but the last triggers a fact, the last none
abbrev pub StretchRounds : Type 0
StretchRounds =
    (a : Ask) (s : State) (q p : ℕ) (qs : List ℕ)
    → Ends a (macros (records_for a s)) (facts (records_for a s))
    (record { met = (chain_at a s (p ∷ qs)).met; reached = (chain_at a s (p ∷ qs)).reached; rounds = 0 })
    (collect (λ (r : Root). r.free_names) (keep (λ (r : Root). eqb r.query q) s.roots))
    (chain_at a s (q ∷ p ∷ qs))

-- every line of a chain has a round: by its rounds an answer tells it from a position past the last
abbrev pub StretchSome : Type 0
StretchSome = (a : Ask) (s : State) (q : ℕ) (qs : List ℕ) → a.queries ≡ q ∷ qs → 1 ≤ (chain_of a s).rounds

-- the rounds of a stretch are at most one more than the distinct trigger names filed that are not met before it
abbrev pub StretchBound : Type 0
StretchBound =
    (a : Ask) (s : State) (q p : ℕ) (qs : List ℕ)
    → (chain_at a s (q ∷ p ∷ qs)).rounds
    ≤ suc (length (keep (λ n. not (mem n (chain_at a s (p ∷ qs)).met)) (from_list (filed (facts (records_for a s))))))

-- a stretch that adds nothing: no visits, one round, and the list again
pub record AddsNothing (a : Ask) (s : State) (q : ℕ) (qs : List ℕ) : Type 0 where
  pub no_visits : stretch_visits (chain_at a s qs).met (chain_at a s (q ∷ qs)).met (facts (records_for a s)) ≡ 0
  pub one_round : (chain_at a s (q ∷ qs)).rounds ≡ 1
  pub list_again : followed_list (with_queries a (q ∷ qs)) s ≡ followed_list (with_queries a qs) s

-- so is that of a query which the chain already has, or which has no roots
abbrev pub NothingAdded : Type 0
NothingAdded =
    (file : List ℕ) (s : State) → LinesRead file s → (a : Ask) (q p : ℕ) (qs : List ℕ)
    → Memᴰ q (p ∷ qs) ⊎ ((r : Root) → Memᴰ r s.roots → r.query ≢ q)
    → AddsNothing a s q (p ∷ qs)
