-- Demand 3, for every accepted file and every ask over it. The reached facts of a run are the facts whose name is in its
-- `reached`.
use Rattle.std.specs.Prelude.{ℕ, suc, ◌≤◌, ◌≡◌, Bool, not, length, T}
use mathlib.Core.List.{List, [], ◌++◌, map, Memᴰ}
use Rattle.model.specs.Lists.{keep, collect}
use Rattle.model.specs.Names.{Name, mem, from_list, Ascending}
use Rattle.model.specs.Summaries.{Fact}
use Rattle.model.specs.Reading.{Ask, Summary, Root, State}
use Rattle.model.specs.Rounds.{Run, facts, macros, filed, fires, retainable, met_from, first_scanned, is_ambient, run, visits}
use Rattle.model.specs.Kept.{reached_facts, kept_facts}
use Rattle.demands.specs.LinesRead.{LinesRead, records_for}
use Rattle.laws.specs.Fuel.{Ends}

-- the names met "from the goal's roots, the ambient roots unless option 1 is on, and the facts of the set, each macro
-- opened one level"
unfoldable pub met_by : Ask → List Summary → List Root → (Fact → Bool) → List Name
met_by a decls roots set =
    met_from (macros decls)
    (first_scanned a (facts decls) roots ++ collect (λ f. f.free_names) (keep set (facts decls)))

-- "Call a set of a file's facts closed if it holds every retainable fact which fires on the names met"
pub record Closed (a : Ask) (decls : List Summary) (roots : List Root) (set : Fact → Bool) : Type 0 where
  pub holds_every : (f : Fact) → Memᴰ f (facts decls) → T (retainable a f)
      → T (fires (met_by a decls roots set) f) → T (set f)

-- the run of an ask over a file that was read
abbrev pub run_of : Ask → State → Run
run_of a s = run a (records_for a s) s.roots

-- the set of the reached facts
abbrev pub reached : Ask → State → Fact → Bool
reached a s f = mem f.name (run_of a s).reached

-- "the reached facts are a closed set"
abbrev pub ReachedClosed : Type 0
ReachedClosed = (file : List ℕ) (s : State) → LinesRead file s → (a : Ask) → Closed a (records_for a s) s.roots (reached a s)

-- "and every closed set contains them"
abbrev pub ReachedLeast : Type 0
ReachedLeast =
    (file : List ℕ) (s : State) → LinesRead file s → (a : Ask)
    → (set : Fact → Bool) → Closed a (records_for a s) s.roots set
    → (f : Fact) → Memᴰ f (facts (records_for a s)) → T (reached a s f) → T (set f)

-- "they are the facts on the kept list that are not ambient, each once and in the order of document 01"
pub record Listed (a : Ask) (s : State) : Type 0 where
  -- the kept facts that are not ambient are the reached facts
  pub not_ambient : keep (λ f. not (is_ambient f.kind)) (kept_facts a (facts (records_for a s)) (run_of a s).reached)
      ≡ reached_facts (facts (records_for a s)) (run_of a s).reached
  -- which are the facts of the file that are in the set
  pub all_reached : (f : Fact) → Memᴰ f (facts (records_for a s)) → T (reached a s f)
      → Memᴰ f (reached_facts (facts (records_for a s)) (run_of a s).reached)
  pub only_reached : (f : Fact) → Memᴰ f (reached_facts (facts (records_for a s)) (run_of a s).reached)
      → Memᴰ f (facts (records_for a s)) × T (reached a s f)
  -- ascending by name, so each stands once
  pub ascending : Ascending (map (λ (f : Fact). f.name) (reached_facts (facts (records_for a s)) (run_of a s).reached))

abbrev pub ReachedListed : Type 0
ReachedListed = (file : List ℕ) (s : State) → LinesRead file s → (a : Ask) → Listed a s

-- "The visits reported are exactly the filed trigger entries whose name was met, each counted once": met from the goal's
-- roots, the ambient roots and the reached facts
abbrev pub VisitsExact : Type 0
VisitsExact =
    (file : List ℕ) (s : State) → LinesRead file s → (a : Ask)
    → ((run_of a s).met ≡ met_by a (records_for a s) s.roots (reached a s))
    × (visits (run_of a s).met (facts (records_for a s))
    ≡ length (keep (λ n. mem n (met_by a (records_for a s) s.roots (reached a s))) (filed (facts (records_for a s)))))

-- "and the rounds are exactly those of document 01": each round but the last triggers a fact, the last none
abbrev pub RoundsExact : Type 0
RoundsExact =
    (file : List ℕ) (s : State) → LinesRead file s → (a : Ask)
    → Ends a (macros (records_for a s)) (facts (records_for a s))
    (record { met = []; reached = []; rounds = 0 })
    (first_scanned a (facts (records_for a s)) s.roots)
    (run_of a s)

-- "at most one more than the distinct trigger names filed"
abbrev pub RoundsBound : Type 0
RoundsBound =
    (file : List ℕ) (s : State) → LinesRead file s → (a : Ask)
    → (run_of a s).rounds ≤ suc (length (from_list (filed (facts (records_for a s)))))

-- every run has a round: by its rounds an answer tells an ask from a position past the last
abbrev pub RoundsSome : Type 0
RoundsSome = (file : List ℕ) (s : State) → LinesRead file s → (a : Ask) → 1 ≤ (run_of a s).rounds
