-- Demand 2, for every accepted file and every ask over it: the list of Pruning.fst, read as definitions over lists, is the
-- kept list. Document 02, Change 6: "with the longer set", by which the records are summarised (FileOrder, Hidden).
use Rattle.std.specs.Prelude.{ℕ, suc, ◌≡◌, cond, List, [], ◌++◌, map, length}
use Rattle.model.specs.Reading.{Ask, no_ambients, pretyping_axioms, prune_decls, State}
use Rattle.model.specs.Pruning.{Ctxt, Passumption, PruningState, init, add_summaries, passumption_of_root, prune, scan}
use Rattle.model.specs.Rounds.{facts, goal_roots, visits}
use Rattle.model.specs.Kept.{kept}
use Rattle.model.specs.Bodies.{kept_followed}
use Rattle.demands.specs.LinesRead.{LinesRead, records_for, Distinct}
use Rattle.demands.specs.Scans.{Scans}
use Rattle.demands.specs.Demand3.{run_of}

-- the state of Pruning.fst for an ask over a file that was read
abbrev pub filed_state : Ask → State → PruningState
filed_state a s = add_summaries (no_ambients a) (records_for a s) init

-- what `prune` scans first
abbrev pub scan_roots : Ask → State → List Passumption
scan_roots a s =
    let roots = map passumption_of_root (goal_roots a s.roots) in
    cond (no_ambients a) roots (roots ++ (filed_state a s).extra_roots)

-- its state before the scan
abbrev pub scan_start : Ask → State → Ctxt
scan_start a s = record { p = filed_state a s; reached = [] }

-- "fuel never runs out": the scan of `prune` is that of Pruning.fst; it is entered as often as there are rounds, and it calls
-- `remove_trigger_for` as often as there are visits
abbrev pub ScanEnds : Type 0
ScanEnds =
    (file : List ℕ) (s : State) → LinesRead file s → (a : Ask)
    → Scans (pretyping_axioms a) (scan_roots a s) (scan_start a s)
    (scan (pretyping_axioms a) (suc (length (filed_state a s).trigger_to_assumption)) (scan_roots a s) (scan_start a s))
    (run_of a s).rounds (visits (run_of a s).met (facts (records_for a s)))

-- the list of Pruning.fst
abbrev pub pruned : Ask → State → List ℕ
pruned a s = prune (no_ambients a) (pretyping_axioms a) (prune_decls a) (filed_state a s) (goal_roots a s.roots)

-- document 01's list
abbrev pub kept_list : Ask → State → List ℕ
kept_list a s = kept a (records_for a s) s.roots (run_of a s).reached

-- the list with what the bodies of kept definitions add, document 02, Change 8: "demand 2 speaks of" the one without
abbrev pub followed_list : Ask → State → List ℕ
followed_list a s = kept_followed a (records_for a s) s.roots (run_of a s).reached

-- "the kept list and its order equal what Pruning.fst computes", the order inside the definitions and inside the
-- declarations too
abbrev pub KeptIsPruned : Type 0
KeptIsPruned = (file : List ℕ) (s : State) → LinesRead file s → (a : Ask) → kept_list a s ≡ pruned a s

-- "each kept line stands once"
abbrev pub KeptOnce : Type 0
KeptOnce = (file : List ℕ) (s : State) → LinesRead file s → (a : Ask) → Distinct (kept_list a s)
