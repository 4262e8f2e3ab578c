-- Demand 2: "the kept list and its order equal what Pruning.fst computes, read as definitions over lists".
use Prim.Native.Nat.{ℕ}
use native.Mathlib.Omega.{arith}
use mathlib.Core.Path.{◌≡◌, refl, sym, ◌∙◌}
use mathlib.Core.Logic.{⊎_elim}
use mathlib.Core.List.Memᴰ
use mathlib.Core.List.{List, ◌++◌, map, map-append, Memᴰ}
use Rattle.model.specs.Lists.{collect}
use Rattle.model.specs.Names.{Name}
use Rattle.model.specs.Summaries.{Fact}
use Rattle.model.specs.Reading.{prune_decls, Decl}
use Rattle.model.specs.Rounds.{facts, definitions, declarations, visits}
use Rattle.model.specs.Kept.{kept_names, kept_decls, kept}
use Rattle.model.proofs.ListLaws.{cond_case, option_elim}
use Rattle.demands.specs.LinesRead.{records_for, Distinct, none}
use Rattle.demands.specs.Demand2.{ScanEnds, KeptIsPruned, KeptOnce}
use Rattle.demands.specs.Demand3.{run_of}
use Rattle.demands.specs.FileOrder.{line_of}
use Rattle.demands.proofs.Distinct.{distinct_append, distinct_to_map}
use Rattle.demands.proofs.ListedLaws.{kept_facts_elim, kept_facts_once, kept_fact_line, kept_decl_line, kept_decls_once}
use Rattle.demands.proofs.Background.{well_for, lines_for}
use Rattle.demands.proofs.Demand3.{rounds_exact, rounds_bound}
use Rattle.demands.proofs.ScanFile.{none_visited, scanned_file}
use Rattle.demands.proofs.RecordLines.{fact_by_line, fact_or_definition, fact_or_declaration, definition_or_declaration}
use Rattle.demands.proofs.Pruned.{distinct_definitions, distinct_declarations, pruned_list}

-- the fuel of `scan` never runs out; it is entered once a round, and calls `remove_trigger_for` once a visit
pub scan_ends : ScanEnds
scan_ends file s e a =
    let scanned = scanned_file a (records_for a s) (well_for file s e a) (rounds_exact file s e a) (rounds_bound file s e a) in
    let rounds : (run_of a s).rounds ≡ scanned.entered = omega (arith, scanned.enters) in
    let seen : visits (run_of a s).met (facts (records_for a s)) ≡ scanned.called = omega (arith, scanned.visited, none_visited (facts (records_for a s))) in
    rw (rounds, seen) scanned.ends

-- the list of Pruning.fst is the kept list
pub kept_is_pruned : KeptIsPruned
kept_is_pruned file s e a =
    let wf = well_for file s e a in
    sym (pruned_list a (records_for a s) wf (scanned_file a (records_for a s) wf (rounds_exact file s e a) (rounds_bound file s e a)))

-- "each kept line stands once"
pub kept_once : KeptOnce
unfolding kept line_of
kept_once file s e a =
    let wf = well_for file s e a in
    let fs = facts (records_for a s) in
    let reached = (run_of a s).reached in
    distinct_append
    (distinct_to_map (λ (f : Fact). f.line) (kept_facts_once a (records_for a s) s.roots wf)
    (λ f g i j. fact_by_line (records_for a s) once (kept_facts_elim a fs reached i) (kept_facts_elim a fs reached j)))
    (cond_case Distinct (prune_decls a) (rw map-append (distinct_append
    (kept_decls_once names (definitions (records_for a s)) (distinct_definitions line_of (λ d. d.line) (λ d. Memᴰ.head refl) (records_for a s) once))
    (kept_decls_once names (declarations (records_for a s)) (distinct_declarations line_of (λ d. d.line) (λ d. Memᴰ.head refl) (records_for a s) once))
    (λ n i j. let (c, k, p) = kept_decl_line names (definitions (records_for a s)) i in
    let (d, l, q) = kept_decl_line names (declarations (records_for a s)) j in
    definition_or_declaration (records_for a s) once k l (p ∙ sym q)))) none)
    (λ n i j. let (f, k, p) = kept_fact_line a fs reached i in apart k p (rw map-append at (option_elim (prune_decls a) j)))
  where
    once : Distinct (collect line_of (records_for a s))
    once = lines_for file s e a

    names : List Name
    names = kept_names a (facts (records_for a s)) s.roots (run_of a s).reached

    apart : {f : Fact} {n : ℕ} → Memᴰ f (facts (records_for a s)) → f.line ≡ n
        → Memᴰ n (map (λ d. d.line) (kept_decls names (definitions (records_for a s)))
        ++ map (λ d. d.line) (kept_decls names (declarations (records_for a s)))) → ⊥
    apart k p m = ⊎_elim
        (λ o. let (d, l, q) = kept_decl_line names (definitions (records_for a s)) o in fact_or_definition (records_for a s) once k l (p ∙ sym q))
        (λ o. let (d, l, q) = kept_decl_line names (declarations (records_for a s)) o in fact_or_declaration (records_for a s) once k l (p ∙ sym q))
        (Memᴰ.append_cases (map (λ (d : Decl). d.line) (kept_decls names (definitions (records_for a s)))) m)
