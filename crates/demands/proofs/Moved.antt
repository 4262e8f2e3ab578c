-- Nothing but the lines told depends on the lines of the records.
use Prim.Native.Nat.{ℕ, zero, suc, ◌+◌}
use mathlib.Core.Path.{◌≡◌, refl, sym, ◌∙◌, ap, ap₂}
use mathlib.Core.Bool.{Bool, true, false, cond, not, ◌&&◌}
use mathlib.Core.List.{List, [], ◌∷◌, ◌++◌, map, map-map, map-append, reverse}
use lib.Dec.{eqb}
use lib.ListN.{length, drop}
use Rattle.model.specs.Lists.{keep, collect, is_nil}
use Rattle.model.specs.Names.{Name, same, mem, from_list, union}
use Rattle.model.specs.Summaries.{Fact}
use Rattle.model.specs.Reading.{Ask, Decl, Summary, sum_assume, sum_definefun, sum_declfun, sum_retain, Root, no_ambients}
use Rattle.model.specs.Pruning.{Map, init_macro_freenames}
use Rattle.model.specs.Rounds.{Run, first_run, most_rounds, facts, definitions, declarations, macros, listed, filed, triggers_in, retainable, met_after, triggered, fresh, after_round, next_scanned}
use Rattle.model.specs.Rounds.{rounds_from, is_ambient, is_ambient_root, asks_for, goal_roots, ambient_roots, first_scanned, run, admits, is_admitted, background}
use Rattle.model.specs.Kept.{reached_facts, ambients, kept_facts, kept_names, first_met, kept_decls, kept}
use Rattle.model.specs.Bodies.{with_bodies, followed, all_followed, added_names, of_names, added_for, kept_followed}
use Rattle.model.specs.Also.{with_queries, also_scanned, stretch_start, stretch, chain, stretch_visits}
use Rattle.model.specs.Outcome.{Position, position}
use Rattle.model.proofs.ListLaws.{map_cong, cond_ap, collect_map, collect_cong, map_collect, map_reverse}
use Rattle.demands.proofs.Listing.{Parts, kept_parts, followed_parts, listed_lines, listed_names, kept_lines, followed_lines, map_told, told_map}
use Rattle.demands.specs.Moved.{moved_fact, moved_decl, moved, moved_root, moved_position, LinesApart, KeptApart}

-- to keep of changed elements is to change those kept, where the test does not see the change
keep_map : {A B : Type 0} (f : A → B) (test : B → Bool) (l : List A) → keep test (map f l) ≡ map f (keep (λ x. test (f x)) l)
unfolding keep
keep_map f test [] = refl
keep_map f test (x ∷ l) = go (test (f x)) (keep_map f test l)
  where
    go : (b : Bool) → keep test (map f l) ≡ map f (keep (λ x. test (f x)) l)
        → cond b (f x ∷ keep test (map f l)) (keep test (map f l)) ≡ map f (cond b (x ∷ keep (λ x. test (f x)) l) (keep (λ x. test (f x)) l))
    go true e = ap (f x ∷◌) e
    go false e = e

pub map_length : {A B : Type 0} (f : A → B) (l : List A) → length (map f l) ≡ length l
map_length f [] = refl
map_length f (x ∷ l) = ap suc (map_length f l)

pub nil_map : {A B : Type 0} (f : A → B) (l : List A) → is_nil (map f l) ≡ is_nil l
unfolding is_nil
nil_map f [] = refl
nil_map f (x ∷ l) = refl

-- a fact on another line and of another group: nothing that an ask comes to depends on the groups of the facts that it admits
unfoldable pub relabeled_fact : (ℕ → ℕ) → (ℕ → ℕ) → Fact → Fact
relabeled_fact to regroup f =
    record {
      line = to f.line;
      name = f.name;
      free_names = f.free_names;
      pretyping = f.pretyping;
      group = regroup f.group;
      kind = f.kind;
      triggers = f.triggers;
    }

-- a record so
unfoldable pub relabeled : (ℕ → ℕ) → (ℕ → ℕ) → Summary → Summary
relabeled to regroup (sum_assume f) = sum_assume (relabeled_fact to regroup f)
relabeled to regroup (sum_definefun d) = sum_definefun (moved_decl to d)
relabeled to regroup (sum_declfun d) = sum_declfun (moved_decl to d)
relabeled to regroup sum_retain = sum_retain

module _ (to regroup : ℕ → ℕ) where
  -- the records of each sort
  pub relabeled_facts : (decls : List Summary) → facts (map (relabeled to regroup) decls) ≡ map (relabeled_fact to regroup) (facts decls)
  unfolding facts relabeled
  relabeled_facts [] = refl
  relabeled_facts (sum_assume f ∷ decls) = ap (relabeled_fact to regroup f ∷◌) (relabeled_facts decls)
  relabeled_facts (sum_definefun d ∷ decls) = relabeled_facts decls
  relabeled_facts (sum_declfun d ∷ decls) = relabeled_facts decls
  relabeled_facts (sum_retain ∷ decls) = relabeled_facts decls

  pub relabeled_definitions : (decls : List Summary) → definitions (map (relabeled to regroup) decls) ≡ map (moved_decl to) (definitions decls)
  unfolding definitions relabeled
  relabeled_definitions [] = refl
  relabeled_definitions (sum_assume f ∷ decls) = relabeled_definitions decls
  relabeled_definitions (sum_definefun d ∷ decls) = ap (moved_decl to d ∷◌) (relabeled_definitions decls)
  relabeled_definitions (sum_declfun d ∷ decls) = relabeled_definitions decls
  relabeled_definitions (sum_retain ∷ decls) = relabeled_definitions decls

  pub relabeled_declarations : (decls : List Summary) → declarations (map (relabeled to regroup) decls) ≡ map (moved_decl to) (declarations decls)
  unfolding declarations relabeled
  relabeled_declarations [] = refl
  relabeled_declarations (sum_assume f ∷ decls) = relabeled_declarations decls
  relabeled_declarations (sum_definefun d ∷ decls) = relabeled_declarations decls
  relabeled_declarations (sum_declfun d ∷ decls) = ap (moved_decl to d ∷◌) (relabeled_declarations decls)
  relabeled_declarations (sum_retain ∷ decls) = relabeled_declarations decls

  -- what the runs see of them
  moved_macros : (decls : List Summary) → macros (map (relabeled to regroup) decls) ≡ macros decls
  unfolding macros moved_decl
  moved_macros decls =
      ap (◌++ init_macro_freenames) (ap (map (λ (d : Decl). (d.name, d.free_names))) (relabeled_definitions decls)
      ∙ map-map (λ (d : Decl). (d.name, d.free_names)) (moved_decl to) (definitions decls))

  module _ (fs : List Fact) where
    moved_filed : filed (map (relabeled_fact to regroup) fs) ≡ filed fs
    unfolding filed listed relabeled_fact
    moved_filed = collect_map listed (relabeled_fact to regroup) fs

    module _ (a : Ask) (ms : Map (List Name)) where
      moved_triggered : (r : Run) (scanned : List Name) → triggered ms (map (relabeled_fact to regroup) fs) r scanned ≡ map (relabeled_fact to regroup) (triggered ms fs r scanned)
      unfolding triggered triggers_in listed relabeled_fact
      moved_triggered r scanned = keep_map (relabeled_fact to regroup) (triggers_in r.met (met_after ms r scanned)) fs

      moved_fresh : (r : Run) (scanned : List Name) → fresh a ms (map (relabeled_fact to regroup) fs) r scanned ≡ map (relabeled_fact to regroup) (fresh a ms fs r scanned)
      unfolding fresh retainable relabeled_fact
      moved_fresh r scanned =
          let test : Fact → Bool = λ f. retainable a f && not (mem f.name r.reached) in
          ap (keep test) (moved_triggered r scanned) ∙ keep_map (relabeled_fact to regroup) test (triggered ms fs r scanned)

      moved_after : (r : Run) (scanned : List Name) → after_round a ms (map (relabeled_fact to regroup) fs) r scanned ≡ after_round a ms fs r scanned
      unfolding after_round relabeled_fact
      moved_after r scanned =
          ap (λ names. record { met = met_after ms r scanned; reached = union names r.reached; rounds = r.rounds + 1 })
          (ap (map (λ (f : Fact). f.name)) (moved_fresh r scanned) ∙ map-map (λ (f : Fact). f.name) (relabeled_fact to regroup) (fresh a ms fs r scanned))

      moved_next : (r : Run) (scanned : List Name) → next_scanned a ms (map (relabeled_fact to regroup) fs) r scanned ≡ next_scanned a ms fs r scanned
      unfolding next_scanned relabeled_fact
      moved_next r scanned =
          ap (collect (λ (f : Fact). f.free_names)) (moved_fresh r scanned) ∙ collect_map (λ (f : Fact). f.free_names) (relabeled_fact to regroup) (fresh a ms fs r scanned)

      moved_rounds : (fuel : ℕ) (r : Run) (scanned : List Name) → rounds_from a ms (map (relabeled_fact to regroup) fs) fuel r scanned ≡ rounds_from a ms fs fuel r scanned
      unfolding rounds_from
      moved_rounds zero r scanned = refl
      moved_rounds (suc fuel) r scanned =
          rw (moved_triggered r scanned, nil_map (relabeled_fact to regroup) (triggered ms fs r scanned), moved_after r scanned, moved_next r scanned, moved_rounds fuel (after_round a ms fs r scanned) (next_scanned a ms fs r scanned))

  moved_goal : (a : Ask) (roots : List Root) → goal_roots a (map (moved_root to) roots) ≡ map (moved_root to) (goal_roots a roots)
  unfolding goal_roots moved_root
  moved_goal a roots = keep_map (moved_root to) (λ (r : Root). asks_for a r.query) roots

  free_in_roots : (rs : List Root) → collect (λ (r : Root). r.free_names) (map (moved_root to) rs) ≡ collect (λ (r : Root). r.free_names) rs
  unfolding moved_root
  free_in_roots rs = collect_map (λ (r : Root). r.free_names) (moved_root to) rs

  moved_ambient_roots : (a : Ask) (fs : List Fact) → ambient_roots a (map (relabeled_fact to regroup) fs) ≡ map (relabeled_fact to regroup) (ambient_roots a fs)
  unfolding ambient_roots relabeled_fact
  moved_ambient_roots a fs =
      ap (λ l. cond (no_ambients a) [] l) (keep_map (relabeled_fact to regroup) (λ (f : Fact). is_ambient_root f.kind) fs)
      ∙ sym (cond_ap (map (relabeled_fact to regroup)) (no_ambients a) [] (keep (λ f. is_ambient_root f.kind) fs))

  moved_first : (a : Ask) (fs : List Fact) (roots : List Root) → first_scanned a (map (relabeled_fact to regroup) fs) (map (moved_root to) roots) ≡ first_scanned a fs roots
  unfolding first_scanned relabeled_fact
  moved_first a fs roots =
      ap₂ ◌++◌ (ap (collect (λ (r : Root). r.free_names)) (moved_goal a roots) ∙ free_in_roots (goal_roots a roots))
      (ap (collect (λ (f : Fact). f.free_names)) (moved_ambient_roots a fs) ∙ collect_map (λ (f : Fact). f.free_names) (relabeled_fact to regroup) (ambient_roots a fs))

  -- the run
  module _ (decls : List Summary) (roots : List Root) (a : Ask) where
    moved_run : run a (map (relabeled to regroup) decls) (map (moved_root to) roots) ≡ run a decls roots
    unfolding run
    moved_run =
        rw (
          relabeled_facts decls,
          moved_macros decls,
          moved_filed (facts decls),
          moved_first a (facts decls) roots,
          moved_rounds (facts decls) a (macros decls) (most_rounds (facts decls)) first_run (first_scanned a (facts decls) roots),
        )

  -- a stretch and a chain
  module _ (decls : List Summary) (roots : List Root) where
    moved_also : (q : ℕ) → also_scanned q (map (moved_root to) roots) ≡ also_scanned q roots
    unfolding also_scanned moved_root
    moved_also q =
        ap (collect (λ (r : Root). r.free_names)) (keep_map (moved_root to) (λ (r : Root). eqb r.query q) roots)
        ∙ free_in_roots (keep (λ (r : Root). eqb r.query q) roots)

    moved_stretch : (a : Ask) (r : Run) (q : ℕ) → stretch a (map (relabeled to regroup) decls) (map (moved_root to) roots) r q ≡ stretch a decls roots r q
    unfolding stretch
    moved_stretch a r q =
        rw (
          relabeled_facts decls,
          moved_macros decls,
          moved_filed (facts decls),
          moved_also q,
          moved_rounds (facts decls) a (macros decls) (most_rounds (facts decls)) (stretch_start r) (also_scanned q roots),
        )

    moved_chain : (a : Ask) (qs : List ℕ) → chain a (map (relabeled to regroup) decls) (map (moved_root to) roots) qs ≡ chain a decls roots qs
    unfolding chain
    moved_chain a [] = refl
    moved_chain a (q ∷ []) = moved_run decls roots (with_queries a (q ∷ []))
    moved_chain a (q ∷ p ∷ qs) = rw (moved_chain a (p ∷ qs)) (moved_stretch a (chain a decls roots (p ∷ qs)) q)

  -- the kept facts
  moved_kept_facts : (a : Ask) (fs : List Fact) (reached : List Name) → kept_facts a (map (relabeled_fact to regroup) fs) reached ≡ map (relabeled_fact to regroup) (kept_facts a fs reached)
  unfolding kept_facts reached_facts ambients relabeled_fact
  moved_kept_facts a fs reached =
      ap₂ ◌++◌
      (collect_cong (λ n. keep (λ f. same f.name n) (map (relabeled_fact to regroup) fs)) (λ n. map (relabeled_fact to regroup) (keep (λ f. same f.name n) fs)) reached
      (λ n i. keep_map (relabeled_fact to regroup) (λ (f : Fact). same f.name n) fs)
      ∙ sym (map_collect (relabeled_fact to regroup) (λ n. keep (λ f. same f.name n) fs) reached))
      (ap (λ l. cond (no_ambients a) [] (reverse l)) (keep_map (relabeled_fact to regroup) (λ (f : Fact). is_ambient f.kind) fs)
      ∙ ap (λ l. cond (no_ambients a) [] l) (sym (map_reverse (relabeled_fact to regroup) (keep (λ f. is_ambient f.kind) fs)))
      ∙ sym (cond_ap (map (relabeled_fact to regroup)) (no_ambients a) [] (reverse (keep (λ f. is_ambient f.kind) fs))))
      ∙ sym (map-append (relabeled_fact to regroup) (collect (λ n. keep (λ f. same f.name n) fs) reached) (cond (no_ambients a) [] (reverse (keep (λ f. is_ambient f.kind) fs))))

  -- the names free in what is kept
  moved_kept_names : (a : Ask) (fs : List Fact) (roots : List Root) (reached : List Name)
      → kept_names a (map (relabeled_fact to regroup) fs) (map (moved_root to) roots) reached ≡ kept_names a fs roots reached
  unfolding kept_names relabeled_fact
  moved_kept_names a fs roots reached =
      ap₂ ◌++◌ (ap (collect (λ (f : Fact). f.free_names)) (moved_kept_facts a fs reached) ∙ collect_map (λ (f : Fact). f.free_names) (relabeled_fact to regroup) (kept_facts a fs reached))
      (ap (collect (λ (r : Root). r.free_names)) (moved_goal a roots) ∙ free_in_roots (goal_roots a roots))

  -- the definitions, or declarations, of names
  moved_of_names : (names : List Name) (ds : List Decl) → of_names names (map (moved_decl to) ds) ≡ map (moved_decl to) (of_names names ds)
  unfolding of_names moved_decl
  moved_of_names names ds =
      collect_cong (λ n. keep (λ d. same d.name n) (map (moved_decl to) ds)) (λ n. map (moved_decl to) (keep (λ d. same d.name n) ds)) names
      (λ n i. keep_map (moved_decl to) (λ (d : Decl). same d.name n) ds)
      ∙ sym (map_collect (moved_decl to) (λ n. keep (λ d. same d.name n) ds) names)

  moved_kept_decls : (names : List Name) (ds : List Decl) → kept_decls names (map (moved_decl to) ds) ≡ map (moved_decl to) (kept_decls names ds)
  unfolding kept_decls of_names
  moved_kept_decls names ds = moved_of_names (reverse (first_met names)) ds

  -- the names that bodies lead to
  moved_with_bodies : (ds : List Decl) (names : List Name) → with_bodies (map (moved_decl to) ds) names ≡ with_bodies ds names
  unfolding with_bodies moved_decl
  moved_with_bodies ds names =
      ap (λ l. union l names) (ap (collect (λ (d : Decl). d.free_names)) (keep_map (moved_decl to) (λ (d : Decl). mem d.name names) ds)
      ∙ collect_map (λ (d : Decl). d.free_names) (moved_decl to) (keep (λ d. mem d.name names) ds))

  moved_followed : (ds : List Decl) (fuel : ℕ) (names : List Name) → followed (map (moved_decl to) ds) fuel names ≡ followed ds fuel names
  unfolding followed
  moved_followed ds zero names = refl
  moved_followed ds (suc fuel) names = rw (moved_with_bodies ds names) (moved_followed ds fuel (with_bodies ds names))

  moved_added : (a : Ask) (ds : List Decl) (names : List Name) → added_for a (map (moved_decl to) ds) names ≡ added_for a ds names
  unfolding added_for added_names all_followed
  moved_added a ds names = rw (map_length (moved_decl to) ds, moved_followed ds (suc (length ds)) (from_list names))

  -- a group of definitions, or declarations
  moved_group : (names added : List Name) (ds : List Decl)
      → kept_decls names (map (moved_decl to) ds) ++ of_names added (map (moved_decl to) ds) ≡ map (moved_decl to) (kept_decls names ds ++ of_names added ds)
  moved_group names added ds = ap₂ ◌++◌ (moved_kept_decls names ds) (moved_of_names added ds) ∙ sym (map-append (moved_decl to) (kept_decls names ds) (of_names added ds))

  -- what a list is made of, so
  abbrev moved_parts : Parts → Parts
  moved_parts p = record { facts = map (relabeled_fact to regroup) p.facts; defs = map (moved_decl to) p.defs; funs = map (moved_decl to) p.funs }

  -- its lines are the lines moved
  moved_lines : (a : Ask) (p : Parts) → listed_lines a (moved_parts p) ≡ map to (listed_lines a p)
  unfolding relabeled_fact moved_decl
  moved_lines a p = told_map a (λ f. f.line) (λ d. d.line) (relabeled_fact to regroup) (moved_decl to) p ∙ sym (map_told a to (λ f. f.line) (λ d. d.line) p)

  module _ (a : Ask) (decls : List Summary) (roots : List Root) (reached : List Name) where
    abbrev D : List Summary
    D = map (relabeled to regroup) decls

    abbrev R : List Root
    R = map (moved_root to) roots

    -- what the kept list is made of, without what is added
    moved_kept_parts : kept_parts a D R reached ≡ moved_parts (kept_parts a decls roots reached)
    moved_kept_parts =
        let names = kept_names a (facts decls) roots reached in
        rw (
          relabeled_facts decls,
          relabeled_definitions decls,
          relabeled_declarations decls,
          moved_kept_names a (facts decls) roots reached,
          moved_kept_facts a (facts decls) reached,
          moved_kept_decls names (definitions decls),
          moved_kept_decls names (declarations decls),
        )

    -- and with it
    moved_followed_parts : followed_parts a D R reached ≡ moved_parts (followed_parts a decls roots reached)
    moved_followed_parts =
        let names = kept_names a (facts decls) roots reached in
        let added = added_for a (definitions decls) names in
        rw (
          relabeled_facts decls,
          relabeled_definitions decls,
          relabeled_declarations decls,
          moved_kept_names a (facts decls) roots reached,
          moved_added a (definitions decls) names,
          moved_kept_facts a (facts decls) reached,
          moved_group names added (definitions decls),
          moved_group names added (declarations decls),
        )

    -- the kept lines
    moved_kept : kept a D R reached ≡ map to (kept a decls roots reached)
    moved_kept =
        kept_lines a D R reached ∙ ap (listed_lines a) moved_kept_parts ∙ moved_lines a (kept_parts a decls roots reached)
        ∙ ap (map to) (sym (kept_lines a decls roots reached))

    moved_list : kept_followed a D R reached ≡ map to (kept_followed a decls roots reached)
    moved_list =
        followed_lines a D R reached ∙ ap (listed_lines a) moved_followed_parts ∙ moved_lines a (followed_parts a decls roots reached)
        ∙ ap (map to) (sym (followed_lines a decls roots reached))

-- what an ask comes to over these records, none of which it leaves out
pub over : List Summary → List Root → Ask → Position
over decls roots a =
    record {
      kept = kept_followed a decls roots (run a decls roots).reached;
      visits = stretch_visits (chain a decls roots (drop 1 a.queries)).met (chain a decls roots a.queries).met (facts decls);
      rounds = (chain a decls roots a.queries).rounds;
    }

-- it is the answer over the background
pub position_over : (decls : List Summary) (roots : List Root) (a : Ask) → position decls roots a ≡ over (background a decls) roots a
unfolding position over
position_over decls roots a = refl

-- over records on other lines and of other groups
pub relabeled_over : (to regroup : ℕ → ℕ) (decls : List Summary) (roots : List Root) (a : Ask)
    → over (map (relabeled to regroup) decls) (map (moved_root to) roots) a ≡ moved_position to (over decls roots a)
unfolding over moved_position stretch_visits
relabeled_over to regroup decls roots a =
    rw (
      moved_run to regroup decls roots a,
      moved_chain to regroup decls roots a a.queries,
      moved_chain to regroup decls roots a (drop 1 a.queries),
      moved_list to regroup a decls roots (run a decls roots).reached,
      relabeled_facts to regroup decls,
      moved_filed to regroup (facts decls),
    )

-- ---- records on other lines, of their groups

moved_as : (to : ℕ → ℕ) (decls : List Summary) → map (moved to) decls ≡ map (relabeled to (λ g. g)) decls
moved_as to decls = map_cong (moved to) (relabeled to (λ g. g)) decls (λ x i. each x)
  where
    each : (x : Summary) → moved to x ≡ relabeled to (λ g. g) x
    each (sum_assume f) = unfold moved moved_fact relabeled relabeled_fact in refl
    each (sum_definefun d) = unfold moved relabeled in refl
    each (sum_declfun d) = unfold moved relabeled in refl
    each sum_retain = unfold moved relabeled in refl

-- the records of each sort
pub moved_facts : (to : ℕ → ℕ) (decls : List Summary) → facts (map (moved to) decls) ≡ map (moved_fact to) (facts decls)
unfolding moved_fact relabeled_fact
moved_facts to decls = ap facts (moved_as to decls) ∙ relabeled_facts to (λ g. g) decls

pub moved_definitions : (to : ℕ → ℕ) (decls : List Summary) → definitions (map (moved to) decls) ≡ map (moved_decl to) (definitions decls)
moved_definitions to decls = ap definitions (moved_as to decls) ∙ relabeled_definitions to (λ g. g) decls

pub moved_declarations : (to : ℕ → ℕ) (decls : List Summary) → declarations (map (moved to) decls) ≡ map (moved_decl to) (declarations decls)
moved_declarations to decls = ap declarations (moved_as to decls) ∙ relabeled_declarations to (λ g. g) decls

-- the background of records that stand on other lines
pub moved_background : (to : ℕ → ℕ) (a : Ask) (decls : List Summary) → background a (map (moved to) decls) ≡ map (moved to) (background a decls)
unfolding background keep is_admitted moved moved_fact
moved_background to a [] = refl
moved_background to a (sum_assume f ∷ decls) = go (admits a f.group) (moved_background to a decls)
  where
    go : (b : Bool) → keep (is_admitted a) (map (moved to) decls) ≡ map (moved to) (keep (is_admitted a) decls)
        → cond b (moved to (sum_assume f) ∷ keep (is_admitted a) (map (moved to) decls)) (keep (is_admitted a) (map (moved to) decls))
        ≡ map (moved to) (cond b (sum_assume f ∷ keep (is_admitted a) decls) (keep (is_admitted a) decls))
    go true e = ap (moved to (sum_assume f) ∷◌) e
    go false e = e
moved_background to a (sum_definefun d ∷ decls) = ap (moved to (sum_definefun d) ∷◌) (moved_background to a decls)
moved_background to a (sum_declfun d ∷ decls) = ap (moved to (sum_declfun d) ∷◌) (moved_background to a decls)
moved_background to a (sum_retain ∷ decls) = ap (sum_retain ∷◌) (moved_background to a decls)

-- what an ask comes to
pub lines_apart : LinesApart
lines_apart to decls roots a =
    position_over (map (moved to) decls) (map (moved_root to) roots) a
    ∙ ap (λ ds. over ds (map (moved_root to) roots) a) (moved_background to a decls ∙ moved_as to (background a decls))
    ∙ relabeled_over to (λ g. g) (background a decls) roots a
    ∙ ap (moved_position to) (sym (position_over decls roots a))

-- the run is the same
pub run_apart : (to : ℕ → ℕ) (decls : List Summary) (roots : List Root) (a : Ask) → run a (map (moved to) decls) (map (moved_root to) roots) ≡ run a decls roots
run_apart to decls roots a = ap (λ ds. run a ds (map (moved_root to) roots)) (moved_as to decls) ∙ moved_run to (λ g. g) decls roots a

-- its list without what is added
pub kept_apart : KeptApart
kept_apart to decls roots a =
    let rs = map (moved_root to) roots in
    ap (kept a (map (moved to) decls) rs) (ap (λ (r : Run). r.reached) (run_apart to decls roots a))
    ∙ ap (λ ds. kept a ds rs (run a decls roots).reached) (moved_as to decls)
    ∙ moved_kept to (λ g. g) a decls roots (run a decls roots).reached

-- the names of both lists are the same, in their order
module _ (to : ℕ → ℕ) (a : Ask) (decls : List Summary) (roots : List Root) (reached : List Name) where
  pub kept_names_apart : listed_names a (kept_parts a (map (moved to) decls) (map (moved_root to) roots) reached) ≡ listed_names a (kept_parts a decls roots reached)
  unfolding relabeled_fact moved_decl
  kept_names_apart =
      ap (λ ds. listed_names a (kept_parts a ds (map (moved_root to) roots) reached)) (moved_as to decls)
      ∙ ap (listed_names a) (moved_kept_parts to (λ g. g) a decls roots reached)
      ∙ told_map a (λ f. f.name) (λ d. d.name) (relabeled_fact to (λ g. g)) (moved_decl to) (kept_parts a decls roots reached)

  pub followed_names_apart : listed_names a (followed_parts a (map (moved to) decls) (map (moved_root to) roots) reached) ≡ listed_names a (followed_parts a decls roots reached)
  unfolding relabeled_fact moved_decl
  followed_names_apart =
      ap (λ ds. listed_names a (followed_parts a ds (map (moved_root to) roots) reached)) (moved_as to decls)
      ∙ ap (listed_names a) (moved_followed_parts to (λ g. g) a decls roots reached)
      ∙ told_map a (λ f. f.name) (λ d. d.name) (relabeled_fact to (λ g. g)) (moved_decl to) (followed_parts a decls roots reached)
