-- The kept list: its facts that are not ambient are the reached facts, and nothing stands twice in a part of it.
use Prim.Native.Nat.{ℕ}
use mathlib.Core.Path.{◌≡◌, refl, sym, ◌∙◌}
use mathlib.Core.Logic.{⊎_elim}
use mathlib.Core.Bool.{Bool, true, false, not, cond}
use mathlib.Core.List.Memᴰ
use mathlib.Core.List.{List, [], ◌∷◌, map, reverse, map-append, append-nil, Memᴰ}
use lib.Dec.{T, T_not, not_T}
use Rattle.model.specs.Lists.{keep, collect}
use Rattle.model.specs.Names.{Name, same, mem, remove}
use Rattle.model.specs.Summaries.{Fact}
use Rattle.model.specs.Reading.{Ask, Decl, Summary, Root, no_ambients}
use Rattle.model.specs.Rounds.{facts, is_ambient, run}
use Rattle.model.specs.Kept.{reached_facts, ambients, kept_facts, first_met, kept_decls}
use Rattle.model.specs.declared.AsumKind.{AsumKind}
use Rattle.model.specs.declared.AsumKind.TheVariants.{Drop, Ambient, Triggers}
use Rattle.model.proofs.ListLaws.{cond_case, keep_intro, keep_elim, keep_all, keep_none, keep_append, reverse_elim, collect_intro, collect_elim, map_intro, map_elim}
use Rattle.model.proofs.SetLaws.{Ascending, mem_intro, mem_elim, same_eq, same_refl}
use Rattle.demands.specs.LinesRead.{Distinct, none, one_more}
use Rattle.demands.specs.WellFormed.{CountsDisjuncts, WellFormed}
use Rattle.demands.proofs.Distinct.{distinct_append, distinct_keep, distinct_reverse, distinct_map, distinct_of_map, distinct_to_map, distinct_map_keep, ascending_distinct}
use Rattle.demands.proofs.Facts.{fact_names, fact_by_name, names_distinct, one_of_name}
use Rattle.laws.proofs.FiringLaws.{fires_elim}
use Rattle.laws.proofs.ReachedLaws.{reached_by}
use Rattle.demands.proofs.RoundsLaws.{run_end}

-- a fact with a disjunct is not ambient
pub with_disjunct : (kind : AsumKind) {ts : List (List Name)} {d : List Name} → CountsDisjuncts kind ts → Memᴰ d ts → T (not (is_ambient kind))
unfolding is_ambient
with_disjunct Drop e m = tt
with_disjunct (Ambient is_root) e m = absurd (Memᴰ.not-nil (rw e at m))
with_disjunct (Triggers n) e m = tt

-- the ambients of the kept list are ambient facts of the file
pub ambients_elim : (a : Ask) (fs : List Fact) {f : Fact} → Memᴰ f (ambients a fs) → Memᴰ f fs × T (is_ambient f.kind)
unfolding ambients
ambients_elim a fs m = go (no_ambients a) m
  where
    go : {f : Fact} (b : Bool) → Memᴰ f (cond b [] (reverse (keep (λ f. is_ambient f.kind) fs))) → Memᴰ f fs × T (is_ambient f.kind)
    go true m = absurd (Memᴰ.not-nil m)
    go false m = keep_elim (λ f. is_ambient f.kind) fs (reverse_elim (keep (λ f. is_ambient f.kind) fs) m)

-- a fact of the file whose name is reached is among the reached facts
pub reached_facts_intro : (fs : List Fact) (reached : List Name) {f : Fact} → Memᴰ f fs → T (mem f.name reached) → Memᴰ f (reached_facts fs reached)
unfolding reached_facts
reached_facts_intro fs reached {f} m t =
    collect_intro (λ name. keep (λ f. same f.name name) fs) (mem_elim t) (keep_intro (λ g. same g.name f.name) m (same_refl f.name))

-- a reached fact is a fact of the file whose name is reached
pub reached_facts_elim : (fs : List Fact) (reached : List Name) {f : Fact} → Memᴰ f (reached_facts fs reached) → Memᴰ f fs × T (mem f.name reached)
unfolding reached_facts
reached_facts_elim fs reached m =
    let (n, i, j) = collect_elim (λ name. keep (λ f. same f.name name) fs) reached m in
    let (k, t) = keep_elim (λ f. same f.name n) fs j in
    (k, mem_intro (Memᴰ.cast (same_eq t) i))

-- a kept fact is a fact of the file
pub kept_facts_elim : (a : Ask) (fs : List Fact) (reached : List Name) {f : Fact} → Memᴰ f (kept_facts a fs reached) → Memᴰ f fs
unfolding kept_facts
kept_facts_elim a fs reached m = ⊎_elim (λ i. (reached_facts_elim fs reached i).0) (λ i. (ambients_elim a fs i).0) (Memᴰ.append_cases (reached_facts fs reached) m)

-- where no two facts have one name no ambient stands twice
ambients_once : (a : Ask) (fs : List Fact) → Distinct (fact_names fs) → Distinct (ambients a fs)
unfolding ambients
ambients_once a fs d =
    cond_case Distinct (no_ambients a) none
    (distinct_reverse (distinct_of_map (λ (f : Fact). f.name) (keep (λ f. is_ambient f.kind) fs) (distinct_map_keep (λ (f : Fact). f.name) (λ f. is_ambient f.kind) fs d)))

-- where each name is that of a fact, the names of the reached facts are the names, in their order
pub reached_names : (fs : List Fact) → Distinct (fact_names fs) → (reached : List Name)
    → ((n : Name) → Memᴰ n reached → Memᴰ n (fact_names fs)) → fact_names (reached_facts fs reached) ≡ reached
unfolding reached_facts collect
reached_names fs once [] h = refl
reached_names fs once (n ∷ ns) h =
    rw (map-append (λ (f : Fact). f.name) (keep (λ f. same f.name n) fs) (reached_facts fs ns), one_of_name {n = n} fs once (h n (Memᴰ.head refl)), reached_names fs once ns (λ k m. h k (Memᴰ.tail m)))

module _ (a : Ask) (decls : List Summary) (roots : List Root) (wf : WellFormed decls roots) where
  -- no reached fact is ambient
  pub reached_no_ambient : (f : Fact) → Memᴰ f (facts decls) → T (reached_by (run a decls roots) f) → T (not (is_ambient f.kind))
  reached_no_ambient f m t =
      let (g, i, e, r, u) = (run_end a decls roots wf).reached_fires f.name t in
      let h = fires_elim (run a decls roots).met g u in
      rw (← fact_by_name wf i m e) (with_disjunct g.kind (wf.good_facts g i).disjunct_count h.is_disjunct)

  -- the kept facts that are not ambient are the reached facts
  pub kept_not_ambient : keep (λ f. not (is_ambient f.kind)) (kept_facts a (facts decls) (run a decls roots).reached) ≡ reached_facts (facts decls) (run a decls roots).reached
  unfolding kept_facts
  kept_not_ambient =
      let reached = reached_facts (facts decls) (run a decls roots).reached in
      let not_ambient : Fact → Bool = λ f. not (is_ambient f.kind) in
      rw (
        keep_append not_ambient reached (ambients a (facts decls)),
        keep_all not_ambient reached (λ f m. let (i, t) = reached_facts_elim (facts decls) (run a decls roots).reached m in reached_no_ambient f i t),
        keep_none not_ambient (ambients a (facts decls)) (λ f m. not_T (not (is_ambient f.kind)) (λ t. T_not (is_ambient f.kind) t (ambients_elim a (facts decls) m).1)),
      )
      (append-nil reached)

  -- the names of the reached facts, as listed, are those reached
  pub reached_are : fact_names (reached_facts (facts decls) (run a decls roots).reached) ≡ (run a decls roots).reached
  reached_are =
      reached_names (facts decls) (names_distinct decls wf.distinct) (run a decls roots).reached
      (λ n m. let (f, i, e, r, u) = (run_end a decls roots wf).reached_fires n (mem_intro m) in Memᴰ.cast (sym e) (map_intro (λ (f : Fact). f.name) i))

  -- they are a set
  pub reached_ascending : Ascending (fact_names (reached_facts (facts decls) (run a decls roots).reached))
  reached_ascending = rw reached_are (run_end a decls roots wf).reached_set

  -- no kept fact stands twice
  pub kept_facts_once : Distinct (kept_facts a (facts decls) (run a decls roots).reached)
  unfolding kept_facts
  kept_facts_once =
      distinct_append
      (distinct_of_map (λ (f : Fact). f.name) _ (ascending_distinct _ reached_ascending))
      (ambients_once a (facts decls) (names_distinct decls wf.distinct))
      (λ f i j. let (k, t) = reached_facts_elim (facts decls) (run a decls roots).reached i in T_not (is_ambient f.kind) (reached_no_ambient f k t) (ambients_elim a (facts decls) j).1)

-- no name is met first twice
pub first_met_once : (ns : List Name) → Distinct (first_met ns)
unfolding first_met remove
first_met_once [] = none
first_met_once (n ∷ ns) =
    one_more (λ m. T_not (same n n) (keep_elim (λ m. not (same n m)) (first_met ns) m).1 (same_refl n))
    (distinct_keep (λ m. not (same n m)) (first_met_once ns))

-- no element is picked twice by names that are all different
pub picked_once : {A : Type 0} (name : A → Name) (l : List A) → Distinct l → {ns : List Name} → Distinct ns
    → Distinct (collect (λ n. keep (λ x. same (name x) n) l) ns)
unfolding collect
picked_once name l d none = none
picked_once {A} name l d (one_more {a = n} {l = ns} new e) =
    distinct_append (distinct_keep (λ x. same (name x) n) d) (picked_once name l d e)
    (λ x i j. let (m, k, h) = collect_elim (λ n. keep (λ x. same (name x) n) l) ns j in
    new (Memᴰ.cast (sym (named n i) ∙ named m h) k))
  where
    named : (n : Name) {x : A} → Memᴰ x (keep (λ x. same (name x) n) l) → name x ≡ n
    named n i = same_eq (keep_elim (λ x. same (name x) n) l i).1

module _ (names : List Name) (ds : List Decl) where
  -- a kept definition, or declaration, is one of them
  pub kept_decls_elim : {d : Decl} → Memᴰ d (kept_decls names ds) → Memᴰ d ds
  unfolding kept_decls
  kept_decls_elim m =
      let (n, i, j) = collect_elim (λ n. keep (λ d. same d.name n) ds) (reverse (first_met names)) m in
      (keep_elim (λ d. same d.name n) ds j).0

  -- its line is that of one of them
  pub kept_decl_line : {n : ℕ} → Memᴰ n (map (λ d. d.line) (kept_decls names ds)) → (d : Decl) × Memᴰ d ds × (d.line ≡ n)
  kept_decl_line m = let (d, i, e) = map_elim (λ (d : Decl). d.line) (kept_decls names ds) m in (d, kept_decls_elim i, e)

  -- their lines stand once where all do
  pub kept_decls_once : Distinct (map (λ d. d.line) ds) → Distinct (map (λ d. d.line) (kept_decls names ds))
  unfolding kept_decls
  kept_decls_once d =
      distinct_to_map (λ (d : Decl). d.line)
      (picked_once (λ (d : Decl). d.name) ds (distinct_of_map (λ (d : Decl). d.line) ds d) (distinct_reverse (first_met_once names)))
      (λ x y i j. distinct_map (λ (d : Decl). d.line) ds d (kept_decls_elim i) (kept_decls_elim j))

-- the line of a kept fact is that of a fact of the file
pub kept_fact_line : (a : Ask) (fs : List Fact) (reached : List Name) {n : ℕ} → Memᴰ n (map (λ f. f.line) (kept_facts a fs reached))
    → (f : Fact) × Memᴰ f fs × (f.line ≡ n)
kept_fact_line a fs reached m =
    let (f, i, e) = map_elim (λ (f : Fact). f.line) (kept_facts a fs reached) m in (f, kept_facts_elim a fs reached i, e)
