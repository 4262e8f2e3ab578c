-- Change 11: a chain of stretches ends where a fresh run over all its roots does; the visits and the rounds of its lines.
use Prim.Native.Nat.{ℕ, suc, ◌+◌, ◌≤◌}
use native.Mathlib.Omega.{arith}
use mathlib.Core.Path.{◌≡◌, refl, sym, ◌∙◌, ap, ap₂, subst}
use mathlib.Core.Logic.{◌⊎◌, inl, inr, ⊎_elim, ◌≢◌}
use mathlib.Core.Bool.{Bool, true, false, not, ◌&&◌, ◌||◌}
use mathlib.Core.List.Memᴰ
use mathlib.Core.List.{List, [], ◌∷◌, ◌++◌, map, map-map, map-append, append_assoc, Memᴰ}
use lib.Dec.{T, T_not, not_T, eqb, eqb→eq, eqb_refl}
use lib.ListN.{length, length-append, drop}
use Rattle.model.specs.Lists.{any, keep, collect, sum, is_nil}
use Rattle.model.specs.Names.{Name, mem}
use Rattle.model.specs.Summaries.{Fact}
use Rattle.model.specs.Lines.{lines}
use Rattle.model.specs.Summaries.{exclude_names}
use Rattle.model.specs.Reading.{Ask, Summary, Root, State, Reading, read, no_ambients, pretyping_axioms, prune_decls, follow_bodies}
use Rattle.model.specs.Pruning.{Map}
use Rattle.model.specs.Rounds.{Run, first_run, facts, macros, filed, triggers_in, retainable, met_after, triggered, after_round, most_rounds, asks_for, goal_roots, ambient_roots, first_scanned, run, visits}
use Rattle.model.specs.Kept.{ambients, kept_facts, kept_names}
use Rattle.model.specs.Bodies.{added_for, kept_followed}
use Rattle.model.specs.Also.{with_queries, also_scanned, stretch_start, chain, stretch_visits}
use Rattle.model.proofs.ListLaws.{T_or, T_and, T_true, T_ext, any_intro, any_elim, keep_intro, keep_elim, keep_cong, keep_none, count_keep, collect_intro, collect_elim, sum_map_append}
use Rattle.model.proofs.SetLaws.{Ascending, Within}
use Rattle.model.specs.Outcome.{Position, position, filtered}
use Rattle.laws.specs.Fuel.{Ends, last, more}
use Rattle.laws.proofs.MetLaws.{met_within, with_first, after_elim}
use Rattle.laws.proofs.FiringLaws.{first_met}
use Rattle.laws.proofs.FuelLaws.{unmet, unmet_filed, rounds_end}
use Rattle.laws.proofs.BackgroundLaws.{background_with}
use Rattle.laws.proofs.StretchLaws.{visits_grow, first_visits, stretch_ends, stretch_few, own_queries, same_rounds, chain_with, chain_grows, chain_some}
use Rattle.demands.specs.LinesRead.{records_for, At}
use Rattle.demands.specs.WellFormed.{WellFormed}
use Rattle.demands.specs.Demand2.{followed_list}
use Rattle.demands.specs.Demand3.{run_of}
use Rattle.demands.specs.Also.{chain_at, chain_of, chain_before, ChainByLines, ChainIsFresh, RootsByLine, FirstIsRun, StretchVisitsExact, visits_of_lines, VisitsSum, VisitsTold, StretchRounds, StretchSome, StretchBound, NothingAdded}
use Rattle.laws.proofs.ReadingLaws.{file_read}
use Rattle.demands.proofs.Facts.{names_distinct}
use Rattle.demands.proofs.Rearranged.{SameMembers, members_trans, members_append, members_self}
use Rattle.demands.proofs.Settled.{settled_reached, settled_met}
use Rattle.demands.proofs.Stretches.{Going, going_first, going_end, going_on, going_settled, run_settled}
use Rattle.demands.proofs.Background.{well_for}
use Rattle.demands.proofs.ScanFile.{none_visited}
use Rattle.demands.proofs.Moved.{map_length}
use Rattle.demands.proofs.Asks.{at_member, ChainedAsks, chained_asks, accepted_asks}
use Rattle.demands.proofs.Demand1.{answers_filtered, list_given}

-- the roots of one query, in file order
abbrev query_roots : ℕ → List Root → List Root
query_roots q roots = keep (λ r. eqb r.query q) roots

module _ (a : Ask) (fs : List Fact) (roots : List Root) (q : ℕ) (qs : List ℕ) where
  -- the ambient roots are those of the ask
  same_ambients : ambient_roots (with_queries a (q ∷ qs)) fs ≡ ambient_roots (with_queries a qs) fs
  unfolding ambient_roots no_ambients with_queries
  same_ambients = refl

  -- the roots of the queries are those of one of them and of the others
  goal_cases : {r : Root} → Memᴰ r (goal_roots (with_queries a (q ∷ qs)) roots)
      → Memᴰ r (goal_roots (with_queries a qs) roots) ⊎ Memᴰ r (query_roots q roots)
  unfolding goal_roots asks_for with_queries any
  goal_cases {r} m =
      let (i, t) = keep_elim (λ (r : Root). eqb r.query q || any (eqb r.query) qs) roots m in
      ⊎_elim (λ u. inr (keep_intro (λ (r : Root). eqb r.query q) i u)) (λ u. inl (keep_intro (λ (r : Root). any (eqb r.query) qs) i u))
      ((T_or (eqb r.query q) (any (eqb r.query) qs)).0 t)

  goal_more : {r : Root} → Memᴰ r (goal_roots (with_queries a qs) roots) ⊎ Memᴰ r (query_roots q roots)
      → Memᴰ r (goal_roots (with_queries a (q ∷ qs)) roots)
  unfolding goal_roots asks_for with_queries any
  goal_more {r} s =
      let all : Root → Bool = λ r. eqb r.query q || any (eqb r.query) qs in
      ⊎_elim
      (λ m. let (i, t) = keep_elim (λ (r : Root). any (eqb r.query) qs) roots m in keep_intro all i ((T_or (eqb r.query q) (any (eqb r.query) qs)).1 (inr t)))
      (λ m. let (i, t) = keep_elim (λ (r : Root). eqb r.query q) roots m in keep_intro all i ((T_or (eqb r.query q) (any (eqb r.query) qs)).1 (inl t)))
      s

  -- a fresh run first scans the names of the others and those of the stretch
  scanned_alike : SameMembers (first_scanned (with_queries a qs) fs roots ++ also_scanned q roots) (first_scanned (with_queries a (q ∷ qs)) fs roots)
  unfolding first_scanned also_scanned
  scanned_alike =
      record {
        to = λ n m. ⊎_elim
            (λ i. ⊎_elim
            (λ j. let (r, k, x) = collect_elim frees (goal_roots (with_queries a qs) roots) j in in_goal (goal_more (inl k)) x)
            (λ j. let x : Memᴰ n (collect (λ (f : Fact). f.free_names) (ambient_roots (with_queries a (q ∷ qs)) fs)) = rw same_ambients j in Memᴰ.append_right (collect frees (goal_roots (with_queries a (q ∷ qs)) roots)) x)
            (Memᴰ.append_cases (collect frees (goal_roots (with_queries a qs) roots)) i))
            (λ i. let (r, k, x) = collect_elim frees (query_roots q roots) i in in_goal (goal_more (inr k)) x)
            (Memᴰ.append_cases (first_scanned (with_queries a qs) fs roots) m);
        from = λ n m. ⊎_elim
            (λ i. let (r, k, x) = collect_elim frees (goal_roots (with_queries a (q ∷ qs)) roots) i in
            ⊎_elim
            (λ j. Memᴰ.append_left _ (Memᴰ.append_left _ (collect_intro frees j x)))
            (λ j. Memᴰ.append_right (first_scanned (with_queries a qs) fs roots) (collect_intro frees j x))
            (goal_cases k))
            (λ i. Memᴰ.append_left _ (Memᴰ.append_right (collect frees (goal_roots (with_queries a qs) roots)) (rw same_ambients at i)))
            (Memᴰ.append_cases (collect frees (goal_roots (with_queries a (q ∷ qs)) roots)) m);
      }
    where
      frees : Root → List Name
      frees r = r.free_names

      in_goal : {r : Root} {n : Name} → Memᴰ r (goal_roots (with_queries a (q ∷ qs)) roots) → Memᴰ n (frees r)
          → Memᴰ n (first_scanned (with_queries a (q ∷ qs)) fs roots)
      in_goal i x = Memᴰ.append_left _ (collect_intro frees i x)

-- other queries leave what is retainable
same_retained : (a : Ask) (qs : List ℕ) → retainable (with_queries a qs) ≡ retainable a
unfolding retainable pretyping_axioms with_queries
same_retained a qs = refl

module _ (a : Ask) (decls : List Summary) (roots : List Root) where
  -- a fresh run over some queries, under the ask itself
  fresh_ends : (qs : List ℕ)
      → Ends a (macros decls) (facts decls) first_run (first_scanned (with_queries a qs) (facts decls) roots) (run (with_queries a qs) decls roots)
  unfolding run
  fresh_ends qs =
      rw same_rounds
      (rounds_end a (macros decls) (facts decls) (most_rounds (facts decls)) first_run (first_scanned (with_queries a qs) (facts decls) roots)
      (omega (arith, unmet_filed (facts decls) [])))

  module _ (wf : WellFormed decls roots) where
    -- what holds between two stretches holds at the end of a chain, over what a fresh run first scans
    chain_going : (q : ℕ) (qs : List ℕ) → (first : List Name) × SameMembers first (first_scanned (with_queries a (q ∷ qs)) (facts decls) roots)
        × Going a (macros decls) (facts decls) first (chain a decls roots (q ∷ qs)) []
    unfolding chain
    chain_going q [] =
        let once = names_distinct decls wf.distinct in
        let first = first_scanned (with_queries a (q ∷ [])) (facts decls) roots in (
          first,
          members_self first,
          going_end a (macros decls) (facts decls) once first (fresh_ends (q ∷ [])) (going_first a (macros decls) (facts decls) once first),
        )
    chain_going q (p ∷ qs) =
        let once = names_distinct decls wf.distinct in
        let (first, same, g) = chain_going p qs in
        let more = scanned_alike a (facts decls) roots q (p ∷ qs) in
        let scanned = also_scanned q roots in (
          first ++ scanned,
          members_trans (members_append same (members_self scanned)) more,
          going_end a (macros decls) (facts decls) once (first ++ scanned) (stretch_ends a decls roots (chain a decls roots (p ∷ qs)) q)
              (going_on a (macros decls) (facts decls) once first scanned (chain a decls roots (p ∷ qs)) g),
        )

    -- the names of the facts that it reaches are a set
    pub chain_set : (q : ℕ) (qs : List ℕ) → Ascending (chain a decls roots (q ∷ qs)).reached
    chain_set q qs = let (first, same, g) = chain_going q qs in g.before.reached_set

    -- so it ends as a fresh run over its queries does
    pub chain_fresh : (q : ℕ) (qs : List ℕ) → let end = chain a decls roots (q ∷ qs) in let fresh_run = run (with_queries a (q ∷ qs)) decls roots in
        (end.reached ≡ fresh_run.reached) × (end.met ≡ fresh_run.met)
    chain_fresh q qs =
        let (first, same, g) = chain_going q qs in
        let once = names_distinct decls wf.distinct in
        let s = going_settled a (macros decls) (facts decls) once first (chain a decls roots (q ∷ qs)) g in
        let s' = rw (same_retained a (q ∷ qs)) at (run_settled (with_queries a (q ∷ qs)) decls roots wf) in
        (settled_reached (retainable a) (macros decls) (facts decls) same s s', settled_met (retainable a) (macros decls) (facts decls) same s s')

-- a chain by its lines
pub chain_by_lines : ChainByLines
unfolding with_queries
chain_by_lines a s qs =
    sym (ap (λ decls. chain (with_queries a qs) decls s.roots qs) (background_with a qs s.decls) ∙ chain_with a (records_for a s) s.roots qs qs)

-- the list given is that of the fresh run
pub chain_is_fresh : ChainIsFresh
chain_is_fresh file s e a q qs h =
    let (reached, met) = chain_fresh a (records_for a s) s.roots (well_for file s e a) q qs in
    let own = own_queries a (q ∷ qs) h in
    let same_reached = ap (λ l. (chain_at a s l).reached) h ∙ reached ∙ ap (λ (b : Ask). (run b (records_for a s) s.roots).reached) own in
    record {
      same_reached = same_reached;
      same_met = ap (λ l. (chain_at a s l).met) h ∙ met ∙ ap (λ (b : Ask). (run b (records_for a s) s.roots).met) own;
      same_list = ap (kept_followed a (records_for a s) s.roots) same_reached;
    }

-- a fresh run over the same roots gives the same list
same_list : (a : Ask) (decls : List Summary) (roots : List Root) (ps qs : List ℕ)
    → goal_roots (with_queries a ps) roots ≡ goal_roots (with_queries a qs) roots
    → kept_followed (with_queries a ps) decls roots (run (with_queries a ps) decls roots).reached
    ≡ kept_followed (with_queries a qs) decls roots (run (with_queries a qs) decls roots).reached
unfolding kept_followed kept_names kept_facts ambients added_for no_ambients prune_decls follow_bodies run first_scanned ambient_roots with_queries
same_list a decls roots ps qs e = rw (same_rounds a decls roots ps, same_rounds a decls roots qs, e)

-- an ask with other queries gives its list over the same records
list_with : (a : Ask) (s : State) (qs : List ℕ)
    → followed_list (with_queries a qs) s
    ≡ kept_followed (with_queries a qs) (records_for a s) s.roots (run (with_queries a qs) (records_for a s) s.roots).reached
list_with a s qs =
    ap (λ decls. kept_followed (with_queries a qs) decls s.roots (run (with_queries a qs) decls s.roots).reached) (background_with a qs s.decls)

-- the roots of the same queries are the same, whatever their order
pub roots_by_line : RootsByLine
unfolding goal_roots asks_for with_queries
roots_by_line a s ps qs h =
    list_with a s ps ∙ same_list a (records_for a s) s.roots ps qs
    (keep_cong (λ (r : Root). any (eqb r.query) ps) (λ (r : Root). any (eqb r.query) qs) s.roots (λ r m.
    T_ext {a = any (eqb r.query) ps} {b = any (eqb r.query) qs} (λ t. moved r.query ps qs (λ q. (h q).0) t) (λ t. moved r.query qs ps (λ q. (h q).1) t)))
    ∙ sym (list_with a s qs)
  where
    moved : (k : ℕ) (ps qs : List ℕ) → ((q : ℕ) → Memᴰ q ps → Memᴰ q qs) → T (any (eqb k) ps) → T (any (eqb k) qs)
    moved k ps qs h t = let (q, i, u) = any_elim (eqb k) ps t in any_intro (eqb k) (h q i) u

-- an ask line alone has the visits and rounds of its run
pub first_is_run : FirstIsRun
unfolding chain
first_is_run a s q h =
    let own = own_queries a (q ∷ []) h in
    let end : chain_of a s ≡ run_of a s = ap (chain_at a s) h ∙ ap (λ (b : Ask). run b (records_for a s) s.roots) own in
    record {
      same_visits = ap (λ l. stretch_visits (chain_at a s (drop 1 l)).met (chain_of a s).met (facts (records_for a s))) h
          ∙ first_visits (chain_of a s).met (facts (records_for a s)) ∙ ap (λ (r : Run). visits r.met (facts (records_for a s))) end;
      same_rounds = ap (λ (r : Run). r.rounds) end;
    }

-- the visits of a stretch
pub stretch_visits_exact : StretchVisitsExact
unfolding stretch_visits
stretch_visits_exact file s e a q p qs h =
    let now = (chain_is_fresh file s e a q (p ∷ qs) h).same_met in
    let (reached, met) = chain_fresh a (records_for a s) s.roots (well_for file s e a) p qs in
    let before : (chain_before a s).met ≡ (run_of (with_queries a (p ∷ qs)) s).met =
    ap (λ l. (chain_at a s (drop 1 l)).met) h ∙ met ∙ ap (λ decls. (run (with_queries a (p ∷ qs)) decls s.roots).met) (sym (background_with a (p ∷ qs) s.decls)) in
    count_keep _ (filed (facts (records_for a s)))
    ∙ ap (λ (x : List Name × List Name). length (keep (λ n. mem n x.0 && not (mem n x.1)) (filed (facts (records_for a s))))) (ap₂ (λ x y. (x, y)) now before)

-- the visits of the lines of a chain sum to those at its end
lines_sum : (a : Ask) (s : State) (qs : List ℕ) → sum (visits_of_lines a s qs) ≡ visits (chain_at a s qs).met (facts (records_for a s))
unfolding visits_of_lines sum
lines_sum a s [] = unfold chain in sym (none_visited (facts (records_for a s)))
lines_sum a s (q ∷ qs) =
    omega (
      arith,
      lines_sum a s qs,
      visits_grow (chain_at a s qs).met (chain_at a s (q ∷ qs)).met (facts (records_for a s)) (chain_grows a (records_for a s) s.roots q qs),
    )

pub visits_sum : VisitsSum
visits_sum file s e a q qs h = lines_sum a s a.queries ∙ ap (λ met. visits met (facts (records_for a s))) (chain_is_fresh file s e a q qs h).same_met

-- ---- the visits of a chain among what a call tells

-- the asks of the lines of a chain, in their order
chain_asks : Ask → List ℕ → List Ask
chain_asks a [] = []
chain_asks a (q ∷ qs) = chain_asks a qs ++ (with_queries a (q ∷ qs) ∷ [])

-- one for each query
chain_asks_length : (a : Ask) (qs : List ℕ) → length (chain_asks a qs) ≡ length qs
unfolding chain_asks
chain_asks_length a [] = refl
chain_asks_length a (q ∷ qs) = omega (arith, length-append (chain_asks a qs) (with_queries a (q ∷ qs) ∷ []), chain_asks_length a qs)

-- they are those of the ask with other queries
chain_asks_with : (a : Ask) (ps qs : List ℕ) → chain_asks (with_queries a ps) qs ≡ chain_asks a qs
unfolding chain_asks with_queries
chain_asks_with a ps [] = refl
chain_asks_with a ps (q ∷ qs) = ap (◌++ (with_queries a (q ∷ qs) ∷ [])) (chain_asks_with a ps qs)

-- lists of which the first parts are as long
parts_equal : {A : Type 0} (l l' m m' : List A) → l ++ m ≡ l' ++ m' → length l ≡ length l' → (l ≡ l') × (m ≡ m')
parts_equal [] [] m m' e h = (refl, e)
parts_equal [] (x ∷ l') m m' e h = absurd (omega arith)
parts_equal (x ∷ l) [] m m' e h = absurd (omega arith)
parts_equal (x ∷ l) (y ∷ l') m m' e h =
    let same : x ≡ y = cc in
    let (a, b) = parts_equal l l' m m' (cc) (omega arith) in
    (ap₂ ◌∷◌ same a, b)

-- where an ask stands among asks that are so chained, the lines of its chain stand up to it
record ChainAmong (asks : List Ask) (i : ℕ) (a : Ask) (qs : List ℕ) : Type 0 where
  before : List Ask
  after : List Ask
  are : asks ≡ before ++ (chain_asks a qs ++ after)
  last_at : length before + length (chain_asks a qs) ≡ suc i

chain_among : (asks : List Ask) → ChainedAsks asks → (qs : List ℕ) (q i : ℕ) (a : Ask) → At asks i a → a.queries ≡ q ∷ qs → ChainAmong asks i a (q ∷ qs)
unfolding chain_asks
chain_among asks chained [] q i a at e =
    let place = at.place in
    record {
      before = at.before;
      after = at.after;
      are = at.are ∙ ap (λ (x : Ask). at.before ++ (x ∷ at.after)) (sym (own_queries a (q ∷ []) e));
      last_at = omega arith;
    }
chain_among asks chained (p ∷ qs) q i a at e =
    let (j, next, there) = chained.on i a q p qs at e in
    let b = with_queries a (p ∷ qs) in
    let w = chain_among asks chained qs p j b there (unfold with_queries in refl) in
    go w.before w.after (w.are ∙ ap (λ l. w.before ++ (l ++ w.after)) (chain_asks_with a (p ∷ qs) (p ∷ qs)))
    (let last = w.last_at in let same = ap length (chain_asks_with a (p ∷ qs) (p ∷ qs)) in omega arith)
  where
    C : List Ask
    C = chain_asks a (p ∷ qs)

    go : (l m : List Ask) → asks ≡ l ++ (C ++ m) → length l + length C ≡ i → ChainAmong asks i a (q ∷ p ∷ qs)
    go l m are count =
        let place = at.place in
        let (first, second) = parts_equal (l ++ C) at.before m (a ∷ at.after) (append_assoc l C m ∙ sym are ∙ at.are) (omega (arith, length-append l C)) in
        record {
          before = l;
          after = at.after;
          are = are ∙ ap (λ x. l ++ (C ++ x)) (second ∙ ap (λ (x : Ask). x ∷ at.after) (sym (own_queries a (q ∷ p ∷ qs) e)))
              ∙ ap (l ++◌) (sym (append_assoc C (with_queries a (q ∷ p ∷ qs) ∷ []) at.after));
          last_at = omega (arith, length-append C (with_queries a (q ∷ p ∷ qs) ∷ []));
        }

-- what the lines of a chain visit sums to the visits of its lines
told_sum : (a : Ask) (s : State) (qs : List ℕ)
    → sum (map (λ (p : Position). p.visits) (map (position s.decls s.roots) (chain_asks a qs))) ≡ sum (visits_of_lines a s qs)
unfolding chain_asks visits_of_lines sum position with_queries
told_sum a s [] = refl
told_sum a s (q ∷ qs) =
    let decls = records_for a s in
    let f = position s.decls s.roots in
    let told : Ask → ℕ = λ b. (f b).visits in
    let here = with_queries a (q ∷ qs) in
    let same : told here ≡ stretch_visits (chain_at a s qs).met (chain_at a s (q ∷ qs)).met (facts decls) =
    ap (λ ds. stretch_visits (chain here ds s.roots qs).met (chain here ds s.roots (q ∷ qs)).met (facts ds)) (background_with a (q ∷ qs) s.decls)
    ∙ ap₂ (λ (x y : Run). stretch_visits x.met y.met (facts decls)) (chain_with a decls s.roots (q ∷ qs) qs) (chain_with a decls s.roots (q ∷ qs) (q ∷ qs)) in
    let flat : (l : List Ask) → map (λ (p : Position). p.visits) (map f l) ≡ map told l = λ l. map-map (λ (p : Position). p.visits) f l in
    let split : sum (map told (chain_asks a qs ++ (here ∷ []))) ≡ sum (map told (chain_asks a qs)) + sum (map told (here ∷ [])) = sum_map_append told (chain_asks a qs) (here ∷ []) in
    let below : sum (map told (chain_asks a qs)) ≡ sum (visits_of_lines a s qs) = ap sum (sym (flat (chain_asks a qs))) ∙ told_sum a s qs in
    ap sum (flat (chain_asks a qs ++ (here ∷ []))) ∙ omega (arith, split, below, same)

-- so of what a call answers
pub visits_told : VisitsTold
unfolding filtered
visits_told file works room ps s e accepted i a at =
    let (judged, (t, reads, pairs, fits)) = (list_given file works room ps).0 e in
    let same : t ≡ s = read_eq (sym reads ∙ accepted) in
    let is : ps ≡ map (position s.decls s.roots) s.asks = answers_filtered t pairs ∙ ap filtered same in
    let good = (accepted_asks file s accepted).each a (at_member at) in
    let qs = good.query ∷ good.earlier in
    let w = chain_among s.asks (chained_asks (lines file) s (file_read exclude_names file s accepted)) good.earlier good.query i a at good.has_query in
    let f = position s.decls s.roots in
    let last = w.last_at in
    record {
      before = map f w.before;
      its = map f (chain_asks a qs);
      after = map f w.after;
      are = is ∙ ap (map f) w.are ∙ map-append f w.before (chain_asks a qs ++ w.after) ∙ ap (map f w.before ++◌) (map-append f (chain_asks a qs) w.after);
      last_at = omega (arith, map_length f w.before, map_length f (chain_asks a qs));
      as_many = map_length f (chain_asks a qs) ∙ chain_asks_length a qs ∙ ap length (sym good.has_query);
      sum_is = told_sum a s qs ∙ ap (λ l. sum (visits_of_lines a s l)) (sym good.has_query) ∙ visits_sum file s accepted a good.query good.earlier good.has_query;
    }
  where
    read_eq : {x y : State} → ◌≡◌ {A = Reading} (read x) (read y) → x ≡ y
    read_eq e = cc

-- the rounds of a stretch
pub stretch_rounds : StretchRounds
unfolding chain stretch_start also_scanned
stretch_rounds a s q p qs = stretch_ends a (records_for a s) s.roots (chain_at a s (p ∷ qs)) q

pub stretch_some_rounds : StretchSome
stretch_some_rounds a s q qs h = subst (λ l. 1 ≤ (chain_at a s l).rounds) (sym h) (chain_some a (records_for a s) s.roots q qs)

pub stretch_bound : StretchBound
unfolding chain unmet
stretch_bound a s q p qs = stretch_few a (records_for a s) s.roots (chain_at a s (p ∷ qs)) q

-- ---- a stretch that adds nothing

-- the roots of the queries are the same where the query is one of them, or has no roots
same_goal : (a : Ask) (roots : List Root) (q : ℕ) (qs : List ℕ) → Memᴰ q qs ⊎ ((r : Root) → Memᴰ r roots → r.query ≢ q)
    → goal_roots (with_queries a (q ∷ qs)) roots ≡ goal_roots (with_queries a qs) roots
unfolding goal_roots asks_for with_queries any
same_goal a roots q qs h =
    keep_cong (λ (r : Root). eqb r.query q || any (eqb r.query) qs) (λ (r : Root). any (eqb r.query) qs) roots
    (λ r m. each r m (eqb r.query q) refl)
  where
    each : (r : Root) → Memᴰ r roots → (b : Bool) → eqb r.query q ≡ b → (b || any (eqb r.query) qs) ≡ any (eqb r.query) qs
    each r m false e = refl
    each r m true e =
        let same : r.query ≡ q = eqb→eq r.query q (rw e tt) in
        ⊎_elim (λ i. sym (T_true (any (eqb r.query) qs) (any_intro (eqb r.query) (subst (λ x. Memᴰ x qs) (sym same) i) (eqb_refl r.query)))) (λ none. absurd (none r m same)) h

-- where nothing is triggered, the rounds end with the first
one_round_only : {a : Ask} {ms : Map (List Name)} {fs : List Fact} {r : Run} {scanned : List Name} {end : Run} → Ends a ms fs r scanned end
    → T (is_nil (triggered ms fs r scanned)) → end ≡ after_round a ms fs r scanned
one_round_only (last t) u = refl
one_round_only {ms} {fs} {r} {scanned} (more t e) u = absurd (T_not (is_nil (triggered ms fs r scanned)) t u)

-- a round after which nothing is met that was not met before triggers nothing
nothing_triggered : (ms : Map (List Name)) (fs : List Fact) (r : Run) (scanned : List Name) → Within (met_after ms r scanned) r.met
    → T (is_nil (triggered ms fs r scanned))
unfolding triggered is_nil
nothing_triggered ms fs r scanned w =
    rw (keep_none (triggers_in r.met (met_after ms r scanned)) fs (λ f m. not_T (triggers_in r.met (met_after ms r scanned) f)
    (λ t. let (n, i, u, v) = first_met r.met (met_after ms r scanned) f t in T_not (mem n r.met) v (w n u)))) tt

-- nor does it visit anything
nothing_visited : (before after : List Name) (fs : List Fact) → Within after before → stretch_visits before after fs ≡ 0
unfolding stretch_visits
nothing_visited before after fs w =
    count_keep (λ n. mem n after && not (mem n before)) (filed fs)
    ∙ ap length (keep_none (λ n. mem n after && not (mem n before)) (filed fs) (λ n i. not_T (mem n after && not (mem n before))
    (λ t. let (u, v) = (T_and (mem n after) (not (mem n before))).0 t in T_not (mem n before) v (w n u))))

module _ (a : Ask) (decls : List Summary) (roots : List Root) (wf : WellFormed decls roots) (q p : ℕ) (qs : List ℕ)
    (same : goal_roots (with_queries a (q ∷ p ∷ qs)) roots ≡ goal_roots (with_queries a (p ∷ qs)) roots) where
  abbrev before : Run
  before = chain a decls roots (p ∷ qs)

  -- the names that the stretch scans first are scanned first by the fresh run before it
  scanned_before : (n : Name) → Memᴰ n (also_scanned q roots) → Memᴰ n (first_scanned (with_queries a (p ∷ qs)) (facts decls) roots)
  unfolding also_scanned first_scanned
  scanned_before n i =
      let frees : Root → List Name = λ r. r.free_names in
      let (r, k, x) = collect_elim frees (query_roots q roots) i in
      let m = goal_more a (facts decls) roots q (p ∷ qs) (inr k) in
      Memᴰ.append_left _ (collect_intro frees (subst (λ l. Memᴰ r l) same m) x)

  -- so it meets nothing new
  met_before : Within (met_after (macros decls) (stretch_start before) (also_scanned q roots)) before.met
  unfolding stretch_start
  met_before k t =
      let (first, names, g) = chain_going a decls roots wf p qs in
      let once = names_distinct decls wf.distinct in
      let s = going_settled a (macros decls) (facts decls) once first before g in
      ⊎_elim
      (λ u. subst (λ met. T (mem k met)) (sym s.met_is) (with_first (macros decls) (facts decls) first _ k
      (met_within (macros decls) (also_scanned q roots) first (λ n i. names.from n (scanned_before n i)) k u)))
      (λ u. u) (after_elim (macros decls) (stretch_start before) (also_scanned q roots) k t)

  -- and ends after one round
  after_one : chain a decls roots (q ∷ p ∷ qs) ≡ after_round a (macros decls) (facts decls) (stretch_start before) (also_scanned q roots)
  unfolding chain stretch_start
  after_one =
      one_round_only (stretch_ends a decls roots before q)
      (nothing_triggered (macros decls) (facts decls) (stretch_start before) (also_scanned q roots) met_before)

-- a stretch of a query that the chain has, or that has no roots
pub nothing_added : NothingAdded
unfolding after_round stretch_start
nothing_added file s e a q p qs h =
    let decls = records_for a s in
    let wf = well_for file s e a in
    let same = same_goal a s.roots q (p ∷ qs) h in
    let end = after_one a decls s.roots wf q p qs same in
    record {
      no_visits = nothing_visited (chain_at a s (p ∷ qs)).met (chain_at a s (q ∷ p ∷ qs)).met (facts decls)
          (subst (λ (r : Run). Within r.met (chain_at a s (p ∷ qs)).met) (sym end) (met_before a decls s.roots wf q p qs same));
      one_round = ap (λ (r : Run). r.rounds) end;
      list_again = list_with a s (q ∷ p ∷ qs) ∙ same_list a decls s.roots (q ∷ p ∷ qs) (p ∷ qs) same ∙ sym (list_with a s (p ∷ qs));
    }
