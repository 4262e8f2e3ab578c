-- A sweep on numbers is the sweep of `model`.
use Prim.Native.Nat.{ℕ, zero, suc, ◌+◌, ◌≤◌, ◌<◌}
use native.Mathlib.Omega.{arith}
use mathlib.Core.Path.{◌≡◌, refl, sym, ◌∙◌, ap, subst}
use mathlib.Core.Bool.{Bool, true, false, cond, not, ◌&&◌, or-false}
use mathlib.Core.Logic.{◌↔◌, inl, inr, ⊎_elim}
use mathlib.Core.List.Memᴰ
use mathlib.Core.List.{List, [], ◌∷◌, ◌++◌, map, append-nil, Memᴰ}
use lib.Dec.{T, T_not, ltb}
use lib.ListN.{length, get_or, set, length-set}
use lib.Seq.{get_or-set_other}
use Rattle.model.specs.Lists.{any, collect, fold_left}
use Rattle.model.specs.Names.{Name, mem, from_list}
use Rattle.model.specs.Summaries.{Fact}
use Rattle.model.specs.Reading.{Ask, most_records}
use Rattle.model.specs.Pruning.{Map}
use Rattle.model.specs.Rounds.{Run, fires, listed, met_from, met_after}
use Rattle.model.specs.Sweep.{Sweep, adds, with_added, pass_fact, begin_pass, pass}
use Rattle.model.proofs.ListLaws.{T_ext, any_intro, any_elim, collect_append, collect_elim, concat_intro, concat_elim, map_intro, map_elim, fold_left_append}
use Rattle.model.proofs.SetLaws.{Ascending, union_mem, ascending_ext, ascending_add, mem_add, mem_intro, mem_elim, mem_from_list}
use Rattle.terms.proofs.Laws.{equal}
use Rattle.firing.specs.Held.{Held, Fits, Holds}
use Rattle.firing.specs.Met.{reached_column, work_column, run_end, is_met, is_reached, marks}
use Rattle.firing.specs.Firing.{opened_all, scanned_by}
use Rattle.firing.proofs.Numbers.{set_intro, set_elim, set_at, set_none, set_ascending}
use Rattle.firing.proofs.Marks.{marks_nil, marks_append, marks_length, marks_out}
use Rattle.firing.proofs.Clearing.{none_reached}
use Rattle.firing.proofs.Meeting.{opened_small, Agrees, fires_at, met_round, label, reached_set}
use Rattle.sweeping.specs.Sweeping.{Sweeping, sweeping, met_of, fires_now, joins, joined, pass_record, passed, pass_all, Passes, last, more}
use Rattle.laws.specs.Passes.{Sweeps, last as last_pass, more as more_passes}
use Rattle.laws.proofs.PassLaws.{same_adds_none, other_adds_some}
use Rattle.sweeping.proofs.Passing.{joined_behind, joined_self, joined_other}

-- the facts of the first n records, in line order
unfoldable pub facts_below : Held → (ℕ → Fact) → ℕ → List Fact
facts_below h fact zero = []
facts_below h fact (suc n) = facts_below h fact n ++ cond (h.takes_part n) (fact n ∷ []) []

-- those of the first n records of which the test holds, in line order
unfoldable pub chosen : (ℕ → Bool) → ℕ → List ℕ
chosen test zero = []
chosen test (suc n) = chosen test n ++ cond (test n) (n ∷ []) []

-- a record is one of them where the test holds of it
pub chosen_elim : (test : ℕ → Bool) (n : ℕ) {i : ℕ} → Memᴰ i (chosen test n) → (i < n) × T (test i)
unfolding chosen
chosen_elim test zero m = absurd (Memᴰ.not-nil m)
chosen_elim test (suc n) {i} m =
    ⊎_elim (λ q. let (l, t) = chosen_elim test n q in (omega arith, t)) (λ q. go (test n) refl q) (Memᴰ.append_cases (chosen test n) m)
  where
    go : (b : Bool) → test n ≡ b → Memᴰ i (cond b (n ∷ []) []) → (i < suc n) × T (test i)
    go true e q = ⊎_elim (λ (x : i ≡ n). (omega arith, rw (x, e) tt)) (λ x. absurd (Memᴰ.not-nil x)) (Memᴰ.cases_cons q)
    go false e q = absurd (Memᴰ.not-nil q)

pub chosen_intro : (test : ℕ → Bool) (n i : ℕ) → i < n → T (test i) → Memᴰ i (chosen test n)
unfolding chosen
chosen_intro test zero i l t = absurd (omega arith)
chosen_intro test (suc n) i l t =
    ⊎_elim (λ (e : i ≡ n). Memᴰ.append_right (chosen test n) (subst (λ j. Memᴰ i (cond (test j) (j ∷ []) [])) e (go (test i) t)))
    (λ d. Memᴰ.append_left _ (chosen_intro test n i (omega (arith, d)) t)) (equal i n)
  where
    go : (b : Bool) → T b → Memᴰ i (cond b (i ∷ []) [])
    go true t = Memᴰ.head refl
    go false t = absurd t

-- to meet their names one record after the other is to meet what they scan
met_marks : (h : Held) (test : ℕ → Bool) (n : ℕ) (w : List ℕ) → met_of h test n w ≡ marks 1 w (scanned_by h (chosen test n))
unfolding met_of chosen scanned_by collect
met_marks h test zero w = sym (marks_nil 1 w)
met_marks h test (suc n) w = go (test n) (met_marks h test n w)
  where
    go : (b : Bool) → met_of h test n w ≡ marks 1 w (scanned_by h (chosen test n))
        → cond b (marks 1 (met_of h test n w) (opened_all h.opens (h.frees n))) (met_of h test n w)
        ≡ marks 1 w (scanned_by h (chosen test n ++ cond b (n ∷ []) []))
    go true e =
        rw (e, ← marks_append)
        (ap (marks 1 w) (sym (collect_append (λ i. opened_all h.opens (h.frees i)) (chosen test n) (n ∷ []) ∙ rw append-nil)))
    go false e = rw append-nil e

-- false is not true
differ : false ≡ true → ⊥
differ e = subst T (sym e) tt

-- a name is met where its word is the same
met_word : (w v : List ℕ) (n : ℕ) → get_or w n 0 ≡ get_or v n 0 → is_met w n ≡ is_met v n
unfolding is_met
met_word w v n e = ap (ltb 0) e

-- a word that is zero marks nothing
zero_word : (w : List ℕ) (n : ℕ) → ◌≡◌ {A = ℕ} (get_or w n 0) 0 → is_met w n ≡ false
unfolding is_met
zero_word w n e = rw e

-- what records meet are names
scans_small : (h : Held) → Fits h → (is : List ℕ) → ((i : ℕ) → Memᴰ i is → i < h.records) → (n : ℕ) → Memᴰ n (scanned_by h is) → n < h.named
unfolding scanned_by
scans_small h fits is small n m =
    let (i, x, y) = collect_elim (λ i. opened_all h.opens (h.frees i)) is m in
    opened_small h fits i n (small i x) y

-- the numbers stand where a sweep of `model` does
pub record Stands (h : Held) (name : ℕ → Name) (s : Sweeping) (m : Sweep) : Type 0 where
  pub long : run_end ≤ length s.run
  pub met_is : Agrees h name s.run m.met
  pub reached_is : m.reached ≡ reached_set h name s.run
  pub only_facts : (i : ℕ) → i < most_records → T (is_reached s.run i) → (i < h.records) × T (h.takes_part i)
  pub passes_is : m.passes ≡ s.passes
  pub added_is : m.added ≡ s.added

module _ {h : Held} {name : ℕ → Name} {a : Ask} {ms : Map (List Name)} {fs : List Fact} {fact : ℕ → Fact} (fits : Fits h)
    (holds : Holds h name a ms fs fact) where
  -- before the first pass, where the slice was cleared and the first names are those of the records of a test
  pub start_stands : (test : ℕ → Bool) (first : List Name) (w : List ℕ) → run_end ≤ length w
      → ((i : ℕ) → i < work_column → ◌≡◌ {A = ℕ} (get_or w i 0) 0)
      → ((k : Name) → Memᴰ k first ↔ Memᴰ k (map name (collect h.frees (chosen test h.records))))
      → Stands h name (sweeping (met_of h test h.records w) 0 false)
      (record { met = met_from ms first; reached = []; passes = 0; added = false })
  unfolding mem any met_after
  start_stands test first w long zeros free =
      rw (met_marks h test h.records w)
      (record {
        long = rw (marks_length 1 w (scanned_by h (chosen test h.records))) long;
        met_is = λ n l. sym (union_mem (name n) (met_from ms first) [] ∙ or-false (mem (name n) (met_from ms first))) ∙ met n l;
        reached_is = sym (set_none (label h name) (is_reached (marks 1 w (scanned_by h (chosen test h.records)))) h.records
            (λ i l. none i (let few = fits.few_records in omega arith)));
        only_facts = λ i l t. absurd (T_not (is_reached (marks 1 w (scanned_by h (chosen test h.records))) i) (none i l) t);
        passes_is = refl;
        added_is = refl;
      })
    where
      nothing : Run
      nothing = record { met = []; reached = []; rounds = 0 }

      no_name : (n : ℕ) → n < h.named → false ≡ is_met w n
      no_name n l = sym (zero_word w n (zeros n (let few = fits.few_names in omega arith)))

      met : Agrees h name (marks 1 w (scanned_by h (chosen test h.records))) (met_after ms nothing first)
      met =
          met_round fits holds 1 w (chosen test h.records) nothing first (omega arith) (let few = fits.few_names in omega arith)
          (λ i m. (chosen_elim test h.records m).0) no_name free

      none : (i : ℕ) → i < most_records → T (not (is_reached (marks 1 w (scanned_by h (chosen test h.records))) i))
      none i l =
          none_reached (marks 1 w (scanned_by h (chosen test h.records))) i
          (marks_out 1 w (scanned_by h (chosen test h.records)) (reached_column + i)
          (λ m. let few = fits.few_names in let x = scans_small h fits (chosen test h.records) (λ j q. (chosen_elim test h.records q).0) (reached_column + i) m in omega arith)
          ∙ zeros (reached_column + i) (omega arith))

  -- a listed name of a fact is met where one of its numbers is marked
  listed_at : (w : List ℕ) (met : List Name) → Agrees h name w met → (i : ℕ) → i < h.records → T (h.takes_part i)
      → any (λ n. mem n met) (listed (fact i)) ≡ any (any (is_met w)) (h.disjuncts i)
  unfolding listed
  listed_at w met agrees i l t =
      rw (holds.fact_disjuncts i l t)
      (T_ext
      (λ u.
      let (k, m, x) = any_elim (λ n. mem n met) _ u in
      let (d, p, q) = concat_elim (map (λ ns. from_list (map name ns)) (h.disjuncts i)) m in
      let (ns, r, e) = map_elim (λ ns. from_list (map name ns)) (h.disjuncts i) p in
      let (n, y, z) = map_elim name ns (mem_elim ((mem_from_list k (map name ns)).0 (mem_intro (subst (λ b. Memᴰ k b) (sym e) q)))) in
      any_intro (any (is_met w)) r (any_intro (is_met w) y
      (rw (agrees n (fits.disjuncts_small i n ns l r y)) at (subst (λ b. T (mem b met)) (sym z) x))))
      (λ u.
      let (ns, r, x) = any_elim (any (is_met w)) (h.disjuncts i) u in
      let (n, y, z) = any_elim (is_met w) ns x in
      any_intro (λ n. mem n met)
      (concat_intro (map_intro (λ ns. from_list (map name ns)) r) (mem_elim ((mem_from_list (name n) (map name ns)).1 (mem_intro (map_intro name y)))))
      (rw (agrees n (fits.disjuncts_small i n ns l r y)) z)))

  module _ (s : Sweeping) (m : Sweep) (at : Stands h name s m) (i : ℕ) (l : i < h.records) where
    -- a fact's name is reached where its record is
    reached_at : T (h.takes_part i) → mem (fact i).name m.reached ≡ is_reached s.run i
    reached_at t =
        rw (at.reached_is, holds.fact_name i l t)
        (set_at (label h name) (is_reached s.run) h.records i l
        (λ j k u e.
        let few = fits.few_records in
        let x = (at.only_facts j (omega arith) u).1 in
        holds.rows_apart i j l k t x (holds.injective (h.row_name i) (h.row_name j) (fits.row_small i l t) (fits.row_small j k x) e)))

    -- a fact is added where its record is
    joins_at : T (h.takes_part i) → adds a m (fact i) ≡ joins h s.run i
    unfolding adds joins fires fires_now
    joins_at t =
        rw (holds.fact_retained i l t, reached_at t, listed_at s.run m.met at.met_is i l t, fires_at fits holds s.run m.met at.met_is i l t)
        (sym (true_and (h.takes_part i) _ t))
      where
        true_and : (b c : Bool) → T b → (b && c) ≡ c
        true_and true c t = refl
        true_and false c t = absurd t

    -- the names met with the record
    joined_met : T (h.takes_part i) → Agrees h name (joined h s.run i) (with_added ms m (fact i)).met
    unfolding joined with_added met_after scanned_by collect
    joined_met t =
        let few_n = fits.few_names in
        let long = at.long in
        let w = set s.run (reached_column + i) 1 in
        let run : Run = record { met = m.met; reached = m.reached; rounds = 0 } in
        let same : (n : ℕ) → n < h.named → is_met w n ≡ is_met s.run n = λ n x. word_same n (omega arith) in
        let r : Agrees h name (marks 1 w (opened_all h.opens (h.frees i) ++ [])) (met_after ms run (fact i).free_names) =
        met_round fits holds 1 w (i ∷ []) run (fact i).free_names (omega arith) (rw (length-set s.run (reached_column + i) 1) (omega arith))
        (λ j x. ⊎_elim (λ (e : j ≡ i). omega arith) (λ y. absurd (Memᴰ.not-nil y)) (Memᴰ.cases_cons x))
        (λ n x. at.met_is n x ∙ sym (same n x))
        (λ k. rw (holds.fact_frees i l t, append-nil)
        (λ x. mem_elim ((mem_from_list k (map name (h.frees i))).0 (mem_intro x)), λ x. mem_elim ((mem_from_list k (map name (h.frees i))).1 (mem_intro x)))) in
        rw append-nil at r
      where
        word_same : (n : ℕ) → n < reached_column → is_met (set s.run (reached_column + i) 1) n ≡ is_met s.run n
        word_same n x = met_word (set s.run (reached_column + i) 1) s.run n (get_or-set_other s.run (reached_column + i) n 1 0 (λ e. omega arith))

    -- the facts reached with the record
    joined_reached : T (h.takes_part i) → (with_added ms m (fact i)).reached ≡ reached_set h name (joined h s.run i)
    unfolding with_added
    joined_reached t =
        ascending_ext
        (ascending_add (fact i).name (subst Ascending (sym at.reached_is) (set_ascending (label h name) (is_reached s.run) h.records)))
        (set_ascending (label h name) (is_reached (joined h s.run i)) h.records)
        (λ k u. ⊎_elim
        (λ (e : k ≡ (fact i).name). subst (λ z. T (mem z (reached_set h name (joined h s.run i)))) (sym (e ∙ holds.fact_name i l t))
        (set_intro (label h name) (is_reached (joined h s.run i)) l (joined_self fits s.run i l at.long)))
        (λ v.
        let (j, x, y, q) = set_elim (label h name) (is_reached s.run) h.records (rw at.reached_is at v) in
        rw q (set_intro (label h name) (is_reached (joined h s.run i)) x (stays j y)))
        ((mem_add k (fact i).name m.reached).0 u))
        (λ k u.
        let (j, x, y, q) = set_elim (label h name) (is_reached (joined h s.run i)) h.records u in
        (mem_add k (fact i).name m.reached).1
        (⊎_elim
        (λ (e : j ≡ i). inl (q ∙ ap (label h name) e ∙ sym (holds.fact_name i l t)))
        (λ d. inr (rw (at.reached_is, q) (set_intro (label h name) (is_reached s.run) x (rw (joined_other fits s.run i l j d) at y))))
        (equal j i)))
      where
        stays : (j : ℕ) → T (is_reached s.run j) → T (is_reached (joined h s.run i) j)
        stays j y = ⊎_elim (λ (e : j ≡ i). rw e (joined_self fits s.run i l at.long)) (λ d. rw (joined_other fits s.run i l j d) y) (equal j i)

    -- an addition hands on where the numbers stand
    added_stands : T (h.takes_part i) → Stands h name (sweeping (joined h s.run i) s.passes true) (with_added ms m (fact i))
    unfolding with_added
    added_stands t =
        record {
          long = rw (joined_behind fits s.run i l).same_length at.long;
          met_is = joined_met t;
          reached_is = joined_reached t;
          only_facts = λ j x y. ⊎_elim (λ (e : j ≡ i). rw e (l, t)) (λ d. at.only_facts j x (rw (joined_other fits s.run i l j d) at y)) (equal j i);
          passes_is = at.passes_is;
          added_is = refl;
        }

    -- so does a record passed, a fact or not
    pass_stands : (b : Bool) → h.takes_part i ≡ b → Stands h name (pass_record h s i) (fold_left (pass_fact a ms) m (cond b (fact i ∷ []) []))
    unfolding pass_record pass_fact fold_left joins
    pass_stands true e = let t : T (h.takes_part i) = rw e tt in rw (joins_at t) (go (joins h s.run i) t)
      where
        go : (b : Bool) → T (h.takes_part i)
            → Stands h name (cond b (sweeping (joined h s.run i) s.passes true) s) (cond b (with_added ms m (fact i)) m)
        go true t = added_stands t
        go false t = at
    pass_stands false e = rw (no_join e) at
      where
        no_join : h.takes_part i ≡ false → joins h s.run i ≡ false
        no_join e = rw e

  -- the first records passed
  passed_stands : (n : ℕ) → n ≤ h.records → {s : Sweeping} {m : Sweep} → Stands h name s m
      → Stands h name (passed h n s) (fold_left (pass_fact a ms) m (facts_below h fact n))
  unfolding passed facts_below fold_left
  passed_stands zero l at = at
  passed_stands (suc n) l {s} {m} at =
      rw (fold_left_append (pass_fact a ms) m (facts_below h fact n) (cond (h.takes_part n) (fact n ∷ []) []))
      (pass_stands (passed h n s) (fold_left (pass_fact a ms) m (facts_below h fact n)) (passed_stands n (omega arith) at) n (omega arith) (h.takes_part n) refl)

  -- where the facts are those of the records, in line order
  module _ (in_order : fs ≡ facts_below h fact h.records) where
    -- a pass is a pass of `model`
    pass_all_stands : {s : Sweeping} {m : Sweep} → Stands h name s m → Stands h name (pass_all h s) (pass a ms fs m)
    unfolding pass_all pass begin_pass
    pass_all_stands {s} {m} at =
        rw in_order
        (passed_stands h.records (omega arith)
        (record {
          long = at.long;
          met_is = at.met_is;
          reached_is = at.reached_is;
          only_facts = at.only_facts;
          passes_is = ap (λ n. n + 1) at.passes_is;
          added_is = refl;
        }))

    -- and passes to the end are the sweep
    pub passes_over : {s end : Sweeping} → Passes h s end → {n : ℕ} {m over : Sweep} → Stands h name s m → Sweeps a ms fs n m over → Stands h name end over
    passes_over (last {s} e) {m} at (last_pass e') = pass_all_stands at
    passes_over (last {s} e) {m} at (more_passes e' r) = absurd (differ (sym e ∙ sym (pass_all_stands at).added_is ∙ other_adds_some a ms fs m e'))
    passes_over (more {s} e p) {m} at (last_pass e') = absurd (differ (sym (same_adds_none a ms fs m e') ∙ (pass_all_stands at).added_is ∙ e))
    passes_over (more {s} e p) {m} at (more_passes e' r) = passes_over p (pass_all_stands at) r
