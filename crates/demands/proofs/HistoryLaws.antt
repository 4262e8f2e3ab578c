-- The history of a run of well-formed records: what holds at each of its states.
use Prim.Native.Nat.{ℕ, zero, suc, ◌≤◌, ◌<◌}
use native.Mathlib.Omega.{arith}
use mathlib.Core.Path.{◌≡◌, refl, sym, ap, subst}
use mathlib.Core.Logic.{◌↔◌, ◌⊎◌, inl, inr, ⊎_elim}
use mathlib.Core.List.{List, Memᴰ}
use lib.Dec.{T, leb, leb→le, nleb→lt}
use lib.ListN.{length}
use Rattle.model.specs.Names.{Name, mem}
use Rattle.model.specs.Summaries.{Fact}
use Rattle.model.specs.Reading.{Ask, Summary, Root}
use Rattle.model.specs.Pruning.{Map}
use Rattle.model.specs.Rounds.{Run, facts, macros, triggers_in, retainable, after_round, first_scanned, run, history, end_of}
use Rattle.model.proofs.ListLaws.{T_dec}
use Rattle.model.proofs.SetLaws.{Within}
use Rattle.laws.specs.History.{IsHistory, last, more}
use Rattle.laws.proofs.FuelLaws.{history_follows}
use Rattle.laws.proofs.HistoryLaws.{first_state, history_length}
use Rattle.laws.proofs.MetLaws.{met_with, met_grows}
use Rattle.laws.proofs.ReachedLaws.{reached_by, fresh_elim, reached_intro, reached_stays}
use Rattle.demands.specs.LinesRead.{Distinct}
use Rattle.demands.specs.WellFormed.{WellFormed}
use Rattle.demands.proofs.Facts.{fact_names, names_distinct, fact_by_name}
use Rattle.demands.proofs.RoundsLaws.{Before, round, first_round, reached_cases, run_end}

-- two numbers, one at most the other or below it
pub le_or_lt : (m n : ℕ) → (m ≤ n) ⊎ (n < m)
le_or_lt m n = ⊎_elim (λ t. inl (leb→le m n t)) (λ t. inr (nleb→lt m n t)) (T_dec (leb m n))

-- what each step up to a bound hands on holds of every number from one on
pub climbs : (P : ℕ → Type 0) (bound : ℕ) → ((k : ℕ) → k < bound → P k → P (suc k)) → (k j : ℕ) → j ≤ k → k ≤ bound → P j → P k
climbs P bound step zero j h l p = let e : j ≡ 0 = omega arith in subst P e p
climbs P bound step (suc k) j h l p = go (climbs P bound step k j) (le_or_lt j k)
  where
    go : (j ≤ k → k ≤ bound → P j → P k) → (j ≤ k) ⊎ (k < j) → P (suc k)
    go below (inl i) = step k (omega arith) (below i (omega arith) p)
    go below (inr i) = let e : j ≡ suc k = omega arith in subst P e p

module _ (a : Ask) (ms : Map (List Name)) (fs : List Fact) where
  -- a round of a history: the state before it with what holds there, what it scans, and the state at its end
  pub record RoundAt (first : List Name) (h : List Run) (k : ℕ) : Type 0 where
    pub scanned : List Name
    pub before : Before a ms fs first (end_of h k) scanned
    pub after : end_of h (suc k) ≡ after_round a ms fs (end_of h k) scanned

  -- every round of a history is so
  pub rounds_at : (once : Distinct (fact_names fs)) (first : List Name) {r end : Run} {scanned : List Name} {h : List Run}
      → IsHistory a ms fs r scanned h end → Before a ms fs first r scanned → (k : ℕ) → suc k < length h → RoundAt first h k
  unfolding end_of
  rounds_at once first (last {scanned} t) b zero l = record { scanned = scanned; before = b; after = refl }
  rounds_at once first (last t) b (suc k) l = absurd (omega arith)
  rounds_at once first (more {scanned} t e) b zero l = record { scanned = scanned; before = b; after = let (rest, q) = first_state a ms fs e in ap (λ (g : List Run). end_of g 0) q }
  rounds_at once first (more {r} {scanned} t e) b (suc k) l =
      let p = rounds_at once first e (round a ms fs once first r scanned b) k (omega arith) in
      record { scanned = p.scanned; before = p.before; after = p.after }

  -- what a round of a history does, of the state at its end by name
  module _ (once : Distinct (fact_names fs)) {first : List Name} {h : List Run} {k : ℕ} (at : RoundAt first h k) where
    pub met_up : Within (end_of h k).met (end_of h (suc k)).met
    unfolding after_round
    met_up n t = subst (λ (r : Run). T (mem n r.met)) (sym at.after) (met_grows ms (end_of h k) at.scanned n t)

    pub reached_up : (n : Name) → T (mem n (end_of h k).reached) → T (mem n (end_of h (suc k)).reached)
    reached_up n t = subst (λ (r : Run). T (mem n r.reached)) (sym at.after) (reached_stays a ms fs (end_of h k) at.scanned n t)

    -- the names met at its end are those from the first items and the facts reached before it
    pub met_next : (n : Name) → T (mem n (end_of h (suc k)).met) ↔ T (mem n (met_with ms fs first (reached_by (end_of h k))))
    unfolding after_round
    met_next n = (
      λ t. at.before.met_below n (subst (λ (r : Run). T (mem n r.met)) at.after t),
      λ t. subst (λ (r : Run). T (mem n r.met)) (sym at.after) (at.before.met_above n t),
    )

    -- a fact that it reaches is triggered by it
    pub reached_next : {f : Fact} → Memᴰ f fs → T (reached_by (end_of h (suc k)) f)
        → T (triggers_in (end_of h k).met (end_of h (suc k)).met f) ⊎ T (reached_by (end_of h k) f)
    unfolding after_round
    reached_next {f} m t = ⊎_elim
        (λ i. inl (subst (λ (r : Run). T (triggers_in (end_of h k).met r.met f)) (sym at.after) (fresh_elim a ms fs (end_of h k) at.scanned i).is_triggered))
        inr
        (reached_cases a ms fs once (end_of h k) at.scanned m (subst (λ (r : Run). T (reached_by r f)) at.after t))

    -- a retainable fact that it triggers is reached at its end
    pub triggered_next : {f : Fact} → Memᴰ f fs → T (retainable a f) → T (triggers_in (end_of h k).met (end_of h (suc k)).met f)
        → T (reached_by (end_of h (suc k)) f)
    unfolding after_round
    triggered_next {f} m u t =
        subst (λ (r : Run). T (reached_by r f)) (sym at.after)
        (reached_intro a ms fs (end_of h k) at.scanned
        (record { is_fact = m; is_triggered = subst (λ (r : Run). T (triggers_in (end_of h k).met r.met f)) at.after t; is_retainable = u }))

module _ (a : Ask) (decls : List Summary) (roots : List Root) (wf : WellFormed decls roots) where
  -- no two facts have one name
  facts_once : Distinct (fact_names (facts decls))
  facts_once = names_distinct decls wf.distinct

  -- its rounds
  pub history_round : (k : ℕ) → k < (run a decls roots).rounds
      → RoundAt a (macros decls) (facts decls) (first_scanned a (facts decls) roots) (history a decls roots) k
  history_round k l =
      let e = history_length a decls roots in
      rounds_at a (macros decls) (facts decls) facts_once (first_scanned a (facts decls) roots) (history_follows a decls roots)
      (first_round a (macros decls) (facts decls) facts_once (first_scanned a (facts decls) roots)) k (omega arith)

  -- what is met, or reached, at the end of a round is so at the end of every later one
  pub met_later : (j k : ℕ) → j ≤ k → k ≤ (run a decls roots).rounds → Within (end_of (history a decls roots) j).met (end_of (history a decls roots) k).met
  met_later j k h l n =
      climbs (λ i. T (mem n (end_of (history a decls roots) i).met)) (run a decls roots).rounds
      (λ i b. met_up a (macros decls) (facts decls) facts_once (history_round i b) n) k j h l

  pub reached_later : (j k : ℕ) → j ≤ k → k ≤ (run a decls roots).rounds → (n : Name)
      → T (mem n (end_of (history a decls roots) j).reached) → T (mem n (end_of (history a decls roots) k).reached)
  reached_later j k h l n =
      climbs (λ i. T (mem n (end_of (history a decls roots) i).reached)) (run a decls roots).rounds
      (λ i b. reached_up a (macros decls) (facts decls) facts_once (history_round i b) n) k j h l

  -- the names met at the end of a round are those from the first items and the facts reached before it
  pub met_exactly : (k : ℕ) → k < (run a decls roots).rounds → (n : Name) → T (mem n (end_of (history a decls roots) (suc k)).met)
      ↔ T (mem n (met_with (macros decls) (facts decls) (first_scanned a (facts decls) roots) (reached_by (end_of (history a decls roots) k))))
  met_exactly k l = met_next a (macros decls) (facts decls) facts_once (history_round k l)

  -- a fact reached at the end of a round was triggered by it or reached before it
  pub reached_why : (k : ℕ) → k < (run a decls roots).rounds → {f : Fact} → Memᴰ f (facts decls)
      → T (reached_by (end_of (history a decls roots) (suc k)) f)
      → T (triggers_in (end_of (history a decls roots) k).met (end_of (history a decls roots) (suc k)).met f)
      ⊎ T (reached_by (end_of (history a decls roots) k) f)
  reached_why k l m t = reached_next a (macros decls) (facts decls) facts_once (history_round k l) m t

  -- a retainable fact that a round triggers is reached at its end
  pub triggered_reached : (k : ℕ) → k < (run a decls roots).rounds → {f : Fact} → Memᴰ f (facts decls) → T (retainable a f)
      → T (triggers_in (end_of (history a decls roots) k).met (end_of (history a decls roots) (suc k)).met f)
      → T (reached_by (end_of (history a decls roots) (suc k)) f)
  triggered_reached k l m u t = triggered_next a (macros decls) (facts decls) facts_once (history_round k l) m u t

  -- a reached fact is retainable
  pub reached_retainable : {f : Fact} → Memᴰ f (facts decls) → T (reached_by (run a decls roots) f) → T (retainable a f)
  reached_retainable {f} m t =
      let (g, i, e, r, u) = (run_end a decls roots wf).reached_fires f.name t in
      subst (λ (x : Fact). T (retainable a x)) (fact_by_name wf i m e) r
