-- A round on numbers is a round of `model`.
use Prim.Native.Nat.{ℕ, ◌+◌, ◌<◌}
use native.Mathlib.Omega.{arith}
use mathlib.Core.Path.{◌≡◌, sym, ◌∙◌, ap, subst}
use mathlib.Core.Bool.{Bool, not, ◌&&◌}
use mathlib.Core.Logic.{◌↔◌, ◌⊎◌, inl, inr, ⊎_elim}
use mathlib.Core.List.{List, map, Memᴰ}
use lib.Dec.{T, T_not}
use Rattle.model.specs.Lists.{any, collect, is_nil}
use Rattle.model.specs.Names.{Name, mem, from_list}
use Rattle.model.specs.Summaries.{Fact}
use Rattle.model.specs.Reading.{Ask}
use Rattle.model.specs.Pruning.{Map}
use Rattle.model.specs.Rounds.{Run, met_after, lies_within, triggers_in, triggered, fresh, after_round, next_scanned, retainable, listed}
use Rattle.model.proofs.ListLaws.{T_ext, T_and, any_intro, any_elim, keep_intro, keep_elim, collect_intro, collect_elim, map_intro, map_elim, not_nil_mem, mem_not_nil}
use Rattle.model.proofs.SetLaws.{Ascending, ascending_ext, ascending_union, mem_intro, mem_elim, mem_from_list}
use Rattle.laws.proofs.ReachedLaws.{reached_elim, reached_stays, reached_intro}
use Rattle.firing.specs.Held.{Held, Fits, Holds}
use Rattle.firing.specs.Met.{is_met, is_reached}
use Rattle.firing.specs.Firing.{scanned_by, fires_on}
use Rattle.scan.specs.Steps.{Going, items, met_phase, round, Ready}
use Rattle.firing.proofs.Numbers.{set_intro, set_elim, set_at, set_ascending}
use Rattle.firing.proofs.Marks.{new_intro}
use Rattle.scan.proofs.Visited.{visited_intro}
use Rattle.scan.proofs.Round.{round_of, met_then, visited_then, long, high_reached, fired, few, small_fact, work_elim, work_intro, is_met_then, visited_new, then_triggered, then_rounds, then_facts}
use Rattle.firing.proofs.Meeting.{Agrees, fires_at, met_round, label, reached_set}

-- the numbers stand before a round of a run of `model` that scans these names
pub record At (h : Held) (name : ℕ → Name) (g : Going) (run : Run) (scanned : List Name) : Type 0 where
  pub met_is : Agrees h name g.run run.met
  pub reached_is : run.reached ≡ reached_set h name g.run
  pub rounds_is : run.rounds ≡ g.scan.rounds
  pub scanned_is : (k : Name) → Memᴰ k scanned ↔ Memᴰ k (map name (collect h.frees (items g)))

module _ {h : Held} {name : ℕ → Name} {a : Ask} {ms : Map (List Name)} {fs : List Fact} {fact : ℕ → Fact} (fits : Fits h)
    (holds : Holds h name a ms fs fact) (g : Going) (ready : Ready h g) (run : Run) (scanned : List Name) (at : At h name g run scanned) where
  after_is : Agrees h name (met_then h g) (met_after ms run scanned)
  unfolding met_then
  after_is =
      met_round fits holds (round_of g) g.run (items g) run scanned (omega arith) (long h fits g ready) ready.items_small at.met_is
      at.scanned_is

  -- ---- the facts triggered

  -- the round triggers a fact where one of its entries is visited and it fires
  trigger_elim : (i : ℕ) → i < h.records → T (h.takes_part i) → T (triggers_in run.met (met_after ms run scanned) (fact i))
      → (e : ℕ) × Memᴰ e (visited_then h g) × (h.entry_fact e ≡ i) × T (fires_on h (is_met (met_then h g)) i)
  unfolding triggers_in visited_then met_then
  trigger_elim i l t u =
      let new : Name → Bool = λ n. mem n (met_after ms run scanned) && not (mem n run.met) in
      let (x, y) = (T_and (any new (listed (fact i))) (any (lies_within (met_after ms run scanned)) (fact i).triggers)).0 u in
      let (k, j, z) = any_elim new (listed (fact i)) x in
      let (m₁, m₂) = (T_and (mem k (met_after ms run scanned)) (not (mem k run.met))).0 z in
      let (e, s, q, b, c) = holds.listed_entry i k l t j in
      let n₁ : T (is_met (met_then h g) (h.entry_name e)) = rw (← after_is (h.entry_name e) b, ← c) m₁ in
      let n₂ : T (not (is_met g.run (h.entry_name e))) = rw (← at.met_is (h.entry_name e) b, ← c) m₂ in
      let lo = long h fits g ready in
      let o = new_intro (round_of g) g.run (scanned_by h (items g)) (h.entry_name e) (omega arith) (omega arith) n₁ n₂ in (
        e,
        visited_intro h (round_of g) (met_then h g) h.named e s b o,
        q,
        rw (fires_at fits holds (met_then h g) (met_after ms run scanned) after_is i l t) at y,
      )

  trigger_intro : (e : ℕ) → Memᴰ e (visited_then h g) → T (fires_on h (is_met (met_then h g)) (h.entry_fact e))
      → T (triggers_in run.met (met_after ms run scanned) (fact (h.entry_fact e)))
  unfolding triggers_in
  trigger_intro e m f =
      let i = h.entry_fact e in
      let (s, b, n₁, n₂) = visited_new h fits g ready e m in
      let new : Name → Bool = λ n. mem n (met_after ms run scanned) && not (mem n run.met) in
      (T_and (any new (listed (fact i))) (any (lies_within (met_after ms run scanned)) (fact i).triggers)).1 (
        any_intro new (holds.entry_listed e s b)
            ((T_and (mem (name (h.entry_name e)) (met_after ms run scanned)) (not (mem (name (h.entry_name e)) run.met))).1
            (rw (after_is (h.entry_name e) b) n₁, rw (at.met_is (h.entry_name e) b) n₂)),
        rw (fires_at fits holds (met_then h g) (met_after ms run scanned) after_is i (fits.fact_small e s) (fits.fact_is e s b)) f,
      )

  -- a fact that the round triggers is that of a visited entry
  fact_entry : (f : Fact) → Memᴰ f fs → T (triggers_in run.met (met_after ms run scanned) f)
      → (e : ℕ) × Memᴰ e (visited_then h g) × (f ≡ fact (h.entry_fact e)) × T (fires_on h (is_met (met_then h g)) (h.entry_fact e))
  fact_entry f m t =
      let (i, l, u, q) = holds.fact_of f m in
      let (e, n, s, x) = trigger_elim i l u (rw q at t) in
      (e, n, rw s q, rw s x)

  entry_triggers : (e : ℕ) → Memᴰ e (visited_then h g) → T (fires_on h (is_met (met_then h g)) (h.entry_fact e))
      → Memᴰ (fact (h.entry_fact e)) (triggered ms fs run scanned)
  unfolding triggered
  entry_triggers e m t =
      let (l, u) = small_fact h fits g ready e m in
      keep_intro (triggers_in run.met (met_after ms run scanned)) (holds.fact_in (h.entry_fact e) l u) (trigger_intro e m t)

  -- whether the round triggers a fact
  pub triggered_then : (round h g).scan.triggered ≡ not (is_nil (triggered ms fs run scanned))
  unfolding triggered
  triggered_then =
      then_triggered h fits g ready
      ∙ T_ext
      (λ t.
      let (e, m, x) = any_elim (λ e. fires_on h (is_met (met_then h g)) (h.entry_fact e)) (visited_then h g) t in
      mem_not_nil (entry_triggers e m x))
      (λ t.
      let (f, m) = not_nil_mem (triggered ms fs run scanned) t in
      let (i, u) = keep_elim (triggers_in run.met (met_after ms run scanned)) fs m in
      let (e, n, q, x) = fact_entry f i u in
      any_intro (λ e. fires_on h (is_met (met_then h g)) (h.entry_fact e)) n x)

  -- ---- the facts reached

  -- a fact's name is reached where its record is
  pub reached_at : (i : ℕ) → i < h.records → T (h.takes_part i) → mem (fact i).name run.reached ≡ is_reached g.run i
  reached_at i l t =
      rw (at.reached_is, holds.fact_name i l t)
      (set_at (label h name) (is_reached g.run) h.records i l
      (λ m k u e.
      let x = (ready.only_facts m (few h fits g ready k) u).1 in
      holds.rows_apart i m l k t x (holds.injective (h.row_name i) (h.row_name m) (fits.row_small i l t) (fits.row_small m k x) e)))

  fresh_at : (i : ℕ) → i < h.records → T (h.takes_part i) → T (retainable a (fact i)) → T (not (mem (fact i).name run.reached))
      → T (h.retains i) × T (not (is_reached g.run i))
  fresh_at i l t u w = (rw (holds.fact_retained i l t) at u, rw (reached_at i l t) at w)

  -- a fact that the round reaches is that of a visited entry
  fresh_entry : {f : Fact} → Memᴰ f (fresh a ms fs run scanned)
      → (e : ℕ) × Memᴰ e (visited_then h g) × (f ≡ fact (h.entry_fact e)) × T (fires_on h (is_met (met_then h g)) (h.entry_fact e))
      × T (h.retains (h.entry_fact e)) × T (not (is_reached g.run (h.entry_fact e)))
  unfolding fresh triggered
  fresh_entry {f} m =
      let (i, t) = keep_elim (λ f. retainable a f && not (mem f.name run.reached)) (triggered ms fs run scanned) m in
      let (j, u) = keep_elim (triggers_in run.met (met_after ms run scanned)) fs i in
      let (e, n, q, x) = fact_entry f j u in
      let (l, y) = small_fact h fits g ready e n in
      let (b, c) = (T_and (retainable a f) (not (mem f.name run.reached))).0 t in
      let (d, w) = fresh_at (h.entry_fact e) l y (subst (λ z. T (retainable a z)) q b) (subst (λ z. T (not (mem z.name run.reached))) q c) in
      (e, n, q, x, d, w)

  entry_fresh : (e : ℕ) → Memᴰ e (visited_then h g) → T (fires_on h (is_met (met_then h g)) (h.entry_fact e)) → T (h.retains (h.entry_fact e))
      → T (not (is_reached g.run (h.entry_fact e))) → Memᴰ (fact (h.entry_fact e)) (fresh a ms fs run scanned)
  unfolding fresh
  entry_fresh e m t u w =
      let (l, y) = small_fact h fits g ready e m in
      keep_intro (λ f. retainable a f && not (mem f.name run.reached)) (entry_triggers e m t)
      ((T_and (retainable a (fact (h.entry_fact e))) (not (mem (fact (h.entry_fact e)).name run.reached))).1
      (rw (holds.fact_retained (h.entry_fact e) l y) u, rw (reached_at (h.entry_fact e) l y) w))

  reached_ascends : Ascending (after_round a ms fs run scanned).reached
  unfolding after_round
  reached_ascends =
      ascending_union (map (λ (f : Fact). f.name) (fresh a ms fs run scanned))
      (subst Ascending (sym at.reached_is) (set_ascending (label h name) (is_reached g.run) h.records))

  reached_then : (after_round a ms fs run scanned).reached ≡ reached_set h name (round h g).run
  unfolding met_phase met_then
  reached_then =
      ascending_ext reached_ascends (set_ascending (label h name) (is_reached (round h g).run) h.records)
      (λ k t. ⊎_elim
      (λ (f, m, q).
      let (e, n, s, x, b, c) = fresh_entry m in
      let (l, y) = small_fact h fits g ready e n in
      subst (λ z. T (mem z (reached_set h name (round h g).run))) (sym (holds.fact_name (h.entry_fact e) l y) ∙ ap (λ (z : Fact). z.name) (sym s) ∙ q)
      (set_intro (label h name) (is_reached (round h g).run) l ((fired h fits g ready).reached_in e n x b)))
      (λ u.
      let (i, l, w, q) = set_elim (label h name) (is_reached g.run) h.records (rw at.reached_is at u) in
      rw q (set_intro (label h name) (is_reached (round h g).run) l
      ((fired h fits g ready).reached_old i (few h fits g ready l) (rw (high_reached h fits g ready i) w))))
      (reached_elim a ms fs run scanned k t))
      (λ k t.
      let (i, l, w, q) = set_elim (label h name) (is_reached (round h g).run) h.records t in
      let x = (then_facts h fits g ready i (few h fits g ready l) w).1 in
      rw (q, ← holds.fact_name i l x) (back i l x ((fired h fits g ready).reached_from i (few h fits g ready l) w)))
    where
      back : (i : ℕ) → i < h.records → T (h.takes_part i)
          → T (is_reached (met_then h g) i)
          ⊎ ((e : ℕ) × Memᴰ e (visited_then h g) × (h.entry_fact e ≡ i) × T (fires_on h (is_met (met_then h g)) i) × T (h.retains i))
          → T (mem (fact i).name (after_round a ms fs run scanned).reached)
      back i l x (inl u) = reached_stays a ms fs run scanned (fact i).name (rw (reached_at i l x) (rw (high_reached h fits g ready i) at u))
      back i l x (inr (e, m, s, t, u)) =
          reached_intro a ms fs run scanned
          (record {
            is_fact = holds.fact_in i l x;
            is_triggered = subst (λ z. T (triggers_in run.met (met_after ms run scanned) (fact z))) s
                (trigger_intro e m (subst (λ z. T (fires_on h (is_met (met_then h g)) z)) (sym s) t));
            is_retainable = rw (holds.fact_retained i l x) u;
          })

  -- ---- what the next round scans

  scanned_then : (k : Name) → Memᴰ k (next_scanned a ms fs run scanned) ↔ Memᴰ k (map name (collect h.frees (items (round h g))))
  unfolding next_scanned met_phase met_then
  scanned_then k = (λ m. to m, λ m. fro m)
    where
      to : Memᴰ k (collect (λ (f : Fact). f.free_names) (fresh a ms fs run scanned)) → Memᴰ k (map name (collect h.frees (items (round h g))))
      to m =
          let (f, x, y) = collect_elim (λ (f : Fact). f.free_names) (fresh a ms fs run scanned) m in
          let (e, n, s, z, b, c) = fresh_entry x in
          let (l, w) = small_fact h fits g ready e n in
          let ns = map name (h.frees (h.entry_fact e)) in
          let q : f.free_names ≡ from_list ns = ap (λ (z : Fact). z.free_names) s ∙ holds.fact_frees (h.entry_fact e) l w in
          let (j, u, v) = map_elim name (h.frees (h.entry_fact e)) (mem_elim ((mem_from_list k ns).0 (mem_intro (subst (λ z. Memᴰ k z) q y)))) in
          subst (λ z. Memᴰ z (map name (collect h.frees (items (round h g))))) v
          (map_intro name (collect_intro h.frees
          (work_intro h fits g ready (h.entry_fact e) (few h fits g ready l) ((fired h fits g ready).reached_in e n z b) c) u))

      fro : Memᴰ k (map name (collect h.frees (items (round h g)))) → Memᴰ k (collect (λ (f : Fact). f.free_names) (fresh a ms fs run scanned))
      fro m =
          let (j, u, v) = map_elim name (collect h.frees (items (round h g))) m in
          let (i, x, y) = collect_elim h.frees (items (round h g)) u in
          let (l, t, w) = work_elim h fits g ready i x in
          ⊎_elim (λ t. absurd (T_not (is_reached g.run i) w (rw (high_reached h fits g ready i) at t)))
          (λ (e, n, s, f, b).
          let (l₂, p₂) = small_fact h fits g ready e n in
          let ns = map name (h.frees (h.entry_fact e)) in
          collect_intro (λ (f : Fact). f.free_names)
          (entry_fresh e n (subst (λ z. T (fires_on h (is_met (met_then h g)) z)) (sym s) f) (subst (λ z. T (h.retains z)) (sym s) b)
          (subst (λ z. T (not (is_reached g.run z))) (sym s) w))
          (subst (λ z. Memᴰ k z) (sym (holds.fact_frees (h.entry_fact e) l₂ p₂))
          (mem_elim ((mem_from_list k ns).1
          (mem_intro (subst (λ z. Memᴰ z ns) v (map_intro name (subst (λ z. Memᴰ j (h.frees z)) (sym s) y))))))))
          ((fired h fits g ready).reached_from i l t)

  -- ---- the round

  met_after_round : Agrees h name (round h g).run (after_round a ms fs run scanned).met
  unfolding after_round
  met_after_round n l = after_is n l ∙ sym (is_met_then h fits g ready n (let f = fits.few_names in omega arith))

  rounds_after : (after_round a ms fs run scanned).rounds ≡ (round h g).scan.rounds
  unfolding after_round
  rounds_after = ap (λ n. n + 1) at.rounds_is ∙ sym (then_rounds h fits g ready)

  pub at_then : At h name (round h g) (after_round a ms fs run scanned) (next_scanned a ms fs run scanned)
  at_then = record { met_is = met_after_round; reached_is = reached_then; rounds_is = rounds_after; scanned_is = scanned_then }
