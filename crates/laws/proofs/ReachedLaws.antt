-- What a round reaches.
use mathlib.Core.Path.{◌≡◌}
use mathlib.Core.Logic.{◌⊎◌, inl, inr, ⊎_elim}
use mathlib.Core.Bool.{Bool, not, ◌&&◌}
use mathlib.Core.List.{List, [], map, Memᴰ}
use lib.Dec.{T}
use Rattle.model.specs.Lists.{keep, collect, is_nil}
use Rattle.model.specs.Names.{Name, mem}
use Rattle.model.specs.Summaries.{Fact}
use Rattle.model.specs.Reading.{Ask}
use Rattle.model.specs.Pruning.{Map}
use Rattle.model.specs.Rounds.{Run, triggers_in, retainable, met_after, triggered, fresh, after_round, next_scanned}
use Rattle.model.proofs.ListLaws.{T_and, T_dec, keep_intro, keep_elim, is_nil_elim, map_intro, map_elim}
use Rattle.model.proofs.SetLaws.{mem_intro, mem_elim, mem_union}
use Rattle.laws.specs.Fuel.{Ends, last, more}

-- the facts that a run has reached
abbrev pub reached_by : Run → Fact → Bool
reached_by r f = mem f.name r.reached

module _ (a : Ask) (ms : Map (List Name)) (fs : List Fact) where
  -- a round that triggers none reaches none
  pub none_next : (r : Run) (scanned : List Name) → T (is_nil (triggered ms fs r scanned)) → next_scanned a ms fs r scanned ≡ []
  unfolding next_scanned fresh keep collect
  none_next r scanned t = rw (is_nil_elim (triggered ms fs r scanned) t)

  -- what each round hands on holds at the end, with nothing more to scan
  pub at_end : (P : Run → List Name → Type 0)
      → ((r : Run) (scanned : List Name) → P r scanned → P (after_round a ms fs r scanned) (next_scanned a ms fs r scanned))
      → {r end : Run} {scanned : List Name} → Ends a ms fs r scanned end → P r scanned → P end []
  at_end P step (last {r} {scanned} t) p = rw (none_next r scanned t) at (step r scanned p)
  at_end P step (more {r} {scanned} t e) p = at_end P step e (step r scanned p)

  -- what makes a fact reached at the end of a round
  pub record Fresh (r : Run) (scanned : List Name) (f : Fact) : Type 0 where
    pub is_fact : Memᴰ f fs
    pub is_triggered : T (triggers_in r.met (met_after ms r scanned) f)
    pub is_retainable : T (retainable a f)

  -- a fact that a round reaches is a fact of the file, triggered by the round and retainable
  pub fresh_elim : (r : Run) (scanned : List Name) {f : Fact} → Memᴰ f (fresh a ms fs r scanned) → Fresh r scanned f
  unfolding fresh triggered
  fresh_elim r scanned {f} m =
      let (i, t) = keep_elim (λ f. retainable a f && not (mem f.name r.reached)) (triggered ms fs r scanned) m in
      let (j, u) = keep_elim (triggers_in r.met (met_after ms r scanned)) fs i in
      record { is_fact = j; is_triggered = u; is_retainable = ((T_and (retainable a f) (not (mem f.name r.reached))).0 t).0 }

  -- a name reached at the end of a round was reached before it, or is that of a fact that the round reaches
  pub reached_elim : (r : Run) (scanned : List Name) (n : Name) → T (mem n (after_round a ms fs r scanned).reached)
      → ((f : Fact) × Memᴰ f (fresh a ms fs r scanned) × (f.name ≡ n)) ⊎ T (mem n r.reached)
  unfolding after_round
  reached_elim r scanned n t =
      ⊎_elim (λ u. inl (map_elim (λ (f : Fact). f.name) (fresh a ms fs r scanned) (mem_elim u))) inr
      ((mem_union n (map (λ (f : Fact). f.name) (fresh a ms fs r scanned)) r.reached).0 t)

  -- a name reached stays reached
  pub reached_stays : (r : Run) (scanned : List Name) (n : Name) → T (mem n r.reached) → T (mem n (after_round a ms fs r scanned).reached)
  unfolding after_round
  reached_stays r scanned n t = (mem_union n (map (λ (f : Fact). f.name) (fresh a ms fs r scanned)) r.reached).1 (inr t)

  -- a retainable fact that a round triggers is reached at its end
  pub reached_intro : (r : Run) (scanned : List Name) {f : Fact} → Fresh r scanned f → T (reached_by (after_round a ms fs r scanned) f)
  unfolding after_round fresh triggered
  reached_intro r scanned {f} h =
      ⊎_elim (reached_stays r scanned f.name)
      (λ u. (mem_union f.name (map (λ (f : Fact). f.name) (fresh a ms fs r scanned)) r.reached).1
      (inl (mem_intro (map_intro (λ (f : Fact). f.name)
      (keep_intro (λ f. retainable a f && not (mem f.name r.reached))
      (keep_intro (triggers_in r.met (met_after ms r scanned)) h.is_fact h.is_triggered)
      ((T_and (retainable a f) (not (mem f.name r.reached))).1 (h.is_retainable, u)))))))
      (T_dec (reached_by r f))
