-- What a pass over facts adds; the passes end for their own reason, and how many there are at most.
use Prim.Native.Nat.{ℕ, zero, suc, ◌+◌, ◌≤◌, ◌<◌}
use native.Mathlib.Omega.{arith}
use mathlib.Core.Path.{◌≡◌, refl, sym, ◌∙◌, ap, subst}
use mathlib.Core.Logic.{◌⊎◌, inl, inr, ⊎_elim}
use mathlib.Core.Bool.{Bool, true, false, cond, not, ◌&&◌}
use mathlib.Core.List.Memᴰ
use mathlib.Core.List.{List, [], ◌∷◌, Memᴰ}
use lib.Dec.{T, T_not, not_T}
use lib.ListN.{length}
use Rattle.model.specs.Lists.{keep, fold_left}
use Rattle.model.specs.Names.{Name, mem}
use Rattle.model.specs.Summaries.{Fact}
use Rattle.model.specs.Reading.{Ask, Summary, Root}
use Rattle.model.specs.Pruning.{Map}
use Rattle.model.specs.Rounds.{facts, macros, fires, retainable}
use Rattle.model.specs.Sweep.{Sweep, adds, with_added, pass_fact, begin_pass, pass, passes_from, has_triggers, facts_with_triggers, sweep_start, sweep}
use Rattle.model.proofs.ListLaws.{T_and, T_dec, true_T, cond_true, cond_false, cond_ap, branch, keep_le, keep_less, count_keep, mem_not_nil, fold_left_case, fold_keeps}
use Rattle.model.proofs.SetLaws.{Within, mem_add}
use Rattle.laws.specs.Passes.{Sweeps, last, more}
use Rattle.laws.proofs.FiringLaws.{fires_elim}

-- what makes a fact added
pub record Added (a : Ask) (s : Sweep) (f : Fact) : Type 0 where
  pub is_retainable : T (retainable a f)
  pub is_new : T (not (mem f.name s.reached))
  pub is_firing : T (fires s.met f)

-- a fact that is added has it, and back
pub adds_elim : (a : Ask) (s : Sweep) (f : Fact) → T (adds a s f) → Added a s f
unfolding adds
adds_elim a s f t =
    let (r, u) = (T_and (retainable a f) (not (mem f.name s.reached) && fires s.met f)).0 t in
    let (n, v) = (T_and (not (mem f.name s.reached)) (fires s.met f)).0 u in
    record { is_retainable = r; is_new = n; is_firing = v }

pub adds_intro : {a : Ask} {s : Sweep} {f : Fact} → Added a s f → T (adds a s f)
unfolding adds
adds_intro {a} {s} {f} h =
    (T_and (retainable a f) (not (mem f.name s.reached) && fires s.met f)).1
    (h.is_retainable, (T_and (not (mem f.name s.reached)) (fires s.met f)).1 (h.is_new, h.is_firing))

module _ (a : Ask) (ms : Map (List Name)) where
  -- a fact that is added, and one that is not
  pub pass_adds : (s : Sweep) (f : Fact) → T (adds a s f) → pass_fact a ms s f ≡ with_added ms s f
  unfolding pass_fact
  pass_adds s f t = cond_true (adds a s f) (with_added ms s f) s t

  pub pass_leaves : (s : Sweep) (f : Fact) → T (not (adds a s f)) → pass_fact a ms s f ≡ s
  unfolding pass_fact
  pass_leaves s f t = cond_false (adds a s f) (with_added ms s f) s t

  -- what holds of a state in both cases
  pub pass_case : (P : Sweep → Type 0) (s : Sweep) (f : Fact) → (T (adds a s f) → P (with_added ms s f)) → P s → P (pass_fact a ms s f)
  unfolding pass_fact
  pass_case P s f h p = branch P (adds a s f) (with_added ms s f) s h (λ t. p)

  -- facts passed that add none leave the state, and none of them was to be added to it
  pub none_added : (l : List Fact) (s : Sweep) → (fold_left (pass_fact a ms) s l).added ≡ false
      → (fold_left (pass_fact a ms) s l ≡ s) × ((f : Fact) → Memᴰ f l → T (not (adds a s f)))
  unfolding fold_left with_added
  none_added [] s e = (refl, λ f m. absurd (Memᴰ.not-nil m))
  none_added (f ∷ l) s e = go (none_added l (pass_fact a ms s f) e) (T_dec (adds a s f))
    where
      go : (fold_left (pass_fact a ms) (pass_fact a ms s f) l ≡ pass_fact a ms s f) × ((g : Fact) → Memᴰ g l → T (not (adds a (pass_fact a ms s f) g)))
          → T (adds a s f) ⊎ T (not (adds a s f))
          → (fold_left (pass_fact a ms) (pass_fact a ms s f) l ≡ s) × ((g : Fact) → Memᴰ g (f ∷ l) → T (not (adds a s g)))
      go (same, others) (inl t) =
          let new : (pass_fact a ms s f).added ≡ true = ap (λ (s : Sweep). s.added) (pass_adds s f t) in
          let old : (pass_fact a ms s f).added ≡ false = ap (λ (s : Sweep). s.added) (sym same) ∙ e in
          let z : true ≡ false = cc in
          absurd (true_T (sym z))
      go (same, others) (inr t) =
          let left = pass_leaves s f t in
          (same ∙ left, λ g m. ⊎_elim (λ x. rw x t) (λ i. rw left at (others g i)) (Memᴰ.cases_cons m))

  -- what is reached stays reached
  pub pass_grows : (l : List Fact) (s : Sweep) → Within s.reached (fold_left (pass_fact a ms) s l).reached
  unfolding with_added
  pass_grows l s =
      fold_left_case (λ t. Within s.reached t.reached) (pass_fact a ms) l
      (λ t f m w. pass_case (λ u. Within s.reached u.reached) t f (λ h k x. (mem_add k f.name t.reached).1 (inr (w k x))) w) (λ k x. x)

  -- a fact that a pass adds: it fires on some names, was not reached before and is reached after
  pub record Newly (before after : Sweep) (l : List Fact) : Type 0 where
    pub fact : Fact
    pub is_fact : Memᴰ fact l
    pub was_not : T (not (mem fact.name before.reached))
    pub is_now : T (mem fact.name after.reached)
    pub on : List Name
    pub is_firing : T (fires on fact)

  -- facts passed of which one is added have such a fact
  pub some_added : (l : List Fact) (s : Sweep) → s.added ≡ false → (fold_left (pass_fact a ms) s l).added ≡ true
      → Newly s (fold_left (pass_fact a ms) s l) l
  unfolding fold_left with_added
  some_added [] s e e' = let z : true ≡ false = cc in absurd (true_T (sym z))
  some_added (f ∷ l) s e e' = go (T_dec (adds a s f)) (some_added l s e)
    where
      go : T (adds a s f) ⊎ T (not (adds a s f))
          → ((fold_left (pass_fact a ms) s l).added ≡ true → Newly s (fold_left (pass_fact a ms) s l) l)
          → Newly s (fold_left (pass_fact a ms) (pass_fact a ms s f) l) (f ∷ l)
      go (inl t) below =
          let h = adds_elim a s f t in
          record {
            fact = f;
            is_fact = Memᴰ.head refl;
            was_not = h.is_new;
            is_now = pass_grows l (pass_fact a ms s f) f.name (rw (pass_adds s f t) ((mem_add f.name f.name s.reached).1 (inl refl)));
            on = s.met;
            is_firing = h.is_firing;
          }
      go (inr t) below =
          let left = pass_leaves s f t in
          let passed : (fold_left (pass_fact a ms) (pass_fact a ms s f) l).added ≡ true = e' in
          let n = below (rw left at passed) in
          rw left
          (record {
            fact = n.fact;
            is_fact = Memᴰ.tail n.is_fact;
            was_not = n.was_not;
            is_now = n.is_now;
            on = n.on;
            is_firing = n.is_firing;
          })

  -- a pass is counted
  pub pass_counted : (fs : List Fact) (s : Sweep) → (pass a ms fs s).passes ≡ s.passes + 1
  unfolding pass begin_pass pass_fact with_added
  pass_counted fs s =
      fold_keeps (pass_fact a ms) (λ s. s.passes)
      (λ s f. cond_ap (λ (s : Sweep). s.passes) (adds a s f) (with_added ms s f) s ∙ same (adds a s f) s.passes) (begin_pass s) fs
    where
      same : (b : Bool) (n : ℕ) → cond b n n ≡ n
      same true n = refl
      same false n = refl

module _ (a : Ask) (ms : Map (List Name)) (fs : List Fact) where
  -- the facts with triggers that are not reached
  unfoldable pub unreached : Sweep → List Fact
  unreached s = keep (λ f. has_triggers f && not (mem f.name s.reached)) fs

  -- no more are unreached than there are
  pub unreached_few : (s : Sweep) → length (unreached s) ≤ facts_with_triggers fs
  unfolding unreached facts_with_triggers
  unreached_few s =
      rw count_keep
      (keep_le has_triggers (λ f. has_triggers f && not (mem f.name s.reached)) fs
      (λ f m t. ((T_and (has_triggers f) (not (mem f.name s.reached))).0 t).0))

  -- only facts with triggers fire
  only_triggers : (met : List Name) (f : Fact) → T (fires met f) → T (has_triggers f)
  unfolding has_triggers
  only_triggers met f t = mem_not_nil (fires_elim met f t).is_disjunct

  -- a pass that adds a fact leaves fewer of them
  pub unreached_falls : (s : Sweep) → (pass a ms fs s).added ≡ true → length (unreached (pass a ms fs s)) < length (unreached s)
  unfolding unreached pass begin_pass
  unreached_falls s e =
      let n = some_added a ms fs (begin_pass s) refl e in
      let f = n.fact in
      let kind = only_triggers n.on f n.is_firing in
      keep_less (λ f. has_triggers f && not (mem f.name s.reached))
      (λ f. has_triggers f && not (mem f.name (pass a ms fs s).reached))
      (λ g m t. let (u, v) = (T_and (has_triggers g) (not (mem g.name (pass a ms fs s).reached))).0 t in
      (T_and (has_triggers g) (not (mem g.name s.reached))).1
      (u, not_T (mem g.name s.reached) (λ w. T_not (mem g.name (pass a ms fs s).reached) v (pass_grows a ms fs (begin_pass s) g.name w))))
      n.is_fact ((T_and (has_triggers f) (not (mem f.name s.reached))).1 (kind, n.was_not))
      (not_T (has_triggers f && not (mem f.name (pass a ms fs s).reached))
      (λ t. T_not (mem f.name (pass a ms fs s).reached) ((T_and (has_triggers f) (not (mem f.name (pass a ms fs s).reached))).0 t).1 n.is_now))

  -- a pass that adds none leaves the facts reached, and one that leaves them adds none
  pub none_reached : (s : Sweep) → (pass a ms fs s).added ≡ false → (pass a ms fs s).reached ≡ s.reached
  unfolding pass begin_pass
  none_reached s e = ap (λ (s : Sweep). s.reached) (none_added a ms fs (begin_pass s) e).0

  pub some_reached : (s : Sweep) → (pass a ms fs s).added ≡ true → (pass a ms fs s).reached ≡ s.reached → ⊥
  unfolding pass begin_pass
  some_reached s e same =
      let n = some_added a ms fs (begin_pass s) refl e in
      T_not (mem n.fact.name s.reached) n.was_not (subst (λ l. T (mem n.fact.name l)) same n.is_now)

  pub same_adds_none : (s : Sweep) → (pass a ms fs s).reached ≡ s.reached → (pass a ms fs s).added ≡ false
  same_adds_none s same = go (pass a ms fs s).added refl
    where
      go : (b : Bool) → (pass a ms fs s).added ≡ b → b ≡ false
      go true e = absurd (some_reached s e same)
      go false e = refl

  pub other_adds_some : (s : Sweep) → ((pass a ms fs s).reached ≡ s.reached → ⊥) → (pass a ms fs s).added ≡ true
  other_adds_some s other = go (pass a ms fs s).added refl
    where
      go : (b : Bool) → (pass a ms fs s).added ≡ b → b ≡ true
      go true e = refl
      go false e = absurd (other (none_reached s e))

  -- with more fuel than facts are unreached, the passes end for their own reason
  pub passes_end : (fuel : ℕ) (s : Sweep) → length (unreached s) < fuel → (n : ℕ) × Sweeps a ms fs n s (passes_from a ms fs fuel s)
  unfolding passes_from
  passes_end zero s h = absurd (omega arith)
  passes_end (suc fuel) s h = go (pass a ms fs s).added refl (passes_end fuel (pass a ms fs s))
    where
      go : (b : Bool) → (pass a ms fs s).added ≡ b
          → (length (unreached (pass a ms fs s)) < fuel → (n : ℕ) × Sweeps a ms fs n (pass a ms fs s) (passes_from a ms fs fuel (pass a ms fs s)))
          → (n : ℕ) × Sweeps a ms fs n s (cond b (passes_from a ms fs fuel (pass a ms fs s)) (pass a ms fs s))
      go true e below =
          let l = unreached_falls s e in
          let (n, r) = below (omega arith) in
          (suc n, more (some_reached s e) r)
      go false e below = (1, last (none_reached s e))

  -- they are at most one more than the facts that are unreached before them
  pub passes_few : {n : ℕ} {s end : Sweep} → Sweeps a ms fs n s end → n ≤ suc (length (unreached s))
  passes_few (last {s} e) = omega arith
  passes_few (more {s} e r) = let l = unreached_falls s (other_adds_some s e) in let i = passes_few r in omega arith

  -- there is one at least
  pub passes_some : {n : ℕ} {s end : Sweep} → Sweeps a ms fs n s end → 1 ≤ n
  passes_some (last e) = omega arith
  passes_some (more e r) = omega arith

  -- and each is counted
  pub passes_counted : {n : ℕ} {s end : Sweep} → Sweeps a ms fs n s end → end.passes ≡ s.passes + n
  passes_counted (last {s} e) = pass_counted a ms fs s
  passes_counted (more {n} {s} e r) = let c = pass_counted a ms fs s in let i = passes_counted r in omega arith

module _ (a : Ask) (decls : List Summary) (roots : List Root) where
  -- the sweep of the records of a file ends with the pass that adds none, and tells how many there were
  pub sweep_ends : Sweeps a (macros decls) (facts decls) (sweep a decls roots).passes (sweep_start a decls roots) (sweep a decls roots)
  unfolding sweep sweep_start
  sweep_ends =
      let start = sweep_start a decls roots in
      let (n, r) = passes_end a (macros decls) (facts decls) (suc (facts_with_triggers (facts decls))) start
      (omega (arith, unreached_few a (macros decls) (facts decls) start)) in
      let c : n ≡ (sweep a decls roots).passes = omega (arith, passes_counted a (macros decls) (facts decls) r) in
      subst (λ n. Sweeps a (macros decls) (facts decls) n start (sweep a decls roots)) c r

  -- its passes are at most one more than the facts with triggers
  pub sweep_bound : (sweep a decls roots).passes ≤ suc (facts_with_triggers (facts decls))
  sweep_bound =
      omega (
        arith,
        passes_few a (macros decls) (facts decls) sweep_ends,
        unreached_few a (macros decls) (facts decls) (sweep_start a decls roots),
      )

  -- it has a pass
  pub sweep_some : 1 ≤ (sweep a decls roots).passes
  sweep_some = passes_some a (macros decls) (facts decls) sweep_ends
