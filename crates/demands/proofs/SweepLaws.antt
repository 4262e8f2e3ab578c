-- What holds at each fact of a sweep, and so at its end: the least closed set.
use Prim.Native.Nat.{ℕ}
use mathlib.Core.Path.{◌≡◌, refl, sym, ◌∙◌}
use mathlib.Core.Logic.{inl, inr, ⊎_elim}
use mathlib.Core.Bool.{Bool, false}
use mathlib.Core.List.{List, [], Memᴰ, append-nil}
use lib.Dec.{T, T_not}
use Rattle.model.specs.Lists.{any, collect}
use Rattle.model.specs.Names.{Name, mem, add, union, Ascending}
use Rattle.model.specs.Summaries.{Fact}
use Rattle.model.specs.Reading.{Ask}
use Rattle.model.specs.Pruning.{Map}
use Rattle.model.specs.Rounds.{retainable, met_from}
use Rattle.model.specs.Sweep.{Sweep, adds, with_added, pass_fact, begin_pass, pass}
use Rattle.model.proofs.ListLaws.{T_dec, keep_none, fold_left_case}
use Rattle.model.proofs.SetLaws.{Within, empty, mem_add, mem_union, ascending_add, ascending_union, ascending_ext, within_union}
use Rattle.laws.specs.Passes.{Sweeps, last, more}
use Rattle.laws.proofs.MetLaws.{met_with, with_first, with_fact, with_elim, with_more, ascending_with}
use Rattle.laws.proofs.FiringLaws.{fires_more}
use Rattle.laws.proofs.PassLaws.{Added, adds_elim, adds_intro, pass_case, none_added, same_adds_none}
use Rattle.demands.specs.LinesRead.{Distinct}
use Rattle.demands.proofs.Facts.{fact_names, by_name}
use Rattle.demands.proofs.Settled.{named_in, ClosedFrom, Settled}

-- with no fact of the set, the names met are those from the first items
met_none : (ms : Map (List Name)) (fs : List Fact) (first : List Name) → met_from ms first ≡ met_with ms fs first (λ f. mem f.name [])
unfolding met_with mem any collect
met_none ms fs first = rw (keep_none (λ f. false) fs (λ f m. tt), append-nil)

module _ (a : Ask) (ms : Map (List Name)) (fs : List Fact) where
  -- what holds at each fact of a sweep whose first names are these
  pub record Sweeping (first : List Name) (s : Sweep) : Type 0 where
    pub reached_set : Ascending s.reached
    pub is_named : (n : Name) → T (mem n s.reached) → (f : Fact) × Memᴰ f fs × (f.name ≡ n)
    -- the names met are those from the first and from the facts reached
    pub met_is : s.met ≡ met_with ms fs first (named_in s.reached)
    -- every closed set contains the facts reached
    pub is_least : (set : Fact → Bool) → ClosedFrom (retainable a) ms fs first set → (f : Fact) → Memᴰ f fs → T (named_in s.reached f) → T (set f)

  -- it holds before the first pass
  pub swept_start : (first : List Name) (s : Sweep) → s.met ≡ met_from ms first → s.reached ≡ [] → Sweeping first s
  unfolding mem any
  swept_start first s m r =
      record {
        reached_set = rw r empty;
        is_named = λ n t. absurd (rw r at t);
        met_is = m ∙ rw r (met_none ms fs first);
        is_least = λ set c f i t. absurd (rw r at t);
      }

  module _ (once : Distinct (fact_names fs)) where
    -- a fact added hands it on
    pub swept_added : (first : List Name) (s : Sweep) (f : Fact) → Memᴰ f fs → T (adds a s f) → Sweeping first s → Sweeping first (with_added ms s f)
    unfolding with_added
    swept_added first s f m t h =
        record {
          reached_set = ascending_add f.name h.reached_set;
          is_named = λ n u. ⊎_elim (λ e. (f, m, sym e)) (h.is_named n) ((mem_add n f.name s.reached).0 u);
          met_is = ascending_ext (ascending_union _ (rw h.met_is (ascending_with ms fs first (named_in s.reached))))
              (ascending_with ms fs first (named_in after))
              (within_union (met_from ms f.free_names) s.met (met_with ms fs first (named_in after))
              (with_fact ms fs first (named_in after) m ((mem_add f.name f.name s.reached).1 (inl refl)))
              (λ k u. with_more ms fs first (named_in s.reached) (named_in after) (λ g i v. (mem_add g.name f.name s.reached).1 (inr v)) k (rw h.met_is at u)))
              (λ k u. ⊎_elim (λ v. old k (with_first ms fs first (named_in s.reached) k v))
              (λ p. let (g, i, v, w) = p in ⊎_elim
              (λ e. (mem_union k (met_from ms f.free_names) s.met).1 (inl (rw (by_name once i m e) at w)))
              (λ x. old k (with_fact ms fs first (named_in s.reached) i x k w))
              ((mem_add g.name f.name s.reached).0 v))
              (with_elim ms fs first (named_in after) k u));
          is_least = λ set c g i u. ⊎_elim
              (λ e. rw (by_name once i m e) (c.holds f m new.is_retainable
              (fires_more s.met (met_with ms fs first set) f
              (λ k v. with_more ms fs first (named_in s.reached) set (h.is_least set c) k (rw h.met_is at v)) new.is_firing)))
              (h.is_least set c g i)
              ((mem_add g.name f.name s.reached).0 u);
        }
      where
        after : List Name
        after = add f.name s.reached

        new : Added a s f
        new = adds_elim a s f t

        old : Within (met_with ms fs first (named_in s.reached)) (union (met_from ms f.free_names) s.met)
        old k v = (mem_union k (met_from ms f.free_names) s.met).1 (inr (rw h.met_is v))

    -- a pass hands it on
    pub swept_pass : (first : List Name) (s : Sweep) → Sweeping first s → Sweeping first (pass a ms fs s)
    unfolding pass begin_pass
    swept_pass first s h =
        fold_left_case (Sweeping first) (pass_fact a ms) fs
        (λ t f m p. pass_case a ms (Sweeping first) t f (λ u. swept_added first t f m u p) p)
        (record { reached_set = h.reached_set; is_named = h.is_named; met_is = h.met_is; is_least = h.is_least })

    -- a pass that adds none leaves the least closed set
    pub swept_last : (first : List Name) (s : Sweep) → Sweeping first s → (pass a ms fs s).added ≡ false
        → Settled (retainable a) ms fs first (pass a ms fs s).met (pass a ms fs s).reached
    unfolding pass begin_pass
    swept_last first s h e =
        let (same, none) = none_added a ms fs (begin_pass s) e in
        rw same
        (record {
          reached_set = h.reached_set;
          is_named = h.is_named;
          met_is = h.met_is;
          is_closed = record {
            holds = λ f m t u. ⊎_elim (λ v. v)
                (λ v. absurd (T_not (adds a (begin_pass s) f) (none f m) (adds_intro (record { is_retainable = t; is_new = v; is_firing = rw h.met_is u }))))
                (T_dec (named_in s.reached f));
          };
          is_least = h.is_least;
        })

    -- so does a sweep at its end
    pub sweep_settles : (first : List Name) {n : ℕ} {s end : Sweep} → Sweeps a ms fs n s end → Sweeping first s → Settled (retainable a) ms fs first end.met end.reached
    sweep_settles first (last {s} e) h = swept_last first s h (same_adds_none a ms fs s e)
    sweep_settles first (more {s} e r) h = sweep_settles first r (swept_pass first s h)
