-- Where any engine ends: the least closed set. Two that start from the same names end alike.
use mathlib.Core.Path.{◌≡◌, sym, ◌∙◌}
use mathlib.Core.Logic.{⊎_elim}
use mathlib.Core.Bool.{Bool}
use mathlib.Core.List.{List, Memᴰ}
use lib.Dec.{T}
use Rattle.model.specs.Names.{Name, mem}
use Rattle.model.specs.Summaries.{Fact}
use Rattle.model.specs.Pruning.{Map}
use Rattle.model.specs.Rounds.{fires}
use Rattle.model.proofs.SetLaws.{Within, Ascending, ascending_ext}
use Rattle.laws.proofs.MetLaws.{met_within, met_with, with_first, with_fact, with_elim, ascending_with}
use Rattle.laws.proofs.FiringLaws.{fires_more}
use Rattle.demands.proofs.Rearranged.{SameMembers, members_sym}

-- a set of facts, by their names
abbrev pub named_in : List Name → Fact → Bool
named_in reached f = mem f.name reached

-- more first names meet no less, whatever the set
pub with_firsts : (ms : Map (List Name)) (fs : List Fact) (first first' : List Name) (set : Fact → Bool)
    → ((n : Name) → Memᴰ n first → Memᴰ n first') → Within (met_with ms fs first set) (met_with ms fs first' set)
with_firsts ms fs first first' set h k t =
    ⊎_elim (λ u. with_first ms fs first' set k (met_within ms first first' h k u))
    (λ p. let (f, m, u, v) = p in with_fact ms fs first' set m u k v) (with_elim ms fs first set k t)

module _ (retains : Fact → Bool) (ms : Map (List Name)) (fs : List Fact) where
  -- a set that holds every fact that is retained and fires on what the first names and the set meet
  pub record ClosedFrom (first : List Name) (set : Fact → Bool) : Type 0 where
    pub holds : (f : Fact) → Memᴰ f fs → T (retains f) → T (fires (met_with ms fs first set) f) → T (set f)

  -- a set closed over more first names is closed over fewer
  pub closed_fewer : {first first' : List Name} {set : Fact → Bool} → ((n : Name) → Memᴰ n first → Memᴰ n first')
      → ClosedFrom first' set → ClosedFrom first set
  closed_fewer {first} {first'} {set} h c =
      record {
        holds = λ f m t u. c.holds f m t
            (fires_more (met_with ms fs first set) (met_with ms fs first' set) f (with_firsts ms fs first first' set h) u);
      }

  -- where the names met and the names of the facts reached are those of the least closed set
  pub record Settled (first met reached : List Name) : Type 0 where
    pub reached_set : Ascending reached
    -- each name reached is that of a fact
    pub is_named : (n : Name) → T (mem n reached) → (f : Fact) × Memᴰ f fs × (f.name ≡ n)
    pub met_is : met ≡ met_with ms fs first (named_in reached)
    pub is_closed : ClosedFrom first (named_in reached)
    pub is_least : (set : Fact → Bool) → ClosedFrom first set → (f : Fact) → Memᴰ f fs → T (named_in reached f) → T (set f)

  -- of two that settle from the same names the one reaches no more than the other
  settled_within : {first first' met met' reached reached' : List Name} → SameMembers first first'
      → Settled first met reached → Settled first' met' reached' → Within reached reached'
  settled_within {reached'} h s s' n t =
      let (f, m, e) = s.is_named n t in
      rw e at (s.is_least (named_in reached') (closed_fewer h.to s'.is_closed) f m (rw (sym e) at t))

  -- they reach the same
  pub settled_reached : {first first' met met' reached reached' : List Name} → SameMembers first first'
      → Settled first met reached → Settled first' met' reached' → reached ≡ reached'
  settled_reached h s s' =
      ascending_ext s.reached_set s'.reached_set (settled_within h s s') (settled_within (members_sym h) s' s)

  -- and meet the same
  pub settled_met : {first first' met met' reached reached' : List Name} → SameMembers first first'
      → Settled first met reached → Settled first' met' reached' → met ≡ met'
  settled_met {first} {first'} {reached} {reached'} h s s' =
      s.met_is
      ∙ ascending_ext (ascending_with ms fs first (named_in reached)) (ascending_with ms fs first' (named_in reached))
      (with_firsts ms fs first first' (named_in reached) h.to) (with_firsts ms fs first' first (named_in reached) h.from)
      ∙ rw (settled_reached h s s') (sym s'.met_is)
