-- A run that goes on: where a stretch ends, what it visits, and an engine that counts its rounds on.
use Prim.Native.Nat.{ℕ, suc, ◌+◌, ◌≤◌}
use native.Mathlib.Omega.{arith}
use mathlib.Core.Path.{◌≡◌, refl, sym, ◌∙◌, subst}
use mathlib.Core.Bool.{Bool, true, false, not, ◌&&◌, ◌||◌}
use mathlib.Core.List.{List, [], ◌∷◌}
use lib.Dec.{T}
use lib.ListN.{length}
use Rattle.model.specs.Lists.{any}
use Rattle.model.specs.Names.{Name, mem}
use Rattle.model.specs.Summaries.{Fact}
use Rattle.model.specs.Reading.{Ask, Summary, Root, no_ambients, pretyping_axioms}
use Rattle.model.specs.Pruning.{Map}
use Rattle.model.specs.Rounds.{Run, facts, macros, filed, met_after, triggered, fresh, after_round, next_scanned, rounds_from, most_rounds, visits}
use Rattle.model.specs.Also.{with_queries, also_scanned, stretch_start, stretch, chain, stretch_visits}
use Rattle.model.proofs.ListLaws.{count_cong, count_or}
use Rattle.model.proofs.SetLaws.{Within, within_nil}
use Rattle.laws.specs.Fuel.{Ends, last, more}
use Rattle.laws.proofs.MetLaws.{met_grows}
use Rattle.laws.proofs.FuelLaws.{unmet, unmet_filed, rounds_end, rounds_few, rounds_grow, run_some}
use Rattle.laws.proofs.ReachedLaws.{at_end}
use Rattle.laws.proofs.AlikeLaws.{rounds_alike, chain_alike}

-- a run whose rounds are counted on by n
abbrev pub later : ℕ → Run → Run
later n r = record { met = r.met; reached = r.reached; rounds = n + r.rounds }

module _ (a : Ask) (ms : Map (List Name)) (fs : List Fact) (n : ℕ) where
  -- a round of it is the round, so much later
  after_later : (r : Run) (scanned : List Name) → after_round a ms fs (later n r) scanned ≡ later n (after_round a ms fs r scanned)
  unfolding after_round met_after fresh triggered
  after_later r scanned = let e : (n + r.rounds) + 1 ≡ n + (r.rounds + 1) = omega arith in rw e

  -- an engine that counts its rounds on from stretch to stretch ends where the stretch does, so much later
  pub ends_later : {r end : Run} {scanned : List Name} → Ends a ms fs r scanned end → Ends a ms fs (later n r) scanned (later n end)
  unfolding triggered met_after next_scanned fresh
  ends_later (last {r} {scanned} t) = subst (Ends a ms fs (later n r) scanned) (after_later r scanned) (last t)
  ends_later (more {r} {end} {scanned} t e) =
      more t (subst (λ x. Ends a ms fs x (next_scanned a ms fs r scanned) (later n end)) (sym (after_later r scanned)) (ends_later e))

-- the visits on more names are those before and those on the names that are first met since
pub visits_grow : (before after : List Name) (fs : List Fact) → Within before after
    → visits after fs ≡ visits before fs + stretch_visits before after fs
unfolding visits stretch_visits
visits_grow before after fs w =
    count_cong (λ n. mem n after) (λ n. mem n before || (mem n after && not (mem n before))) (filed fs)
    (λ n m. both (mem n before) (mem n after) (w n))
    ∙ count_or (λ n. mem n before) (λ n. mem n after && not (mem n before)) (filed fs) (λ n. apart (mem n before) (mem n after))
  where
    both : (b c : Bool) → (T b → T c) → c ≡ (b || (c && not b))
    both true true h = refl
    both true false h = absurd (h tt)
    both false true h = refl
    both false false h = refl

    apart : (b c : Bool) → T b → T (not (c && not b))
    apart true true t = tt
    apart true false t = tt
    apart false c t = absurd t

-- where nothing is met before, the visits of a stretch are all visits
pub first_visits : (met : List Name) (fs : List Fact) → stretch_visits [] met fs ≡ visits met fs
unfolding visits stretch_visits mem any
first_visits met fs = count_cong (λ n. mem n met && true) (λ n. mem n met) (filed fs) (λ n m. same (mem n met))
  where
    same : (b : Bool) → (b && true) ≡ b
    same true = refl
    same false = refl

module _ (a : Ask) (decls : List Summary) (roots : List Root) where
  -- a stretch ends with the round that triggers none
  pub stretch_ends : (r : Run) (q : ℕ)
      → Ends a (macros decls) (facts decls) (stretch_start r) (also_scanned q roots) (stretch a decls roots r q)
  unfolding stretch
  stretch_ends r q =
      rounds_end a (macros decls) (facts decls) (most_rounds (facts decls)) (stretch_start r) (also_scanned q roots)
      (omega (arith, unmet_filed (facts decls) (stretch_start r).met))

  -- its rounds are at most one more than the distinct trigger names not met before it
  pub stretch_few : (r : Run) (q : ℕ) → (stretch a decls roots r q).rounds ≤ suc (length (unmet (facts decls) r.met))
  unfolding stretch_start
  stretch_few r q = omega (arith, rounds_few a (macros decls) (facts decls) (stretch_ends r q))

  -- it has a round
  pub stretch_some : (r : Run) (q : ℕ) → 1 ≤ (stretch a decls roots r q).rounds
  unfolding stretch_start
  stretch_some r q = omega (arith, rounds_grow a (macros decls) (facts decls) (stretch_ends r q))

  -- what is met before it is met at its end
  pub stretch_grows : (r : Run) (q : ℕ) → Within r.met (stretch a decls roots r q).met
  unfolding stretch_start after_round
  stretch_grows r q =
      at_end a (macros decls) (facts decls) (λ t scanned. Within r.met t.met)
      (λ t scanned w k x. met_grows (macros decls) t scanned k (w k x)) (stretch_ends r q) (λ k x. x)

  -- the visits after it are those before it and its own
  pub stretch_visited : (r : Run) (q : ℕ) → let after = stretch a decls roots r q in
      visits after.met (facts decls) ≡ visits r.met (facts decls) + stretch_visits r.met after.met (facts decls)
  stretch_visited r q = visits_grow r.met (stretch a decls roots r q).met (facts decls) (stretch_grows r q)

-- an ask with its own queries
pub own_queries : (a : Ask) (qs : List ℕ) → a.queries ≡ qs → with_queries a qs ≡ a
unfolding with_queries
own_queries a qs e = rw (← e)

module _ (a : Ask) (decls : List Summary) (roots : List Root) where
  -- the rounds do not ask for the queries
  pub same_rounds : (qs : List ℕ) (fuel : ℕ) (r : Run) (scanned : List Name)
      → rounds_from (with_queries a qs) (macros decls) (facts decls) fuel r scanned ≡ rounds_from a (macros decls) (facts decls) fuel r scanned
  unfolding pretyping_axioms with_queries
  same_rounds qs fuel r scanned = rounds_alike (with_queries a qs) a refl (macros decls) (facts decls) fuel r scanned

  -- so a chain stands where that of the ask with other queries does
  pub chain_with : (ps qs : List ℕ) → chain (with_queries a ps) decls roots qs ≡ chain a decls roots qs
  unfolding no_ambients pretyping_axioms with_queries
  chain_with ps qs = chain_alike (with_queries a ps) a refl refl decls roots qs

  -- what is met only grows along a chain
  pub chain_grows : (q : ℕ) (qs : List ℕ) → Within (chain a decls roots qs).met (chain a decls roots (q ∷ qs)).met
  unfolding chain
  chain_grows q [] = within_nil _
  chain_grows q (p ∷ qs) = stretch_grows a decls roots (chain a decls roots (p ∷ qs)) q

  -- every line of it has a round
  pub chain_some : (q : ℕ) (qs : List ℕ) → 1 ≤ (chain a decls roots (q ∷ qs)).rounds
  unfolding chain
  chain_some q [] = run_some (with_queries a (q ∷ [])) decls roots
  chain_some q (p ∷ qs) = stretch_some a decls roots (chain a decls roots (p ∷ qs)) q
