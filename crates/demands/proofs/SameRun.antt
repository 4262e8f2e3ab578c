-- The rounds depend on the facts and on what is scanned only as sets, and on the macros only by what each opens to.
use Prim.Native.Nat.{ℕ, zero, suc}
use mathlib.Core.Path.{◌≡◌, refl, ◌∙◌, ap}
use mathlib.Core.Logic.{inl, inr, ⊎_elim}
use mathlib.Core.Bool.{not, ◌&&◌}
use mathlib.Core.List.{List, [], ◌++◌, Memᴰ}
use Rattle.std.specs.Prelude.{unwrap_or as get_or}
use Rattle.model.specs.Lists.{is_nil}
use Rattle.model.specs.Names.{Name, mem, from_list, union}
use Rattle.model.specs.Summaries.{Fact}
use Rattle.model.specs.Reading.{Ask}
use Rattle.model.specs.Pruning.{Map, try_find}
use Rattle.model.specs.Rounds.{Run, triggers_in, retainable, met_from, met_after, triggered, fresh, after_round, next_scanned, rounds_from}
use Rattle.model.proofs.ListLaws.{collect_cong, branch}
use Rattle.model.proofs.SetLaws.{Ascending, ascending_ext, ascending_union, ascending_from_list, mem_intro, mem_elim, mem_union}
use Rattle.laws.proofs.MetLaws.{met_within}
use Rattle.demands.proofs.Rearranged.{SameMembers, members_self, members_keep, members_map, members_collect, members_nil, members_set}

-- macros that open alike, and facts with the same members
pub record Alike (ms ms' : Map (List Name)) (fs fs' : List Fact) : Type 0 where
  pub opens : (k : Name) → try_find ms k ≡ try_find ms' k
  pub same_facts : SameMembers fs fs'

-- macros that open alike meet alike
met_same : (ms ms' : Map (List Name)) → ((k : Name) → try_find ms k ≡ try_find ms' k) → {l m : List Name} → SameMembers l m → met_from ms l ≡ met_from ms' m
met_same ms ms' opens {l} {m} s = opened_same ∙ ascending_ext (met_set l) (met_set m) (met_within ms' l m s.to) (met_within ms' m l s.from)
  where
    opened_same : met_from ms l ≡ met_from ms' l
    opened_same = unfold met_from in
        (ap (λ x. from_list (l ++ x)) (collect_cong (λ n. get_or (try_find ms n) []) (λ n. get_or (try_find ms' n) []) l (λ n i. ap (λ o. get_or o []) (opens n))))

    met_set : (l : List Name) → Ascending (met_from ms' l)
    met_set l = unfold met_from in (ascending_from_list _)

-- sets with the same members joined
union_same : {l l' m : List Name} → Ascending m → SameMembers l l' → union l m ≡ union l' m
union_same {l} {l'} {m} h s = members_set (ascending_union l h) (ascending_union l' h) (record { to = one_way s.to; from = one_way s.from })
  where
    one_way : {l l' : List Name} → ((n : Name) → Memᴰ n l → Memᴰ n l') → (n : Name) → Memᴰ n (union l m) → Memᴰ n (union l' m)
    one_way {l} {l'} k n i = mem_elim ((mem_union n l' m).1 (⊎_elim (λ t. inl (mem_intro (k n (mem_elim t)))) inr ((mem_union n l m).0 (mem_intro i))))

-- the names reached from a set on are a set
pub rounds_set : (a : Ask) (ms : Map (List Name)) (fs : List Fact) (fuel : ℕ) (r : Run) (scanned : List Name) → Ascending r.reached → Ascending (rounds_from a ms fs fuel r scanned).reached
unfolding rounds_from after_round
rounds_set a ms fs zero r scanned h = h
rounds_set a ms fs (suc fuel) r scanned h =
    branch (λ (x : Run). Ascending x.reached) (is_nil (triggered ms fs r scanned)) _ _ (λ t. ascending_union _ h)
    (λ t. rounds_set a ms fs fuel (after_round a ms fs r scanned) (next_scanned a ms fs r scanned) (ascending_union _ h))

module _ {ms ms' : Map (List Name)} {fs fs' : List Fact} (x : Alike ms ms' fs fs') where
  -- what is met at a round's end
  after_same : (r : Run) {l m : List Name} → SameMembers l m → met_after ms r l ≡ met_after ms' r m
  unfolding met_after
  after_same r s = ap (λ (met : List Name). union met r.met) (met_same ms ms' x.opens s)

  -- the facts that the round triggers
  triggered_same : (r : Run) {l m : List Name} → SameMembers l m → SameMembers (triggered ms fs r l) (triggered ms' fs' r m)
  unfolding triggered
  triggered_same r s = rw (after_same r s) (members_keep (triggers_in r.met (met_after ms' r _)) x.same_facts)

  -- those that it reaches
  fresh_same : (a : Ask) (r : Run) {l m : List Name} → SameMembers l m → SameMembers (fresh a ms fs r l) (fresh a ms' fs' r m)
  unfolding fresh
  fresh_same a r s = members_keep (λ f. retainable a f && not (mem f.name r.reached)) (triggered_same r s)

  -- what the next round scans
  next_same : (a : Ask) (r : Run) {l m : List Name} → SameMembers l m → SameMembers (next_scanned a ms fs r l) (next_scanned a ms' fs' r m)
  unfolding next_scanned
  next_same a r s = members_collect (λ f. f.free_names) (λ f. f.free_names) (λ f. members_self f.free_names) (fresh_same a r s)

  -- the state after a round
  round_same : (a : Ask) (r : Run) → Ascending r.reached → {l m : List Name} → SameMembers l m → after_round a ms fs r l ≡ after_round a ms' fs' r m
  unfolding after_round
  round_same a r h s = rw (after_same r s, union_same h (members_map (λ (f : Fact). f.name) (fresh_same a r s)))

  -- the rounds from a state on
  pub rounds_same : (a : Ask) (fuel : ℕ) (r : Run) → Ascending r.reached → {l m : List Name} → SameMembers l m
      → rounds_from a ms fs fuel r l ≡ rounds_from a ms' fs' fuel r m
  unfolding rounds_from
  rounds_same a zero r h s = refl
  rounds_same a (suc fuel) r h {l} {m} s =
      let reached_set : Ascending (after_round a ms fs r l).reached = unfold after_round in (ascending_union _ h) in
      rw (members_nil (triggered_same r s), rounds_same a fuel (after_round a ms fs r l) reached_set (next_same a r s), round_same a r h s)
