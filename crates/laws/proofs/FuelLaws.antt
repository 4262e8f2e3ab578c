-- The rounds end for their own reason, and how many there are at most: the fuel of the run never runs out.
use Prim.Native.Nat.{ℕ, zero, suc, ◌+◌, ◌≤◌, ◌<◌}
use native.Mathlib.Omega.{arith}
use mathlib.Core.Logic.{◌⊎◌, inl, inr}
use mathlib.Core.Bool.{Bool, not}
use mathlib.Core.List.{List, [], Memᴰ}
use lib.Dec.{T, T_not, not_T}
use lib.ListN.{length}
use Rattle.model.specs.Lists.{keep, is_nil}
use Rattle.model.specs.Names.{Name, mem, from_list}
use Rattle.model.specs.Summaries.{Fact}
use Rattle.model.specs.Reading.{Ask, Summary, Root}
use Rattle.model.specs.Pruning.{Map}
use Rattle.model.specs.Rounds.{Run, facts, macros, listed, filed, triggers_in, met_after, triggered, after_round, next_scanned, rounds_from, states_from, first_scanned, first_run, most_rounds, run, history}
use Rattle.model.proofs.ListLaws.{T_dec, keep_elim, keep_less, collect_intro, not_nil_mem, cond_true, cond_false}
use Rattle.model.proofs.SetLaws.{Within, mem_intro, mem_elim, mem_keep, mem_from_list, ascending_from_list, ascending_keep, subset_length}
use Rattle.laws.specs.Fuel.{Ends, last, more}
use Rattle.laws.specs.History.{IsHistory, last as last_state, more as more_states}
use Rattle.laws.proofs.MetLaws.{met_grows}
use Rattle.laws.proofs.FiringLaws.{first_met}

-- the distinct filed trigger names that are not met
unfoldable pub unmet : List Fact → List Name → List Name
unmet fs met = keep (λ n. not (mem n met)) (from_list (filed fs))

-- a listed name of a fact is filed
pub listed_filed : {fs : List Fact} {f : Fact} {n : Name} → Memᴰ f fs → Memᴰ n (listed f) → Memᴰ n (filed fs)
unfolding filed
listed_filed m i = collect_intro listed m i

-- fewer filed names are unmet where a name that is filed is met as well
unmet_less : (fs : List Fact) (before after : List Name) {n : Name} → Within before after
    → Memᴰ n (filed fs) → T (mem n after) → T (not (mem n before))
    → length (unmet fs after) < length (unmet fs before)
unfolding unmet
unmet_less fs before after {n} w m u v =
    keep_less (λ k. not (mem k before)) (λ k. not (mem k after))
    (λ k l x. not_T (mem k before) (λ y. T_not (mem k after) x (w k y)))
    (mem_elim ((mem_from_list n (filed fs)).1 (mem_intro m))) v (not_T (not (mem n after)) (λ x. T_not (mem n after) x u))

-- no more names are unmet than are filed
pub unmet_filed : (fs : List Fact) (met : List Name) → length (unmet fs met) ≤ length (from_list (filed fs))
unfolding unmet
unmet_filed fs met =
    let names = from_list (filed fs) in
    let unmet_name : Name → Bool = λ n. not (mem n met) in
    subset_length (ascending_keep unmet_name (ascending_from_list (filed fs))) (ascending_from_list (filed fs))
    (λ k t. ((mem_keep k unmet_name names).0 t).0)

module _ (a : Ask) (ms : Map (List Name)) (fs : List Fact) where
  -- a round that triggers a fact leaves fewer filed names unmet
  unmet_falls : (r : Run) (scanned : List Name) → T (not (is_nil (triggered ms fs r scanned)))
      → length (unmet fs (after_round a ms fs r scanned).met) < length (unmet fs r.met)
  unfolding triggered after_round
  unmet_falls r scanned t =
      let after = met_after ms r scanned in
      let (f, m) = not_nil_mem (triggered ms fs r scanned) t in
      let (i, h) = keep_elim (triggers_in r.met after) fs m in
      let (n, j, u, v) = first_met r.met after f h in
      unmet_less fs r.met after (met_grows ms r scanned) (listed_filed i j) u v

  -- with more fuel than names are unmet, the states follow each other to a round that triggers none
  states_follow : (fuel : ℕ) (r : Run) (scanned : List Name) → length (unmet fs r.met) < fuel
      → IsHistory a ms fs r scanned (states_from a ms fs fuel r scanned) (rounds_from a ms fs fuel r scanned)
  unfolding states_from rounds_from
  states_follow zero r scanned h = absurd (omega arith)
  states_follow (suc fuel) r scanned h =
      go (T_dec (is_nil (triggered ms fs r scanned))) (states_follow fuel (after_round a ms fs r scanned) (next_scanned a ms fs r scanned))
    where
      go : T (is_nil (triggered ms fs r scanned)) ⊎ T (not (is_nil (triggered ms fs r scanned)))
          → (length (unmet fs (after_round a ms fs r scanned).met) < fuel
          → IsHistory a ms fs (after_round a ms fs r scanned) (next_scanned a ms fs r scanned)
          (states_from a ms fs fuel (after_round a ms fs r scanned) (next_scanned a ms fs r scanned))
          (rounds_from a ms fs fuel (after_round a ms fs r scanned) (next_scanned a ms fs r scanned)))
          → IsHistory a ms fs r scanned (states_from a ms fs (suc fuel) r scanned) (rounds_from a ms fs (suc fuel) r scanned)
      go (inl t) below = simp cond_true (last_state t)
      go (inr t) below = let l = unmet_falls r scanned t in simp cond_false (more_states t (below (omega arith)))

  -- rounds that have such states end for their own reason
  follows_ends : {r end : Run} {scanned : List Name} {h : List Run} → IsHistory a ms fs r scanned h end → Ends a ms fs r scanned end
  follows_ends (last_state t) = last t
  follows_ends (more_states t e) = more t (follows_ends e)

  -- with more fuel than names are unmet, the rounds end for their own reason
  pub rounds_end : (fuel : ℕ) (r : Run) (scanned : List Name) → length (unmet fs r.met) < fuel
      → Ends a ms fs r scanned (rounds_from a ms fs fuel r scanned)
  rounds_end fuel r scanned h = follows_ends (states_follow fuel r scanned h)

  -- the rounds are at most one more than the names that are unmet before them
  pub rounds_few : {r end : Run} {scanned : List Name} → Ends a ms fs r scanned end → end.rounds ≤ r.rounds + suc (length (unmet fs r.met))
  unfolding after_round
  rounds_few (last t) = omega arith
  rounds_few (more {r} {scanned} t e) = let l = unmet_falls r scanned t in let i = rounds_few e in omega arith

  -- there is one more at least
  pub rounds_grow : {r end : Run} {scanned : List Name} → Ends a ms fs r scanned end → r.rounds < end.rounds
  unfolding after_round
  rounds_grow (last t) = omega arith
  rounds_grow (more {r} {scanned} t e) = let i = rounds_grow e in omega arith

module _ (a : Ask) (decls : List Summary) (roots : List Root) where
  -- the history of the records of a file is that of the rounds, and the run is its last state
  pub history_follows : IsHistory a (macros decls) (facts decls) first_run (first_scanned a (facts decls) roots) (history a decls roots) (run a decls roots)
  unfolding run history
  history_follows = states_follow a (macros decls) (facts decls) (most_rounds (facts decls)) _ _ (omega (arith, unmet_filed (facts decls) []))

  -- the run ends with the round that triggers none
  pub run_ends : Ends a (macros decls) (facts decls) first_run (first_scanned a (facts decls) roots) (run a decls roots)
  run_ends = follows_ends a (macros decls) (facts decls) history_follows

  -- its rounds are at most one more than the distinct trigger names filed
  pub run_bound : (run a decls roots).rounds ≤ suc (length (from_list (filed (facts decls))))
  run_bound = omega (arith, rounds_few a (macros decls) (facts decls) run_ends, unmet_filed (facts decls) [])

  -- it has a round
  pub run_some : 1 ≤ (run a decls roots).rounds
  run_some = rounds_grow a (macros decls) (facts decls) run_ends
