-- A run that goes on: what the numbers hold between two stretches, and that the next stretch is that of `model`.
use Prim.Native.Nat.{ℕ, ◌+◌, ◌≤◌, ◌<◌}
use native.Mathlib.Omega.{arith}
use mathlib.Core.Path.{◌≡◌, refl, sym, ◌∙◌, ap}
use mathlib.Core.Bool.{Bool, true, false, not, ◌&&◌}
use mathlib.Core.Logic.{◌↔◌, ⊎_elim}
use mathlib.Core.List.{List, map, Memᴰ}
use lib.Dec.{T, T_not, not_T, ltb}
use lib.ListN.{length, get_or}
use borrow.Author.Tests.{ltb-true}
use Rattle.model.specs.Lists.{count, collect}
use Rattle.model.specs.Names.{Name, from_list}
use Rattle.model.specs.Summaries.{Fact}
use Rattle.model.specs.Reading.{Ask, Summary, Root, most_names, most_records, most_asks}
use Rattle.model.specs.Rounds.{Run, facts, macros}
use Rattle.model.specs.Also.{also_scanned, stretch_start, stretch}
use Rattle.model.proofs.ListLaws.{count_cong, count_keep, keep_le, keep_cong}
use Rattle.laws.proofs.StretchLaws.{later, ends_later, stretch_ends}
use Rattle.firing.specs.Held.{Held, Fits, Holds, upto, set_of}
use Rattle.firing.specs.Met.{run_end, reached_column, is_met, is_reached, unmet}
use Rattle.scan.specs.Steps.{Going, going, items, round, Ready, Rounds, last as last_round, more as more_rounds}
use Rattle.scan.specs.Starts.{pushed}
use Rattle.scan.specs.Chains.{emptied}
use Rattle.scan.specs.declared.Scan.{Scan}
use Rattle.firing.proofs.Numbers.{upto_elim}
use Rattle.scan.proofs.Round.{then_ready, then_room, then_rounds, then_unmet, then_low, then_visits, then_facts, is_met_then, met_stays}
use Rattle.firing.proofs.Meeting.{Agrees, label, reached_set}
use Rattle.scan.proofs.Rounds.{At}
use Rattle.scan.proofs.Running.{Over, rounds_over}
use Rattle.firing.proofs.Clearing.{few_unreached}
use Rattle.scan.proofs.Starting.{Pushed, pushed_is, no_items}

-- between two stretches, after so many lines of the chain: all that was reached is scanned. The worklist is not looked at
pub record Rested (h : Held) (lines : ℕ) (g : Going) : Type 0 where
  pub long : run_end ≤ length g.run
  pub few_rounds : g.scan.rounds + unmet h.named g.run ≤ most_names + lines
  pub low : (n : ℕ) → n < h.named → get_or g.run n 0 ≤ g.scan.rounds
  pub visits_are : g.scan.visits ≡ count (λ e. ltb (h.entry_name e) h.named && is_met g.run (h.entry_name e)) (upto h.entries)
  pub only_facts : (i : ℕ) → i < most_records → T (is_reached g.run i) → (i < h.records) × T (h.takes_part i)

module _ {h : Held} (fits : Fits h) where
  -- a round leaves no more names unmet
  unmet_le : (g : Going) → Ready h g → unmet h.named (round h g).run ≤ unmet h.named g.run
  unfolding unmet
  unmet_le g ready =
      rw (count_keep (λ n. not (is_met (round h g).run n)) (upto h.named), count_keep (λ n. not (is_met g.run n)) (upto h.named))
      (keep_le (λ n. not (is_met g.run n)) (λ n. not (is_met (round h g).run n)) (upto h.named)
      (λ n m t. let l = upto_elim h.named m in
      let few = fits.few_names in
      not_T (is_met g.run n) (λ u. T_not (is_met (round h g).run n) t (rw (is_met_then h fits g ready n (omega arith)) (met_stays h fits g ready n u)))))

  -- at the end of the rounds it is so
  pub rounds_rested : {g end : Going} → Rounds h g end → Ready h g → (lines : ℕ) → g.scan.rounds + unmet h.named g.run ≤ most_names + lines
      → Rested h (lines + 1) end
  rounds_rested (last_round {g} t) ready lines few =
      let a = unmet_le g ready in
      let b = then_rounds h fits g ready in
      record {
        long = (then_room h fits g ready).long;
        few_rounds = omega arith;
        low = then_low h fits g ready;
        visits_are = then_visits h fits g ready;
        only_facts = then_facts h fits g ready;
      }
  rounds_rested (more_rounds {g} t r) ready lines few =
      let a = then_unmet h fits g ready t in
      let b = then_rounds h fits g ready in
      rounds_rested r (then_ready h fits g ready t) lines (omega arith)

  -- the records of a test behind the empty worklist: the next stretch can start, and nothing else has changed
  pub record BegunAgain (test : ℕ → Bool) (lines : ℕ) (g v : Going) : Type 0 where
    pub ready : Ready h v
    pub few_rounds : v.scan.rounds + unmet h.named v.run ≤ most_names + lines
    pub rounds_same : v.scan.rounds ≡ g.scan.rounds
    pub met_same : (n : ℕ) → n < h.named → is_met v.run n ≡ is_met g.run n
    pub reached_same : (i : ℕ) → i < most_records → is_reached v.run i ≡ is_reached g.run i
    pub item_elim : (i : ℕ) → Memᴰ i (items v) → (i < h.records) × T (test i)
    pub item_intro : (i : ℕ) → i < h.records → T (test i) → Memᴰ i (items v)
    pub same_length : length v.run ≡ length g.run
    pub far : (j : ℕ) → run_end ≤ j → get_or v.run j 0 ≡ get_or g.run j 0

  pub begun_again : (test : ℕ → Bool) (lines : ℕ) (s : Scan) (w : List ℕ) → Rested h lines (going s w) → lines ≤ most_asks
      → BegunAgain test lines (going s w) (pushed test h.records (going (emptied s) w))
  unfolding items is_met is_reached unmet
  begun_again test lines s w rested few =
      let x = fits.few_records in
      let y = rested.long in
      go (pushed test h.records (going (emptied s) w)) (pushed_is test h.records (going (emptied s) w) (omega arith) (omega arith) rested.long)
    where
      go : (v : Going) → Pushed test h.records (going (emptied s) w) v → BegunAgain test lines (going s w) v
      go v p =
          let few_n = fits.few_names in
          let few_r = fits.few_records in
          let few_to = p.few in
          let len = p.same_length in
          let long = rested.long in
          let met : (n : ℕ) → n < h.named → is_met v.run n ≡ is_met w n = λ n l. ap (ltb 0) (p.low n (omega arith)) in
          let reached : (i : ℕ) → i < most_records → is_reached v.run i ≡ is_reached w i = λ i l. ap (ltb 0) (p.low (reached_column + i) (omega arith)) in
          let unmet_same : unmet h.named v.run ≡ unmet h.named w =
          count_cong (λ n. not (is_met v.run n)) (λ n. not (is_met w n)) (upto h.named) (λ n m. ap not (met n (upto_elim h.named m))) in
          let scans : (i : ℕ) → Memᴰ i (items v) → (i < h.records) × T (test i) =
          λ i m. ⊎_elim (λ k. absurd (no_items w i k)) (λ q. q) (p.only i m) in
          let few_rounds : v.scan.rounds + unmet h.named v.run ≤ most_names + lines =
          let a = p.rounds_same in let b = rested.few_rounds in omega arith in
          record {
            ready = record {
              room = record { fits = let m = few_unreached v.run in omega arith; long = omega arith };
              ends = let a = p.from_same in omega arith;
              few_rounds = omega arith;
              low = λ n l. let a = p.low n (omega arith) in let b = rested.low n l in let c = p.rounds_same in omega arith;
              visits_are = p.visits_same ∙ rested.visits_are
                  ∙ count_cong _ _ (upto h.entries) (λ e m. each (met (h.entry_name e)) (ltb (h.entry_name e) h.named) refl);
              items_small = λ i m. (scans i m).0;
              only_facts = λ i l r. rested.only_facts i l (rw (reached i l) at r);
            };
            few_rounds = few_rounds;
            rounds_same = p.rounds_same;
            met_same = met;
            reached_same = reached;
            item_elim = scans;
            item_intro = p.every;
            same_length = p.same_length;
            far = p.far;
          }
        where
          each : {n : ℕ} → (n < h.named → is_met v.run n ≡ is_met w n) → (b : Bool) → ltb n h.named ≡ b → (b && is_met w n) ≡ (b && is_met v.run n)
          each {n} same true e = sym (same (ltb-true n h.named e))
          each same false e = refl

module _ {h : Held} {name : ℕ → Name} {a : Ask} (decls : List Summary) {fact : ℕ → Fact} (fits : Fits h)
    (holds : Holds h name a (macros decls) (facts decls) fact) (roots : List Root) {test : ℕ → Bool} {lines : ℕ} (r : Run) {g v : Going}
    (met : Agrees h name g.run r.met) (reached : r.reached ≡ reached_set h name g.run) (b : BegunAgain fits test lines g v) where
  -- the numbers stand before the first round of the stretch, its rounds counted on
  stretch_at : (scanned : List Name) → ((k : Name) → Memᴰ k scanned ↔ Memᴰ k (map name (collect h.frees (items v))))
      → At h name v (later g.scan.rounds (stretch_start r)) scanned
  unfolding stretch_start set_of
  stretch_at scanned free =
      record {
        met_is = λ m l. met m l ∙ sym (b.met_same m l);
        reached_is = reached
            ∙ ap (λ l. from_list (map (label h name) l))
            (keep_cong (is_reached g.run) (is_reached v.run) (upto h.records)
            (λ i m. let l = upto_elim h.records m in let few = fits.few_records in sym (b.reached_same i (omega arith))));
        rounds_is = let e = b.rounds_same in omega arith;
        scanned_is = free;
      }

  -- at its end they are those of the stretch of `model`, its rounds counted on
  pub stretch_over : (q : ℕ) → ((k : Name) → Memᴰ k (also_scanned q roots) ↔ Memᴰ k (map name (collect h.frees (items v))))
      → {end : Going} → Rounds h v end → Over h name (facts decls) (later g.scan.rounds (stretch a decls roots r q)) end
  stretch_over q free rounds =
      rounds_over fits holds rounds b.ready (stretch_at (also_scanned q roots) free)
      (ends_later a (macros decls) (facts decls) g.scan.rounds (stretch_ends a decls roots r q))
