-- Round after round to the end of the run of `model`.
use Prim.Native.Nat.{ℕ, ◌+◌, ◌≤◌, ◌<◌}
use native.Mathlib.Omega.{arith}
use mathlib.Core.Path.{◌≡◌, refl, sym, ◌∙◌, subst}
use mathlib.Core.Bool.{Bool, true, false, not, ◌&&◌}
use mathlib.Core.Logic.{⊎_elim}
use mathlib.Core.List.{List}
use lib.Dec.{T, T_not, ltb, ltb→lt}
use lib.ListN.{length, get_or}
use Rattle.model.specs.Lists.{count, is_nil}
use Rattle.model.specs.Names.{Name, mem}
use Rattle.model.specs.Summaries.{Fact}
use Rattle.model.specs.Reading.{Ask, most_records}
use Rattle.model.specs.Pruning.{Map}
use Rattle.model.specs.Rounds.{Run, triggered, after_round, next_scanned, visits}
use Rattle.model.proofs.ListLaws.{true_T, false_T, count_cong}
use Rattle.laws.specs.Fuel.{Ends, last, more}
use Rattle.terms.proofs.Laws.{below}
use Rattle.words.specs.Slices.{SameBut}
use Rattle.firing.specs.Held.{Held, Fits, Holds, upto}
use Rattle.firing.specs.Met.{run_end, is_met, is_reached}
use Rattle.scan.specs.Steps.{Going, round, Ready, Rounds, last as last_round, more as more_rounds}
use Rattle.scan.proofs.Round.{then_ready, then_length, then_far, then_visits, then_facts}
use Rattle.firing.proofs.Meeting.{Agrees, reached_set}
use Rattle.scan.proofs.Rounds.{At, at_then, triggered_then}

module _ {a : Ask} {ms : Map (List Name)} {fs : List Fact} where
  goes_on : {run : Run} {scanned : List Name} {end : Run} → Ends a ms fs run scanned end → T (not (is_nil (triggered ms fs run scanned)))
      → Ends a ms fs (after_round a ms fs run scanned) (next_scanned a ms fs run scanned) end
  goes_on (last {r} {scanned} t) u = absurd (T_not (is_nil (triggered ms fs r scanned)) u t)
  goes_on (more t e) u = e

  stops : {run : Run} {scanned : List Name} {end : Run} → Ends a ms fs run scanned end → T (not (not (is_nil (triggered ms fs run scanned))))
      → end ≡ after_round a ms fs run scanned
  stops (last t) u = refl
  stops (more {r} {end} {scanned} t e) u = absurd (T_not (not (is_nil (triggered ms fs r scanned))) u t)

-- the numbers at the end of the rounds are those of the run of `model`
pub record Over (h : Held) (name : ℕ → Name) (fs : List Fact) (end : Run) (g : Going) : Type 0 where
  pub met_is : Agrees h name g.run end.met
  pub reached_is : end.reached ≡ reached_set h name g.run
  pub only_facts : (i : ℕ) → i < most_records → T (is_reached g.run i) → (i < h.records) × T (h.takes_part i)
  pub rounds_are : end.rounds ≡ g.scan.rounds
  pub visits_are : visits end.met fs ≡ g.scan.visits

module _ {h : Held} {name : ℕ → Name} {a : Ask} {ms : Map (List Name)} {fs : List Fact} {fact : ℕ → Fact} (fits : Fits h)
    (holds : Holds h name a ms fs fact) where
  -- the filed names that are met are those of the entries whose names are marked
  pub count_visits : (w : List ℕ) (met : List Name) → Agrees h name w met
      → visits met fs ≡ count (λ e. ltb (h.entry_name e) h.named && is_met w (h.entry_name e)) (upto h.entries)
  unfolding visits
  count_visits w met agrees =
      rw (holds.filed_count (λ n. mem n met))
      (count_cong _ _ (upto h.entries) (λ e m. each (h.entry_name e) (ltb (h.entry_name e) h.named) refl))
    where
      each : (n : ℕ) (b : Bool) → ltb n h.named ≡ b → (b && mem (name n) met) ≡ (b && is_met w n)
      each n true e = agrees n (ltb→lt n h.named (true_T e))
      each n false e = refl

  -- the round that triggers none is the last
  over : (g : Going) (ready : Ready h g) (run : Run) (scanned : List Name) (at : At h name g run scanned) {end : Run}
      → Ends a ms fs run scanned end → (round h g).scan.triggered ≡ false → Over h name fs end (round h g)
  over g ready run scanned at {end} e t =
      let at' = at_then fits holds g ready run scanned at in
      let z : end ≡ after_round a ms fs run scanned = stops e (false_T (sym (triggered_then fits holds g ready run scanned at) ∙ t)) in
      subst (λ (r : Run). Over h name fs r (round h g)) (sym z)
      (record {
        met_is = at'.met_is;
        reached_is = at'.reached_is;
        only_facts = then_facts h fits g ready;
        rounds_are = at'.rounds_is;
        visits_are = count_visits (round h g).run (after_round a ms fs run scanned).met at'.met_is ∙ sym (then_visits h fits g ready);
      })

  -- one that triggers a fact is followed by another
  pub rounds_over : {g end_g : Going} → Rounds h g end_g → Ready h g → {run end : Run} {scanned : List Name} → At h name g run scanned
      → Ends a ms fs run scanned end → Over h name fs end end_g
  rounds_over (last_round {g} t) ready {run} {end} {scanned} at e = over g ready run scanned at e t
  rounds_over (more_rounds {g} t r) ready {run} {end} {scanned} at e =
      rounds_over r (then_ready h fits g ready t) (at_then fits holds g ready run scanned at)
      (goes_on e (true_T (sym (triggered_then fits holds g ready run scanned at) ∙ t)))

-- what rounds leave of the slice
module _ {h : Held} (fits : Fits h) where
  rounds_length : {g end : Going} → Rounds h g end → Ready h g → length end.run ≡ length g.run
  rounds_length (last_round {g} t) ready = then_length h fits g ready
  rounds_length (more_rounds {g} t r) ready = rounds_length r (then_ready h fits g ready t) ∙ then_length h fits g ready

  rounds_far : {g end : Going} → Rounds h g end → Ready h g → (k : ℕ) → run_end ≤ k → get_or end.run k 0 ≡ get_or g.run k 0
  rounds_far (last_round {g} t) ready k l = then_far h fits g ready k l
  rounds_far (more_rounds {g} t r) ready k l = rounds_far r (then_ready h fits g ready t) k l ∙ then_far h fits g ready k l

  -- only the columns of the run change
  pub rounds_same : {g end : Going} → Rounds h g end → Ready h g → {w : List ℕ} → length g.run ≡ length w
      → ((i : ℕ) → run_end ≤ i → get_or g.run i 0 ≡ get_or w i 0) → SameBut 0 run_end w end.run
  rounds_same rounds ready len far =
      record {
        same_length = rounds_length rounds ready ∙ len;
        same_words = λ i h. let l = outside i h in rounds_far rounds ready i l ∙ far i l;
      }
    where
      outside : (i : ℕ) → (0 ≤ i → i < 0 + run_end → ⊥) → run_end ≤ i
      outside i h = ⊎_elim (λ l. absurd (h (omega arith) (omega arith))) (λ l. l) (below i run_end)
