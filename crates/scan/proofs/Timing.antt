-- The columns of the run hold the rounds of `model`: by name that of its first meeting, by record that which reached it.
use Prim.Native.Nat.{ℕ, ◌+◌, ◌<◌}
use native.Mathlib.Omega.{arith}
use mathlib.Core.Path.{◌≡◌, sym, ◌∙◌}
use mathlib.Core.Bool.{Bool, not}
use mathlib.Core.Logic.{◌⊎◌, inl, inr, ⊎_elim}
use mathlib.Core.List.{List, [], ◌∷◌}
use lib.Dec.{T, T_not, ltb, ltb→lt, nltb→le, lt→ltb}
use lib.ListN.{get_or}
use Rattle.model.specs.Lists.{find_index, is_nil}
use Rattle.model.specs.Names.{Name, mem}
use Rattle.model.specs.Summaries.{Fact}
use Rattle.model.specs.Reading.{Ask, most_names, most_records}
use Rattle.model.specs.Pruning.{Map}
use Rattle.model.specs.Rounds.{Run, triggered, after_round}
use Rattle.model.proofs.ListLaws.{T_dec, true_T, false_T}
use Rattle.model.proofs.IndexLaws.{index_here, index_later}
use Rattle.laws.specs.History.{IsHistory, last, more}
use Rattle.laws.proofs.HistoryLaws.{first_state}
use Rattle.firing.specs.Held.{Held, Fits, Holds}
use Rattle.firing.specs.Met.{reached_column, is_met, is_reached}
use Rattle.firing.specs.Firing.{scanned_by}
use Rattle.scan.specs.Steps.{Going, items, met_phase, round, Ready, Rounds, last as last_round, more as more_rounds}
use Rattle.firing.proofs.Marks.{marks_old, new_intro}
use Rattle.scan.proofs.Round.{round_of, met_then, long, high_same, high_reached, fired, is_met_then, then_ready, then_facts}
use Rattle.firing.proofs.Numbers.{set_at}
use Rattle.firing.proofs.Meeting.{label}
use Rattle.scan.proofs.Rounds.{At, at_then, triggered_then, reached_at}

-- ---- one round

module _ (h : Held) (fits : Fits h) (g : Going) (ready : Ready h g) where
  few_named : {n : ℕ} → n < h.named → n < most_names
  few_named l = let f = fits.few_names in omega arith

  -- a name met before keeps its round
  pub then_met_old : (n : ℕ) → n < h.named → T (is_met g.run n) → get_or (round h g).run n 0 ≡ get_or g.run n 0
  unfolding is_met met_phase met_then
  then_met_old n l t =
      (fired h fits g ready).met_same n (few_named l)
      ∙ marks_old (round_of g) g.run (scanned_by h (items g)) n (ltb→lt 0 (get_or g.run n 0) t)

  -- one first met has this round
  pub then_met_new : (n : ℕ) → n < h.named → T (is_met (round h g).run n) → T (not (is_met g.run n)) → get_or (round h g).run n 0 ≡ round_of g
  unfolding met_phase met_then
  then_met_new n l t u =
      let lo = long h fits g ready in
      (fired h fits g ready).met_same n (few_named l)
      ∙ new_intro (round_of g) g.run (scanned_by h (items g)) n (omega arith) (omega arith) (rw (is_met_then h fits g ready n (few_named l)) at t) u

  -- a record reached before keeps its round
  pub then_reached_old : (i : ℕ) → i < most_records → T (is_reached g.run i)
      → get_or (round h g).run (reached_column + i) 0 ≡ get_or g.run (reached_column + i) 0
  unfolding met_phase met_then
  then_reached_old i l t =
      (fired h fits g ready).reached_kept i l (rw (high_reached h fits g ready i) t) ∙ high_same h fits g ready (reached_column + i) (omega arith)

  -- one that the round reaches has this round
  pub then_reached_new : (i : ℕ) → i < most_records → T (is_reached (round h g).run i) → T (not (is_reached g.run i))
      → get_or (round h g).run (reached_column + i) 0 ≡ round_of g
  unfolding met_phase met_then
  then_reached_new i l t u = (fired h fits g ready).reached_now i l t (rw (high_reached h fits g ready i) u)

-- ---- the rounds

zero_or_more : (n : ℕ) → (n ≡ 0) ⊎ (0 < n)
zero_or_more n = ⊎_elim (λ t. inr (ltb→lt 0 n t)) (λ t. inl (let z = nltb→le 0 n t in omega arith)) (T_dec (ltb 0 n))

module _ {h : Held} {name : ℕ → Name} {a : Ask} {ms : Map (List Name)} {fs : List Fact} {fact : ℕ → Fact} (fits : Fits h)
    (holds : Holds h name a ms fs fact) where
  -- a word that holds a round, and what of a state it tells
  record Clock (c : ℕ) (test : Run → Bool) : Type 0 where
    absent : (g : Going) (run : Run) (scanned : List Name) → Ready h g → At h name g run scanned → get_or g.run c 0 ≡ 0 → T (not (test run))
    present : (g : Going) (run : Run) (scanned : List Name) → Ready h g → At h name g run scanned → 0 < get_or (round h g).run c 0
        → T (test (after_round a ms fs run scanned))
    old : (g : Going) → Ready h g → 0 < get_or g.run c 0 → get_or (round h g).run c 0 ≡ get_or g.run c 0
    new : (g : Going) → Ready h g → get_or g.run c 0 ≡ 0 → 0 < get_or (round h g).run c 0 → get_or (round h g).run c 0 ≡ g.scan.rounds + 1

  -- at the end it holds what it held, or the first round at whose end the test holds
  record Told (c : ℕ) (test : Run → Bool) (g end_g : Going) (run : Run) (hist : List Run) : Type 0 where
    kept : 0 < get_or g.run c 0 → get_or end_g.run c 0 ≡ get_or g.run c 0
    told : get_or g.run c 0 ≡ 0 → 0 < get_or end_g.run c 0 → get_or end_g.run c 0 ≡ run.rounds + find_index test hist

  tells : {c : ℕ} {test : Run → Bool} → Clock c test → {g end_g : Going} → Rounds h g end_g → Ready h g
      → {run : Run} {scanned : List Name} {end : Run} {hist : List Run} → At h name g run scanned → IsHistory a ms fs run scanned hist end
      → Told c test g end_g run hist
  unfolding after_round
  tells {c} {test} k (last_round {g} t) ready {run} {scanned} at (last u) =
      record {
        kept = k.old g ready;
        told = λ z p.
            let after = after_round a ms fs run scanned in
            let e = k.new g ready z p in
            let b = index_later test run (after ∷ []) (k.absent g run scanned ready at z) in
            let d = index_here test after [] (k.present g run scanned ready at p) in
            let r = at.rounds_is in
            omega arith;
      }
  tells {c} {test} k (last_round {g} t) ready {run} {scanned} at (more u f) =
      absurd (T_not (not (is_nil (triggered ms fs run scanned))) (false_T (sym (triggered_then fits holds g ready run scanned at) ∙ t)) u)
  tells {c} {test} k (more_rounds {g} t r) ready {run} {scanned} at (last u) =
      absurd (T_not (is_nil (triggered ms fs run scanned)) (true_T (sym (triggered_then fits holds g ready run scanned at) ∙ t)) u)
  tells {c} {test} k (more_rounds {g} {end} t r) ready {run} {scanned} at (more {h = hist} u f) =
      go (tells k r (then_ready h fits g ready t) (at_then fits holds g ready run scanned at) f) (first_state a ms fs f)
    where
      go : Told c test (round h g) end (after_round a ms fs run scanned) hist → (rest : List Run) × (hist ≡ after_round a ms fs run scanned ∷ rest)
          → Told c test g end run (run ∷ hist)
      go below (rest, q) =
          record {
            kept = λ p. let e = k.old g ready p in below.kept (omega arith) ∙ e;
            told = λ z p. ⊎_elim
                (λ (v : get_or (round h g).run c 0 ≡ 0).
                let e = below.told v p in
                let b = index_later test run hist (k.absent g run scanned ready at z) in
                omega arith)
                (λ (v : 0 < get_or (round h g).run c 0).
                let e = below.kept v in
                let i = k.new g ready z v in
                let b = index_later test run hist (k.absent g run scanned ready at z) in
                let d : find_index test hist ≡ 0 = rw q (index_here test (after_round a ms fs run scanned) rest (k.present g run scanned ready at v)) in
                let m = at.rounds_is in
                omega arith)
                (zero_or_more (get_or (round h g).run c 0));
          }

  -- ---- the two columns

  met_clock : (n : ℕ) → n < h.named → Clock n (λ r. mem (name n) r.met)
  unfolding is_met
  met_clock n l =
      record {
        absent = λ g run scanned ready at z. rw (at.met_is n l, z) tt;
        present = λ g run scanned ready at p. rw ((at_then fits holds g ready run scanned at).met_is n l) (lt→ltb 0 (get_or (round h g).run n 0) p);
        old = λ g ready p. then_met_old h fits g ready n l (lt→ltb 0 (get_or g.run n 0) p);
        new = λ g ready z p. then_met_new h fits g ready n l (lt→ltb 0 (get_or (round h g).run n 0) p) (rw z tt);
      }

  few_records : {i : ℕ} → i < h.records → i < most_records
  few_records l = let f = fits.few_records in omega arith

  -- the record of a fact is reached at a round's end where its name is
  reached_after : (g : Going) (run : Run) (scanned : List Name) (ready : Ready h g) (at : At h name g run scanned) (i : ℕ) → i < h.records → T (h.takes_part i)
      → mem (fact i).name (after_round a ms fs run scanned).reached ≡ is_reached (round h g).run i
  reached_after g run scanned ready at i l t =
      rw ((at_then fits holds g ready run scanned at).reached_is, holds.fact_name i l t)
      (set_at (label h name) (is_reached (round h g).run) h.records i l
      (λ m k u e.
      let x = (then_facts h fits g ready m (few_records k) u).1 in
      holds.rows_apart i m l k t x (holds.injective (h.row_name i) (h.row_name m) (fits.row_small i l t) (fits.row_small m k x) e)))

  reached_clock : (i : ℕ) → i < h.records → T (h.takes_part i) → Clock (reached_column + i) (λ r. mem (fact i).name r.reached)
  unfolding is_reached
  reached_clock i l t =
      record {
        absent = λ g run scanned ready at z. rw (reached_at fits holds g ready run scanned at i l t, z) tt;
        present = λ g run scanned ready at p. rw (reached_after g run scanned ready at i l t) (lt→ltb 0 (get_or (round h g).run (reached_column + i) 0) p);
        old = λ g ready p. then_reached_old h fits g ready i (few_records l) (lt→ltb 0 (get_or g.run (reached_column + i) 0) p);
        new = λ g ready z p. then_reached_new h fits g ready i (few_records l) (lt→ltb 0 (get_or (round h g).run (reached_column + i) 0) p) (rw z tt);
      }

  -- the columns at the end of a run that starts with nothing met and nothing reached
  module _ {g end_g : Going} (rounds : Rounds h g end_g) (ready : Ready h g) {run end : Run} {scanned : List Name} {hist : List Run}
      (at : At h name g run scanned) (follows : IsHistory a ms fs run scanned hist end) (none : run.rounds ≡ 0) where
    pub met_round : (n : ℕ) → n < h.named → get_or g.run n 0 ≡ 0 → T (is_met end_g.run n)
        → get_or end_g.run n 0 ≡ find_index (λ r. mem (name n) r.met) hist
    unfolding is_met
    met_round n l z t = let e = (tells (met_clock n l) rounds ready at follows).told z (ltb→lt 0 (get_or end_g.run n 0) t) in omega arith

    pub reached_round : (i : ℕ) → i < h.records → T (h.takes_part i) → get_or g.run (reached_column + i) 0 ≡ 0 → T (is_reached end_g.run i)
        → get_or end_g.run (reached_column + i) 0 ≡ find_index (λ r. mem (fact i).name r.reached) hist
    unfolding is_reached
    reached_round i l f z t =
        let e = (tells (reached_clock i l f) rounds ready at follows).told z (ltb→lt 0 (get_or end_g.run (reached_column + i) 0) t) in omega arith
