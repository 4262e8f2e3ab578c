-- A round on numbers: what it does to the state and the slice, and what holds before the next one.
use Prim.Native.Nat.{ℕ, ◌+◌, ◌-◌, ◌≤◌, ◌<◌}
use native.Mathlib.Omega.{arith}
use mathlib.Core.Path.{◌≡◌, refl, sym, ◌∙◌, ap, subst}
use mathlib.Core.Bool.{Bool, true, false, not, ◌&&◌}
use mathlib.Core.Logic.{◌⊎◌, inl, inr, ⊎_elim}
use mathlib.Core.List.{List, Memᴰ}
use lib.Dec.{T, T_not, not_T, eqb, ltb, ltb→lt}
use lib.ListN.{length, get_or}
use Rattle.model.specs.Lists.{any, count}
use Rattle.model.specs.Reading.{most_names, most_records}
use Rattle.model.proofs.ListLaws.{T_dec, T_true, T_false, true_T, any_elim, count_keep, count_cong, keep_less, collect_elim}
use Rattle.model.proofs.PartLaws.{part_elim, part_intro}
use Rattle.firing.specs.Held.{Held, Fits, upto}
use Rattle.firing.specs.Met.{reached_column, work_column, run_end, is_met, is_reached, marks, unreached, unmet}
use Rattle.firing.specs.Firing.{opened_all, scanned_by, fires_on}
use Rattle.scan.specs.Steps.{Going, visited, items, met_phase, visit_phase, round, Room, Ready}
use Rattle.firing.proofs.Numbers.{not_not, upto_intro, upto_elim, count_both}
use Rattle.firing.proofs.Marks.{marks_length, marks_out, marks_low, met_old, new_elim, old_or_new}
use Rattle.firing.proofs.Meeting.{opened_small}
use Rattle.scan.proofs.Visited.{visited_elim, visited_length}
use Rattle.scan.proofs.Visits.{Fired, room_then, visits_fired}

-- the number of the round that starts
abbrev pub round_of : Going → ℕ
round_of g = g.scan.rounds + 1

-- the slice when its names are met
unfoldable pub met_then : Held → Going → List ℕ
met_then h g = marks (round_of g) g.run (scanned_by h (items g))

-- the entries that it visits
unfoldable pub visited_then : Held → Going → List ℕ
visited_then h g = visited h (round_of g) (met_then h g) h.named

module _ (h : Held) (fits : Fits h) (g : Going) (ready : Ready h g) where
  pub long : h.named ≤ length g.run
  long = let x = ready.room.long in let y = fits.few_names in omega arith

  -- what is scanned are names
  scanned_small : (n : ℕ) → Memᴰ n (scanned_by h (items g)) → n < h.named
  unfolding scanned_by
  scanned_small n m =
      let (i, x, y) = collect_elim (λ i. opened_all h.opens (h.frees i)) (items g) m in
      opened_small h fits i n (ready.items_small i x) y

  -- meeting writes no other column
  pub high_same : (k : ℕ) → most_names ≤ k → get_or (met_then h g) k 0 ≡ get_or g.run k 0
  unfolding met_then
  high_same k l =
      marks_out (round_of g) g.run (scanned_by h (items g)) k (λ m. let s = scanned_small k m in let f = fits.few_names in omega arith)

  pub high_reached : (i : ℕ) → is_reached (met_then h g) i ≡ is_reached g.run i
  unfolding is_reached
  high_reached i = ap (ltb 0) (high_same (reached_column + i) (omega arith))

  pub met_room : Room (met_phase h g)
  unfolding met_phase met_then unreached
  met_room =
      let s = marks_length (round_of g) g.run (scanned_by h (items g)) in
      let c : unreached (met_then h g) ≡ unreached g.run =
      count_cong (λ i. not (is_reached (met_then h g) i)) (λ i. not (is_reached g.run i)) (upto most_records) (λ i m. ap not (high_reached i)) in
      let x = ready.room.fits in
      let y = ready.room.long in
      record { fits = omega arith; long = omega arith }

  pub fired : Fired h (met_phase h g) (round h g) (visited_then h g)
  unfolding round visit_phase met_phase visited_then met_then
  fired =
      visits_fired h fits (met_phase h g) (omega arith) met_room (visited_then h g)
      (λ e m. (visited_elim h (round_of g) (met_then h g) h.named m).0)

  -- ---- the records on the part of the worklist that comes next

  pub few : {i : ℕ} → i < h.records → i < most_records
  few l = let x = fits.few_records in omega arith

  -- the fact of a visited entry
  pub small_fact : (e : ℕ) → Memᴰ e (visited_then h g) → (h.entry_fact e < h.records) × T (h.takes_part (h.entry_fact e))
  unfolding visited_then
  small_fact e m = let (s, b, c) = visited_elim h (round_of g) (met_then h g) h.named m in (fits.fact_small e s, fits.fact_is e s b)

  pub then_room : Room (round h g)
  then_room = room_then met_room fired

  -- they are those that the round reached
  pub work_elim : (i : ℕ) → Memᴰ i (items (round h g)) → (i < most_records) × T (is_reached (round h g).run i) × T (not (is_reached g.run i))
  unfolding items met_phase met_then
  work_elim i m =
      let x = then_room.fits in
      let y = then_room.long in
      let p = part_elim {l = (round h g).run} {a = work_column + (round h g).scan.from} {e = work_column + (round h g).scan.to} (omega arith) m in
      let lo = p.low in
      let hi = p.high in
      let f = fired.from_same in
      let k = place p.place (omega arith) in
      let (b, c, d) = fired.work_new k.0 (let q = k.1 in omega arith) (let q = k.1 in omega arith) in
      let s : get_or (round h g).run (work_column + k.0) 0 ≡ i = ap (λ (z : ℕ). get_or (round h g).run z 0) k.1 ∙ p.is in (
        subst (λ z. z < most_records) s b,
        subst (λ z. T (is_reached (round h g).run z)) s c,
        subst (λ z. T (not (is_reached g.run z))) s (subst (λ z. T (not z)) (high_reached (get_or (round h g).run (work_column + k.0) 0)) d),
      )
    where
      place : (p : ℕ) → work_column ≤ p → (k : ℕ) × (work_column + k ≡ p)
      place p l = (p - work_column, omega arith)

  pub work_intro : (i : ℕ) → i < most_records → T (is_reached (round h g).run i) → T (not (is_reached g.run i)) → Memᴰ i (items (round h g))
  unfolding items met_phase met_then
  work_intro i l t u =
      let (k, x, y, z) = fired.work_all i l t (rw (high_reached i) u) in
      let r = then_room.fits in
      let s = then_room.long in
      let f = fired.from_same in
      subst (λ n. Memᴰ n (items (round h g))) z
      (part_intro (round h g).run (work_column + (round h g).scan.from) (work_column + (round h g).scan.to) (work_column + k)
      (omega arith) (omega arith) (omega arith))

  -- ---- the visits

  pub is_met_then : (n : ℕ) → n < most_names → is_met (round h g).run n ≡ is_met (met_then h g) n
  unfolding is_met met_phase met_then
  is_met_then n l = ap (ltb 0) (fired.met_same n l)

  pub then_visits : (round h g).scan.visits ≡ count (λ e. ltb (h.entry_name e) h.named && is_met (round h g).run (h.entry_name e)) (upto h.entries)
  unfolding met_phase met_then visited_then
  then_visits =
      fired.visits_up
      ∙ ap (λ n. g.scan.visits + n) (visited_length h (round_of g) (met_then h g) h.named)
      ∙ ap (λ n. n + count new (upto h.entries)) ready.visits_are
      ∙ count_both (λ e. ltb (h.entry_name e) h.named && is_met g.run (h.entry_name e)) new
      (λ e. ltb (h.entry_name e) h.named && is_met (round h g).run (h.entry_name e))
      (upto h.entries) (λ e m. each (h.entry_name e) (T_dec (ltb (h.entry_name e) h.named)))
    where
      new : ℕ → Bool
      new e = ltb (h.entry_name e) h.named && eqb (get_or (met_then h g) (h.entry_name e) 0) (round_of g)

      low : ℕ → Bool
      low n = ltb n h.named

      each : (n : ℕ) → T (low n) ⊎ T (not (low n))
          → (((low n && is_met g.run n) ≡ (low n && is_met (round h g).run n)) × ((low n && eqb (get_or (met_then h g) n 0) (round_of g)) ≡ false))
          ⊎ (((low n && eqb (get_or (met_then h g) n 0) (round_of g)) ≡ (low n && is_met (round h g).run n)) × ((low n && is_met g.run n) ≡ false))
      each n (inr t) = inl (rw (T_false (ltb n h.named) t) (refl, refl))
      each n (inl t) =
          let l = ltb→lt n h.named t in
          rw (T_true (ltb n h.named) t, is_met_then n (let f = fits.few_names in omega arith))
          (old_or_new (round_of g) g.run (scanned_by h (items g)) n (omega arith) (let f = long in omega arith)
          (let f = ready.low n l in omega arith))

  -- ---- the state at the round's end

  -- an entry visited has a name first met in the round
  pub visited_new : (e : ℕ) → Memᴰ e (visited_then h g)
      → (e < h.entries) × (h.entry_name e < h.named) × T (is_met (met_then h g) (h.entry_name e)) × T (not (is_met g.run (h.entry_name e)))
  unfolding visited_then met_then
  visited_new e m =
      let (s, b, c) = visited_elim h (round_of g) (met_then h g) h.named m in
      let lo = ready.low (h.entry_name e) b in
      let (n, o) = new_elim (round_of g) g.run (scanned_by h (items g)) (h.entry_name e) (omega arith) (omega arith) c in
      (s, b, n, o)

  pub then_triggered : (round h g).scan.triggered ≡ any (λ e. fires_on h (is_met (met_then h g)) (h.entry_fact e)) (visited_then h g)
  unfolding met_phase met_then
  then_triggered = fired.triggered_is

  pub met_stays : (n : ℕ) → T (is_met g.run n) → T (is_met (met_then h g) n)
  unfolding met_then
  met_stays n t = met_old (round_of g) g.run (scanned_by h (items g)) n t

  -- a round that triggers a fact meets a name: so the rounds end
  pub then_unmet : (round h g).scan.triggered ≡ true → unmet h.named (round h g).run < unmet h.named g.run
  unfolding unmet
  then_unmet t =
      let (e, m, x) = any_elim (λ e. fires_on h (is_met (met_then h g)) (h.entry_fact e)) (visited_then h g) (true_T (sym then_triggered ∙ t)) in
      let (s, b, n, o) = visited_new e m in
      rw (count_keep (λ n. not (is_met (round h g).run n)) (upto h.named), count_keep (λ n. not (is_met g.run n)) (upto h.named))
      (keep_less (λ n. not (is_met g.run n)) (λ n. not (is_met (round h g).run n)) (λ n k u. stays n (upto_elim h.named k) u)
      (upto_intro b) o (rw (is_met_then (h.entry_name e) (small b)) (not_not (is_met (met_then h g) (h.entry_name e)) n)))
    where
      small : {n : ℕ} → n < h.named → n < most_names
      small l = let f = fits.few_names in omega arith

      stays : (n : ℕ) → n < h.named → T (not (is_met (round h g).run n)) → T (not (is_met g.run n))
      stays n l u = not_T (is_met g.run n) (λ y. T_not (is_met (round h g).run n) u (rw (is_met_then n (small l)) (met_stays n y)))

  pub then_low : (n : ℕ) → n < h.named → get_or (round h g).run n 0 ≤ (round h g).scan.rounds
  unfolding met_phase met_then
  then_low n l =
      let few_n = fits.few_names in
      let lo = ready.low n l in
      let lg = long in
      let x = marks_low (round_of g) g.run (scanned_by h (items g)) n (omega arith) (omega arith) (omega arith) in
      let y = fired.met_same n (omega arith) in
      let z = fired.rounds_same in
      omega arith

  pub then_rounds : (round h g).scan.rounds ≡ g.scan.rounds + 1
  unfolding met_phase
  then_rounds = fired.rounds_same

  then_ends : (round h g).scan.from ≤ (round h g).scan.to
  unfolding met_phase
  then_ends = let x = fired.to_le in let y = fired.from_same in omega arith

  pub then_facts : (i : ℕ) → i < most_records → T (is_reached (round h g).run i) → (i < h.records) × T (h.takes_part i)
  unfolding met_phase met_then
  then_facts i l t =
      ⊎_elim (λ u. ready.only_facts i l (rw (high_reached i) at u))
      (λ (e, n, s, f, b). let (x, y) = small_fact e n in (subst (λ z. z < h.records) s x, subst (λ z. T (h.takes_part z)) s y))
      (fired.reached_from i l t)

  -- after a round that triggers a fact
  pub then_ready : (round h g).scan.triggered ≡ true → Ready h (round h g)
  then_ready t =
      record {
        room = then_room;
        ends = then_ends;
        few_rounds = let a = then_unmet t in let b = ready.few_rounds in let c = then_rounds in omega arith;
        low = then_low;
        visits_are = then_visits;
        items_small = λ i m. let (l, t, u) = work_elim i m in (then_facts i l t).0;
        only_facts = then_facts;
      }

  pub then_length : length (round h g).run ≡ length g.run
  unfolding met_phase
  then_length = fired.same_length ∙ marks_length (round_of g) g.run (scanned_by h (items g))

  -- nothing behind the worklist is written
  pub then_far : (k : ℕ) → run_end ≤ k → get_or (round h g).run k 0 ≡ get_or g.run k 0
  unfolding met_phase met_then
  then_far k l = fired.far_same k l ∙ high_same k (omega arith)
