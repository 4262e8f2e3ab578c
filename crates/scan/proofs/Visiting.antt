-- What the proof of a visit cites.
use Prim.Native.Nat.{ℕ, ◌+◌, ◌≤◌, ◌<◌}
use native.Mathlib.Omega.{arith}
use mathlib.Core.Path.{◌≡◌, refl, sym, ◌∙◌, ap}
use mathlib.Core.Bool.{Bool, true, false, not, ◌||◌}
use mathlib.Core.List.{List}
use lib.Dec.{T, ltb}
use lib.ListN.{get_or, set}
use borrow.Author.Tests.{lt-ltb, le-ltb}
use Rattle.model.specs.Lists.{part}
use Rattle.model.specs.Reading.{most_records, most_entries}
use Rattle.model.specs.declared.Asked.{Asked}
use Rattle.model.specs.declared.Counts.{Counts}
use Rattle.model.proofs.ListLaws.{false_T}
use Rattle.triggers.specs.Entries.{entries_base}
use Rattle.records.specs.Columns.{entries_start, entries_end, entry_fact}
use Rattle.records.specs.States.{entries_at}
use Rattle.firing.specs.Tables.{retained, held_of, Laid}
use Rattle.firing.specs.Met.{reached_column, work_column, is_met, is_reached, unreached}
use Rattle.firing.specs.Firing.{fires_in, fires_on}
use Rattle.scan.specs.Steps.{Going, going, counted, reach_record, visit, work_room, Room}
use Rattle.scan.specs.declared.Scan.{Scan}
use Rattle.firing.proofs.Numbers.{count_some}
use Rattle.firing.proofs.Firing.{fires_exact}
use Rattle.scan.proofs.Visits.{or_none}

or_true : (b : Bool) → (b || true) ≡ true
or_true true = refl
or_true false = refl

positive : (v : ℕ) → (v ≡ 0 → ⊥) → ltb 0 v ≡ true
positive v d = lt-ltb 0 v (omega (arith, d))

-- one visit more
abbrev seen : Scan → ℕ → List ℕ → Bool → Going
seen s to w b = going (record { from = s.from; to = to; visits = s.visits + 1; rounds = s.rounds; triggered = b }) w

-- there is a place behind the worklist while a record is not reached
pub a_place : {g : Going} {i v : ℕ} → Room g → i < most_records → v ≡ get_or g.run (reached_column + i) 0 → v ≡ 0 → g.scan.to < work_room
unfolding unreached is_reached
a_place {g} {i} {v} room l e z =
    let w = g.run in
    let u : T (not (ltb 0 (get_or w (reached_column + i) 0))) = false_T (le-ltb 0 (get_or w (reached_column + i) 0) (omega arith)) in
    let left = count_some (λ j. not (is_reached w j)) most_records i l u in
    let x = room.fits in
    omega arith

module _ {names recs lists : List ℕ} {k : Counts} (laid : Laid names recs lists k) (e i : ℕ) (l : e < k.entries) (p : i ≡ entry_fact lists e) where
  -- the record of the entry
  pub fact_low : i < k.records
  fact_low = let z = laid.entry_facts e l in omega arith

  pub fact_few : i < most_records
  fact_few = let z = fact_low in let f = laid.few_records in omega arith

  module _ (x y : ℕ) (q : x ≡ entries_start recs i) (t : y ≡ entries_end recs i) where
    -- where its entries stand
    pub entries_place : (x ≤ y) × (y ≤ most_entries)
    entries_place = let z = laid.entry_place i fact_low in (omega arith, omega arith)

    module _ (a : Asked) (w : List ℕ) (f : Bool) (u : f ≡ fires_in w true (part lists (entries_base + x) (entries_base + y))) where
      -- what the loops find of it
      fires_so : fires_on (held_of names recs lists k a) (is_met w) (entry_fact lists e) ≡ f
      unfolding fires_on held_of
      fires_so = rw (← p) (sym (u ∙ rw (q, t) (fires_exact w (entries_at recs lists i) (laid.entry_words i fact_low).closed)))

      module _ (s : Scan) where
        pub visit_quiet : f ≡ false → seen s s.to w s.triggered ≡ visit (held_of names recs lists k a) (going s w) e
        unfolding visit counted held_of
        visit_quiet z = rw (fires_so, z) (ap (seen s s.to w) (sym (or_none s.triggered)))

        module _ (b : Bool) (z : f ≡ true) (r : b ≡ retained recs a i) where
          pub visit_dropped : b ≡ false → seen s s.to w true ≡ visit (held_of names recs lists k a) (going s w) e
          unfolding visit counted held_of
          visit_dropped d = rw (fires_so, z, ← p, ← r, d) (ap (seen s s.to w) (sym (or_true s.triggered)))

          pub visit_again : (v : ℕ) → b ≡ true → v ≡ get_or w (reached_column + i) 0 → (v ≡ 0 → ⊥)
              → seen s s.to w true ≡ visit (held_of names recs lists k a) (going s w) e
          unfolding visit counted held_of is_reached
          visit_again v d j g = rw (fires_so, z, ← p, ← r, d, ← j, positive v g) (ap (seen s s.to w) (sym (or_true s.triggered)))

          pub visit_new : (v : ℕ) → b ≡ true → v ≡ get_or w (reached_column + i) 0 → v ≡ 0
              → seen s (s.to + 1) (set (set w (reached_column + i) s.rounds) (work_column + s.to) i) true
              ≡ visit (held_of names recs lists k a) (going s w) e
          unfolding visit counted reach_record held_of is_reached
          visit_new v d j g =
              rw (fires_so, z, ← p, ← r, d, ← j, g)
              (ap (seen s (s.to + 1) (set (set w (reached_column + i) s.rounds) (work_column + s.to) i)) (sym (or_true s.triggered)))
