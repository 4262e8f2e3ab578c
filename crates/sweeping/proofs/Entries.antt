-- The entries of a fact, looked at one after the other, say whether a name of its disjuncts is met; the test of a record by them.
use Prim.Native.Nat.{ℕ, ◌+◌, ◌%◌, ◌≤◌, ◌<◌}
use native.Mathlib.Omega.{arith}
use mathlib.Core.Path.{◌≡◌, refl, sym, ◌∙◌}
use mathlib.Core.Bool.{Bool, true, false, cond, ◌&&◌, ◌||◌, or-false, or_assoc}
use mathlib.Core.List.{List, [], ◌∷◌}
use lib.Dec.{ltb}
use lib.ListN.{length, get_or}
use borrow.Author.Tests.{lt-ltb, le-ltb}
use Rattle.model.specs.Lists.{any, part}
use Rattle.model.specs.declared.Asked.{Asked}
use Rattle.model.specs.declared.Counts.{Counts}
use Rattle.model.proofs.ListLaws.{any_append}
use Rattle.model.proofs.PartLaws.{part_cons, part_nil}
use Rattle.triggers.specs.Entries.{entry_number, before_first, disjuncts_of_words, last_flag, no_name, entries_base}
use Rattle.records.specs.Columns.{entries_start, entries_end}
use Rattle.records.specs.States.{entries_at, takes_part, ask_of}
use Rattle.firing.specs.Met.{reached_column, is_met, is_reached}
use Rattle.firing.specs.Firing.{fires_in, fires_on}
use Rattle.firing.specs.Tables.{retained, held_of, Laid}
use Rattle.firing.proofs.Firing.{fires_exact}
use Rattle.sweeping.specs.Sweeping.{name_met, adds_at, fires_now, joins}

-- ---- the loop

pub none_left : (w l : List ℕ) (i e : ℕ) → e ≤ i → any (name_met w) (part l i e) ≡ false
unfolding any
none_left w l i e h = rw (part_nil l i e h)

module _ (w l : List ℕ) (i e x : ℕ) (h : i < e) (b : e ≤ length l) (c : x ≡ get_or l i 0) where
  -- an entry that has no name
  pub past_none : no_name ≤ x % last_flag → any (name_met w) (part l i e) ≡ any (name_met w) (part l (i + 1) e)
  unfolding any name_met
  past_none d = rw (part_cons l i e h b, ← c, le-ltb (x % last_flag) no_name d)

  -- one whose name is not met, and one whose name is
  pub past_unmet : (y : ℕ) → x % last_flag < no_name → y ≡ get_or w (x % last_flag) 0 → y ≡ 0
      → any (name_met w) (part l i e) ≡ any (name_met w) (part l (i + 1) e)
  unfolding any name_met is_met
  past_unmet y d f z = rw (part_cons l i e h b, ← c, lt-ltb (x % last_flag) no_name d, ← f, le-ltb 0 y (omega arith))

  pub at_met : (y : ℕ) → x % last_flag < no_name → y ≡ get_or w (x % last_flag) 0 → (y ≡ 0 → ⊥) → any (name_met w) (part l i e) ≡ true
  unfolding any name_met is_met
  at_met y d f z = rw (part_cons l i e h b, ← c, lt-ltb (x % last_flag) no_name d, ← f, lt-ltb 0 y (omega (arith, z)))

-- ---- its answer

number_met : (w : List ℕ) (x : ℕ) → any (is_met w) (entry_number x) ≡ name_met w x
unfolding entry_number name_met any
number_met w x = go (ltb (x % last_flag) no_name)
  where
    go : (b : Bool) → any (is_met w) (cond b (x % last_flag ∷ []) []) ≡ (b && is_met w (x % last_flag))
    go true = or-false (is_met w (x % last_flag))
    go false = refl

front_met : (test : ℕ → Bool) (ns : List ℕ) (ds : List (List ℕ)) → any (any test) (before_first ns ds) ≡ (any test ns || any (any test) ds)
unfolding before_first any
front_met test ns [] = refl
front_met test ns (d ∷ ds) = rw (any_append test ns d, or_assoc (any test ns) (any test d) (any (any test) ds))

-- a name of the disjuncts of entries is met where that of an entry is
pub any_exact : (w ws : List ℕ) → any (name_met w) ws ≡ any (any (is_met w)) (disjuncts_of_words ws)
unfolding disjuncts_of_words any
any_exact w [] = refl
any_exact w (x ∷ xs) = sym (go (ltb x last_flag) ∙ rw (number_met w x, any_exact w xs))
  where
    go : (b : Bool)
        → any (any (is_met w)) (cond b (before_first (entry_number x) (disjuncts_of_words xs)) (entry_number x ∷ disjuncts_of_words xs))
        ≡ (any (is_met w) (entry_number x) || any (any (is_met w)) (disjuncts_of_words xs))
    go true = front_met (is_met w) (entry_number x) (disjuncts_of_words xs)
    go false = refl

-- ---- the test of a record

module _ (recs lists : List ℕ) (a : Asked) (w : List ℕ) (i : ℕ) {p : Bool} (taking : p ≡ takes_part recs (ask_of recs a) i) where
  -- it does not take part
  pub not_taken : p ≡ false → false ≡ adds_at recs lists a w i
  unfolding adds_at
  not_taken e = rw (← taking, e)

  module _ (taken : p ≡ true) {r : Bool} (kept : r ≡ retained recs a i) where
    -- it is not retainable
    pub not_retained : r ≡ false → false ≡ adds_at recs lists a w i
    unfolding adds_at
    not_retained e = rw (← taking, taken, ← kept, e)

    module _ (retainable : r ≡ true) (v : ℕ) (word : v ≡ get_or w (reached_column + i) 0) where
      -- it is reached
      pub is_there : (v ≡ 0 → ⊥) → false ≡ adds_at recs lists a w i
      unfolding adds_at is_reached
      is_there d = rw (← taking, taken, ← kept, retainable, ← word, lt-ltb 0 v (omega (arith, d)))

      module _ (new : v ≡ 0) (x y : ℕ) (start : x ≡ entries_start recs i) (end : y ≡ entries_end recs i) {m : Bool}
          (met : m ≡ any (name_met w) (part lists (entries_base + x) (entries_base + y))) where
        -- no name of its entries is met
        pub none_met : m ≡ false → false ≡ adds_at recs lists a w i
        unfolding adds_at is_reached
        none_met e = rw (← taking, taken, ← kept, retainable, ← word, le-ltb 0 v (omega arith), ← start, ← end, ← met, e)

        -- it fires or not
        pub by_firing : {f : Bool} → m ≡ true → f ≡ fires_in w true (part lists (entries_base + x) (entries_base + y)) → f ≡ adds_at recs lists a w i
        unfolding adds_at is_reached
        by_firing e g = g ∙ rw (← taking, taken, ← kept, retainable, ← word, le-ltb 0 v (omega arith), ← start, ← end, ← met, e)

-- by the disjuncts
pub adds_exact : {names recs lists : List ℕ} {k : Counts} (laid : Laid names recs lists k) (a : Asked) (w : List ℕ) (i : ℕ) → i < k.records
    → {b : Bool} → b ≡ adds_at recs lists a w i → b ≡ joins (held_of names recs lists k a) w i
unfolding adds_at joins fires_now fires_on held_of
adds_exact {recs = recs} {lists} laid a w i l e =
    e ∙ rw (any_exact w (entries_at recs lists i), fires_exact w (entries_at recs lists i) (laid.entry_words i l).closed)
