-- The tests of a row: whether a record lists a name, and whether a row is due.
use Prim.Native.Nat.{ℕ, ◌+◌, ◌%◌, ◌≤◌, ◌<◌}
use native.Mathlib.Omega.{arith}
use mathlib.Core.Path.{◌≡◌, sym, ◌∙◌, ap}
use mathlib.Core.Bool.{Bool, true, false, ◌&&◌, and-true, and-false}
use mathlib.Core.List.{List, ◌∷◌}
use lib.Dec.{T, leb, eqb}
use lib.ListN.{length, get_or}
use borrow.Author.Tests.{eq-eqb, ne_eqb, lt-ltb, le-ltb, le-leb, lt-leb}
use Rattle.model.specs.Lists.{any, part}
use Rattle.model.specs.declared.Counts.{Counts}
use Rattle.model.proofs.ListLaws.{T_and}
use Rattle.model.proofs.PartLaws.{part_cons, part_nil}
use Rattle.triggers.specs.Entries.{entries_base, last_flag}
use Rattle.records.specs.Columns.{entries_start, entries_end}
use Rattle.firing.specs.Tables.{Laid}
use Rattle.firing.specs.Met.{reached_column, is_met}
use Rattle.reasons.specs.Rows.{lists_name, row_due, EntriesIn}

-- ---- the entries

-- whether one of the entries from j up to e has the name
unfoldable pub listed_from : List ℕ → ℕ → ℕ → ℕ → Bool
listed_from lists n j e = any (λ x. eqb (x % last_flag) n) (part lists (entries_base + j) (entries_base + e))

pub listed_start : (recs lists : List ℕ) (i n : ℕ) {a e : ℕ} → a ≡ entries_start recs i → e ≡ entries_end recs i
    → lists_name recs lists i n ≡ listed_from lists n a e
unfolding lists_name listed_from
listed_start recs lists i n p q = rw (p, q)

module _ (lists : List ℕ) (n j e x : ℕ) (h : j < e) (room : entries_base + e ≤ length lists) (p : x ≡ get_or lists (entries_base + j) 0) where
  -- the first of them
  first_entry : listed_from lists n j e ≡ any (λ y. eqb (y % last_flag) n) (x ∷ part lists (entries_base + (j + 1)) (entries_base + e))
  unfolding listed_from
  first_entry =
      let next : entries_base + j + 1 ≡ entries_base + (j + 1) = omega arith in
      ap (any (λ y. eqb (y % last_flag) n))
      (part_cons lists (entries_base + j) (entries_base + e) (omega arith) room
      ∙ ap (λ (y : ℕ). y ∷ part lists (entries_base + j + 1) (entries_base + e)) (sym p)
      ∙ ap (λ (y : ℕ). x ∷ part lists y (entries_base + e)) next)

  pub listed_here : x % last_flag ≡ n → listed_from lists n j e ≡ true
  unfolding any
  listed_here d = first_entry ∙ rw (eq-eqb (x % last_flag) n d)

  pub listed_next : (x % last_flag ≡ n → ⊥) → listed_from lists n j e ≡ listed_from lists n (j + 1) e
  unfolding any listed_from
  listed_next d = first_entry ∙ rw (ne_eqb (x % last_flag) n d)

pub listed_end : (lists : List ℕ) (n j e : ℕ) → e ≤ j → listed_from lists n j e ≡ false
unfolding listed_from any
listed_end lists n j e h = rw (part_nil lists (entries_base + j) (entries_base + e) (omega arith))

-- the entries of a record of the tables can be read
pub entries_in : {names recs lists : List ℕ} {k : Counts} {i : ℕ} → Laid names recs lists k → i < k.records → EntriesIn recs lists i
entries_in {i = i} x h = record {
  record_room = x.record_room;
  list_room = x.list_room;
  low = omega (arith, x.few_records);
  high = (x.entry_place i h).1;
}

-- ---- a row

module _ (recs lists run : List ℕ) (i n met : ℕ) (e : met ≡ get_or run n 0) where
  pub due_unmet : met ≡ 0 → false ≡ row_due recs lists run i n
  unfolding row_due is_met
  due_unmet z = rw (← e, le-ltb 0 met (omega arith), and-false (lists_name recs lists i n))

  module _ (d : met ≡ 0 → ⊥) (x : ℕ) (q : x ≡ get_or run (reached_column + i) 0) where
    pub due_late : x < met → false ≡ row_due recs lists run i n
    unfolding row_due is_met
    due_late h = rw (← e, lt-ltb 0 met (omega (arith, d)), ← q, lt-leb met x h, and-false (lists_name recs lists i n))

    pub due_listed : met ≤ x → {b : Bool} → b ≡ lists_name recs lists i n → b ≡ row_due recs lists run i n
    unfolding row_due is_met
    due_listed h p = rw (← e, lt-ltb 0 met (omega (arith, d)), ← q, le-leb met x h, and-true (lists_name recs lists i n)) p

-- a row is due only for a name that is met
pub due_met : (recs lists run : List ℕ) (i n : ℕ) → T (row_due recs lists run i n) → T (is_met run n)
unfolding row_due
due_met recs lists run i n t =
    ((T_and (is_met run n) (leb (get_or run n 0) (get_or run (reached_column + i) 0))).0
    ((T_and (lists_name recs lists i n) (is_met run n && leb (get_or run n 0) (get_or run (reached_column + i) 0))).0 t).1).0
