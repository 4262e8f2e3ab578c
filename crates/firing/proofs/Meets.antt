-- What the functions that meet names cite.
use Prim.Native.Nat.{ℕ, ◌+◌, ◌-◌, ◌≤◌, ◌<◌}
use native.Mathlib.Omega.{arith}
use mathlib.Core.Path.{◌≡◌, sym, ◌∙◌, ap}
use mathlib.Core.List.{List, ◌∷◌}
use lib.ListN.{length, get_or, set}
use borrow.Author.Tests.{eq-eqb, ne_eqb, lt-ltb, le-ltb}
use Rattle.model.specs.Lists.{collect, part}
use Rattle.model.specs.Reading.{most_names, most_uses}
use Rattle.model.specs.declared.Counts.{Counts}
use Rattle.model.proofs.PartLaws.{part_cons, part_nil}
use Rattle.records.specs.Columns.{uses_start, uses_end, macro_at}
use Rattle.records.specs.States.{uses_at}
use Rattle.macros.specs.Macros.{opened_word, opens_at}
use Rattle.firing.specs.Tables.{Laid}
use Rattle.firing.specs.Met.{mark, marks}
use Rattle.firing.specs.Firing.{opened_all}
use Rattle.firing.proofs.Marks.{mark_length, marks_nil, marks_cons, marks_append, marks_length}

-- ---- one name

pub mark_set : (r : ℕ) (w : List ℕ) (n x : ℕ) → x ≡ get_or w n 0 → x ≡ 0 → set w n r ≡ mark r w n
unfolding mark
mark_set r w n x e z = rw (eq-eqb (get_or w n 0) 0 (sym e ∙ z))

pub mark_stay : (r : ℕ) (w : List ℕ) (n x : ℕ) → x ≡ get_or w n 0 → (x ≡ 0 → ⊥) → w ≡ mark r w n
unfolding mark
mark_stay r w n x e d = rw (ne_eqb (get_or w n 0) 0 (λ z. d (e ∙ z)))

-- ---- a part of the uses

-- from place i on there is left what from the start there was
pub record Met (l w₀ : List ℕ) (a e r : ℕ) (w : List ℕ) (i : ℕ) : Type 0 where
  pub same_length : length w ≡ length w₀
  pub left : marks r w₀ (part l a e) ≡ marks r w (part l i e)

module _ {l w₀ : List ℕ} {a e r : ℕ} where
  pub meet_next : {w v : List ℕ} {i x : ℕ} → Met l w₀ a e r w i → i < e → e ≤ length l → x ≡ get_or l i 0 → v ≡ mark r w x → Met l w₀ a e r v (i + 1)
  meet_next {w} {v} {i} {x} m h b c d =
      record {
        same_length = ap length d ∙ mark_length r w x ∙ m.same_length;
        left = m.left ∙ rw (part_cons l i e h b, marks_cons, ← c, ← d);
      }

  pub meet_end : {w : List ℕ} {i : ℕ} → Met l w₀ a e r w i → e ≤ i → w ≡ marks r w₀ (part l a e)
  meet_end {w} {i} m h = sym (m.left ∙ rw (part_nil l i e h, marks_nil))

-- ---- a macro's word

pub open_none : (r : ℕ) (w recs lists : List ℕ) (m x : ℕ) → m ≡ x → m ≡ 0 → w ≡ marks r w (opens_at recs lists x)
unfolding opens_at
open_none r w recs lists m x e z = rw (eq-eqb x 0 (sym e ∙ z), marks_nil)

pub open_record : (r : ℕ) (w v recs lists : List ℕ) (m x a k : ℕ) → m ≡ x → (m ≡ 0 → ⊥) → m < opened_word → a ≡ uses_start recs (m - 1)
    → k ≡ uses_end recs (m - 1) → v ≡ marks r w (part lists a k) → v ≡ marks r w (opens_at recs lists x)
unfolding opens_at
open_record r w v recs lists m x a k e d l p q s = rw (← e, ne_eqb m 0 d, lt-ltb m opened_word l, ← p, ← q) s

pub open_name : (r : ℕ) (w v recs lists : List ℕ) (m x : ℕ) → m ≡ x → opened_word ≤ m → v ≡ mark r w (m - opened_word) → v ≡ marks r w (opens_at recs lists x)
unfolding opens_at
open_name r w v recs lists m x e l s = rw (← e, ne_eqb m 0 (λ z. omega arith), le-ltb m opened_word l, marks_cons, marks_nil) s

module _ {names recs lists : List ℕ} {k : Counts} (laid : Laid names recs lists k) (n m : ℕ) (l : n < k.names) (e : m ≡ macro_at names n) where
  -- where the free names of a macro's record stand
  pub open_place : (a z : ℕ) → (m ≡ 0 → ⊥) → m < opened_word → a ≡ uses_start recs (m - 1) → z ≡ uses_end recs (m - 1)
      → (a ≤ z) × (z ≤ most_uses) × ((j : ℕ) → a ≤ j → j < z → get_or lists j 0 < k.names)
  open_place a z d s p q =
      let x = laid.macro_record n l (omega arith) in
      let y : m - 1 < k.records = omega (arith, d) in
      let u = laid.use_place (m - 1) y in
      (omega arith, omega arith, λ j b t. laid.use_small (m - 1) j y (omega arith) (omega arith))

  pub open_small : opened_word ≤ m → m - opened_word < most_names
  open_small s = let x = laid.macro_name n l (omega arith) in let y = laid.few_names in omega arith

-- ---- the free names of a record

-- from place i on there is left what from the start there was
pub record MetAll (opens : ℕ → List ℕ) (l w₀ : List ℕ) (a e r : ℕ) (w : List ℕ) (i : ℕ) : Type 0 where
  pub same_length : length w ≡ length w₀
  pub left : marks r w₀ (opened_all opens (part l a e)) ≡ marks r w (opened_all opens (part l i e))

module _ {opens : ℕ → List ℕ} {l w₀ : List ℕ} {a e r : ℕ} where
  pub all_next : {w v u : List ℕ} {i x : ℕ} → MetAll opens l w₀ a e r w i → i < e → e ≤ length l → x ≡ get_or l i 0 → v ≡ mark r w x
      → u ≡ marks r v (opens x) → MetAll opens l w₀ a e r u (i + 1)
  unfolding opened_all collect
  all_next {w} {v} {u} {i} {x} m p b c d f =
      record {
        same_length = ap length f ∙ marks_length r v (opens x) ∙ ap length d ∙ mark_length r w x ∙ m.same_length;
        left = m.left
            ∙ rw (
              part_cons l i e p b,
              marks_cons,
              marks_append r (mark r w (get_or l i 0)) (opens (get_or l i 0)) (collect (λ n. n ∷ opens n) (part l (i + 1) e)),
              ← c,
              ← d,
              ← f,
            );
      }

  pub all_end : {w : List ℕ} {i : ℕ} → MetAll opens l w₀ a e r w i → e ≤ i → w ≡ marks r w₀ (opened_all opens (part l a e))
  unfolding opened_all collect
  all_end {w} {i} m p = sym (m.left ∙ rw (part_nil l i e p, marks_nil))

-- the free names of a record are all met
pub uses_met : (opens : ℕ → List ℕ) (r : ℕ) (w₀ w recs lists : List ℕ) (i a e : ℕ) → a ≡ uses_start recs i → e ≡ uses_end recs i
    → w ≡ marks r w₀ (opened_all opens (part lists a e)) → w ≡ marks r w₀ (opened_all opens (uses_at recs lists i))
uses_met opens r w₀ w recs lists i a e p q m = rw (← p, ← q) m
