-- Which records an ask retains, and with which an engine starts.
use Prim.Native.Nat.{ℕ}
use mathlib.Core.Path.{◌≡◌, sym, ◌∙◌, ap}
use mathlib.Core.Bool.{Bool, true, false, not, ◌&&◌}
use mathlib.Core.List.{List}
use borrow.Author.Tests.{eq-eqb, ne_eqb}
use Rattle.model.specs.Reading.{no_ambients, pretyping_axioms}
use Rattle.model.specs.Rounds.{asks_for}
use Rattle.model.specs.declared.Asked.{Asked}
use Rattle.records.specs.Columns.{record_kind, record_flag, summary_code, root_kind, code_of}
use Rattle.records.specs.States.{takes_part, ask_of}
use Rattle.firing.specs.Tables.{starts_at, retained}

-- whether a record is retainable
pub flag_off : (recs : List ℕ) (a : Asked) (i x : ℕ) → x ≡ record_flag recs i → (x ≡ 1 → ⊥) → true ≡ retained recs a i
unfolding retained
flag_off recs a i x e d = rw (← e, ne_eqb x 1 d)

pub flag_on : (recs : List ℕ) (a : Asked) (i x : ℕ) (b : Bool) → x ≡ record_flag recs i → x ≡ 1 → b ≡ pretyping_axioms (ask_of recs a) → b ≡ retained recs a i
unfolding retained
flag_on recs a i x b e d o = rw (← e, eq-eqb x 1 d, o)

module _ (recs : List ℕ) (a : Asked) (i x : ℕ) (e : x ≡ record_kind recs i) where
  pub starts_root : (y : ℕ) → {b : Bool} → x ≡ root_kind → y ≡ record_flag recs i → b ≡ asks_for (ask_of recs a) y → b ≡ starts_at recs a i
  unfolding starts_at
  starts_root y p q f = f ∙ rw (← e, eq-eqb x root_kind p, q)

  pub starts_no : (y : ℕ) → (x ≡ root_kind → ⊥) → y ≡ summary_code recs i → (y ≡ 2 → ⊥) → false ≡ starts_at recs a i
  unfolding starts_at code_of
  starts_no y p q d = rw (← e, ne_eqb x root_kind p, ← q, ne_eqb y 2 d)

  -- an ambient root by whether it takes part
  by_part : (y : ℕ) {b : Bool} → (x ≡ root_kind → ⊥) → y ≡ summary_code recs i → y ≡ 2 → b ≡ takes_part recs (ask_of recs a) i
      → (b && not (no_ambients (ask_of recs a))) ≡ starts_at recs a i
  unfolding starts_at code_of
  by_part y p q d f = rw (← e, ne_eqb x root_kind p, ← q, eq-eqb y 2 d, ← f)

  pub starts_apart : (y : ℕ) {b : Bool} → (x ≡ root_kind → ⊥) → y ≡ summary_code recs i → y ≡ 2 → b ≡ takes_part recs (ask_of recs a) i
      → b ≡ false → false ≡ starts_at recs a i
  starts_apart y p q d f g = by_part y p q d (sym g ∙ f)

  pub starts_ambient : (y : ℕ) {b : Bool} (off : Bool) → (x ≡ root_kind → ⊥) → y ≡ summary_code recs i → y ≡ 2
      → b ≡ takes_part recs (ask_of recs a) i → b ≡ true → off ≡ no_ambients (ask_of recs a) → not off ≡ starts_at recs a i
  starts_ambient y off p q d f g o = ap not o ∙ by_part y p q d (sym g ∙ f)
