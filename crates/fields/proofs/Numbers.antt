-- Laws of a number that only one form of the file has.
use Prim.Native.Nat.{ℕ, ◌≤◌}
use mathlib.Core.Path.{◌≡◌, refl, ap}
use mathlib.Core.Bool.{Bool, true, false, cond}
use mathlib.Core.List.{List}
use native.Mathlib.Omega.{arith}
use Rattle.model.specs.Reading.{ok, next, number_field}
use Rattle.text.specs.declared.Cursor.{Cursor}
use Rattle.text.specs.Parts.{Placed, fields_left, number_result}
use Rattle.text.proofs.Laws.{number_law, number_next}
use Rattle.fields.specs.Wording.{number_or}

module _ {file : List ℕ} {c : Cursor} (p : Placed file c) (limit other : ℕ) where
  -- the next field and the fields after it, or the other number and every field
  pub number_or_field : (stands : Bool) → number_result file (number_or stands limit other file c)
      ≡ cond stands (next (number_field limit) (fields_left file c)) (ok (other, fields_left file c))
  unfolding number_or number_result
  number_or_field true = number_law file c p limit
  number_or_field false = refl

  -- the cursor behind it
  pub number_or_placed : (stands : Bool) {v : ℕ} {n : Cursor} → number_or stands limit other file c ≡ ok (v, n) → Placed file n
  unfolding number_or
  number_or_placed true {v} {n} e = (number_next file c p limit v n e).0.placed
  number_or_placed false {v} {n} e = let pair : ◌≡◌ {A = ℕ × Cursor} (other, c) (v, n) = cc in rw (ap (λ (q : ℕ × Cursor). q.1) pair) at p

  -- it is at most its limit, where the other number is
  pub number_or_most : (stands : Bool) {v : ℕ} {n : Cursor} → number_or stands limit other file c ≡ ok (v, n) → other ≤ limit → v ≤ limit
  unfolding number_or
  number_or_most true {v} {n} e h = (number_next file c p limit v n e).1
  number_or_most false {v} {n} e h = let pair : ◌≡◌ {A = ℕ × Cursor} (other, c) (v, n) = cc in omega (arith, ap (λ (q : ℕ × Cursor). q.0) pair)
