-- What `ok_or` makes of an answer that is none where there is no room.
use mathlib.Core.Path.{◌≡◌, refl, sym, ◌∙◌}
use Rattle.std.specs.Option.{ok_or}
use Rattle.std.specs.Prelude.{ℕ, Option, None, Some, Result, Ok, Err, IsErrAnd}
use native.Mathlib.Omega.{arith}

module _ {A E : Type 0} where
  -- an error is no value
  err_no_ok : {x : E} {a : A} → ◌≡◌ {A = Result A E} (Err x) (Ok a) → ⊥
  err_no_ok e = let z : ◌≡◌ {A = ℕ} 0 1 = cc in omega arith

  -- a value was there
  pub room_some : (o : Option A) (x : E) {r : Result A E} {a : A} → r ≡ ok_or o x → r ≡ Ok a → o ≡ Some a
  room_some None x p q = absurd (err_no_ok (sym p ∙ q))
  room_some (Some b) x {a = a} p q =
      let e : ◌≡◌ {A = Result A E} (Ok b) (Ok a) = sym p ∙ q in
      cc

  -- an error is the one that was named, and there was no value
  pub room_none : (o : Option A) (x : E) {r : Result A E} {y : E} → r ≡ ok_or o x → r ≡ Err y → (o ≡ None) × (y ≡ x)
  room_none None x {y = y} p q =
      let e : ◌≡◌ {A = Result A E} (Err y) (Err x) = sym q ∙ p in
      (refl, cc)
  room_none (Some b) x p q = absurd (err_no_ok (sym q ∙ p))

  -- what a `?` returns is the error
  pub err_is : {r : Result A E} {x : E} → IsErrAnd r (λ y. y ≡ x) → r ≡ Err x
  err_is {r = Ok a} h = absurd h
  err_is {r = Err y} h = rw h
