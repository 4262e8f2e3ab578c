-- Laws of the cases: what a line begins with, the bytes begin with that it is the start of.
use Prim.Native.Nat.{ℕ}
use mathlib.Core.Path.{sym, ◌∙◌, ap}
use mathlib.Core.List.{List, ◌∷◌, ◌++◌}
use lib.ListN.{take, drop}
use Rattle.std.proofs.lemmas.List.{take-append-drop, append_assoc}
use Rattle.cases.specs.Heads.{BeginsWith}

pub begins_on : (bytes : List ℕ) (n : ℕ) (call name : List ℕ) → BeginsWith (take n bytes) call name → BeginsWith bytes call name
begins_on bytes n call name (y, z, rest, e) = (
  y,
  z,
  rest ++ drop n bytes,
  sym (take-append-drop n bytes) ∙ ap (λ xs. xs ++ drop n bytes) e ∙ append_assoc call (y ∷ (name ++ (z ∷ rest))) (drop n bytes)
      ∙ ap (λ xs. call ++ (y ∷ xs)) (append_assoc name (z ∷ rest) (drop n bytes)),
)
