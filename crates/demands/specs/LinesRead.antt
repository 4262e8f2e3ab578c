-- What the theorems are about: every accepted file, and every ask over it.
use Rattle.std.specs.Prelude.{ℕ, ◌≡◌, length}
use mathlib.Core.List.{List, [], ◌∷◌, ◌++◌, Memᴰ}
use Rattle.model.specs.Summaries.{exclude_names}
use Rattle.model.specs.Reading.{Ask, Summary, State, read, read_file}
use Rattle.model.specs.Rounds.{background}

-- reading the file ends in this state
abbrev pub LinesRead : List ℕ → State → Type 0
LinesRead file s = read_file exclude_names file ≡ read s

-- the records of a file that was read which an ask has to do with: document 02, Change 13, not the facts that it does not admit
abbrev pub records_for : Ask → State → List Summary
records_for a s = background a s.decls

-- an element stands at this place of a list, counted from 0
pub record At {A : Type 0} (l : List A) (i : ℕ) (x : A) : Type 0 where
  pub before : List A
  pub after : List A
  pub are : l ≡ before ++ (x ∷ after)
  pub place : length before ≡ i

-- as many elements in one list as in the other, related one by one
pub data Pairwise {A B : Type 0} (R : A → B → Type 0) : List A → List B → Type 0 where
  ends : Pairwise R [] []
  pair : {a : A} {b : B} {l : List A} {m : List B} → R a b → Pairwise R l m → Pairwise R (a ∷ l) (b ∷ m)

-- a list that holds nothing twice
pub data Distinct {A : Type 0} : List A → Type 0 where
  none : Distinct []
  one_more : {a : A} {l : List A} → (Memᴰ a l → ⊥) → Distinct l → Distinct (a ∷ l)
