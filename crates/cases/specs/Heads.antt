-- The head line of a case.
use Rattle.std.specs.Prelude.{ℕ, ◌≡◌, List, ◌∷◌, ◌++◌}

-- bytes that begin with a call and the name of a case, a byte behind each
abbrev pub BeginsWith : List ℕ → List ℕ → List ℕ → Type 0
BeginsWith line call name = (y z : ℕ) × (rest : List ℕ) × (line ≡ call ++ (y ∷ (name ++ (z ∷ rest))))
