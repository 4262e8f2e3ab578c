-- The program's call: over slices that are long enough for every accepted file.
use Rattle.std.specs.Prelude.{ℕ, ◌≡◌, List, length, replicate}
use Rattle.model.specs.Outcome.{Lent, working, working_words, outcome}
use Rattle.model.specs.declared.Answer.{Answer}
use Rattle.front.specs.Demand.{verdict_number}
use Rattle.filter.specs.Call.{Gives}

-- the six working slices that the program lends
abbrev pub own_slices : List Lent
own_slices = replicate 6 (working working_words)

-- the answer and the result slice are those of a call over these, and no slice was too short: neither 7 nor 8
pub record Filters (file out : List ℕ) (a : Answer) (out' : List ℕ) : Type 0 where
  pub gives : Gives (outcome file own_slices (length out)) out a out'
  pub never_7 : verdict_number a.verdict ≡ 7 → ⊥
  pub never_8 : verdict_number a.verdict ≡ 8 → ⊥
