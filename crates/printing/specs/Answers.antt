-- The outcome that an answer and a result slice tell, and the place of a line in its printed lists.
use Rattle.std.specs.Prelude.{ℕ, ◌+◌, ◌≤◌, ◌<◌, ◌≡◌, length, take, get_or}
use mathlib.Core.List.{List, Memᴰ}
use Rattle.model.specs.Lists.{sum}
use Rattle.model.specs.Reading.{most_asks}
use Rattle.model.specs.Outcome.{Position, Outcome, refusal_at, lists, answer, result_after}
use Rattle.model.specs.Text.{printed}
use Rattle.model.specs.declared.Answer.{Answer}
use Rattle.model.specs.declared.Swept.{Swept}
use Rattle.printing.specs.declared.Line.{Line}

-- each position of an outcome has a round
abbrev pub EachRound : Outcome → Type 0
EachRound (refusal_at r place) = Unit {0}
EachRound (lists ps) = (p : Position) → Memᴰ p ps → 1 ≤ p.rounds

-- an answer and a result slice tell an outcome: its fields, and its lists, which change nothing in the slice if written again
pub record Told (a : Answer) (out : List ℕ) (o : Outcome) : Type 0 where
  pub answered : a ≡ answer o
  pub listed : result_after o out ≡ out
  pub turned : EachRound o

-- they tell one whose printed form has a line at this place, from 0
abbrev pub LineTold : List ℕ → Answer → List ℕ → ℕ → Type 0
LineTold file a out j = (o : Outcome) × Told a out o × (j < length (printed file o))

-- each position of an outcome has a pass, and there is none past the last
abbrev pub EachPass : Outcome → List ℕ → Type 0
EachPass (refusal_at r place) passes = Unit {0}
EachPass (lists ps) passes = (i : ℕ) → (i < length ps → 1 ≤ get_or passes i 0) × (length ps ≤ i → get_or passes i 0 ≡ 0)

-- an answer of the sweep and a result slice tell an outcome: its fields but for the visits and rounds, its lists, and passes
pub record SweptTold (a : Swept) (out : List ℕ) (o : Outcome) : Type 0 where
  pub verdict : a.verdict ≡ (answer o).verdict
  pub place : a.place ≡ (answer o).place
  pub kept : a.kept ≡ (answer o).kept
  pub listed : result_after o out ≡ out
  pub passed : EachPass o a.passes

-- a line of the printed lists by its place, from the counts of the lists: behind those of the lists before, each with its sum
pub record FoundLine (kept : List ℕ) (j : ℕ) (l : Line) : Type 0 where
  pub starts : l.start ≡ sum (take l.position kept)
  pub place : j ≡ l.start + l.position + l.index
  pub within : l.index ≤ get_or kept l.position 0
  pub inside : l.position < most_asks
