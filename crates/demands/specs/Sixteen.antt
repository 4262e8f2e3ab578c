-- Document 02, Change 7, of the answer's counts and of the result slice: a count of each sort for each ask, "Positions past the
-- last give counts of 0", the lists "end to end".
use Rattle.std.specs.Prelude.{ℕ, ◌≤◌, ◌≡◌, List, length, get_or, take, drop}
use Rattle.model.specs.Lists.{sum}
use Rattle.model.specs.Reading.{Ask, State}
use Rattle.model.specs.Outcome.{Lent, Position, lists, position, outcome, answer, result_after}
use Rattle.model.specs.declared.Answer.{Answer}
use Rattle.demands.specs.LinesRead.{LinesRead, At}

-- there are sixteen counts of each sort
pub record Sixteen (a : Answer) : Type 0 where
  pub kept : length a.kept ≡ 16
  pub visits : length a.visits ≡ 16
  pub rounds : length a.rounds ≡ 16

abbrev pub AnswerSixteen : Type 0
AnswerSixteen = (file : List ℕ) (works : List Lent) (room : ℕ) → Sixteen (answer (outcome file works room))

-- an answer and a result slice tell at a place what an ask comes to: its counts there, its list behind those before it
pub record ToldAt (a : Answer) (out : List ℕ) (i : ℕ) (p : Position) : Type 0 where
  pub kept : get_or a.kept i 0 ≡ length p.kept
  pub visits : get_or a.visits i 0 ≡ p.visits
  pub rounds : get_or a.rounds i 0 ≡ p.rounds
  pub list : take (get_or a.kept i 0) (drop (sum (take i a.kept)) out) ≡ p.kept

-- every position is told so
abbrev pub EachTold : Type 0
EachTold =
    (ps : List Position) (i : ℕ) (p : Position) (out : List ℕ) → At ps i p
    → ToldAt (answer (lists ps)) (result_after (lists ps) out) i p

-- an accepted file's asks are told in the order of their lines
abbrev pub AsksTold : Type 0
AsksTold =
    (file : List ℕ) (works : List Lent) (room : ℕ) (ps : List Position) (s : State)
    → outcome file works room ≡ lists ps → LinesRead file s
    → (i : ℕ) (a : Ask) (out : List ℕ) → At s.asks i a
    → ToldAt (answer (lists ps)) (result_after (lists ps) out) i (position s.decls s.roots a)

-- "Positions past the last give counts of 0"
pub record NoneTold (a : Answer) (i : ℕ) : Type 0 where
  pub kept : get_or a.kept i 0 ≡ 0
  pub visits : get_or a.visits i 0 ≡ 0
  pub rounds : get_or a.rounds i 0 ≡ 0

abbrev pub PastLast : Type 0
PastLast = (ps : List Position) (i : ℕ) → length ps ≤ i → NoneTold (answer (lists ps)) i
