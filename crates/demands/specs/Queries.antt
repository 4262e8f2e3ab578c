-- "Two accepted files that differ, line for line, only in root lines of other queries give the same kept lines .., visits
-- and rounds.": of each ask, by the queries other than its own.
use Rattle.std.specs.Prelude.{ℕ, ◌≡◌, Some as some}
use mathlib.Core.List.{List, [], ◌∷◌, Memᴰ}
use Rattle.model.specs.Names.{bytes}
use Rattle.model.specs.Lines.{Line, lines, Field, fields, number}
use Rattle.model.specs.Reading.{Ask, State}
use Rattle.model.specs.Outcome.{Position, position, filtered}
use Rattle.demands.specs.LinesRead.{LinesRead, At}

-- a root line of a query that is none of the ask's
pub record OtherRoot (a : Ask) (line : Line) : Type 0 where
  pub query_field : Field
  pub rest : List Field
  pub is_root : fields line.bytes ≡ bytes "root" ∷ query_field ∷ rest
  pub query : ℕ
  pub is_query : number query_field ≡ some query
  pub other : Memᴰ query a.queries → ⊥

-- lines that differ, line for line, only in root lines of queries other than the ask's
pub data Alike (a : Ask) : List Line → List Line → Type 0 where
  end : Alike a [] []
  same : {line : Line} {ls ms : List Line} → Alike a ls ms → Alike a (line ∷ ls) (line ∷ ms)
  roots : {l m : Line} {ls ms : List Line}
      → OtherRoot a l → OtherRoot a m → Alike a ls ms → Alike a (l ∷ ls) (m ∷ ms)

-- an ask has the same list over both files, in order, the same visits and the same rounds; and they ask the same
pub record AnsweredAlike (a : Ask) (s s' : State) : Type 0 where
  pub asks : s.asks ≡ s'.asks
  pub listed : position s.decls s.roots a ≡ position s'.decls s'.roots a

abbrev pub OtherQueriesDoNotMatter : Type 0
OtherQueriesDoNotMatter =
    (file file' : List ℕ) (s s' : State) → LinesRead file s → LinesRead file' s'
    → (a : Ask) → Alike a (lines file) (lines file') → AnsweredAlike a s s'

-- so at each place two files that differ in root lines of queries other than the ask's there answer the same
abbrev pub FilteredAlike : Type 0
FilteredAlike =
    (file file' : List ℕ) (s s' : State) → LinesRead file s → LinesRead file' s'
    → (i : ℕ) (a : Ask) → At s.asks i a → Alike a (lines file) (lines file')
    → (p : Position) × At (filtered s) i p × At (filtered s') i p
