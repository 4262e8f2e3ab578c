-- Document 01, F10: the name that is printed of a kept line is that of its record.
use Rattle.std.specs.Prelude.{ℕ, ◌≡◌}
use mathlib.Core.List.{List, Memᴰ}
use Rattle.model.specs.Summaries.{Fact}
use Rattle.model.specs.Reading.{Decl, State}
use Rattle.model.specs.Rounds.{facts, definitions, declarations}
use Rattle.model.specs.Text.{name_on}
use Rattle.demands.specs.LinesRead.{LinesRead}

-- the second field of the line of each record is its name
pub record NamesOnLines (file : List ℕ) (s : State) : Type 0 where
  pub of_fact : (f : Fact) → Memᴰ f (facts s.decls) → name_on file f.line ≡ f.name
  pub of_definition : (d : Decl) → Memᴰ d (definitions s.decls) → name_on file d.line ≡ d.name
  pub of_declaration : (d : Decl) → Memᴰ d (declarations s.decls) → name_on file d.line ≡ d.name

abbrev pub PrintedNames : Type 0
PrintedNames = (file : List ℕ) (s : State) → LinesRead file s → NamesOnLines file s
