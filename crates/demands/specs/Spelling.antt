-- Document 02, Changes 2 and 9, of every accepted file: names are numbered "in order of first spelling from 0", and "A trimmed token
-- not spelled before takes its number after the names of its fact's line".
use Rattle.std.specs.Prelude.{ℕ, ◌≡◌, List, ◌++◌, map, length}
use Rattle.model.specs.Lists.{collect}
use Rattle.model.specs.Names.{Name}
use Rattle.model.specs.Lines.{lines}
use Rattle.model.specs.Reading.{State}
use Rattle.model.specs.Kept.{first_met}
use Rattle.demands.specs.LinesRead.{LinesRead}
use Rattle.demands.specs.FileOrder.{Said, numbers_from}
use Rattle.demands.specs.Counts.{name_fields, token_trimmed}

-- the names of a line: those that it spells, left to right, and after them the token that rule 4 trims
abbrev pub names_on : {file : List ℕ} → Said file → List Name
names_on l = name_fields l.line.state.grouped l.line.line ++ token_trimmed l.line l.content

-- the names of a file that was read, in the order of their numbers: those of its lines, each where it first stands
pub record SpelledInOrder (file : List ℕ) (s : State) : Type 0 where
  -- every line once, from the first to the last
  pub said : List (Said file)
  pub every_line : map (λ (l : Said file). l.place) said ≡ numbers_from 1 (length (lines file))
  pub names : s.names ≡ first_met (collect names_on said)

abbrev pub NamesInOrder : Type 0
NamesInOrder = (file : List ℕ) (s : State) → LinesRead file s → SpelledInOrder file s
