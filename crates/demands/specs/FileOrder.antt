-- Demand 2, "each fact's summary", and the order of the file: the records of an accepted file are those that its lines say,
-- in the order of the lines.
use Rattle.std.specs.Prelude.{ℕ, zero, suc, ◌+◌, ◌<◌, ◌≡◌, Bool, List, [], ◌∷◌, map, length}
use Rattle.model.specs.Lists.{collect}
use Rattle.model.specs.Names.{Name}
use Rattle.model.specs.Lines.{lines}
use Rattle.model.specs.Terms.{Term}
use Rattle.model.specs.Summaries.{exclude_names, Fact, free_top_level_names, summarize_assumption}
use Rattle.model.specs.Reading.{Content, head, term, assume, fun, def, retain, root, Decl, Summary, sum_assume, sum_definefun, sum_declfun, sum_retain, Root, State, excluded}
use Rattle.model.specs.Rounds.{facts, definitions, declarations}
use Rattle.demands.specs.LinesRead.{LinesRead}
use Rattle.demands.specs.Demand1.{ReachedLine, Says}

-- a line of a file, and what it says
pub record Said (file : List ℕ) : Type 0 where
  pub place : ℕ
  pub line : ReachedLine (lines file) place
  pub content : Content
  pub says : Says line content

-- n and the numbers after it, `count` in all
unfoldable pub numbers_from : ℕ → ℕ → List ℕ
numbers_from n zero = []
numbers_from n (suc count) = n ∷ numbers_from (n + 1) count

-- what a record line gives, by its kind
abbrev pub of_record : {X : Type 0} → (Name → Bool → ℕ → ℕ → List X) → (Name → List X) → (Name → ℕ → List X)
    → (ℕ → Name → ℕ → List X) → Content → List X
of_record assumed declared defined rooted (head h) = []
of_record assumed declared defined rooted (term node) = []
of_record assumed declared defined rooted (assume name flag group t) = assumed name flag group t
of_record assumed declared defined rooted (fun name) = declared name
of_record assumed declared defined rooted (def name t) = defined name t
of_record assumed declared defined rooted (retain names) = []
of_record assumed declared defined rooted (root q name t) = rooted q name t

-- the summary of the fact that an assume line states, from the excluded names, the terms before the line and its number
abbrev pub fact_said : List Name → List Term → ℕ → Content → List Fact
fact_said exclude terms n =
    of_record (λ name flag group t. summarize_assumption exclude terms n name flag group t ∷ [])
    (λ name. []) (λ name t. []) (λ q name t. [])

-- the definition of a def line
abbrev pub definition_said : List Name → List Term → ℕ → Content → List Decl
definition_said exclude terms n =
    of_record (λ name flag group t. []) (λ name. [])
    (λ name t. record { line = n; name = name; free_names = free_top_level_names exclude terms t } ∷ []) (λ q name t. [])

-- the declaration of a fun line
abbrev pub declaration_said : List Name → List Term → ℕ → Content → List Decl
declaration_said exclude terms n =
    of_record (λ name flag group t. []) (λ name. record { line = n; name = name; free_names = [] } ∷ []) (λ name t. [])
    (λ q name t. [])

-- the root of a root line
abbrev pub root_said : List Name → List Term → ℕ → Content → List Root
root_said exclude terms n =
    of_record (λ name flag group t. []) (λ name. []) (λ name t. [])
    (λ q name t. record { line = n; query = q; name = name; free_names = free_top_level_names exclude terms t } ∷ [])

-- what a line of a file gives, by these excluded names
abbrev pub from_line : {X : Type 0} {file : List ℕ} → List Name → (List Name → List Term → ℕ → Content → List X) → Said file → List X
from_line exclude said l = said exclude l.line.state.terms l.place l.content

-- the line of a fact, a definition or a declaration
unfoldable pub line_of : Summary → List ℕ
line_of (sum_assume f) = f.line ∷ []
line_of (sum_definefun d) = d.line ∷ []
line_of (sum_declfun d) = d.line ∷ []
line_of sum_retain = []

-- numbers that ascend
pub data Rising : List ℕ → Type 0 where
  none : Rising []
  one : {n : ℕ} → Rising (n ∷ [])
  more : {n m : ℕ} {ns : List ℕ} → n < m → Rising (m ∷ ns) → Rising (n ∷ m ∷ ns)

-- the records of a file, each as a whole, by its lines
pub record InOrder (file : List ℕ) (s : State) : Type 0 where
  -- every line once, from the first to the last
  pub said : List (Said file)
  pub every_line : map (λ (l : Said file). l.place) said ≡ numbers_from 1 (length (lines file))
  -- what they say is what the state holds, by the names excluded at the end of the file (`Hidden` says which these are)
  pub facts_said : facts s.decls ≡ collect (from_line (excluded exclude_names s) fact_said) said
  pub definitions_said : definitions s.decls ≡ collect (from_line (excluded exclude_names s) definition_said) said
  pub declarations_said : declarations s.decls ≡ collect (from_line (excluded exclude_names s) declaration_said) said
  pub roots_said : s.roots ≡ collect (from_line (excluded exclude_names s) root_said) said
  -- the records stand in file order
  pub decls_rise : Rising (collect line_of s.decls)
  pub roots_rise : Rising (map (λ (r : Root). r.line) s.roots)

abbrev pub FileOrder : Type 0
FileOrder = (file : List ℕ) (s : State) → LinesRead file s → InOrder file s
