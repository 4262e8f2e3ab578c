-- What the rules say of the lent tables: their terms, their names, a fact of them.
use Rattle.std.specs.Prelude.{ℕ, ◌<◌, ◌≡◌, List, Option}
use Rattle.model.specs.Names.{Name}
use Rattle.model.specs.Summaries.{Kinded}
use Rattle.model.specs.Terms.{Term}
use Rattle.names.specs.Table.{name_of}
use Rattle.rules.specs.declared.Choice.{Choice}
use Rattle.rules.specs.declared.Ruled.{Ruled}
use Rattle.rules.specs.declared.tables.TermTables.{TermTables}
use Rattle.rules.specs.Views.{terms_in}
use Rattle.rules.specs.Choices as over

-- the terms
abbrev pub terms : TermTables → List Term
terms s = terms_in s.file.now s.names.now s.refs.now s.rows.now s.used s.many

-- the name of a number
abbrev pub name_numbered : TermTables → ℕ → Name
name_numbered s n = name_of s.file.now s.names.now n

-- a fact: its name and its term are of the tables
abbrev pub IsFact : TermTables → ℕ → ℕ → Type 0
IsFact s name t = (name < s.named) × (t < s.many)

-- a rule answers what it chooses for the fact
abbrev pub Rule : (List Term → List ℕ → Name → ℕ → Option Choice) → TermTables → ℕ → ℕ → Option Choice → Type 0
Rule choose s name t r = over.Tries (choose (terms s) s.rows.now (name_numbered s name) t) s.named s.many r

-- a choice among the rules
abbrev pub ChosenFor : (List Term → List ℕ → Name → ℕ → Choice) → (List Name → List Term → Name → ℕ → Kinded) → TermTables → ℕ → ℕ → Choice → Type 0
ChosenFor choose make s name t r = over.Chosen choose make s.file.now s.names.now s.refs.now s.rows.now s.named s.used s.many name t r

-- such a choice with the number of its rule, which is that of `model` whatever names are excluded
pub record RuledAs (choose : List Term → List ℕ → Name → ℕ → Choice) (make : List Name → List Term → Name → ℕ → Kinded)
    (number : List Name → List Term → Name → ℕ → ℕ) (s : TermTables) (name t : ℕ) (r : Ruled) : Type 0 where
  pub chosen : ChosenFor choose make s name t r.choice
  pub numbered : (exclude : List Name) → r.rule ≡ number exclude (terms s) (name_numbered s name) t
