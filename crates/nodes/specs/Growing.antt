-- A term line read into the tables: what its fields say, and the tables with its term, or the limit that it passes.
use Rattle.std.specs.Prelude.{ℕ, ◌+◌, ◌≤◌, ◌<◌, ◌≡◌, Bool, true, false, List, length, ⊤}
use Rattle.model.specs.Lists.{fold_left}
use Rattle.model.specs.Terms.{Node, add_term, references}
use Rattle.model.specs.Lines.{Field}
use Rattle.model.specs.Reading.{Result, ok, refused, ◌>>=◌, next, end, number_field, Content, term, content, spell, spelled_by, most_names, most_terms, most_references}
use Rattle.model.specs.declared.Counts.{Counts}
use Rattle.model.specs.declared.LineKind.{LineKind}
use Rattle.model.specs.declared.LineKind.TheVariants as kind
use Rattle.model.specs.declared.Refusal.{Refusal}
use Rattle.model.specs.declared.Refusal.TheVariants as refusal
use Rattle.text.specs.declared.Cursor.{Cursor}
use Rattle.text.specs.Parts.{fields_left}
use Rattle.names.specs.Table.{table_names}
use Rattle.additions.specs.Additions.{Addition}
use Rattle.words.specs.Slices.{SameBut}
use Rattle.rules.specs.Views.{Tables, terms_in}
use Rattle.model.specs.Steps.{Step}
use Rattle.model.specs.Steps as step
use Rattle.fields.specs.Pushing.{most_number, push_one, push_groups}
use Rattle.fields.specs.Spelling.{name_columns, Longer}

-- ---- quantifiers

-- the kind of a quantifier: an `all`, or else a `some`
unfoldable pub quantifier_kind : Bool → LineKind
quantifier_kind true = kind.All
quantifier_kind false = kind.Some

-- a body, a number of groups and the groups, with no field left over: the references then, how many they are, the number of groups
unfoldable pub push_quantifier : ℕ → List ℕ → ℕ → List Field → Result (List ℕ × ℕ × ℕ)
push_quantifier count refs used fs = do
  (refs₁, used₁, fs₁) ← push_one count 0 refs used fs
  (g, fs₂) ← next (number_field most_number) fs₁
  (refs₂, used₂, fs₃) ← push_groups count 0 g refs₁ used₁ fs₂
  end (refs₂, used₂, g) fs₃

-- an answer as such a result
unfoldable pub quantifier_result : List ℕ → Result (ℕ × ℕ) → Result (List ℕ × ℕ × ℕ)
quantifier_result refs (ok (used, groups)) = ok (refs, used, groups)
quantifier_result refs (refused r) = refused r

-- what pushing a quantifier comes to
pub record Quantifies (file refs refs' : List ℕ) (from many : ℕ) (c : Cursor) (r : Result (ℕ × ℕ)) : Type 0 where
  pub answer : quantifier_result refs' r ≡ push_quantifier many refs from (fields_left file c)
  pub groups : (used g : ℕ) → r ≡ ok (used, g) → g ≤ most_number
  pub kept : SameBut 0 most_references refs refs'

-- ---- term lines

-- the first limit that so many names and references pass, the names asked first
pub data WithinLimits (named used : ℕ) : Result ⊤ → Type 0 where
  by_names : most_names < named → WithinLimits named used (refused refusal.FullNames)
  by_references : named ≤ most_names → most_references < used → WithinLimits named used (refused refusal.FullTerms)
  by_none : named ≤ most_names → used ≤ most_references → WithinLimits named used (ok tt)

-- the counts with one term more
unfoldable pub with_term : Counts → ℕ → ℕ → Counts
with_term k named used =
    record {
      asks = k.asks;
      grouped = k.grouped;
      hides = k.hides;
      names = named;
      references = used;
      terms = k.terms + 1;
      records = k.records;
      entries = k.entries;
      uses = k.uses;
      mark = k.mark;
    }

-- what adding a row comes to
unfoldable pub grown_to : Addition → Counts → ℕ → ℕ → Step
grown_to (ok tt) k named used = step.On (with_term k named used)
grown_to (refused r) k named used = step.Refused r

-- the two tables of the counts
abbrev pub Stands : List ℕ → List ℕ → List ℕ → List ℕ → Counts → Type 0
Stands file names refs rows k = Tables file names refs rows k.names k.references k.terms

-- the words of the columns of the rows; from there on the marks
abbrev pub rows_marks_start : ℕ
rows_marks_start = 12288

-- the slices at exit, whatever a line comes to: only the words of the tables may change
pub record Kept (names refs rows names' refs' rows' : List ℕ) : Type 0 where
  pub names_kept : SameBut 0 name_columns names names'
  pub refs_kept : SameBut 0 most_references refs refs'
  pub rows_kept : SameBut 0 rows_marks_start rows rows'

module _ (file names refs rows names' refs' rows' : List ℕ) (k : Counts) where
  -- the tables with the term of a node
  pub record Grown (node : Node) (named' used' : ℕ) : Type 0 where
    pub tables : Tables file names' refs' rows' named' used' (k.terms + 1)
    pub spelt : table_names file names' named' ≡ fold_left spell (table_names file names k.names) (spelled_by node)
    pub terms : terms_in file names' refs' rows' used' (k.terms + 1) ≡ add_term (terms_in file names refs rows k.references k.terms) node
    pub used : used' ≡ k.references + length (references node)
    pub longer : Longer file names names' k.names named'

  -- how many names there are with those of the node
  abbrev pub names_with : Node → ℕ
  names_with node = length (fold_left spell (table_names file names k.names) (spelled_by node))

  -- the lowest refusal of the limits that the node passes
  pub data Passes (node : Node) : Refusal → Type 0 where
    names_passed : most_names < names_with node → Passes node refusal.FullNames
    terms_passed : names_with node ≤ most_names → most_terms ≤ k.terms → Passes node refusal.FullTerms
    references_passed : names_with node ≤ most_names → most_references < k.references + length (references node)
        → Passes node refusal.FullTerms

  -- what a term line comes to, by what its fields say
  pub data Grows (said : Result Content) : Step → Type 0 where
    grown : {node : Node} {named' used' : ℕ}
        → said ≡ ok (term node) → Grown node named' used' → Grows said (step.On (with_term k named' used'))
    over : {node : Node} {x : Refusal} → said ≡ ok (term node) → Passes node x → Grows said (step.Refused x)
    not_read : {x : Refusal} → said ≡ refused x → Grows said (step.Refused x)

  -- what reading a term line of a kind comes to, from the first field after its kind on
  pub record ReadsTerm (kind : LineKind) (c : Cursor) (r : Step) : Type 0 where
    pub grows : Grows (content kind k.grouped k.terms (fields_left file c)) r
    pub kept : Kept names refs rows names' refs' rows'
