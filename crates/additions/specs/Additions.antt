-- One term line more in the table: its references, pushed behind it, then its row.
use Rattle.std.specs.Prelude.{ℕ, ◌+◌, ◌*◌, ◌≤◌, ◌<◌, ◌≡◌, cond, List, get_or, set, ltb, ⊤, Result, Ok, Err}
use Rattle.model.specs.Names.{Name}
use Rattle.model.specs.Terms.{Node, add_term}
use Rattle.model.specs.Reading.{most_terms, most_references}
use Rattle.terms.specs.Rows.{start_column, extra_column, term_of, group_of, terms_of, Rows}
use Rattle.model.specs.declared.Refusal.{Refusal}
use Rattle.model.specs.declared.Refusal.TheVariants as refusal

-- what an addition comes to: the table is full, or it is done
abbrev pub Addition : Type 0
Addition = Result ⊤ Refusal

-- the op word of a row that is no `op`
abbrev pub no_word : ℕ
no_word = 4

-- the word of a row
unfoldable pub row_word : ℕ → ℕ → ℕ → ℕ
row_word kind op head = kind + 8 * (op + 8 * head)

-- the slice with one row more; its mark is untouched
unfoldable pub with_row : List ℕ → ℕ → ℕ → ℕ → ℕ → List ℕ
with_row rows many word start extra = set (set (set rows many word) (start_column + many) start) (extra_column + many) extra

-- what adding a row comes to: at 4,096 rows the table is full and nothing changes
unfoldable pub added : ℕ → Addition
added many = cond (ltb many most_terms) (Ok tt) (Err refusal.FullTerms)

-- the rows then
unfoldable pub rows_after : List ℕ → ℕ → ℕ → ℕ → ℕ → List ℕ
rows_after rows many word start extra = cond (ltb many most_terms) (with_row rows many word start extra) rows

-- what pushing a reference comes to: at 16,384 they are full and nothing changes
unfoldable pub push_answer : ℕ → Addition
push_answer used = cond (ltb used most_references) (Ok tt) (Err refusal.FullTerms)

-- the references then
unfoldable pub references_pushed : List ℕ → ℕ → ℕ → List ℕ
references_pushed refs used word = cond (ltb used most_references) (set refs used word) refs

-- references from `start` up to `used`, pushed behind a table, each to one of its terms
pub record Pushed (refs rows : List ℕ) (start used many named : ℕ) : Type 0 where
  pub table : Rows refs rows start many named
  pub in_order : start ≤ used
  pub few_references : used ≤ most_references
  pub in_table : (i : ℕ) → start ≤ i → i < used → term_of (get_or refs i 0) < many

-- of these, those of a quantifier: its body, then the terms of its groups, in the order of the groups
pub record Patterns (refs : List ℕ) (start used groups : ℕ) : Type 0 where
  pub bodied : start < used
  pub grouped : (i : ℕ) → start < i → i < used → group_of (get_or refs i 0) < groups
  pub rising : (i : ℕ) → start < i → i + 1 < used → group_of (get_or refs i 0) ≤ group_of (get_or refs (i + 1) 0)

-- what adding a term line comes to: its row, and its term at the end of the table's; at 4,096 rows nothing changes
pub record AddsTerm (refs rows rows' : List ℕ) (start used many named word extra : ℕ) (node : (ℕ → Name) → Node) (r : Addition) : Type 0 where
  pub answer : r ≡ added many
  pub row_words : rows' ≡ rows_after rows many word start extra
  pub table : many < most_terms → Rows refs rows' used (many + 1) named
  pub terms : many < most_terms → (name : ℕ → Name)
      → terms_of name refs rows' used (many + 1) ≡ add_term (terms_of name refs rows start many) (node name)
