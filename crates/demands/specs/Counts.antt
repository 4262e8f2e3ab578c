-- Demand 1, the counts behind the refusals 6 and 10 to 13: what is counted at a line is what documents 01 and 02 say, of
-- the bytes of the lines.
use Rattle.std.specs.Prelude.{ℕ, ◌+◌, max, ◌≡◌, Bool, false, ◌||◌, List, [], ◌∷◌, ◌++◌, map, length, get_or}
use Prim.Native.String.{String}
use Rattle.model.specs.Lists.{any, keep, count, sum}
use Rattle.model.specs.Names.{Name, bytes, same, mem}
use Rattle.model.specs.Lines.{Line, lines, Field, fields}
use Rattle.model.specs.Summaries.{exclude_names, Fact, summarize_kind}
use Rattle.model.specs.Reading.{Content, Decl, Root, State, excluded, add_line}
use Rattle.model.specs.Rounds.{facts, definitions}
use Rattle.demands.specs.LinesRead.{Distinct}
use Rattle.demands.specs.LineForm.{is_a_name, is_a_term, fields_of}
use Rattle.demands.specs.Demand1.{ReachedLine, Says, ask_word}
use Rattle.demands.specs.FileOrder.{of_record}

-- the state after a line that parses, whether it passes a limit or not
abbrev pub state_with : {ls : List Line} {n : ℕ} → ReachedLine ls n → Content → State
state_with {n = n} l c = add_line exclude_names n l.state c

-- the lines up to one that is reached, it included
abbrev pub lines_to : {ls : List Line} {n : ℕ} → ReachedLine ls n → List Line
lines_to l = l.before ++ (l.line ∷ [])

-- "Term lines", by their first field
unfoldable pub term_words : List String
term_words = "free" ∷ "leaf" ∷ "call" ∷ "op" ∷ "all" ∷ "some" ∷ "let" ∷ "label" ∷ []

-- "Record lines"; document 02, Change 6: "A hide line is a record line"
unfoldable pub record_words : List String
record_words = "hide" ∷ "assume" ∷ "fun" ∷ "def" ∷ "retain" ∷ "root" ∷ []

-- ask lines, which are no record lines; document 02, Change 11: "Also lines count as ask lines"
unfoldable pub ask_words : List String
ask_words = "ask" ∷ "ask2" ∷ "also" ∷ []

-- those of them that are ask lines with groups: document 02, Change 13
unfoldable pub grouped_words : List String
grouped_words = "ask2" ∷ []

-- the ask lines of one form, and the also lines
unfoldable pub form_words : Bool → List String
form_words grouped = ask_word grouped ∷ "also" ∷ []

-- those of them that are also lines
unfoldable pub also_words : List String
also_words = "also" ∷ []

-- hide lines
unfoldable pub hide_words : List String
hide_words = "hide" ∷ []

-- whether a field is one of the words
unfoldable pub is_word : List String → Field → Bool
is_word words f = any (λ w. same f (bytes w)) words

-- whether the first field of a line is one of the words
unfoldable pub begins : List String → Line → Bool
begins words line = is_word words (get_or (fields line.bytes) 0 [])

-- the term references of a term line, which is the same in both forms
unfoldable pub term_fields : Line → List Field
term_fields line = fields_of is_a_term false (fields line.bytes)

-- the names that a line spells; `grouped`: the file is of the form with groups
unfoldable pub name_fields : Bool → Line → List Name
name_fields grouped line = fields_of is_a_name grouped (fields line.bytes)

-- the counts after these lines are those of documents 01 and 02: ask and also lines, "term lines", "term references in term
-- lines", "record lines", "trigger entries (fact, disjunct, name) .., where an empty disjunct counts as one", "name uses (free
-- names summed over assume, def and root lines)"
pub record Counted (read_so_far : List Line) (s : State) : Type 0 where
  pub ask_lines : length s.asks ≡ count (begins ask_words) read_so_far
  pub term_lines : length s.terms ≡ count (begins term_words) read_so_far
  pub term_references : s.references
      ≡ sum (map (λ line. length (term_fields line)) (keep (begins term_words) read_so_far))
  pub record_lines : length s.hidden + (length s.decls + length s.roots) ≡ count (begins record_words) read_so_far
  pub trigger_entries : s.entries
      ≡ sum (map (λ (f : Fact). sum (map (λ (d : List Name). max 1 (length d)) f.triggers)) (facts s.decls))
  pub name_uses : s.uses
      ≡ sum (map (λ (f : Fact). length f.free_names) (facts s.decls))
      + (sum (map (λ (d : Decl). length d.free_names) (definitions s.decls))
      + sum (map (λ (r : Root). length r.free_names) s.roots))
  -- "names the file spells, plus trimmed tokens .. distinct"
  pub names_once : Distinct s.names

-- the token that rule 4 trims, of an assume line
abbrev pub token_trimmed : {ls : List Line} {n : ℕ} → ReachedLine ls n → Content → List Name
token_trimmed l =
    of_record (λ name flag group t. (summarize_kind (excluded exclude_names l.state) l.state.terms name t).trimmed)
    (λ name. []) (λ name t. []) (λ q name t. [])

-- what a line adds to the names: those that it spells, and the token that rule 4 trims
abbrev pub NamesAdded : {ls : List Line} {n : ℕ} → ReachedLine ls n → Content → Type 0
NamesAdded l c =
    (k : Name) → mem k (state_with l c).names
    ≡ (mem k l.state.names || mem k (name_fields l.state.grouped l.line ++ token_trimmed l c))

abbrev pub CountsExact : Type 0
CountsExact =
    (file : List ℕ) (n : ℕ) (l : ReachedLine (lines file) n) (c : Content) → Says l c
    → Counted (lines_to l) (state_with l c) × NamesAdded l c
