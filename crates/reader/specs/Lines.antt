-- What a line says by its kind, and what reading a position, and a file, comes to: the tables with it, or the refusal that
-- `model` gives.
use Rattle.std.specs.Prelude.{ℕ, ◌≤◌, ◌<◌, ◌≡◌, Bool, ◌||◌, List, length, get_or, Result as OkOr, Ok, Err}
use Rattle.model.specs.Summaries.{exclude_names}
use Rattle.model.specs.Lines.{Field}
use Rattle.model.specs.Reading.{Result, ok, refused, Content, Head, head, is_grouped, content, read_file, read, refused_at}
use Rattle.model.specs.Outcome.{most_bytes, working_words}
use Rattle.model.specs.declared.Counts.{Counts}
use Rattle.model.specs.declared.Refusal.{Refusal}
use Rattle.model.specs.declared.Refused.{Refused}
use Rattle.model.specs.Steps.{Step}
use Rattle.model.specs.Steps as step
use Rattle.fields.specs.declared.Kind.{Kind}
use Rattle.fields.specs.Wording.{known_kind}
use Rattle.terms.specs.Rows.{Rows}
use Rattle.records.specs.States.{state_of}
use Rattle.records.specs.Filing.{Termed}
use Rattle.macros.specs.Macros.{Filled}
use Rattle.records.specs.Writing.{with_ask, PositionAt}
use Rattle.filing.specs.Lines.{Past}

-- what a line says by its kind
unfoldable pub kind_content : Kind → Bool → ℕ → List Field → Result Content
kind_content k grouped count fs = content (known_kind k) grouped count fs

-- what reading an ask or an also line comes to: it stands behind the records, or its refusal
pub data Asks (recs recs' : List ℕ) (k : Counts) (said : Result Content) : Step → Type 0 where
  asks : {h : Head} → said ≡ ok (head h) → PositionAt recs recs' k h → Asks recs recs' k said (step.On (with_ask k (k.grouped || is_grouped h)))
  not_asked : {x : Refusal} → said ≡ refused x → recs' ≡ recs → Asks recs recs' k said (step.Refused x)

-- what reading a file asks: the lengths that a call has checked, and cleared names and rows
pub record TablesCleared (file names refs rows recs lists : List ℕ) : Type 0 where
  pub short : length file ≤ most_bytes
  pub name_room : working_words ≤ length names
  pub reference_room : working_words ≤ length refs
  pub row_room : working_words ≤ length rows
  pub record_room : working_words ≤ length recs
  pub list_room : working_words ≤ length lists
  pub name_zero : (i : ℕ) → i < working_words → get_or names i 0 ≡ 0
  pub row_zero : (i : ℕ) → i < working_words → get_or rows i 0 ≡ 0

-- a refusal at a line
abbrev pub at_line : Refusal → ℕ → Refused
at_line x n = record { refusal = x; place = n }

-- the counts after the last line, or a refusal and its line
abbrev pub FileOutcome : Type 0
FileOutcome = OkOr Counts Refused

-- what a file comes to: its state is in the tables, as a run asks; or its refusal and the line
pub data ReadsFile (file names' refs' rows' recs' lists' : List ℕ) : FileOutcome → Type 0 where
  all_read : {k : Counts} → read_file exclude_names file ≡ read (state_of file names' refs' rows' recs' lists' k)
      → Filled file names' recs' lists' k
      → ReadsFile file names' refs' rows' recs' lists' (Ok k)
  read_stops : {x : Refused} → read_file exclude_names file ≡ refused_at x.refusal x.place
      → ReadsFile file names' refs' rows' recs' lists' (Err x)

-- the term table of a file that is read stands, and the term of each of its facts is one of it
pub record TermsStand (refs rows recs : List ℕ) (k : Counts) : Type 0 where
  pub term_table : Rows refs rows k.references k.terms k.names
  pub termed : Termed recs k.records k.terms

-- what reading a file leaves in the slices and answers
pub record FileRead (file names refs rows recs lists names' refs' rows' recs' lists' : List ℕ) (r : FileOutcome) : Type 0 where
  pub reads : ReadsFile file names' refs' rows' recs' lists' r
  pub past : Past names refs rows recs lists names' refs' rows' recs' lists'
  pub terms : (k : Counts) → r ≡ Ok k → TermsStand refs' rows' recs' k
