-- Lines of text in a lent slice, where the lines of a file start, and a refusal in words.
use Rattle.std.specs.Prelude.{ℕ, ◌+◌, ◌≤◌, ◌<◌, ◌≡◌, Bool, true, false, cond, List, [], ◌∷◌, ◌++◌, length, take, drop, get_or}
use Rattle.std.specs.Borrow.{Bor}
use denote.Struct.Props as logic
use Rattle.model.specs.Names.{Name, bytes}
use Rattle.model.specs.Lists.{part}
use Rattle.model.specs.Lines.{lines}
use Rattle.model.specs.Text.{show, bytes_on, row_line, late_line}
use Rattle.model.specs.declared.Refusal.{Refusal}
use Rattle.model.specs.declared.Row.{Row}
use Rattle.model.specs.declared.Refusal.TheVariants as refusal
use Rattle.text.specs.Parts.{IsPart}
use Rattle.names.specs.Table.{name_of}
use Rattle.printing.specs.declared.Span.{Span}

-- bytes stand in a text from a place on, up to `end`, behind what stood there
pub record BytesPut (at : ℕ) (new before after : List ℕ) (end : ℕ) : Type 0 where
  pub ends : end ≡ at + length new
  pub written : take end after ≡ take at before ++ new
  pub inside : end ≤ length after

-- a text begins with a line, of this length
pub record TextBegins (line text : List ℕ) (n : ℕ) : Type 0 where
  pub sized : n ≡ length line
  pub begins : take n text ≡ line
  pub inside : n ≤ length text

-- where the lines of a file start: each from its place on, and no line is left out
pub record Starts (file starts : List ℕ) (many : ℕ) : Type 0 where
  pub room : many ≤ length starts
  pub inside : (k : ℕ) → k < many → get_or starts k 0 < length file
  pub each : (k : ℕ) → k < many → drop k (lines file) ≡ lines (drop (get_or starts k 0) file)
  pub all : length (lines file) ≤ many

-- they do so in one way at most, so that a struct may hold the fact
pub Starts-prop : (file starts : List ℕ) (many : ℕ) → IsProp (Starts file starts many)
Starts-prop file starts many = Prim.hlevel logic.props

-- the words from a place on are as they were
abbrev pub SameFrom : ℕ → List ℕ → List ℕ → Type 0
SameFrom n before after = (k : ℕ) → n ≤ k → get_or after k 0 ≡ get_or before k 0

-- a slice is a part of another, in its place
abbrev pub LiesIn : Bor (List ℕ) → Bor (List ℕ) → Type 0
LiesIn s r = (a : ℕ) × (e : ℕ) × IsPart s a e r

-- the part where a line of a file stands, by its number from 1
pub record LineSpan (file : List ℕ) (n : ℕ) (s : Span) : Type 0 where
  pub ordered : s.start ≤ s.end
  pub inside : s.end ≤ length file
  pub bytes_of : part file s.start s.end ≡ bytes_on file n

-- bytes are the name of a number, where the table has it
pub record NumberNamed (file names : List ℕ) (named number : ℕ) (name : List ℕ) : Type 0 where
  pub short : length name ≤ length file
  pub is_name : number < named → name ≡ name_of file names number

-- the line of a row of reasons, or of the check
unfoldable pub table_line : Bool → List ℕ → Name → Row → List ℕ
table_line reasons file name r = cond reasons (row_line file name r) (late_line file name r)

-- a text begins with the line of a row, where the table has its number
pub record RowTold (file names : List ℕ) (named : ℕ) (r : Row) (reasons : Bool) (text : List ℕ) (n : ℕ) : Type 0 where
  pub begins : r.number < named → TextBegins (table_line reasons file (name_of file names r.number) r) text n
  pub inside : n ≤ length text

-- why a refusal is given
unfoldable pub reason : Refusal → List ℕ
reason refusal.Form = bytes "not a line of a fact file"
reason refusal.Name = bytes "a field is no name"
reason refusal.Number = bytes "a field is no number, or one out of its range"
reason refusal.Term = bytes "no term line before has this number"
reason refusal.Repeated = bytes "the name is taken by an earlier assume, fun or def"
reason refusal.FullNames = bytes "the file has more than 2,048 names"
reason refusal.Working = bytes "a working slice is too short"
reason refusal.Room = bytes "the result slice is too short"
reason refusal.Size = bytes "the file has more than 65,535 bytes"
reason refusal.FullTerms = bytes "the file has more than 4,096 term lines or 16,384 references"
reason refusal.FullRecords = bytes "the file has more than 1,024 record lines"
reason refusal.FullTriggers = bytes "the file has more than 2,048 trigger entries or 6,144 name uses"
reason refusal.FullAsks = bytes "the file has more than 16 ask and also lines"
reason refusal.Position = bytes "the file has no ask or also line at this position"

-- whether the place of a refusal is a line
unfoldable pub has_line : Refusal → Bool
has_line refusal.Form = true
has_line refusal.Name = true
has_line refusal.Number = true
has_line refusal.Term = true
has_line refusal.Repeated = true
has_line refusal.FullNames = true
has_line refusal.Working = false
has_line refusal.Room = false
has_line refusal.Size = false
has_line refusal.FullTerms = true
has_line refusal.FullRecords = true
has_line refusal.FullTriggers = true
has_line refusal.FullAsks = true
has_line refusal.Position = false

-- a refusal in words, after its line where it has one
unfoldable pub reason_line : Refusal → ℕ → List ℕ
reason_line r place =
    cond (has_line r) (bytes "line " ++ show place ++ bytes ": " ++ reason r) (reason r) ++ (0x0a ∷ [])
