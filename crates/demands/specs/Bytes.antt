-- Document 01, "The file", of the bytes: what a line, a field, a number and a name is, each both ways.
use Rattle.std.specs.Prelude.{ℕ, ◌+◌, ◌-◌, ◌*◌, ◌^◌, ◌≤◌, ◌<◌, ◌≡◌, ◌↔◌, ◌≢◌, true, false, cond, T, length, Some as some}
use mathlib.Core.List.{List, [], ◌∷◌, ◌++◌, Memᴰ}
use Rattle.model.specs.Lists.{collect, fold_left}
use Rattle.model.specs.Lines.{Line, lines, Field, fields, is_name, number}
use Rattle.model.specs.Text.{show, comma}

-- a text without this byte
abbrev pub Without : ℕ → List ℕ → Type 0
Without b text = Memᴰ b text → ⊥

-- the bytes of a line, and the 0A that ends it where it is there
abbrev pub line_bytes : Line → List ℕ
line_bytes l = l.bytes ++ cond l.ended (0x0a ∷ []) []

-- each line has its 0A, but the last may lack it; then it has some byte
pub data Parted : List Line → Type 0 where
  none : Parted []
  unended : {l : Line} → l.ended ≡ false → l.bytes ≢ [] → Parted (l ∷ [])
  ended : {l : Line} {ls : List Line} → l.ended ≡ true → Parted ls → Parted (l ∷ ls)

-- the lines of a file: put together they are the file, none holds a 0A
pub record LinesOf (file : List ℕ) (ls : List Line) : Type 0 where
  pub together : collect line_bytes ls ≡ file
  pub without_0a : (l : Line) → Memᴰ l ls → Without 0x0a l.bytes
  pub parted : Parted ls

abbrev pub LinesExact : Type 0
LinesExact = (file : List ℕ) (ls : List Line) → (lines file ≡ ls) ↔ LinesOf file ls

-- the fields of a line: put together with commas they are the line, none holds a comma; there is at least one
pub record FieldsOf (line : List ℕ) (fs : List Field) : Type 0 where
  pub together : comma fs ≡ line
  pub without_comma : (f : Field) → Memᴰ f fs → Without 0x2c f
  pub some_field : fs ≢ []

abbrev pub FieldsExact : Type 0
FieldsExact = (line : List ℕ) (fs : List Field) → (fields line ≡ fs) ↔ FieldsOf line fs

-- the value of decimal digits
unfoldable pub digits_value : List ℕ → ℕ
digits_value = fold_left (λ n b. n * 10 + (b - 0x30)) 0

-- the decimal text of a number: digits of that value, the first of them no zero unless it is the only one
pub record Decimal (n : ℕ) (text : List ℕ) : Type 0 where
  pub some_digit : text ≢ []
  pub all_digits : (b : ℕ) → Memᴰ b text → (0x30 ≤ b) × (b ≤ 0x39)
  pub no_leading_zero : (more : List ℕ) → text ≡ 0x30 ∷ more → more ≡ []
  pub value : digits_value text ≡ n

-- a number in decimal is such a text, and the only one
abbrev pub ShownExact : Type 0
ShownExact = (n : ℕ) (text : List ℕ) → n < 10 ^ 20 → (text ≡ show n) ↔ Decimal n text

-- a field is a number exactly if it is that number in decimal, up to 65,535
abbrev pub NumberExact : Type 0
NumberExact = (f : Field) (n : ℕ) → (number f ≡ some n) ↔ ((f ≡ show n) × (n ≤ 65535))

-- a name: its length, and the range of its bytes, the comma apart
pub record IsName (f : Field) : Type 0 where
  pub at_least_1 : 1 ≤ length f
  pub at_most_255 : length f ≤ 255
  pub each_byte : (b : ℕ) → Memᴰ b f → (0x21 ≤ b) × (b ≤ 0x7e) × (b ≢ 0x2c)

abbrev pub NameExact : Type 0
NameExact = (f : Field) → T (is_name f) ↔ IsName f
