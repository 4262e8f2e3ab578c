-- What a field says as a word: the kind of a line, and the word of an `op`.
use Rattle.std.specs.Prelude.{ℕ, ◌+◌, ◌*◌, ◌≡◌, Bool, true, false, cond, not, ◌&&◌, List, [], ◌∷◌, length, leb, ltb, eqb, Option, None as none, Some as some}
use Prim.Native.String.{String}
use Rattle.model.specs.Lists.{all, is_nil, holds}
use Rattle.model.specs.Names.{bytes, same}
use Rattle.model.specs.Lines.{Field}
use Rattle.model.specs.Reading.{Result, ok, refused, need, word, op_words, next, State, place, may_stand, is_position, most_asks, fixed_count}
use Rattle.model.specs.declared.Counts.{Counts}
use Rattle.model.specs.declared.LineKind.{LineKind}
use Rattle.model.specs.declared.LineKind.TheVariants as kind
use Rattle.model.specs.declared.Op.{Op}
use Rattle.model.specs.declared.Refusal.{Refusal}
use Rattle.model.specs.declared.Refusal.TheVariants as refusal
use Rattle.text.specs.declared.Cursor.{Cursor}
use Rattle.text.specs.Parts.{fields_left, number_at}
use Rattle.text.proofs.Laws.{Onward}
use Rattle.fields.specs.declared.TermKind.{TermKind}
use Rattle.fields.specs.declared.TermKind.TheVariants as termed
use Rattle.fields.specs.declared.RecordKind.{RecordKind}
use Rattle.fields.specs.declared.RecordKind.TheVariants as recorded
use Rattle.fields.specs.declared.Kind.{Kind}
use Rattle.fields.specs.declared.Kind.TheVariants as kinded

-- bytes as one number, to the base 256, after the number n
unfoldable pub key_from : ℕ → List ℕ → ℕ
key_from n [] = n
key_from n (b ∷ bs) = key_from (n * 256 + b) bs

-- the key of a word: a 1, then its bytes
unfoldable pub key_of : Field → ℕ
key_of w = key_from 1 w

-- whether a number is a byte
unfoldable pub is_byte : ℕ → Bool
is_byte b = ltb b 256

-- the most bytes that a word has
abbrev pub longest_word : ℕ
longest_word = 6

-- whether a field has at most 6 bytes, each below 256
unfoldable pub is_short : Field → Bool
is_short w = leb (length w) longest_word && all is_byte w

-- a number that tells a field from every word: it is the key of the word that the field is, and of no other
pub record Keyed (f : Field) (key : ℕ) : Type 0 where
  pub tells : (w : Field) → is_short w ≡ true → same f w ≡ eqb key (key_of w)

-- what the word with a key stands for
unfoldable pub look : {A : Type 0} → List (String × A) → ℕ → Option A
look [] key = none
look ((w, a) ∷ ws) key = let other = look ws key in cond (eqb key (key_of (bytes w))) (some a) other

-- the kind of a term line, as `model` has it
unfoldable pub term_kind : TermKind → LineKind
term_kind termed.Free = kind.Free
term_kind termed.Leaf = kind.Leaf
term_kind termed.Call = kind.Call
term_kind termed.Op = kind.Op
term_kind termed.All = kind.All
term_kind termed.Some = kind.Some
term_kind termed.Let = kind.Let
term_kind termed.Label = kind.Label

-- the kind of a record line
unfoldable pub record_line_kind : RecordKind → LineKind
record_line_kind recorded.Assume = kind.Assume
record_line_kind recorded.Fun = kind.Fun
record_line_kind recorded.Def = kind.Def
record_line_kind recorded.Retain = kind.Retain
record_line_kind recorded.Root = kind.Root

-- the kind of an ask line, with groups or without
unfoldable pub ask_line_kind : Bool → LineKind
ask_line_kind true = kind.Ask2
ask_line_kind false = kind.Ask

-- the kind of a line, as `model` has it
unfoldable pub known_kind : Kind → LineKind
known_kind (kinded.Ask grouped) = ask_line_kind grouped
known_kind kinded.Also = kind.Also
known_kind kinded.Hide = kind.Hide
known_kind (kinded.Term t) = term_kind t
known_kind (kinded.Record r) = record_line_kind r

-- the kind of a line, or its refusal
unfoldable pub kind_result : Result Kind → Result LineKind
kind_result (ok k) = ok (known_kind k)
kind_result (refused x) = refused x

-- whether a line of the kind may stand next
unfoldable pub stands : State → Kind → Bool
stands s k = may_stand s (place (known_kind k))

-- whether a line of the kind is a position more than a file may have
unfoldable pub over : State → Kind → Bool
over s k = is_position (place (known_kind k)) && leb most_asks (length s.asks)

-- the counts say what of a state decides where a line may stand and how many fields it has
pub record Placing (s : State) (k : Counts) : Type 0 where
  pub asks : length s.asks ≡ k.asks
  pub no_asks : is_nil s.asks ≡ eqb k.asks 0
  pub form : s.grouped ≡ k.grouped
  pub no_hidden : is_nil s.hidden ≡ eqb k.hides 0
  pub no_terms : is_nil s.terms ≡ eqb k.terms 0
  pub no_records : (is_nil s.decls && is_nil s.roots) ≡ eqb k.records k.hides

-- the fields of the next line, the kind counted, where their count is fixed
unfoldable pub fixed_of : State → Kind → Option ℕ
fixed_of s k = fixed_count s (known_kind k)

-- whether a line has as many fields as its kind asks for; of one that has no kind they are not counted
unfoldable pub well_counted : State → Result Kind → List Field → Bool
well_counted s (ok k) fs = not (holds (λ n. not (eqb (length fs) n)) (fixed_of s k))
well_counted s (refused x) fs = true

-- a field that is an op word: 1
unfoldable pub op_field : Field → Result Op
op_field f = need refusal.Form (word op_words f)

-- what reading an op word comes to
pub data ReadsOp (file : List ℕ) (c : Cursor) : Result (Op × Cursor) → Type 0 where
  op_read : {w : Op} {after : Cursor}
      → next op_field (fields_left file c) ≡ ok (w, fields_left file after) → Onward file c after
      → ReadsOp file c (ok (w, after))
  op_not : {x : Refusal} → next op_field (fields_left file c) ≡ refused x → ReadsOp file c (refused x)

-- the number at a cursor where the form of the file has the field, else a number that stands for it
unfoldable pub number_or : Bool → ℕ → ℕ → List ℕ → Cursor → Result (ℕ × Cursor)
number_or true limit other file c = number_at limit file c
number_or false limit other file c = ok (other, c)
