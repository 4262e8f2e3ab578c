-- Positions in a file: lines, fields and what stands in them, over the definitions of `model`.
use Rattle.std.specs.Prelude.{ℕ, ◌+◌, ◌-◌, ◌≤◌, ◌≡◌, cond, ◌&&◌, List, [], ◌∷◌, length, leb, ltb, eqb, Result, Ok, Err, Option, None as none, Some as some}
use Rattle.std.specs.Borrow.{Bor}
use Rattle.model.specs.Lists.{when, ◌>>=◌, part}
use Rattle.model.specs.Names.{order}
use Rattle.model.specs.Lines.{Field, fields, is_name, decimal, number}
use Rattle.model.specs.Reading.{ok, refused}
use Rattle.model.specs.Reading.{Result as Read}
use Rattle.model.specs.declared.Refusal.{Refusal}
use Rattle.model.specs.declared.Refusal.TheVariants as refusal
use Rattle.text.specs.declared.Comparison.{Comparison}
use Rattle.text.specs.declared.Cursor.{Cursor}
use Rattle.text.specs.declared.Part.{Part}

-- a slice is the part of another from `a` up to `e`, in its place: in the same block, `a` bytes on
pub record IsPart (s : Bor (List ℕ)) (a e : ℕ) (r : Bor (List ℕ)) : Type 0 where
  pub bytes : r.now ≡ part s.now a e
  pub block : r.ref_ptr.0 ≡ s.ref_ptr.0
  pub offset : r.ref_ptr.1 ≡ s.ref_ptr.1 + a

-- how many bytes stand before the first mark, or in all
unfoldable pub before : ℕ → List ℕ → ℕ
before mark [] = 0
before mark (b ∷ bs) = let more = before mark bs in cond (eqb b mark) 0 (1 + more)

-- the first position from `at` up to `end` where the mark stands, or `end`
unfoldable pub mark_at : ℕ → List ℕ → ℕ → ℕ → ℕ
mark_at mark s at end = at + before mark (part s at end)

-- how many bytes two lists share at their starts
unfoldable pub shared : List ℕ → List ℕ → ℕ
shared [] m = 0
shared (b ∷ bs) [] = 0
shared (b ∷ bs) (c ∷ cs) = let more = shared bs cs in cond (eqb b c) (1 + more) 0

-- how two lists of bytes stand to each other, as the answer of a call
unfoldable pub comparison : List ℕ → List ℕ → Comparison
comparison n m = record { order = order n m; shared = shared n m }

-- a cursor within a file that is not too long
pub record Placed (s : List ℕ) (c : Cursor) : Type 0 where
  pub inside : c.end ≤ length s
  pub short : length s ≤ 65535

-- the fields that a cursor has before it: none where it stands past the end
unfoldable pub fields_left : List ℕ → Cursor → List Field
fields_left s c = cond (leb c.at c.end) (fields (part s c.at c.end)) []

-- the next field, as positions, and the cursor after it; 1 where it lacks
unfoldable pub field_at : List ℕ → Cursor → Result Part Refusal
field_at s c =
    let end = mark_at 0x2c s c.at c.end in
    cond (leb c.at c.end)
    (Ok (record { start = c.at; end = end; next = record { at = end + 1; end = c.end } }))
    (Err refusal.Form)

-- a field that is a name: 2
unfoldable pub as_name : List ℕ → Result Part Refusal → Result Part Refusal
as_name s (Ok p) = cond (is_name (part s p.start p.end)) (Ok p) (Err refusal.Name)
as_name s (Err r) = Err r

-- the field from `at` up to `stop`, whose bytes may stand in a name: its length decides
unfoldable pub sized_name : ℕ → ℕ → ℕ → Result Part Refusal
sized_name at stop end =
    cond (leb 1 (stop - at) && leb (stop - at) 255)
    (Ok (record { start = at; end = stop; next = record { at = stop + 1; end = end } }))
    (Err refusal.Name)

-- the next field, a name
unfoldable pub name_at : List ℕ → Cursor → Result Part Refusal
name_at s c = as_name s (field_at s c)

-- the number that digits make after the value n, if it is not too large
unfoldable pub valued : ℕ → List ℕ → Option ℕ
valued n l = decimal n l >>= λ m. when (leb m 65535) m

-- what was read of a field that is a number of at most `limit`: 3
unfoldable pub at_most : ℕ → Cursor → Option ℕ → Result (ℕ × Cursor) Refusal
at_most limit next none = Err refusal.Number
at_most limit next (some n) = cond (leb n limit) (Ok (n, next)) (Err refusal.Number)

-- a field that is a number of at most `limit`
unfoldable pub as_number : ℕ → List ℕ → Result Part Refusal → Result (ℕ × Cursor) Refusal
as_number limit s (Ok p) = at_most limit p.next (number (part s p.start p.end))
as_number limit s (Err r) = Err r

-- the next field, a number of at most `limit`
unfoldable pub number_at : ℕ → List ℕ → Cursor → Result (ℕ × Cursor) Refusal
number_at limit s c = as_number limit s (field_at s c)

-- a number that names one of `count` terms: 4
unfoldable pub as_term : ℕ → Result (ℕ × Cursor) Refusal → Result (ℕ × Cursor) Refusal
as_term count (Ok (n, next)) = cond (ltb n count) (Ok (n, next)) (Err refusal.Term)
as_term count (Err r) = Err r

-- the next field, a term number
unfoldable pub term_at : ℕ → List ℕ → Cursor → Result (ℕ × Cursor) Refusal
term_at count s c = as_term count (number_at 65535 s c)

-- a step as `model` has it: the field's bytes and the fields after it, or the refusal
unfoldable pub field_result : List ℕ → Result Part Refusal → Read (Field × List Field)
field_result s (Ok p) = ok (part s p.start p.end, fields_left s p.next)
field_result s (Err r) = refused r

-- the same of a number
unfoldable pub number_result : List ℕ → Result (ℕ × Cursor) Refusal → Read (ℕ × List Field)
number_result s (Ok (n, next)) = ok (n, fields_left s next)
number_result s (Err r) = refused r
