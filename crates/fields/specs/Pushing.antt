-- References pushed field by field behind the term table: what the loops over fields come to.
use Rattle.std.specs.Prelude.{ℕ, zero, suc, ◌+◌, ◌*◌, ◌≤◌, ◌≡◌, List, [], ◌∷◌, length}
use Rattle.model.specs.Lines.{Field}
use Rattle.model.specs.Reading.{Result, ok, refused, ◌>>=◌, next, number_field, term_field, most_terms, most_references}
use Rattle.text.specs.declared.Cursor.{Cursor}
use Rattle.text.specs.Parts.{Placed, fields_left}
use Rattle.additions.specs.Additions.{references_pushed}
use Rattle.words.specs.Slices.{SameBut}

-- the largest number that a field may be
abbrev pub most_number : ℕ
most_number = 65535

-- the word of a reference to a term, in a group
abbrev pub reference : ℕ → ℕ → ℕ
reference t group = t + 4096 * group

-- the references then, how many they are, and the fields after; or the refusal of a field
abbrev pub ReferencesRead : Type 0
ReferencesRead = Result (List ℕ × ℕ × List Field)

module _ (count : ℕ) where
  -- the next field, one of `count` terms, in a group
  unfoldable pub push_one : ℕ → List ℕ → ℕ → List Field → ReferencesRead
  push_one group refs used fs = next (term_field count) fs >>= λ (t, fs₁). ok (references_pushed refs used (reference t group), used + 1, fs₁)

  -- the next n fields
  unfoldable pub push_many : ℕ → ℕ → List ℕ → ℕ → List Field → ReferencesRead
  push_many group zero refs used fs = ok (refs, used, fs)
  push_many group (suc n) refs used fs =
      push_one group refs used fs >>= λ (refs₁, used₁, fs₁). push_many group n refs₁ used₁ fs₁

  -- all fields that are left
  unfoldable pub push_rest : List ℕ → ℕ → List Field → ReferencesRead
  push_rest refs used [] = ok (refs, used, [])
  push_rest refs used (f ∷ fs) = term_field count f >>= λ t. push_rest (references_pushed refs used (reference t 0)) (used + 1) fs

  -- the next n groups, the first of which has the number g: each a count and that many terms
  unfoldable pub push_groups : ℕ → ℕ → List ℕ → ℕ → List Field → ReferencesRead
  push_groups g zero refs used fs = ok (refs, used, fs)
  push_groups g (suc n) refs used fs = do
    (size, fs₁) ← next (number_field most_number) fs
    (refs₂, used₂, fs₂) ← push_many g size refs used fs₁
    push_groups (g + 1) n refs₂ used₂ fs₂

-- the references with some words more; past the limit none is written
unfoldable pub push_all : List ℕ → ℕ → List ℕ → List ℕ
push_all refs used [] = refs
push_all refs used (w ∷ ws) = push_all (references_pushed refs used w) (used + 1) ws

-- an answer as a run
unfoldable pub upto_result : List ℕ → List ℕ → Result (ℕ × Cursor) → ReferencesRead
upto_result file refs (ok (end, next)) = ok (refs, end, fields_left file next)
upto_result file refs (refused r) = refused r

-- a cursor that stands further on, by a byte or more for each reference
pub record Ahead (file : List ℕ) (from : ℕ) (c : Cursor) (end : ℕ) (next : Cursor) : Type 0 where
  pub further : c.at + end ≤ next.at + from
  pub stays : next.end ≡ c.end
  pub placed : Placed file next

-- what pushing comes to; whatever the answer, words past the limit of references stay
pub record Pushes (file refs refs' : List ℕ) (run : ReferencesRead) (from : ℕ) (c : Cursor) (r : Result (ℕ × Cursor)) : Type 0 where
  pub answer : upto_result file refs' r ≡ run
  pub ahead : (end : ℕ) (next : Cursor) → r ≡ ok (end, next) → Ahead file from c end next
  pub kept : SameBut 0 most_references refs refs'

-- what pushing asks: room for the references, and a cursor in a line of the file; past their limit there is at most one for
-- each byte read
pub record Pushable (file refs : List ℕ) (used many : ℕ) (c : Cursor) : Type 0 where
  pub room : most_references ≤ length refs
  pub few : many ≤ most_terms
  pub bounded : used ≤ most_references + c.at
  pub placed : Placed file c
