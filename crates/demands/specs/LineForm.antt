-- Demand 1, the refusals 1 to 4 and 13: what documents 01 and 02 say that each field of a line must be, and which refusal a
-- line gets.
use Rattle.std.specs.Prelude.{ℕ, zero, suc, ◌+◌, ◌≤◌, ◌<◌, ◌≡◌, Bool, true, false, cond, not, List, [], ◌∷◌, ◌++◌, ◌↔◌, ◌≢◌, T, leb, ltb, length, Option, None as none, Some as some, unwrap_or as get_or}
use Rattle.model.specs.Lists.{holds}
use Rattle.model.specs.Lines.{Field, is_name, number}
use Rattle.model.specs.Reading.{refused, word, op_words, kinds, content, State, place, may_stand, is_position, fixed_count, parse}
use Rattle.model.specs.declared.LineKind.{LineKind}
use Rattle.model.specs.declared.LineKind.TheVariants as kind
use Rattle.model.specs.declared.Refusal.{Refusal}
use Rattle.model.specs.declared.Refusal.TheVariants as refusal

-- what a field can have to be: a name, a number of at most so much, the number of a term, the word of an `op`
pub data Sort : Type 0 where
  a_name : Sort
  a_number : ℕ → Sort
  a_term : Sort
  an_op_word : Sort

-- what stands next in a line: a field that must be there, one that may be, or nothing more
pub data Due : Type 0 where
  must : Sort → Due
  may : Sort → Due
  nothing : Due

-- the value of a field that is a number
unfoldable pub value : Field → ℕ
value f = get_or (number f) 0

-- "g pattern groups, each a count and that many t": what stands next after these fields, where a group still lacks
-- `left` terms and g groups follow it
unfoldable pub group_due : List Field → ℕ → ℕ → Due
group_due [] zero zero = nothing
group_due [] zero (suc g) = must (a_number 65535)
group_due [] (suc left) g = must a_term
group_due (f ∷ fs) zero zero = nothing
group_due (f ∷ fs) zero (suc g) = group_due fs (value f) g
group_due (f ∷ fs) (suc left) g = group_due fs left g

-- `all,body,g,..` and `some,body,g,..`
unfoldable pub quantifier_due : List Field → Due
quantifier_due [] = must a_term
quantifier_due (body ∷ []) = must (a_number 65535)
quantifier_due (body ∷ g ∷ fs) = group_due fs 0 (value g)

-- the fields of a line that are all there, in order
unfoldable pub in_order : List Sort → List Field → Due
in_order [] fs = nothing
in_order (s ∷ ss) [] = must s
in_order (s ∷ ss) (f ∷ fs) = in_order ss fs

-- a field that must be there, then terms
unfoldable pub then_terms : Sort → List Field → Due
then_terms s [] = must s
then_terms s (f ∷ fs) = may a_term

-- the fields of an assume line: document 02, Change 13, "a group from 0 to 15 between flag and t" in the form with groups
unfoldable pub assume_due : Bool → List Field → Due
assume_due false fs = in_order (a_name ∷ a_number 1 ∷ a_term ∷ []) fs
assume_due true fs = in_order (a_name ∷ a_number 1 ∷ a_number 15 ∷ a_term ∷ []) fs

-- what stands next in a line of this kind, after these fields; `grouped`: the file is of the form with groups
unfoldable pub due : Bool → LineKind → List Field → Due
due grouped kind.Ask fs = in_order (a_number 255 ∷ a_number 15 ∷ []) fs
due grouped kind.Ask2 fs = in_order (a_number 255 ∷ a_number 15 ∷ a_number 65535 ∷ []) fs
due grouped kind.Also fs = in_order (a_number 255 ∷ []) fs
due grouped kind.Hide fs = in_order (a_name ∷ []) fs
due grouped kind.Free fs = in_order (a_name ∷ []) fs
due grouped kind.Leaf fs = in_order [] fs
due grouped kind.Call fs = then_terms a_name fs
due grouped kind.Op fs = then_terms an_op_word fs
due grouped kind.All fs = quantifier_due fs
due grouped kind.Some fs = quantifier_due fs
due grouped kind.Let fs = then_terms a_term fs
due grouped kind.Label fs = in_order (a_term ∷ []) fs
due grouped kind.Assume fs = assume_due grouped fs
due grouped kind.Fun fs = in_order (a_name ∷ []) fs
due grouped kind.Def fs = in_order (a_name ∷ a_term ∷ []) fs
due grouped kind.Retain fs = may a_name
due grouped kind.Root fs = in_order (a_number 255 ∷ a_name ∷ a_term ∷ []) fs

-- the refusal of a field that is no number, or one above its limit; `count`, below, is the number of term lines so far
unfoldable pub number_fault : ℕ → Option ℕ → Option Refusal
number_fault limit none = some refusal.Number
number_fault limit (some n) = cond (leb n limit) none (some refusal.Number)

-- the same of the number of a term
unfoldable pub term_fault : ℕ → Option ℕ → Option Refusal
term_fault count none = some refusal.Number
term_fault count (some n) = cond (ltb n count) none (some refusal.Term)

-- the refusal of a field that is not of its sort, or none
unfoldable pub fault : ℕ → Sort → Field → Option Refusal
fault count a_name f = cond (is_name f) none (some refusal.Name)
fault count (a_number limit) f = number_fault limit (number f)
fault count a_term f = term_fault count (number f)
fault count an_op_word f = elim (word op_words f) [ none ↦ some refusal.Form | some w ↦ none ]

-- the sort of a field that may stand next
unfoldable pub sort_due : Due → Option Sort
sort_due (must s) = some s
sort_due (may s) = some s
sort_due nothing = none

-- whether a field has to be a name
unfoldable pub is_a_name : Sort → Bool
is_a_name a_name = true
is_a_name (a_number limit) = false
is_a_name a_term = false
is_a_name an_op_word = false

-- whether a field has to be the number of a term
unfoldable pub is_a_term : Sort → Bool
is_a_term a_name = false
is_a_term (a_number limit) = false
is_a_term a_term = true
is_a_term an_op_word = false

-- those of the fields that are of such a sort, in order, where `ahead` says what stands next after some of them
unfoldable pub fields_due : (Sort → Bool) → (List Field → Due) → List Field → List Field
fields_due of_sort ahead [] = []
fields_due of_sort ahead (f ∷ fs) =
    let more = fields_due of_sort (λ gs. ahead (f ∷ gs)) fs in
    cond (holds of_sort (sort_due (ahead []))) (f ∷ more) more

-- the fields of a line that are of such a sort, by the kind that its first field says and the form of the file
unfoldable pub fields_of : (Sort → Bool) → Bool → List Field → List Field
fields_of of_sort grouped [] = []
fields_of of_sort grouped (f ∷ fs) = elim (word kinds f) [ none ↦ [] | some k ↦ fields_due of_sort (due grouped k) fs ]

-- why the rest of a line's fields is refused, the fields before it being what they have to be: the first fault counts
pub data Faulty (grouped : Bool) (k : LineKind) (count : ℕ) : List Field → List Field → Refusal → Type 0 where
  -- a lacking field is 1 at its turn
  lacking : {before : List Field} {s : Sort} → due grouped k before ≡ must s → Faulty grouped k count before [] refusal.Form
  -- one left over is 1 after the last field read, and is not looked at
  left_over : {before : List Field} {f : Field} {more : List Field} → due grouped k before ≡ nothing
      → Faulty grouped k count before (f ∷ more) refusal.Form
  -- a field that is not what it has to be
  not_so : {before : List Field} {f : Field} {more : List Field} {r : Refusal} {s : Sort}
      → sort_due (due grouped k before) ≡ some s → fault count s f ≡ some r → Faulty grouped k count before (f ∷ more) r
  -- a field that is, and a fault after it
  later : {before : List Field} {f : Field} {more : List Field} {r : Refusal} {s : Sort}
      → sort_due (due grouped k before) ≡ some s → fault count s f ≡ none
      → Faulty grouped k count (before ++ (f ∷ [])) more r → Faulty grouped k count before (f ∷ more) r

-- the fields after a line's kind are refused exactly for such a reason
abbrev pub RefusedFields : Type 0
RefusedFields =
    (k : LineKind) (grouped : Bool) (count : ℕ) (fs : List Field) (r : Refusal)
    → (content k grouped count fs ≡ refused r) ↔ Faulty grouped k count [] fs r

-- a line of this kind may stand next, and if it is an ask or an also there are fewer than 16 of both before it
pub record Allowed (s : State) (k : LineKind) : Type 0 where
  pub stands : T (may_stand s (place k))
  pub in_number : T (is_position (place k)) → length s.asks < 16

-- the field count is the fixed one, where there is one
abbrev pub FieldCounted : State → LineKind → List Field → Type 0
FieldCounted s k fs = (fixed : ℕ) → fixed_count s k ≡ some fixed → length fs ≡ fixed

-- why a line's fields are refused, after the lines that led to this state: kind, 13, field count where it is fixed, fields left
-- to right
pub data FaultyLine (s : State) : List Field → Refusal → Type 0 where
  -- an unknown kind
  unknown : {f : Field} {fs : List Field} → word kinds f ≡ none → FaultyLine s (f ∷ fs) refusal.Form
  -- one that may not stand here: document 02, Change 6, "a line where it may not stand is 1 as an unknown kind", and Change 13, an
  -- ask line "of the other form is 1, as an unknown kind"
  misplaced : {f : Field} {fs : List Field} {k : LineKind} → word kinds f ≡ some k → T (not (may_stand s (place k)))
      → FaultyLine s (f ∷ fs) refusal.Form
  -- an ask or an also that may stand here, after 16 of both: document 02, Change 7, "right after its kind"
  too_many : {f : Field} {fs : List Field} {k : LineKind} → word kinds f ≡ some k → T (may_stand s (place k))
      → T (is_position (place k)) → 16 ≤ length s.asks → FaultyLine s (f ∷ fs) refusal.FullAsks
  -- a field count other than the fixed one
  miscounted : {f : Field} {fs : List Field} {k : LineKind} {fixed : ℕ} → word kinds f ≡ some k → Allowed s k
      → fixed_count s k ≡ some fixed → length (f ∷ fs) ≢ fixed → FaultyLine s (f ∷ fs) refusal.Form
  -- a fault of a field after the kind
  field : {f : Field} {fs : List Field} {k : LineKind} {r : Refusal} → word kinds f ≡ some k → Allowed s k
      → FieldCounted s k (f ∷ fs) → Faulty s.grouped k (length s.terms) [] fs r → FaultyLine s (f ∷ fs) r

-- a line is refused with 1 to 4 or 13 exactly for such a reason
abbrev pub RefusedLine : Type 0
RefusedLine =
    (s : State) (f : Field) (fs : List Field) (r : Refusal)
    → (parse s (f ∷ fs) ≡ refused r) ↔ FaultyLine s (f ∷ fs) r

-- where the field count is fixed, the kind counted, it is the number of fields after which nothing more is due
abbrev pub FixedCounts : Type 0
FixedCounts =
    (s : State) (k : LineKind) (n : ℕ) → fixed_count s k ≡ some n
    → (fs : List Field) → (due s.grouped k fs ≡ nothing) ↔ (n ≤ length fs + 1)
