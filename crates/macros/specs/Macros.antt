-- The macro column of the names: 0 where the name is no macro; the record of its def and one; or, for one of the five macros of
-- the start that no def replaces, `opened_word` and the number of the name that it opens to, 0 where the table has no such name.
use Rattle.std.specs.Prelude.{ℕ, zero, suc, ◌+◌, ◌-◌, ◌<◌, ◌≡◌, Bool, cond, ◌&&◌, List, [], ◌∷◌, eqb, leb, ltb, length, get_or}
use Rattle.model.specs.declared.Counts.{Counts}
use Rattle.names.specs.Table.{Table, name_code}
use Rattle.words.specs.Slices.{SameBut}
use Rattle.records.specs.Columns.{record_kind, def_kind, macro_column, taken_at, macro_at}
use Rattle.records.specs.States.{uses_at}
use Rattle.records.specs.Filing.{Records, newest, Stocked}

-- macro words from here on say a name's number
abbrev pub opened_word : ℕ
opened_word = 2048

-- the head code of the first macro of the start
abbrev pub first_macro : ℕ
first_macro = 10

-- how many there are; what each opens to has a head code that is so much higher
abbrev pub macro_count : ℕ
macro_count = 5

-- the head code of the name that the first one opens to
abbrev pub first_opened : ℕ
first_opened = 15

-- the macro word for a number and one, if there is one
unfoldable pub opened : ℕ → ℕ
opened zero = 0
opened (suc n) = opened_word + n

-- the macro word of a macro of the start, by its head code
unfoldable pub start_word : List ℕ → ℕ → ℕ → ℕ
start_word names named code =
    cond (leb first_macro code && ltb code first_opened) (opened (newest (name_code names) (code + macro_count) named)) 0

-- whether a word of the taken column is that of a def
unfoldable pub is_def : List ℕ → ℕ → Bool
is_def recs taken = ltb 0 taken && eqb (record_kind recs (taken - 1)) def_kind

-- the macro word of a name
unfoldable pub macro_word : List ℕ → List ℕ → ℕ → ℕ → ℕ
macro_word names recs named n =
    cond (is_def recs (taken_at names n)) (taken_at names n) (start_word names named (name_code names n))

-- the numbers of the names that a macro word opens to
unfoldable pub opens_at : List ℕ → List ℕ → ℕ → List ℕ
opens_at recs lists word = cond (eqb word 0) [] (cond (ltb word opened_word) (uses_at recs lists (word - 1)) ((word - opened_word) ∷ []))

-- for each macro of the start, the number and one of the name that it opens to
pub record Found (names : List ℕ) (named : ℕ) (found : List ℕ) : Type 0 where
  pub size : length found ≡ macro_count
  pub numbers : (j : ℕ) → j < macro_count → get_or found j 0 ≡ newest (name_code names) (first_opened + j) named

-- the macro word of a macro of the start, by its head code, from these numbers
unfoldable pub found_word : List ℕ → ℕ → ℕ
found_word found code = cond (leb first_macro code && ltb code first_opened) (opened (get_or found (code - first_macro) 0)) 0

-- the macro word of a name, from these numbers
unfoldable pub word_from : List ℕ → List ℕ → List ℕ → ℕ → ℕ
word_from names recs found n = cond (is_def recs (taken_at names n)) (taken_at names n) (found_word found (name_code names n))

-- the macro column filled up to the n-th name; every other word, those of the column past the names too, is as it was
pub record MacrosOpened (names recs names' : List ℕ) (named n : ℕ) : Type 0 where
  pub same : SameBut macro_column named names names'
  pub macros : (m : ℕ) → m < n → macro_at names' m ≡ macro_word names recs named m

-- the tables after the last line, with the macro column filled: all that a run asks
pub record Filled (file names recs lists : List ℕ) (k : Counts) : Type 0 where
  pub table : Table file names k.names
  pub recorded : Records recs lists k.names k.records k.entries k.uses
  pub stocked : Stocked file names recs lists k.records k.entries
  pub macros : (n : ℕ) → n < k.names → macro_at names n ≡ macro_word names recs k.names n
