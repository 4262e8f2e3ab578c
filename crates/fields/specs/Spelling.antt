-- Names spelled field by field. Once a name has no room the count of names is past its limit, and names are only judged.
use Rattle.std.specs.Prelude.{ℕ, ◌≤◌, ◌<◌, ◌≡◌, List, [], ◌∷◌, length}
use Rattle.model.specs.Lists.{part}
use Rattle.model.specs.Names.{Name}
use Rattle.model.specs.Lines.{Field}
use Rattle.model.specs.Reading.{Result, ok, refused, ◌>>=◌, next, name_field, spell, most_names}
use Rattle.model.specs.declared.Refusal.{Refusal}
use Rattle.text.specs.declared.Cursor.{Cursor}
use Rattle.text.specs.Parts.{fields_left}
use Rattle.text.proofs.Laws.{Onward}
use Rattle.names.specs.Table.{Table, Tells, name_of, table_names}
use Rattle.words.specs.Slices.{SameBut}
use Rattle.fields.specs.declared.Spelt.{Spelt}

-- the count of names once a name has no room
abbrev pub past_names : ℕ
past_names = 2049

-- the words of the name table's own columns; from there on the marks and the columns of the records
abbrev pub name_columns : ℕ
name_columns = 8192

-- a count of names against the names of `model`: the table has them, or both are past the limit
pub data Naming (file names : List ℕ) (named : ℕ) (ns : List Name) : Type 0 where
  in_table : Table file names named → table_names file names named ≡ ns → Naming file names named ns
  past : named ≡ past_names → most_names < length ns → Naming file names named ns

-- what spelling asks: a table, or a count past the limit
pub data Begun (file names : List ℕ) (named : ℕ) : Type 0 where
  table_there : Table file names named → Begun file names named
  none_left : named ≡ past_names → Begun file names named

-- a table with no fewer names: those before have their numbers and are excluded as before, the new ones where they are of
-- `exclude_names`; the columns of others are as before
pub record Longer (file names names' : List ℕ) (named named' : ℕ) : Type 0 where
  pub more : named ≤ named'
  pub same : (n : ℕ) → n < named → name_of file names' n ≡ name_of file names n
  pub told : Tells file names names' named named'
  pub kept : SameBut 0 name_columns names names'

-- what spelling a name comes to: the names with it, and its number
pub record SpelledAs (file names names' : List ℕ) (named named' n : ℕ) (name : Name) : Type 0 where
  pub naming : (ns : List Name) → Naming file names named ns → Naming file names' named' (spell ns name)
  pub number : named' ≤ most_names → (n < named') × (name_of file names' n ≡ name)
  pub longer : Longer file names names' named named'
  pub begun : Begun file names' named'

-- what spelling the part of the file from `a` up to `e` comes to
abbrev pub Spells : List ℕ → List ℕ → List ℕ → ℕ → ℕ → ℕ → Spelt → Type 0
Spells file names names' named a e r = SpelledAs file names names' named r.named r.number (part file a e)

-- what reading a name comes to
pub data ReadsName (file names names' : List ℕ) (named : ℕ) (c : Cursor) : Result (ℕ × ℕ × Cursor) → Type 0 where
  name_read : {n named' : ℕ} {after : Cursor} {name : Name}
      → next name_field (fields_left file c) ≡ ok (name, fields_left file after)
      → SpelledAs file names names' named named' n name → Onward file c after
      → ReadsName file names names' named c (ok (n, named', after))
  name_not : {x : Refusal}
      → next name_field (fields_left file c) ≡ refused x → names' ≡ names
      → ReadsName file names names' named c (refused x)

-- the names with those that the fields are
unfoldable pub spell_fields : List Name → List Field → Result (List Name)
spell_fields ns [] = ok ns
spell_fields ns (f ∷ fs) = name_field f >>= λ m. spell_fields (spell ns m) fs

-- what spelling all fields that are left comes to
pub data SpellsRest (file names names' : List ℕ) (named : ℕ) (fs : List Field) : Result (ℕ × Cursor) → Type 0 where
  all_spelt : {ns : List Name} {named' : ℕ} {after : Cursor}
      → spell_fields (table_names file names named) fs ≡ ok ns
      → Naming file names' named' ns → Longer file names names' named named'
      → SpellsRest file names names' named fs (ok (named', after))
  rest_not : {x : Refusal}
      → spell_fields (table_names file names named) fs ≡ refused x → SameBut 0 name_columns names names'
      → SpellsRest file names names' named fs (refused x)
