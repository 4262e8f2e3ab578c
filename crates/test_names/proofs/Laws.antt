-- Laws of the program: where a name was read, and that a spelling leaves a table of as many names as are counted then.
use Prim.Native.Nat.{ℕ, ◌≤◌}
use mathlib.Core.Path.{◌≡◌}
use mathlib.Core.List.{List}
use lib.ListN.{length}
use Rattle.model.specs.Lists.{part}
use Rattle.std.specs.Prelude.{Ok}
use Rattle.text.specs.declared.Part.{Part}
use Rattle.text.specs.Parts.{name_at}
use Rattle.text.proofs.Laws.{Stepped, name_next}
use Rattle.names.specs.declared.Spelled.{Spelled}
use Rattle.names.specs.Table.{Table, table_names, look_up, spell_answer, spell_table}
use Rattle.names.proofs.Spelling.{Spelling, known, new, full, spell_law}
use Rattle.test_names.specs.Counts.{count_after}

-- a name that is read in a part of the file was read there
pub name_within : {file w : List ℕ} {named : ℕ} → Table file w named → (a e : ℕ) → e ≤ length file → (f : Part)
    → name_at file (record { at = a; end = e }) ≡ Ok f → Stepped file (record { at = a; end = e }) f
name_within {file} table a e inside f h =
    (name_next file (record { at = a; end = e }) (record { inside = inside; short = table.short }) f h).0

-- a spelling leaves a table
spelled_table : {file w w' : List ℕ} {named a e : ℕ} {r : Spelled} → Table file w named → Spelling file w w' named a e r → Table file w' (count_after named r)
unfolding count_after
spelled_table table (known k) = rw k.kept table
spelled_table table (new k) = k.table
spelled_table table (full k) = rw k.kept table

-- what `names::spell` leaves is a table of as many names as `grown` counts
pub grown_table : {file w : List ℕ} {named : ℕ} → Table file w named → (a e : ℕ) → a ≤ e → e ≤ length file → (w' : List ℕ) (r : Spelled) (n : ℕ)
    → r ≡ spell_answer named (look_up (table_names file w named) (part file a e))
    → w' ≡ spell_table file w named a e (look_up (table_names file w named) (part file a e))
    → n ≡ count_after named r → Table file w' n
grown_table table a e o inside w' r n answer slice count =
    rw count (spelled_table table (spell_law table a e o inside w' r answer slice))
