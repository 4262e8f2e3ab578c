-- Laws of spelling a name: what each answer says of the table before and after, and of the names as `model` has them.
use Prim.Native.Nat.{ℕ, ◌+◌, ◌≤◌, ◌<◌}
use native.Mathlib.Omega.{arith}
use mathlib.Core.Path.{◌≡◌, refl, sym, ◌∙◌}
use mathlib.Core.Bool.{Bool, true, false, cond}
use mathlib.Core.List.{List, [], ◌∷◌, ◌++◌}
use lib.ListN.{length}
use Rattle.std.specs.Prelude.{Result, Ok, Err}
use lib.Dec.{T, not_T, ltb}
use borrow.Author.Tests.{lt-ltb, le-ltb, ltb-true, ltb-false}
use Rattle.model.specs.Lists.{part}
use Rattle.model.specs.Names.{Name, mem}
use Rattle.model.specs.Reading.{spell}
use Rattle.model.proofs.ListLaws.{cond_true, cond_false}
use Rattle.names.specs.declared.Spelled.{Spelled}
use Rattle.names.specs.declared.Spelled.TheVariants.{Known, New, Full}
use Rattle.names.specs.Table.{name_of, table_names, Table, look_up, entered, spell_answer, spell_table}
use Rattle.names.proofs.Laws.{Lacks, found_at, found_missing, names_intro}
use Rattle.names.proofs.Entering.{entered_names, entered_table}

-- to spell a name that is among the names changes nothing
spell_old : (name : Name) (names : List Name) → T (mem name names) → names ≡ spell names name
unfolding spell
spell_old name names t = sym (cond_true (mem name names) names (names ++ (name ∷ [])) t)

-- to spell another appends it
spell_fresh : (name : Name) (names : List Name) → (T (mem name names) → ⊥) → names ++ (name ∷ []) ≡ spell names name
unfolding spell
spell_fresh name names h = sym (cond_false (mem name names) names (names ++ (name ∷ [])) (not_T (mem name names) h))

-- where the table has room, a missing name is new
pub missing_new : (file w : List ℕ) (named a e rank : ℕ) → named < 2048
    → (spell_answer named (Err rank) ≡ New named) × (spell_table file w named a e (Err rank) ≡ entered file w named a e rank)
unfolding spell_answer spell_table
missing_new file w named a e rank h = (rw (lt-ltb named 2048 h), rw (lt-ltb named 2048 h))

-- where it has none, it is full
pub missing_full : (file w : List ℕ) (named a e rank : ℕ) → 2048 ≤ named
    → (spell_answer named (Err rank) ≡ Full) × (spell_table file w named a e (Err rank) ≡ w)
unfolding spell_answer spell_table
missing_full file w named a e rank h = (rw (le-ltb named 2048 h), rw (le-ltb named 2048 h))

-- what was answered by what a look_up found is answered by the look_up
pub spell_by : (file w w' : List ℕ) (named a e : ℕ) (r : Spelled) (l f x : Result ℕ ℕ) → x ≡ l → x ≡ f
    → r ≡ spell_answer named f → w' ≡ spell_table file w named a e f
    → (r ≡ spell_answer named l) × (w' ≡ spell_table file w named a e l)
spell_by file w w' named a e r l f x p q answer table = rw (← p, q) (answer, table)

-- a name that was known: its number, and nothing has changed
pub record WasKnown (file w w' : List ℕ) (named a e n : ℕ) : Type 0 where
  pub number : n < named
  pub is : name_of file w n ≡ part file a e
  pub kept : w' ≡ w
  pub names : table_names file w named ≡ spell (table_names file w named) (part file a e)

-- a name that is new: it has the next number, and the table one name more
pub record IsNew (file w w' : List ℕ) (named a e n : ℕ) : Type 0 where
  pub number : n ≡ named
  pub few : named < 2048
  pub rank : ℕ
  pub lacks : Lacks file w named (part file a e) rank
  pub slice : w' ≡ entered file w named a e rank
  pub table : Table file w' (named + 1)
  pub appended : table_names file w' (named + 1) ≡ table_names file w named ++ (part file a e ∷ [])
  pub names : table_names file w' (named + 1) ≡ spell (table_names file w named) (part file a e)

-- a full table: the name is another than its 2,048, and nothing has changed
pub record IsFull (file w w' : List ℕ) (named a e : ℕ) : Type 0 where
  pub full : named ≡ 2048
  pub absent : T (mem (part file a e) (table_names file w named)) → ⊥
  pub kept : w' ≡ w

-- what an answer says
pub data Spelling (file w w' : List ℕ) (named a e : ℕ) : Spelled → Type 0 where
  known : {n : ℕ} → WasKnown file w w' named a e n → Spelling file w w' named a e (Known n)
  new : {n : ℕ} → IsNew file w w' named a e n → Spelling file w w' named a e (New n)
  full : IsFull file w w' named a e → Spelling file w w' named a e Full

module _ {file w : List ℕ} {named : ℕ} (table : Table file w named) (a e : ℕ) (o : a ≤ e) (inside : e ≤ length file) where
  -- the answer and the slice of spelling a name, and the names then
  pub spell_law : (w' : List ℕ) (r : Spelled) → r ≡ spell_answer named (look_up (table_names file w named) (part file a e))
      → w' ≡ spell_table file w named a e (look_up (table_names file w named) (part file a e)) → Spelling file w w' named a e r
  unfolding spell_answer spell_table
  spell_law w' r p q = rw p (go (look_up (table_names file w named) (part file a e)) refl q)
    where
      go : (f : Result ℕ ℕ) → look_up (table_names file w named) (part file a e) ≡ f → w' ≡ spell_table file w named a e f
          → Spelling file w w' named a e (spell_answer named f)
      go (Ok n) d q =
          let (h, is_name) = found_at table (part file a e) n d in
          known
          (record {
            number = h;
            is = is_name;
            kept = q;
            names = spell_old (part file a e) (table_names file w named) (rw is_name at (names_intro file w named n h));
          })
      go (Err rank) d q = choose (ltb named 2048) refl q
        where
          lacks : Lacks file w named (part file a e) rank
          lacks = found_missing table (part file a e) rank d

          choose : (t : Bool) → ltb named 2048 ≡ t → w' ≡ cond t (entered file w named a e rank) w
              → Spelling file w w' named a e (cond t (New named) Full)
          choose true t q =
              let few = ltb-true named 2048 t in
              let names = entered_names file w named a e rank lacks.within few table.room o in
              new
              (record {
                number = refl;
                few = few;
                rank = rank;
                lacks = lacks;
                slice = q;
                table = rw q (entered_table table few a e rank o inside d);
                appended = rw q names;
                names = rw q (names ∙ spell_fresh (part file a e) (table_names file w named) lacks.absent);
              })
          choose false t q = full (record { full = omega (arith, table.few, ltb-false named 2048 t); absent = lacks.absent; kept = q })

-- what the answer that a name is known says
pub spelled_known : {file w w' : List ℕ} {named a e n : ℕ} {r : Spelled} → Spelling file w w' named a e r → r ≡ Known n
    → WasKnown file w w' named a e n
spelled_known {file} {w} {w'} {named} {a} {e} {n} s p = go (rw p at s)
  where
    go : Spelling file w w' named a e (Known n) → WasKnown file w w' named a e n
    go (known k) = k

-- what the answer that it is new says
pub spelled_new : {file w w' : List ℕ} {named a e n : ℕ} {r : Spelled} → Spelling file w w' named a e r → r ≡ New n → IsNew file w w' named a e n
spelled_new {file} {w} {w'} {named} {a} {e} {n} s p = go (rw p at s)
  where
    go : Spelling file w w' named a e (New n) → IsNew file w w' named a e n
    go (new k) = k

-- what the answer that the table is full says
pub spelled_full : {file w w' : List ℕ} {named a e : ℕ} {r : Spelled} → Spelling file w w' named a e r → r ≡ Full → IsFull file w w' named a e
spelled_full {file} {w} {w'} {named} {a} {e} s p = go (rw p at s)
  where
    go : Spelling file w w' named a e Full → IsFull file w w' named a e
    go (full k) = k
