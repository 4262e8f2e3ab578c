-- Laws of spelling names field by field.
use Prim.Native.Nat.{ℕ, ◌+◌, ◌≤◌, ◌<◌}
use native.Mathlib.Omega.{arith}
use mathlib.Core.Path.{◌≡◌, refl, sym, ap, ◌∙◌}
use mathlib.Core.Logic.{inr, ⊎_elim}
use mathlib.Core.Bool.{Bool, true, false, cond}
use mathlib.Core.List.{List, [], ◌∷◌, ◌++◌}
use lib.ListN.{length, length-append}
use lib.Dec.{T, not_T}
use Rattle.model.specs.Lists.{fold_left, part}
use Rattle.model.specs.Names.{Name, mem}
use Rattle.model.specs.Lines.{Field}
use Rattle.model.specs.Reading.{Result, ok, refused, ◌>>=◌, next, rest, name_field, spell, most_names}
use Rattle.model.specs.declared.Refusal.{Refusal}
use Rattle.model.proofs.ListLaws.{cond_false}
use Rattle.text.specs.declared.Cursor.{Cursor}
use Rattle.text.specs.declared.Part.{Part}
use Rattle.text.specs.Parts.{Placed, fields_left, name_at, field_result}
use Rattle.text.proofs.Laws.{Onward, name_law, left_none}
use Rattle.names.specs.Table.{Table, table_names}
use Rattle.names.proofs.Laws.{names_length}
use Rattle.names.proofs.Entering.{entered_length, entered_keeps, entered_old, entered_new}
use Rattle.names.proofs.Spelling.{WasKnown, IsNew, IsFull}
use Rattle.names.proofs.Excluded.{tells_same, tells_then, tells_new, tells_full}
use Rattle.terms.proofs.Laws.{below}
use Rattle.words.specs.Slices.{SameBut}
use Rattle.words.proofs.Slices.{same_self, same_then}
use Rattle.fields.specs.Spelling.{past_names, name_columns, Naming, in_table, past, Begun, table_there, none_left, Longer, SpelledAs, ReadsName, name_read, name_not, spell_fields, SpellsRest, all_spelt, rest_not}
use Rattle.fields.proofs.Pushing.{left_cons}

-- ---- one name

-- names do not become fewer
spell_more : (ns : List Name) (m : Name) → length ns ≤ length (spell ns m)
unfolding spell
spell_more ns m = go (mem m ns)
  where
    go : (b : Bool) → length ns ≤ length (cond b ns (ns ++ (m ∷ [])))
    go true = omega arith
    go false = omega (arith, length-append ns (m ∷ []))

-- a name that is not there makes them one more
spell_one : (ns : List Name) (m : Name) → (T (mem m ns) → ⊥) → length (spell ns m) ≡ length ns + 1
unfolding spell
spell_one ns m h = rw (cond_false (mem m ns) ns (ns ++ (m ∷ [])) (not_T (mem m ns) h)) (omega (arith, length-append ns (m ∷ [])))

-- the same table
pub longer_same : {file names : List ℕ} {named : ℕ} → Longer file names names named named
longer_same {names = names} = record { more = omega arith; same = λ n l. refl; told = tells_same; kept = same_self 0 name_columns names }

-- longer than longer
pub longer_then : {file a b c : List ℕ} {k l m : ℕ} → Longer file a b k l → Longer file b c l m → Longer file a c k m
longer_then p q = record {
  more = omega (arith, p.more, q.more);
  same = λ n h. q.same n (omega (arith, p.more)) ∙ p.same n h;
  told = tells_then p.more q.more q.same p.told q.told;
  kept = same_then p.kept q.kept;
}

-- a place outside the first words is past them
beyond : (size i : ℕ) → (0 ≤ i → i < 0 + size → ⊥) → size ≤ i
beyond size i h = ⊎_elim (λ (l : i < size). absurd (h (omega arith) (omega arith))) (λ l. l) (below i size)

-- before the limit there is a table
pub begun_table : {file names : List ℕ} {named : ℕ} → Begun file names named → named ≤ most_names → Table file names named
begun_table (table_there t) h = t
begun_table (none_left d) h = absurd (omega arith)

-- and it has the names
pub naming_table : {file names : List ℕ} {named : ℕ} {ns : List Name} → Naming file names named ns → named ≤ most_names
    → Table file names named × (table_names file names named ≡ ns)
naming_table (in_table t d) h = (t, d)
naming_table (past d l) h = absurd (omega arith)

-- past the limit there are too many names
pub naming_past : {file names : List ℕ} {named : ℕ} {ns : List Name} → Naming file names named ns → most_names < named → most_names < length ns
naming_past (in_table t d) h = absurd (omega (arith, t.few))
naming_past (past d l) h = l

-- up to it there are not
pub naming_few : {file names : List ℕ} {named : ℕ} {ns : List Name} → Naming file names named ns → named ≤ most_names
    → length ns ≤ most_names
naming_few {file} {names} {named} g h = omega (arith, names_length file names named, ap length (naming_table g h).1)

-- past the limit nothing is spelled
pub spelled_past : {file names : List ℕ} {named : ℕ} (m : Name) → Begun file names named → most_names < named
    → SpelledAs file names names named named 0 m
spelled_past {file} {names} {named} m b h = record {
  naming = λ ns g. go ns g;
  number = λ l. absurd (omega arith);
  longer = longer_same;
  begun = b;
}
  where
    go : (ns : List Name) → Naming file names named ns → Naming file names named (spell ns m)
    go ns (in_table t d) = absurd (omega (arith, t.few))
    go ns (past d l) = past d (omega (arith, spell_more ns m))

-- the names with one more are those of a table with it
spell_names : {file names : List ℕ} {named : ℕ} {ns : List Name} (m : Name) → Table file names named → Naming file names named ns
    → spell (table_names file names named) m ≡ spell ns m
spell_names m t g = ap (λ l. spell l m) (naming_table g t.few).1

module _ {file names names' : List ℕ} {named a e : ℕ} (t : Table file names named) (o : a ≤ e) where
  -- a known name
  pub as_known : {n : ℕ} → WasKnown file names names' named a e n → SpelledAs file names names' named named n (part file a e)
  as_known {n} w = rw w.kept (record {
    naming = λ ns g. in_table t (w.names ∙ spell_names (part file a e) t g);
    number = λ l. (w.number, w.is);
    longer = longer_same;
    begun = table_there t;
  })

  -- a new name
  pub as_new : {n : ℕ} → IsNew file names names' named a e n → SpelledAs file names names' named (named + 1) n (part file a e)
  as_new {n} w =
      let inside = w.lacks.within in
      let few = w.few in
      record {
        naming = λ ns g. in_table w.table (w.names ∙ spell_names (part file a e) t g);
        number = λ l. (omega (arith, w.number), rw (w.slice, w.number) (entered_new file names named a e w.rank inside few t.room o));
        longer = record {
          more = omega arith;
          same = λ m l. rw w.slice (entered_old file names named a e w.rank inside few t.room m l);
          told = tells_new t o w;
          kept = record {
            same_length = rw w.slice (entered_length file names named a e w.rank inside few t.room);
            same_words = λ i h.
                let l = beyond name_columns i h in
                rw w.slice (entered_keeps file names named a e w.rank inside few t.room i (λ q. omega arith) (λ q. omega arith) (λ q. omega arith)
                (inr (omega arith)));
          };
        };
        begun = table_there w.table;
      }

  -- a name that has no room
  pub as_full : IsFull file names names' named a e → SpelledAs file names names' named past_names 0 (part file a e)
  as_full w = rw w.kept (record {
    naming = λ ns g.
        let d = (naming_table g t.few).1 in
        past refl (omega (arith, spell_one ns (part file a e) (rw d at w.absent), names_length file names named, ap length d, w.full));
    number = λ l. absurd (omega arith);
    longer = record { more = omega (arith, w.full); same = λ n l. refl; told = rw w.kept at (tells_full {named' = past_names} w); kept = same_self 0 name_columns names };
    begun = none_left refl;
  })

-- ---- a name field

module _ {file : List ℕ} {c : Cursor} (p : Placed file c) {r : Result Part} where
  -- the next field is a name
  pub field_name : {f : Part} → r ≡ name_at file c → r ≡ ok f
      → next name_field (fields_left file c) ≡ ok (part file f.start f.end, fields_left file f.next)
  unfolding field_result
  field_name d k = sym (name_law file c p) ∙ ap (field_result file) (sym d ∙ k)

  -- it is refused
  pub field_not : {x : Refusal} → r ≡ name_at file c → r ≡ refused x → next name_field (fields_left file c) ≡ refused x
  unfolding field_result
  field_not d k = sym (name_law file c p) ∙ ap (field_result file) (sym d ∙ k)

-- a name that was read
pub record NameRead (file names names' : List ℕ) (named named' n : ℕ) (c after : Cursor) : Type 0 where
  pub name : Name
  pub said : next name_field (fields_left file c) ≡ ok (name, fields_left file after)
  pub spelled : SpelledAs file names names' named named' n name
  pub onward : Onward file c after

module _ {file names names' : List ℕ} {named : ℕ} {c : Cursor} {r : Result (ℕ × ℕ × Cursor)} (s : ReadsName file names names' named c r) where
  -- what was read, where it was not refused
  pub reads_name : {n named' : ℕ} {after : Cursor} → r ≡ ok (n, named', after) → NameRead file names names' named named' n c after
  reads_name {n} {named'} {after} p = go (rw p at s)
    where
      go : ReadsName file names names' named c (ok (n, named', after)) → NameRead file names names' named named' n c after
      go (name_read {name = m} d s o) = record { name = m; said = d; spelled = s; onward = o }

  -- and where it was
  pub reads_not : {x : Refusal} → r ≡ refused x → (next name_field (fields_left file c) ≡ refused x) × SameBut 0 name_columns names names'
  reads_not {x} p = go (rw p at s)
    where
      go : ReadsName file names names' named c (refused x)
          → (next name_field (fields_left file c) ≡ refused x) × SameBut 0 name_columns names names'
      go (name_not d k) = (d, rw k (same_self 0 name_columns names))

-- ---- all names that are left

abbrev and_after : Name → List Field → Result (Name × List Field)
and_after m fs = ok (m, fs)

-- one field and then the others
fields_next : (ns : List Name) (fs : List Field) (f : Field) (gs : List Field) → fs ≡ f ∷ gs
    → spell_fields ns fs ≡ (next name_field fs >>= λ (m, fs₁). spell_fields (spell ns m) fs₁)
unfolding spell_fields next
fields_next ns fs f gs e = rw e (go (name_field f))
  where
    go : (r : Result Name) → (r >>= λ m. spell_fields (spell ns m) gs) ≡ (r >>= (λ a. and_after a gs) >>= λ (m, fs₁). spell_fields (spell ns m) fs₁)
    go (ok m) = refl
    go (refused x) = refl

module _ (ns : List Name) (file : List ℕ) (c : Cursor) where
  -- one of all that are left
  spell_next : c.at ≤ c.end
      → spell_fields ns (fields_left file c) ≡ (next name_field (fields_left file c) >>= λ (m, fs₁). spell_fields (spell ns m) fs₁)
  spell_next h =
      let (f, fs, e) = left_cons file c h in
      fields_next ns (fields_left file c) f fs e

  -- none is left
  spell_none : c.end < c.at → spell_fields ns (fields_left file c) ≡ ok ns
  unfolding spell_fields
  spell_none h = rw (left_none file c h)

-- names spelled from the fields before a cursor: the names of `model` so far
pub record SpellingOn (file names₀ names : List ℕ) (named₀ named : ℕ) (fs₀ : List Field) (c : Cursor) : Type 0 where
  pub ns : List Name
  pub run : spell_fields (table_names file names₀ named₀) fs₀ ≡ spell_fields ns (fields_left file c)
  pub naming : Naming file names named ns
  pub longer : Longer file names₀ names named₀ named
  pub begun : Begun file names named
  pub placed : Placed file c

-- before the first
pub on_first : {file names : List ℕ} {named : ℕ} {c : Cursor} → Table file names named → Placed file c
    → SpellingOn file names names named named (fields_left file c) c
on_first {file} {names} {named} t p = record {
  ns = table_names file names named;
  run = refl;
  naming = in_table t refl;
  longer = longer_same;
  begun = table_there t;
  placed = p;
}

module _ {file names₀ names names' : List ℕ} {named₀ named : ℕ} {fs₀ : List Field} {c : Cursor} {r : Result (ℕ × ℕ × Cursor)}
    (s : SpellingOn file names₀ names named₀ named fs₀ c) (h : c.at ≤ c.end) (d : ReadsName file names names' named c r) where
  -- one name more
  pub on_next : {n named' : ℕ} {after : Cursor} → r ≡ ok (n, named', after) → SpellingOn file names₀ names' named₀ named' fs₀ after
  on_next e =
      let read = reads_name d e in
      record {
        ns = spell s.ns read.name;
        run = s.run ∙ rw (spell_next s.ns file c h, read.said);
        naming = read.spelled.naming s.ns s.naming;
        longer = longer_then s.longer read.spelled.longer;
        begun = read.spelled.begun;
        placed = read.onward.placed;
      }

  -- a field that is refused
  pub on_not : {x : Refusal} → r ≡ refused x → SpellsRest file names₀ names' named₀ fs₀ (refused x)
  on_not {x} e =
      let (k, q) = reads_not d e in
      rest_not {x = x} (s.run ∙ rw (spell_next s.ns file c h, k)) (same_then s.longer.kept q)

-- after the last
pub on_last : {file names₀ names : List ℕ} {named₀ named : ℕ} {fs₀ : List Field} {c : Cursor} → SpellingOn file names₀ names named₀ named fs₀ c
    → c.end < c.at
    → SpellsRest file names₀ names named₀ fs₀ (ok (named, c))
on_last {file} {c = c} s h = all_spelt {ns = s.ns} {after = c} (s.run ∙ spell_none s.ns file c h) s.naming s.longer

-- the names that the fields are, spelled
pub spell_law : (ns : List Name) (fs : List Field) → spell_fields ns fs ≡ (rest name_field fs >>= λ ms. ok (fold_left spell ns ms))
unfolding spell_fields rest fold_left
spell_law ns [] = refl
spell_law ns (f ∷ fs) = go (λ m. spell_law (spell ns m) fs) (name_field f)
  where
    go : ((m : Name) → spell_fields (spell ns m) fs ≡ (rest name_field fs >>= λ ms. ok (fold_left spell (spell ns m) ms)))
        → (r : Result Name) → (r >>= λ m. spell_fields (spell ns m) fs)
        ≡ (r >>= (λ a. rest name_field fs >>= λ more. ok (a ∷ more)) >>= λ ms. ok (fold_left spell ns ms))
    go ih (refused x) = refl
    go ih (ok m) = ih m ∙ on (rest name_field fs)
      where
        on : (r : Result (List Name))
            → (r >>= λ ms. ok (fold_left spell (spell ns m) ms)) ≡ (r >>= (λ more. ok (m ∷ more)) >>= λ ms. ok (fold_left spell ns ms))
        on (refused x) = refl
        on (ok ms) = refl
