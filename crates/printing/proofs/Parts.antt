-- Laws of lines: where they start, and the second field of one.
use Prim.Native.Nat.{ℕ, zero, suc, ◌+◌, ◌-◌, ◌≤◌, ◌<◌}
use native.Mathlib.Numerals.{one-add}
use native.Mathlib.Omega.{arith}
use mathlib.Core.Path.{◌≡◌, refl, sym, ap, ◌∙◌}
use mathlib.Core.Bool.{Bool, true, false, cond}
use mathlib.Core.List.{List, [], ◌∷◌}
use lib.Dec.{leb, eqb}
use lib.ListN.{length, take, drop, get_or, set, length-drop, drop_of_length-le}
use lib.Seq.{drop-drop, get_or-set_same, get_or-set_other}
use borrow.Author.Count.{below_more}
use borrow.Author.Tests.{leb-true, leb-false}
use Rattle.model.specs.Lists.{part}
use Rattle.model.specs.Lines.{lines, Field, fields, field_cons}
use Rattle.model.specs.Names.{bytes, same}
use Rattle.model.specs.Text.{first_bytes, second, name_on, bytes_on, name_in_fields, item_on, row_line, late_line}
use Rattle.model.proofs.PartLaws.{part_cons, part_drop, part_length, part_nil, part_take}
use Rattle.text.specs.Parts.{before, mark_at}
use Rattle.text.proofs.Laws.{mark_from, mark_to, line_ended, line_last, line_none}
use Rattle.model.specs.declared.Row.{Row}
use Rattle.names.specs.Table.{name_start, name_length, name_of, Table}
use Rattle.printing.specs.Printed.{TextBegins, Starts, LineSpan, NumberNamed, table_line, RowTold}
use Rattle.printing.specs.declared.Span.{Span}

-- ---- where lines start

-- the starts of the first lines, and the position of the next
pub record Starting (file starts : List ℕ) (many from : ℕ) : Type 0 where
  pub inside : (k : ℕ) → k < many → get_or starts k 0 < length file
  pub each : (k : ℕ) → k < many → drop k (lines file) ≡ lines (drop (get_or starts k 0) file)
  pub here : drop many (lines file) ≡ lines (drop from file)
  pub few : many ≤ from
  pub bounded : many ≤ length file

-- before the first line
pub starting_start : (file starts : List ℕ) → Starting file starts 0 0
starting_start file starts =
    record {
      inside = λ k h. absurd (omega arith);
      each = λ k h. absurd (omega arith);
      here = refl;
      few = omega arith;
      bounded = omega arith;
    }

-- the first of the lines from a position on
line_here : (file : List ℕ) (from e : ℕ) → from < length file → e ≡ mark_at 0x0a file from (length file)
    → (first_bytes (lines (drop from file)) ≡ part file from e) × (drop 1 (lines (drop from file)) ≡ lines (drop (e + 1) file))
unfolding first_bytes
line_here file from e h d = go (leb (length file) e) refl
  where
    go : (t : Bool) → leb (length file) e ≡ t
        → (first_bytes (lines (drop from file)) ≡ part file from e)
        × (drop 1 (lines (drop from file)) ≡ lines (drop (e + 1) file))
    go true t =
        let long = leb-true (length file) e t in
        let last : e ≡ length file = omega (arith, mark_to e 0x0a file from (length file) d (omega arith) (omega arith)) in
        (rw (line_last file from e h d last), rw (line_last file from e h d last, line_none file (e + 1) (omega arith)))
    go false t =
        let l = line_ended file from e h d (leb-false (length file) e t) in
        (rw l, rw l)

-- one line more
pub starting_next : (file starts : List ℕ) (many from e : ℕ) → Starting file starts many from
    → from < length file → many < length starts → e ≡ mark_at 0x0a file from (length file)
    → Starting file (set starts many from) (many + 1) (e + 1)
starting_next file starts many from e s h room d =
    let same = get_or-set_same starts many from 0 room in
    let other : (k : ℕ) → k < many → get_or (set starts many from) k 0 ≡ get_or starts k 0 =
    λ k l. get_or-set_other starts many k from 0 (λ q. absurd (omega arith)) in
    let word : ℕ → ℕ = λ k. get_or (set starts many from) k 0 in
    record {
      inside = below_more (λ k. word k < length file) many (λ k l. rw (other k l) (s.inside k l)) (rw same h);
      each = below_more (λ k. drop k (lines file) ≡ lines (drop (word k) file)) many (λ k l. rw (other k l) (s.each k l))
          (rw same s.here);
      here = sym (drop-drop 1 many (lines file)) ∙ ap (drop 1) s.here ∙ (line_here file from e h d).1;
      few = omega (arith, s.few, mark_from e 0x0a file from (length file) d);
      bounded = omega (arith, s.few);
    }

-- all lines
pub starting_end : (file starts : List ℕ) (many from : ℕ) → Starting file starts many from
    → length file ≤ from → many ≤ length starts → Starts file starts many
starting_end file starts many from s h room =
    let none : drop many (lines file) ≡ [] = s.here ∙ line_none file from h in
    record {
      room = room;
      inside = s.inside;
      each = s.each;
      all = omega (arith, simp length-drop at (ap length none));
    }

-- ---- the second field

-- the fields after the comma that ends the first
after : List ℕ → List Field
after [] = []
after (b ∷ bs) = fields bs

-- the fields are the bytes before the first comma, and the fields after it
fields_cut : (l : List ℕ) → fields l ≡ take (before 0x2c l) l ∷ after (drop (before 0x2c l) l)
unfolding fields field_cons before after
fields_cut [] = refl
fields_cut (b ∷ bs) = go (eqb b 0x2c) (before 0x2c bs) (fields bs) (fields_cut bs)
  where
    go : (t : Bool) (n : ℕ) (fs : List Field) → fs ≡ take n bs ∷ after (drop n bs)
        → cond t ([] ∷ fields bs) (field_cons b fs)
        ≡ take (cond t 0 (1 + n)) (b ∷ bs) ∷ after (drop (cond t 0 (1 + n)) (b ∷ bs))
    go true n fs e = refl
    go false n fs e = rw (e, one-add n)

-- the bytes from the first comma of a part on
comma_on : (s : List ℕ) (a e : ℕ) → drop (before 0x2c (part s a e)) (part s a e) ≡ part s (mark_at 0x2c s a e) e
unfolding mark_at
comma_on s a e = part_drop s a e (before 0x2c (part s a e))

-- the bytes before the first comma of a part
comma_before : (s : List ℕ) (a e : ℕ) → mark_at 0x2c s a e ≤ e
    → take (before 0x2c (part s a e)) (part s a e) ≡ part s a (mark_at 0x2c s a e)
unfolding mark_at
comma_before s a e h = part_take s a e (before 0x2c (part s a e)) h

-- a part is no longer than the list
pub part_short : (s : List ℕ) (a e : ℕ) → e ≤ length s → length (part s a e) ≤ length s
part_short s a e h = rw (part_length s a e h) (omega arith)

-- no comma
pub second_none : (s : List ℕ) (a e m : ℕ) → m ≡ mark_at 0x2c s a e → e ≤ m → part s e e ≡ second (fields (part s a e))
unfolding second after
second_none s a e m d h =
    rw (part_nil s e e (omega arith), fields_cut (part s a e), comma_on s a e, ← d, part_nil s m e h)

-- the field between two commas, or the first and the end
pub second_some : (s : List ℕ) (a e m n : ℕ) → e ≤ length s → m ≡ mark_at 0x2c s a e → m < e
    → n ≡ mark_at 0x2c s (m + 1) e → n ≤ e
    → part s (m + 1) n ≡ second (fields (part s a e))
unfolding second after
second_some s a e m n inside d h k l =
    let to_comma = comma_before s (m + 1) e (rw k at l) in
    rw (fields_cut (part s a e), comma_on s a e, ← d, part_cons s m e h inside, fields_cut (part s (m + 1) e), to_comma, ← k)

-- ---- the name of a fact or a root

-- the fields of a part up to its first comma, and those after it
fields_some : (s : List ℕ) (a e m : ℕ) → e ≤ length s → m ≡ mark_at 0x2c s a e → m < e
    → fields (part s a e) ≡ part s a m ∷ fields (part s (m + 1) e)
unfolding after
fields_some s a e m inside d h =
    let near : m ≤ e = omega arith in
    let within : mark_at 0x2c s a e ≤ e = rw d at near in
    rw (fields_cut (part s a e), comma_before s a e within, comma_on s a e, ← d, part_cons s m e h inside)

-- no comma
pub record_none : (s : List ℕ) (a e m : ℕ) → m ≡ mark_at 0x2c s a e → e ≤ m → part s e e ≡ name_in_fields (fields (part s a e))
unfolding second after name_in_fields
record_none s a e m d h =
    rw (part_nil s e e (omega arith), fields_cut (part s a e), comma_on s a e, ← d, part_nil s m e h)
    (none (same (take (before 0x2c (part s a e)) (part s a e)) (bytes "root")))
  where
    none : (t : Bool) → ◌≡◌ {A = List ℕ} [] (cond t [] [])
    none true = refl
    none false = refl

-- a root line
pub record_root : (s : List ℕ) (a e m : ℕ) → e ≤ length s → m ≡ mark_at 0x2c s a e → m < e
    → same (part s a m) (bytes "root") ≡ true → second (fields (part s (m + 1) e)) ≡ name_in_fields (fields (part s a e))
unfolding name_in_fields
record_root s a e m inside d h t = rw (fields_some s a e m inside d h, t)

-- another
pub record_other : (s : List ℕ) (a e m : ℕ) → e ≤ length s → m ≡ mark_at 0x2c s a e → m < e
    → same (part s a m) (bytes "root") ≡ false → second (fields (part s a e)) ≡ name_in_fields (fields (part s a e))
unfolding name_in_fields
record_other s a e m inside d h t = rw (fields_some s a e m inside d h, t)

-- ---- the part of a line

-- line 0 has no bytes
pub span_zero : (file : List ℕ) (n : ℕ) → n ≡ 0 → LineSpan file n (record { start = 0; end = 0 })
unfolding bytes_on
span_zero file zero h = record { ordered = omega arith; inside = omega arith; bytes_of = refl }
span_zero file (suc n) h = absurd (omega arith)

-- the bytes of a line, by its place from 0
bytes_at : (file : List ℕ) (n : ℕ) → 0 < n → bytes_on file n ≡ first_bytes (drop (n - 1) (lines file))
unfolding bytes_on
bytes_at file zero h = absurd (omega arith)
bytes_at file (suc n) h =
    let e : suc n - 1 ≡ n = omega arith in
    rw e

-- no such line
pub span_none : (file starts : List ℕ) (many n : ℕ) → Starts file starts many → many < n
    → LineSpan file n (record { start = 0; end = 0 })
unfolding first_bytes
span_none file starts many n s h =
    let none = drop_of_length-le (lines file) {i = n - 1} (omega (arith, s.all)) in
    record { ordered = omega arith; inside = omega arith; bytes_of = sym (bytes_at file n (omega arith) ∙ rw none) }

-- a line that is there, up to its end
pub span_there : (file starts : List ℕ) (many n e : ℕ) → Starts file starts many → 0 < n → n ≤ many
    → e ≡ mark_at 0x0a file (get_or starts (n - 1) 0) (length file)
    → LineSpan file n (record { start = get_or starts (n - 1) 0; end = e })
span_there file starts many n e s h k d =
    let l : n - 1 < many = omega arith in
    let inside = s.inside (n - 1) l in
    record {
      ordered = mark_from e 0x0a file (get_or starts (n - 1) 0) (length file) d;
      inside = mark_to e 0x0a file (get_or starts (n - 1) 0) (length file) d (omega arith) (omega arith);
      bytes_of = sym (bytes_at file n h ∙ rw (s.each (n - 1) l, (line_here file (get_or starts (n - 1) 0) e inside d).0));
    }

-- the name on a line is the second field of its bytes
pub name_of_line : (file : List ℕ) (n : ℕ) → second (fields (bytes_on file n)) ≡ name_on file n
unfolding name_on bytes_on second fields
name_of_line file zero = refl
name_of_line file (suc n) = refl

-- so of the part where the line stands
pub name_in : {file : List ℕ} {n : ℕ} {s : Span} → LineSpan file n s
    → second (fields (part file s.start s.end)) ≡ name_on file n
name_in {file} {n} l = ap (λ b. second (fields b)) l.bytes_of ∙ name_of_line file n

-- the name of the fact or root there
pub item_in : {file : List ℕ} {n : ℕ} {s : Span} → LineSpan file n s
    → name_in_fields (fields (part file s.start s.end)) ≡ item_on file n
unfolding item_on
item_in l = ap (λ b. name_in_fields (fields b)) l.bytes_of

-- ---- rows

-- the name of a number is a part of the file
pub named_short : (file names : List ℕ) (named n : ℕ) (name : List ℕ) → Table file names named → n < named
    → name ≡ name_of file names n → length name ≤ length file
unfolding name_of
named_short file names named n name t h e =
    rw e (part_short file (name_start names n) (name_start names n + name_length names n) (t.inside n h))

-- the line of a row, its name found
pub row_told : (file names : List ℕ) (named : ℕ) (r q : Row) (reasons : Bool) (name text : List ℕ) (n : ℕ) → r ≡ q
    → NumberNamed file names named r.number name → TextBegins (table_line reasons file name r) text n
    → RowTold file names named q reasons text n
row_told file names named r q reasons name text n e found b =
    let told : RowTold file names named r reasons text n =
    record { begins = λ h. rw (found.is_name h) at b; inside = b.inside } in
    rw e at told

-- a line of reasons
pub reasons_line : (file name text : List ℕ) (r : Row) (n : ℕ) (reasons : Bool) → reasons ≡ true
    → TextBegins (row_line file name r) text n → TextBegins (table_line reasons file name r) text n
unfolding table_line
reasons_line file name text r n reasons e b = rw e b

-- a line of the check
pub check_line : (file name text : List ℕ) (r : Row) (n : ℕ) (reasons : Bool) → reasons ≡ false
    → TextBegins (late_line file name r) text n → TextBegins (table_line reasons file name r) text n
unfolding table_line
check_line file name text r n reasons e b = rw e b
