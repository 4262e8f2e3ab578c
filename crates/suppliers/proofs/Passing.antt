-- What the functions of the pass cite.
use Prim.Native.Nat.{ℕ, zero, suc, ◌+◌, ◌-◌, ◌≤◌, ◌<◌}
use native.Mathlib.Omega.{arith}
use native.Mathlib.Numerals.{add-one}
use mathlib.Core.Path.{◌≡◌, refl, sym, ◌∙◌, ap, subst}
use mathlib.Core.Bool.{Bool, true, false, not}
use mathlib.Core.List.{List, [], ◌∷◌, map-id}
use lib.Dec.{ltb, eqb}
use lib.ListN.{length, get_or, set}
use borrow.Author.Tests.{eq-eqb, ne_eqb, lt-ltb, le-ltb}
use Rattle.model.specs.Lists.{collect, part}
use Rattle.model.specs.Reading.{most_names, most_records}
use Rattle.model.specs.Outcome.{working_words}
use Rattle.model.specs.declared.Asked.{Asked}
use Rattle.model.specs.declared.Counts.{Counts}
use Rattle.model.proofs.ListLaws.{collect_one}
use Rattle.model.proofs.PartLaws.{part_cons, part_nil}
use Rattle.words.specs.Slices.{Zeroed}
use Rattle.words.proofs.Slices.{same_then}
use Rattle.records.specs.Columns.{record_line, uses_start, uses_end}
use Rattle.records.specs.States.{uses_at}
use Rattle.macros.specs.Macros.{opened_word, opens_at}
use Rattle.firing.specs.Tables.{held_of, record_meets, Laid, starts_at}
use Rattle.firing.specs.Met.{reached_column, is_reached}
use Rattle.firing.specs.Firing.{opened_all}
use Rattle.suppliers.specs.Notes.{supplier_column, goes_before, note, notes, was_scanned, noted_suppliers, NotedSupplier, Notable, SuppliersNoted}
use Rattle.suppliers.proofs.Noting.{notes_nil, notes_cons, notes_append, notes_length, note_notable, notes_notable, noted_same, noted_found, found_same}

-- ---- one name

pub before_line : (line : ℕ → ℕ) (i word x y : ℕ) → (word ≡ 0 → ⊥) → x ≡ line i → y ≡ line (word - 1) → ltb x y ≡ goes_before line i word
unfolding goes_before
before_line line i word x y d p q = rw (ne_eqb word 0 d, p, q)

module _ (line : ℕ → ℕ) (i : ℕ) (w : List ℕ) (n met : ℕ) (e : met ≡ get_or w n 0) where
  -- a name that is not met
  pub note_unmet : met ≡ 0 → w ≡ note line i w n
  unfolding note
  note_unmet z = rw (← e, ne_eqb met (suc (get_or w (reached_column + i) 0)) (λ q. omega (arith, q)))

  module _ (d : met ≡ 0 → ⊥) (round : ℕ) (r : round ≡ get_or w (reached_column + i) 0) where
    -- one of another round
    pub note_late : (met - 1 ≡ round → ⊥) → w ≡ note line i w n
    unfolding note
    note_late q = rw (← e, ← r, ne_eqb met (suc round) (λ z. q (omega (arith, z))))

    module _ (z : met - 1 ≡ round) {b : Bool} (word : ℕ) (p : word ≡ get_or w (supplier_column + n) 0) (g : b ≡ goes_before line i word) where
      in_time : eqb met (suc round) ≡ true
      in_time = eq-eqb met (suc round) (omega (arith, d))

      -- one for which another is noted
      pub note_behind : b ≡ false → w ≡ note line i w n
      unfolding note
      note_behind f = rw (← e, ← r, in_time, ← p, ← g, f)

      pub note_set : b ≡ true → set w (supplier_column + n) (i + 1) ≡ note line i w n
      unfolding note
      note_set t = rw (← e, ← r, in_time, ← p, ← g, t, add-one i)

-- ---- names one after the other

-- one name noted is a list of one
pub one_note : (line : ℕ → ℕ) (i : ℕ) (w : List ℕ) (n : ℕ) → notes line i w (n ∷ []) ≡ note line i w n
one_note line i w n = notes_cons line i w n [] ∙ notes_nil line i (note line i w n)

-- from place j of a part on there is left to note, of what each word brings, what from the start there was
pub record Left (brings : ℕ → List ℕ) (recs l w₀ : List ℕ) (i a e : ℕ) (w : List ℕ) (j : ℕ) : Type 0 where
  pub same_length : length w ≡ length w₀
  pub notable : Notable recs w
  pub left : notes (record_line recs) i w₀ (collect brings (part l a e)) ≡ notes (record_line recs) i w (collect brings (part l j e))

module _ {brings : ℕ → List ℕ} {recs l w₀ : List ℕ} {i a e : ℕ} where
  pub left_start : Notable recs w₀ → Left brings recs l w₀ i a e w₀ a
  left_start x = record { same_length = refl; notable = x; left = refl }

  pub left_next : {w v : List ℕ} {j x : ℕ} → Left brings recs l w₀ i a e w j → j < e → e ≤ length l → i < most_records → x ≡ get_or l j 0
      → v ≡ notes (record_line recs) i w (brings x) → Left brings recs l w₀ i a e v (j + 1)
  unfolding collect
  left_next {w} {v} {j} {x} m p b s c d =
      record {
        same_length = ap length d ∙ notes_length (record_line recs) i w (brings x) ∙ m.same_length;
        notable = subst (Notable recs) (sym d) (notes_notable (record_line recs) i {w = w} (brings x) s m.notable);
        left = m.left
            ∙ rw (part_cons l j e p b, ← c, notes_append (record_line recs) i w (brings x) (collect brings (part l (j + 1) e)), ← d);
      }

  left_end : {w : List ℕ} {j : ℕ} → Left brings recs l w₀ i a e w j → e ≤ j → w ≡ notes (record_line recs) i w₀ (collect brings (part l a e))
  unfolding collect
  left_end {w} {j} m p = sym (m.left ∙ rw (part_nil l j e p, notes_nil (record_line recs) i w))

-- a part of the uses: each brings itself
abbrev pub itself : ℕ → List ℕ
itself n = n ∷ []

pub part_end : {recs l w₀ w : List ℕ} {i a e j : ℕ} → Left itself recs l w₀ i a e w j → e ≤ j → w ≡ notes (record_line recs) i w₀ (part l a e)
part_end {l = l} {a = a} {e = e} m p = rw (← map-id (part l a e), ← collect_one (λ n. n) (part l a e)) (left_end m p)

-- the free names of a record: each brings what it opens to too
pub uses_end_noted : {opens : ℕ → List ℕ} {recs lists w₀ w : List ℕ} {i a e j : ℕ} → Left (λ n. n ∷ opens n) recs lists w₀ i a e w j → e ≤ j
    → a ≡ uses_start recs i → e ≡ uses_end recs i → w ≡ notes (record_line recs) i w₀ (opened_all opens (uses_at recs lists i))
unfolding opened_all
uses_end_noted m p q r = rw (← q, ← r) (left_end m p)

-- a record's number is small
pub record_small : {names recs lists : List ℕ} {k : Counts} {i : ℕ} → Laid names recs lists k → i < k.records → i < most_records
record_small x l = omega (arith, x.few_records)

-- where the free names of a record stand
pub uses_within : {names recs lists : List ℕ} {k : Counts} {i a e : ℕ} → Laid names recs lists k → i < k.records → a ≡ uses_start recs i → e ≡ uses_end recs i
    → (a ≤ e) × (e ≤ length lists) × ((j : ℕ) → a ≤ j → j < e → get_or lists j 0 < k.names)
uses_within {i = i} x l p q =
    let place = x.use_place i l in
    let room = x.list_room in
    (omega (arith, place.0), omega (arith, place.1), λ j b t. x.use_small i j l (omega arith) (omega arith))

-- a name noted, then what it opens to
pub noted_both : (line : ℕ → ℕ) (i : ℕ) (w : List ℕ) (n : ℕ) {v u : List ℕ} (ns : List ℕ) → v ≡ note line i w n → u ≡ notes line i v ns → u ≡ notes line i w (n ∷ ns)
noted_both line i w n ns d f = f ∙ rw (notes_cons line i w n ns, ← d)

-- more may be noted then
pub noted_on : {recs w v : List ℕ} (line : ℕ → ℕ) (i n : ℕ) → Notable recs w → i < most_records → v ≡ note line i w n → Notable recs v
noted_on {recs} {w} line i n x l d = subst (Notable recs) (sym d) (note_notable line i {w = w} n l x)

-- ---- a macro's word

module _ (line : ℕ → ℕ) (i : ℕ) (w recs lists : List ℕ) (m x : ℕ) (e : m ≡ x) where
  pub open_none : m ≡ 0 → w ≡ notes line i w (opens_at recs lists x)
  unfolding opens_at
  open_none z = rw (eq-eqb x 0 (sym e ∙ z), notes_nil line i w)

  pub open_record : (v : List ℕ) (a z : ℕ) → (m ≡ 0 → ⊥) → m < opened_word → a ≡ uses_start recs (m - 1) → z ≡ uses_end recs (m - 1)
      → v ≡ notes line i w (part lists a z) → v ≡ notes line i w (opens_at recs lists x)
  unfolding opens_at
  open_record v a z d l p q s = rw (← e, ne_eqb m 0 d, lt-ltb m opened_word l, ← p, ← q) s

  pub open_name : (v : List ℕ) → opened_word ≤ m → v ≡ note line i w (m - opened_word) → v ≡ notes line i w (opens_at recs lists x)
  unfolding opens_at
  open_name v l s = rw (← e, ne_eqb m 0 (λ z. omega arith), le-ltb m opened_word l) (s ∙ sym (one_note line i w (m - opened_word)))

-- ---- the records

pub scanned_first : (starts : ℕ → Bool) (w : List ℕ) (i : ℕ) {b : Bool} → b ≡ starts i → b ≡ true → true ≡ was_scanned starts w i
unfolding was_scanned
scanned_first starts w i e t = rw (← e, t)

pub scanned_later : (starts : ℕ → Bool) (w : List ℕ) (i x : ℕ) {b : Bool} → b ≡ starts i → b ≡ false → x ≡ get_or w (reached_column + i) 0
    → not (eqb x 0) ≡ was_scanned starts w i
unfolding was_scanned is_reached
scanned_later starts w i x e f q = rw (← e, f, ← q) (some x)
  where
    some : (x : ℕ) → not (eqb x 0) ≡ ltb 0 x
    some zero = refl
    some (suc x) = rw (lt-ltb 0 (suc x) (omega arith), ne_eqb (suc x) 0 (λ e. omega (arith, e)))

-- a cleared column is one for notes
pub cleared_notable : {recs w v : List ℕ} → working_words ≤ length recs → working_words ≤ length w → Zeroed supplier_column most_names w v → Notable recs v
cleared_notable r l z = record {
  record_room = r;
  room = omega (arith, l, z.same.same_length);
  small = λ n h. omega (arith, z.zero (supplier_column + n) (omega arith) (omega arith));
}

-- the first i records are noted
pub record Passed (names recs lists : List ℕ) (k : Counts) (a : Asked) (cleared w : List ℕ) (i : ℕ) : Type 0 where
  pub notable : Notable recs w
  pub same_length : length w ≡ length cleared
  pub is : w ≡ noted_suppliers (held_of names recs lists k a) (record_line recs) (starts_at recs a) i cleared

module _ {names recs lists : List ℕ} {k : Counts} {a : Asked} {cleared : List ℕ} where
  pub pass_start : Notable recs cleared → Passed names recs lists k a cleared cleared 0
  unfolding noted_suppliers
  pass_start x = record { notable = x; same_length = refl; is = refl }

  module _ {w : List ℕ} {i : ℕ} (x : Passed names recs lists k a cleared w i)
      {b : Bool} (p : b ≡ was_scanned (starts_at recs a) w i) where
    pub pass_over : b ≡ false → Passed names recs lists k a cleared w (i + 1)
    unfolding noted_suppliers held_of
    pass_over f = record {
      notable = x.notable;
      same_length = x.same_length;
      is = rw (add-one i, ← x.is, ← p, f);
    }

    pub pass_next : {v : List ℕ} → i < most_records → b ≡ true → v ≡ notes (record_line recs) i w (record_meets names recs lists i)
        → Passed names recs lists k a cleared v (i + 1)
    unfolding noted_suppliers held_of
    pass_next s t d = record {
      notable = subst (Notable recs) (sym d) (notes_notable (record_line recs) i {w = w} (record_meets names recs lists i) s x.notable);
      same_length = ap length d ∙ notes_length (record_line recs) i w (record_meets names recs lists i) ∙ x.same_length;
      is = d ∙ rw (add-one i, ← x.is, ← p, t);
    }

  pub pass_end : {before w : List ℕ} {i : ℕ} → Laid names recs lists k → working_words ≤ length before → Zeroed supplier_column most_names before cleared
      → Passed names recs lists k a cleared w i → i ≡ k.records → SuppliersNoted names recs lists k a before w
  unfolding held_of
  pass_end {before} {w} {i} laid room z x e =
      let is = subst (λ n. w ≡ noted_suppliers (held_of names recs lists k a) (record_line recs) (starts_at recs a) n cleared) e x.is in
      record {
        cleared = cleared;
        zeroed = z;
        is_noted = is;
        same = same_then z.same
            (rw is (noted_same (held_of names recs lists k a) (laid.fits a) (record_line recs) (starts_at recs a) cleared
            (omega (arith, room, z.same.same_length)) k.records (omega arith)));
      }

-- the column after the pass: of each name the record on the lowest line that supplies it
pub suppliers_found : {names recs lists : List ℕ} {k : Counts} {a : Asked} {before after : List ℕ} → Laid names recs lists k → working_words ≤ length before
    → SuppliersNoted names recs lists k a before after → (n : ℕ) → n < k.names
    → NotedSupplier (held_of names recs lists k a) (record_line recs) (starts_at recs a) before k.records n (get_or after (supplier_column + n) 0)
unfolding held_of
suppliers_found {names} {recs} {lists} {k} {a} {before} {after} laid room x n l =
    let h = held_of names recs lists k a in
    let z = x.zeroed in
    let few = laid.few_names in
    rw x.is_noted
    (found_same h (laid.fits a) (record_line recs) (starts_at recs a) {w = x.cleared} {v = before}
    (λ j b. sym (z.same.same_words j (λ p q. omega arith))) (omega arith) l
    (noted_found h (laid.fits a) (record_line recs) (starts_at recs a) x.cleared (omega (arith, room, z.same.same_length)) k.records n
    (omega arith) l (z.zero (supplier_column + n) (omega arith) (omega arith))))
