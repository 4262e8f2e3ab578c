-- The pass that finds suppliers: the column has the record on the lowest line that supplies a name.
use Prim.Native.Nat.{ℕ, zero, suc, ◌+◌, ◌-◌, ◌≤◌, ◌<◌}
use native.Mathlib.Omega.{arith}
use mathlib.Core.Path.{◌≡◌, refl, sym, ◌∙◌, ap}
use mathlib.Core.Bool.{Bool, true, false, cond, ◌&&◌, ◌||◌}
use mathlib.Core.Logic.{◌⊎◌, inl, inr, ⊎_elim}
use mathlib.Core.List.Memᴰ
use mathlib.Core.List.{List, [], ◌∷◌, ◌++◌, Memᴰ}
use lib.Dec.{T, ltb, eqb, ltb→lt, nltb→le}
use lib.ListN.{length, get_or, set, length-set}
use lib.Seq.{get_or-set_same, get_or-set_other}
use borrow.Author.Tests.{eq-eqb, ne_eqb, le-ltb}
use Rattle.model.specs.Lists.{fold_left}
use Rattle.model.specs.Reading.{most_names, most_records}
use Rattle.model.proofs.ListLaws.{true_T, false_T, fold_left_append, collect_elim}
use Rattle.terms.proofs.Laws.{equal}
use Rattle.words.specs.Slices.{SameBut}
use Rattle.words.proofs.Slices.{same_self, same_then}
use Rattle.firing.specs.Held.{Held, Fits}
use Rattle.firing.specs.Met.{reached_column, is_reached}
use Rattle.firing.specs.Firing.{opened_all}
use Rattle.suppliers.specs.Notes.{supplier_column, goes_before, note, notes, was_scanned, noted_suppliers, Supplying, NotedSupplier, nobody, lowest, Notable}
use Rattle.firing.proofs.Marks.{mem_dec}

-- a record goes before none, and not before itself
pub before_none : (line : ℕ → ℕ) (i word : ℕ) → word ≡ 0 → goes_before line i word ≡ true
unfolding goes_before
before_none line i word e = rw (eq-eqb word 0 e)

before_word : (line : ℕ → ℕ) (i j word : ℕ) → word ≡ suc j → goes_before line i word ≡ ltb (line i) (line j)
unfolding goes_before
before_word line i j word e = let z : suc j - 1 ≡ j = omega arith in rw (e, ne_eqb (suc j) 0 (λ d. omega arith), z)

before_self : (line : ℕ → ℕ) (i word : ℕ) → word ≡ suc i → goes_before line i word ≡ false
before_self line i word e = before_word line i i word e ∙ le-ltb (line i) (line i) (omega arith)

module _ (line : ℕ → ℕ) where
  -- ---- one name

  -- whether a record is noted for a name
  abbrev fit : ℕ → List ℕ → ℕ → Bool
  fit i w n = eqb (get_or w n 0) (suc (get_or w (reached_column + i) 0)) && goes_before line i (get_or w (supplier_column + n) 0)

  pub note_length : (i : ℕ) (w : List ℕ) (n : ℕ) → length (note line i w n) ≡ length w
  unfolding note
  note_length i w n = go (fit i w n)
    where
      go : (b : Bool) → length (cond b (set w (supplier_column + n) (suc i)) w) ≡ length w
      go true = length-set w (supplier_column + n) (suc i)
      go false = refl

  -- no other word is written
  note_other : (i : ℕ) (w : List ℕ) (n k : ℕ) → (k ≡ supplier_column + n → ⊥) → get_or (note line i w n) k 0 ≡ get_or w k 0
  unfolding note
  note_other i w n k d = go (fit i w n)
    where
      go : (b : Bool) → get_or (cond b (set w (supplier_column + n) (suc i)) w) k 0 ≡ get_or w k 0
      go true = get_or-set_other w (supplier_column + n) k (suc i) 0 d
      go false = refl

  -- one before which the record does not go stays
  note_stay : (i : ℕ) (w : List ℕ) (n : ℕ) → goes_before line i (get_or w (supplier_column + n) 0) ≡ false → note line i w n ≡ w
  unfolding note
  note_stay i w n e = rw e (go (eqb (get_or w n 0) (suc (get_or w (reached_column + i) 0))))
    where
      go : (b : Bool) → cond (b && false) (set w (supplier_column + n) (suc i)) w ≡ w
      go true = refl
      go false = refl

  -- the record is noted where it goes before and the rounds fit
  note_new : (i : ℕ) (w : List ℕ) (n : ℕ) → supplier_column + n < length w → get_or w n 0 ≡ suc (get_or w (reached_column + i) 0)
      → goes_before line i (get_or w (supplier_column + n) 0) ≡ true → get_or (note line i w n) (supplier_column + n) 0 ≡ suc i
  unfolding note
  note_new i w n l e z = rw (eq-eqb (get_or w n 0) (suc (get_or w (reached_column + i) 0)) e, z) (get_or-set_same w (supplier_column + n) (suc i) 0 l)

  -- and not where they do not
  note_late : (i : ℕ) (w : List ℕ) (n : ℕ) → (get_or w n 0 ≡ suc (get_or w (reached_column + i) 0) → ⊥) → note line i w n ≡ w
  unfolding note
  note_late i w n d = rw (ne_eqb (get_or w n 0) (suc (get_or w (reached_column + i) 0)) d)

  -- no word is written but in the column
  pub note_same : (i : ℕ) (w : List ℕ) (n : ℕ) → n < most_names → SameBut supplier_column most_names w (note line i w n)
  note_same i w n l =
      record { same_length = note_length i w n; same_words = λ k d. note_other i w n k (λ e. d (omega (arith, e)) (omega (arith, e))) }

  -- a note leaves what a note asks
  pub note_notable : {recs : List ℕ} (i : ℕ) {w : List ℕ} (n : ℕ) → i < most_records → Notable recs w → Notable recs (note line i w n)
  unfolding note
  note_notable i {w} n l x = record {
    record_room = x.record_room;
    room = omega (arith, note_length i w n, x.room);
    small = λ m b. go m b (fit i w n) (equal m n);
  }
    where
      go : (m : ℕ) → m < most_names → (b : Bool) → (m ≡ n) ⊎ (m ≡ n → ⊥)
          → get_or (cond b (set w (supplier_column + n) (suc i)) w) (supplier_column + m) 0 ≤ most_records
      go m b false e = x.small m b
      go m b true (inl e) =
          let q : supplier_column + m ≡ supplier_column + n = omega arith in
          let r = get_or-set_same w (supplier_column + n) (suc i) 0 (omega (arith, x.room)) in rw q (omega (arith, r))
      go m b true (inr d) =
          let r = get_or-set_other w (supplier_column + n) (supplier_column + m) (suc i) 0 (λ e. d (omega (arith, e))) in
          omega (arith, r, x.small m b)

  -- ---- names

  pub notes_nil : (i : ℕ) (w : List ℕ) → notes line i w [] ≡ w
  unfolding notes fold_left
  notes_nil i w = refl

  pub notes_cons : (i : ℕ) (w : List ℕ) (n : ℕ) (ns : List ℕ) → notes line i w (n ∷ ns) ≡ notes line i (note line i w n) ns
  unfolding notes fold_left
  notes_cons i w n ns = refl

  pub notes_append : (i : ℕ) (w ns ms : List ℕ) → notes line i w (ns ++ ms) ≡ notes line i (notes line i w ns) ms
  unfolding notes
  notes_append i w ns ms = fold_left_append (note line i) w ns ms

  pub notes_length : (i : ℕ) (w ns : List ℕ) → length (notes line i w ns) ≡ length w
  unfolding notes fold_left
  notes_length i w [] = refl
  notes_length i w (n ∷ ns) = notes_length i (note line i w n) ns ∙ note_length i w n

  pub notes_same : (i : ℕ) (w ns : List ℕ) → ((n : ℕ) → Memᴰ n ns → n < most_names)
      → SameBut supplier_column most_names w (notes line i w ns)
  unfolding notes fold_left
  notes_same i w [] s = same_self supplier_column most_names w
  notes_same i w (n ∷ ns) s =
      same_then (note_same i w n (s n (Memᴰ.head refl))) (notes_same i (note line i w n) ns (λ m j. s m (Memᴰ.tail j)))

  pub notes_notable : {recs : List ℕ} (i : ℕ) {w : List ℕ} (ns : List ℕ) → i < most_records → Notable recs w → Notable recs (notes line i w ns)
  unfolding notes fold_left
  notes_notable i [] l x = x
  notes_notable i {w} (n ∷ ns) l x = notes_notable i {w = note line i w n} ns l (note_notable i {w = w} n l x)

  -- the columns of the run stay
  pub notes_low : (i : ℕ) (w ns : List ℕ) (k : ℕ) → k < supplier_column → get_or (notes line i w ns) k 0 ≡ get_or w k 0
  unfolding notes fold_left
  notes_low i w [] k l = refl
  notes_low i w (n ∷ ns) k l = notes_low i (note line i w n) ns k l ∙ note_other i w n k (λ e. omega (arith, e))

  -- a word before which the record does not go stays
  note_kept : (i : ℕ) (w : List ℕ) (n m : ℕ) → goes_before line i (get_or w (supplier_column + m) 0) ≡ false
      → get_or (note line i w n) (supplier_column + m) 0 ≡ get_or w (supplier_column + m) 0
  note_kept i w n m p = ⊎_elim
      (λ (e : m ≡ n). ap (λ (v : List ℕ). get_or v (supplier_column + m) 0) (note_stay i w n (rw e at p)))
      (λ d. note_other i w n (supplier_column + m) (λ e. d (omega (arith, e)))) (equal m n)

  pub notes_kept : (i : ℕ) (w ns : List ℕ) (m : ℕ) → goes_before line i (get_or w (supplier_column + m) 0) ≡ false
      → get_or (notes line i w ns) (supplier_column + m) 0 ≡ get_or w (supplier_column + m) 0
  unfolding notes fold_left
  notes_kept i w [] m p = refl
  notes_kept i w (n ∷ ns) m p =
      let e = note_kept i w n m p in
      notes_kept i (note line i w n) ns m (ap (goes_before line i) e ∙ p) ∙ e

  -- a name that is not among them, or whose round does not fit, stays
  pub notes_out : (i : ℕ) (w ns : List ℕ) (m : ℕ) → m < most_names → i < most_records
      → (Memᴰ m ns → get_or w m 0 ≡ suc (get_or w (reached_column + i) 0) → ⊥)
      → get_or (notes line i w ns) (supplier_column + m) 0 ≡ get_or w (supplier_column + m) 0
  unfolding notes fold_left
  notes_out i w [] m a b o = refl
  notes_out i w (n ∷ ns) m a b o =
      notes_out i (note line i w n) ns m a b
      (λ j e. o (Memᴰ.tail j) (sym (note_other i w n m (λ e. omega (arith, e))) ∙ e ∙ ap suc (note_other i w n (reached_column + i) (λ e. omega (arith, e)))))
      ∙ ⊎_elim
      (λ (e : m ≡ n). ap (λ (v : List ℕ). get_or v (supplier_column + m) 0) (note_late i w n (λ d. o (Memᴰ.head e) (rw e d))))
      (λ d. note_other i w n (supplier_column + m) (λ e. d (omega (arith, e)))) (equal m n)

  -- one among them whose round fits is noted, if the record goes before
  pub notes_in : (i : ℕ) {m : ℕ} (w : List ℕ) {ns : List ℕ} → m < most_names → i < most_records → supplier_column + most_names ≤ length w
      → get_or w m 0 ≡ suc (get_or w (reached_column + i) 0) → goes_before line i (get_or w (supplier_column + m) 0) ≡ true → Memᴰ m ns
      → get_or (notes line i w ns) (supplier_column + m) 0 ≡ suc i
  unfolding notes fold_left
  notes_in i {m} w a b l e z (Memᴰ.head {x = n} {xs} q) =
      let y : get_or (note line i w n) (supplier_column + m) 0 ≡ suc i = rw (← q) (note_new i w m (omega arith) e z) in
      notes_kept i (note line i w n) xs m (before_self line i (get_or (note line i w n) (supplier_column + m) 0) y) ∙ y
  notes_in i {m} w a b l e z (Memᴰ.tail {x = n} {xs} j) = ⊎_elim
      (λ (q : m ≡ n).
      let y : get_or (note line i w n) (supplier_column + m) 0 ≡ suc i = rw (← q) (note_new i w m (omega arith) e z) in
      notes_kept i (note line i w n) xs m (before_self line i (get_or (note line i w n) (supplier_column + m) 0) y) ∙ y)
      (λ d.
      let y = note_other i w n (supplier_column + m) (λ e. d (omega (arith, e))) in
      notes_in i (note line i w n) a b (rw (note_length i w n) l)
      (note_other i w n m (λ e. omega (arith, e)) ∙ e ∙ ap suc (sym (note_other i w n (reached_column + i) (λ e. omega (arith, e)))))
      (ap (goes_before line i) y ∙ z) j)
      (equal m n)

-- ---- the records

module _ (h : Held) (fits : Fits h) (line : ℕ → ℕ) (starts : ℕ → Bool) (w : List ℕ) (long : supplier_column + most_names ≤ length w) where
  pub noted_length : (m : ℕ) → length (noted_suppliers h line starts m w) ≡ length w
  unfolding noted_suppliers
  noted_length zero = refl
  noted_length (suc m) = go (was_scanned starts (noted_suppliers h line starts m w) m) (noted_length m)
    where
      go : (b : Bool) → length (noted_suppliers h line starts m w) ≡ length w
          → length (cond b (notes line m (noted_suppliers h line starts m w) (opened_all h.opens (h.frees m))) (noted_suppliers h line starts m w)) ≡ length w
      go true e = notes_length line m (noted_suppliers h line starts m w) (opened_all h.opens (h.frees m)) ∙ e
      go false e = e

  pub noted_low : (m k : ℕ) → k < supplier_column → get_or (noted_suppliers h line starts m w) k 0 ≡ get_or w k 0
  unfolding noted_suppliers
  noted_low zero k l = refl
  noted_low (suc m) k l = go (was_scanned starts (noted_suppliers h line starts m w) m) (noted_low m k l)
    where
      go : (b : Bool) → get_or (noted_suppliers h line starts m w) k 0 ≡ get_or w k 0
          → get_or (cond b (notes line m (noted_suppliers h line starts m w) (opened_all h.opens (h.frees m))) (noted_suppliers h line starts m w)) k 0 ≡ get_or w k 0
      go true e = notes_low line m (noted_suppliers h line starts m w) (opened_all h.opens (h.frees m)) k l ∙ e
      go false e = e

  -- no word is written but in the column
  pub noted_same : (m : ℕ) → m ≤ h.records → SameBut supplier_column most_names w (noted_suppliers h line starts m w)
  unfolding noted_suppliers opened_all
  noted_same zero l = same_self supplier_column most_names w
  noted_same (suc m) l = go (was_scanned starts (noted_suppliers h line starts m w) m) (noted_same m (omega arith))
    where
      low : (n : ℕ) → Memᴰ n (opened_all h.opens (h.frees m)) → n < most_names
      low n j =
          let (b, y, z) = collect_elim (λ n. n ∷ h.opens n) (h.frees m) j in
          let lb = fits.frees_small m b (omega arith) y in
          let few = fits.few_names in
          ⊎_elim (λ (q : n ≡ b). omega arith) (λ q. let s = fits.opens_small b n lb q in omega arith) (Memᴰ.cases_cons z)

      go : (b : Bool) → SameBut supplier_column most_names w (noted_suppliers h line starts m w)
          → SameBut supplier_column most_names w
          (cond b (notes line m (noted_suppliers h line starts m w) (opened_all h.opens (h.frees m))) (noted_suppliers h line starts m w))
      go true s = same_then s (notes_same line m (noted_suppliers h line starts m w) (opened_all h.opens (h.frees m)) low)
      go false s = s

  -- whether a record was scanned does not change
  scanned_same : (m i : ℕ) → i < most_records → was_scanned starts (noted_suppliers h line starts m w) i ≡ was_scanned starts w i
  unfolding was_scanned is_reached
  scanned_same m i l = ap (λ (x : ℕ). starts i || ltb 0 x) (noted_low m (reached_column + i) (omega arith))

  -- what one record more does to a word: it is noted, or the word stays for a reason
  data Stepped (m n word word' : ℕ) : Type 0 where
    taken : Supplying h starts w m n → goes_before line m word ≡ true → word' ≡ suc m → Stepped m n word word'
    stays : Supplying h starts w m n → goes_before line m word ≡ false → word' ≡ word → Stepped m n word word'
    passes : (Supplying h starts w m n → ⊥) → word' ≡ word → Stepped m n word word'

  step : (m n : ℕ) → m < h.records → n < h.named → (word word' : ℕ)
      → word ≡ get_or (noted_suppliers h line starts m w) (supplier_column + n) 0 → word' ≡ get_or (noted_suppliers h line starts (suc m) w) (supplier_column + n) 0
      → Stepped m n word word'
  unfolding noted_suppliers
  step m n lm ln word word' is is' = go (was_scanned starts (noted_suppliers h line starts m w) m) refl is'
    where
      v : List ℕ
      v = noted_suppliers h line starts m w

      ns : List ℕ
      ns = opened_all h.opens (h.frees m)

      small : (m < most_records) × (n < most_names)
      small = let x = fits.few_records in let y = fits.few_names in (omega arith, omega arith)

      met_same : get_or v n 0 ≡ get_or w n 0
      met_same = let (a, b) = small in noted_low m n (omega arith)

      round_same : get_or v (reached_column + m) 0 ≡ get_or w (reached_column + m) 0
      round_same = let (a, b) = small in noted_low m (reached_column + m) (omega arith)

      noting : Supplying h starts w m n → get_or v n 0 ≡ suc (get_or v (reached_column + m) 0) → word' ≡ get_or (notes line m v ns) (supplier_column + n) 0
          → (b : Bool) → goes_before line m word ≡ b → Stepped m n word word'
      noting x q e true g =
          let (a, b) = small in
          taken x g (e ∙ notes_in line m v b a (rw (noted_length m) long) q (ap (goes_before line m) (sym is) ∙ g) x.has)
      noting x q e false g = stays x g (e ∙ notes_kept line m v ns n (ap (goes_before line m) (sym is) ∙ g) ∙ sym is)

      in_pass : Memᴰ n ns ⊎ (Memᴰ n ns → ⊥) → T (was_scanned starts w m) → word' ≡ get_or (notes line m v ns) (supplier_column + n) 0 → Stepped m n word word'
      in_pass (inr d) t e =
          let (a, b) = small in
          passes (λ x. d x.has) (e ∙ notes_out line m v ns n b a (λ j q. d j) ∙ sym is)
      in_pass (inl j) t e =
          let (a, b) = small in
          ⊎_elim
          (λ (q : get_or v n 0 ≡ suc (get_or v (reached_column + m) 0)).
          noting (record { scanned = t; has = j; in_time = sym met_same ∙ q ∙ ap suc round_same }) q e (goes_before line m word) refl)
          (λ (d : get_or v n 0 ≡ suc (get_or v (reached_column + m) 0) → ⊥).
          passes (λ x. d (met_same ∙ x.in_time ∙ ap suc (sym round_same))) (e ∙ notes_out line m v ns n b a (λ j q. d q) ∙ sym is))
          (equal (get_or v n 0) (suc (get_or v (reached_column + m) 0)))

      go : (b : Bool) → was_scanned starts v m ≡ b → word' ≡ get_or (cond b (notes line m v ns) v) (supplier_column + n) 0 → Stepped m n word word'
      go true e e' = in_pass (mem_dec n ns) (let (a, b) = small in rw (← scanned_same m m a, e) tt) e'
      go false e e' = passes (λ x. let (a, b) = small in absurd (rw (← scanned_same m m a, e) at x.scanned)) (e' ∙ sym is)

  -- one record more in a bound
  more_records : (m : ℕ) (P : ℕ → Type 0) → ((j : ℕ) → j < m → P j) → P m → (j : ℕ) → j < suc m → P j
  more_records m P f p j l = ⊎_elim (λ (e : j ≡ m). rw e p) (λ e. f j (omega (arith, e))) (equal j m)

  -- after the pass over m records the word of a name is that of the one on the lowest line that supplies it
  pub noted_found : (m n : ℕ) → m ≤ h.records → n < h.named → get_or w (supplier_column + n) 0 ≡ 0
      → NotedSupplier h line starts w m n (get_or (noted_suppliers h line starts m w) (supplier_column + n) 0)
  unfolding noted_suppliers
  noted_found zero n lm ln z = nobody z (λ i l x. omega arith)
  noted_found (suc m) n lm ln z =
      go (noted_found m n (omega arith) ln z)
      (step m n (omega arith) ln (get_or (noted_suppliers h line starts m w) (supplier_column + n) 0) (get_or (noted_suppliers h line starts (suc m) w) (supplier_column + n) 0) refl refl)
    where
      go : {word word' : ℕ} → NotedSupplier h line starts w m n word → Stepped m n word word' → NotedSupplier h line starts w (suc m) n word'
      go (nobody e f) (taken x g q) =
          lowest m q (omega arith) x (more_records m (λ j. Supplying h starts w j n → line m ≤ line j) (λ j l y. absurd (f j l y)) (λ y. omega arith))
      go {word} (nobody e f) (stays x g q) = absurd (false_T (sym (before_none line m word e) ∙ g))
      go (nobody e f) (passes d q) = nobody (q ∙ e) (more_records m (λ j. Supplying h starts w j n → ⊥) f d)
      go {word} (lowest i e l x f) (taken y g q) =
          let b = ltb→lt (line m) (line i) (true_T (sym (before_word line m i word e) ∙ g)) in
          lowest m q (omega arith) y (more_records m (λ j. Supplying h starts w j n → line m ≤ line j) (λ j k u. omega (arith, f j k u)) (λ u. omega arith))
      go {word} (lowest i e l x f) (stays y g q) =
          let b = nltb→le (line m) (line i) (false_T (sym (before_word line m i word e) ∙ g)) in
          lowest i (q ∙ e) (omega arith) x (more_records m (λ j. Supplying h starts w j n → line i ≤ line j) f (λ u. b))
      go (lowest i e l x f) (passes d q) =
          lowest i (q ∙ e) (omega arith) x (more_records m (λ j. Supplying h starts w j n → line i ≤ line j) f (λ u. absurd (d u)))

-- ---- the same in another slice

-- what a slice holds of the run stands in another: what is found in one is found in the other
module _ (h : Held) (fits : Fits h) (line : ℕ → ℕ) (starts : ℕ → Bool) {w v : List ℕ} (same : (j : ℕ) → j < supplier_column → get_or v j 0 ≡ get_or w j 0) where
  supplying_same : {i n : ℕ} → i < most_records → n < most_names → Supplying h starts w i n → Supplying h starts v i n
  unfolding was_scanned is_reached
  supplying_same {i} {n} li ln x = record {
    scanned = rw (same (reached_column + i) (omega arith)) x.scanned;
    has = x.has;
    in_time = same n (omega arith) ∙ x.in_time ∙ ap suc (sym (same (reached_column + i) (omega arith)));
  }

  supplying_back : {i n : ℕ} → i < most_records → n < most_names → Supplying h starts v i n → Supplying h starts w i n
  unfolding was_scanned is_reached
  supplying_back {i} {n} li ln x = record {
    scanned = rw (← same (reached_column + i) (omega arith)) x.scanned;
    has = x.has;
    in_time = sym (same n (omega arith)) ∙ x.in_time ∙ ap suc (same (reached_column + i) (omega arith));
  }

  pub found_same : {m n word : ℕ} → m ≤ h.records → n < h.named → NotedSupplier h line starts w m n word → NotedSupplier h line starts v m n word
  found_same {m} {n} lm ln (nobody e f) =
      let few = fits.few_records in
      let named = fits.few_names in
      nobody e (λ i l x. f i l (supplying_back (omega arith) (omega arith) x))
  found_same {m} {n} lm ln (lowest i e l x f) =
      let few = fits.few_records in
      let named = fits.few_names in
      lowest i e l (supplying_same (omega arith) (omega arith) x) (λ j k y. f j k (supplying_back (omega arith) (omega arith) y))
