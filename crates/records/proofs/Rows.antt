-- Laws of a row that is written.
use Prim.Native.Nat.{ℕ, zero, suc, ◌+◌, ◌*◌, ◌≤◌, ◌<◌}
use native.Mathlib.Nat.{not-suc-le-zero}
use native.Mathlib.Numerals.{add-one}
use native.Mathlib.Omega.{arith}
use mathlib.Core.Path.{◌≡◌, refl, sym, ap, ◌∙◌}
use mathlib.Core.List.{List, [], ◌∷◌}
use lib.ListN.{length, get_or, set, drop, length-set, drop_of_length-le}
use lib.Seq.{get_or-set_same, get_or-set_other, drop-cons}
use Rattle.model.specs.Reading.{most_records}
use Rattle.model.specs.declared.Counts.{Counts}
use Rattle.model.specs.Outcome.{working_words}
use Rattle.records.specs.Columns.{record_word}
use Rattle.records.specs.Writing.{put_row, row_columns, Rowed}

-- one word more
pub put_on : (recs : List ℕ) (i c : ℕ) (row : List ℕ) → c < length row
    → put_row recs i c (drop c row) ≡ put_row (set recs (c * most_records + i) (get_or row c 0)) i (c + 1) (drop (c + 1) row)
unfolding put_row
put_on recs i c row h =
    ap (put_row recs i c) (drop-cons row c 0 h)
    ∙ ap (λ (d : ℕ). put_row (set recs (c * most_records + i) (get_or row c 0)) i (c + 1) (drop d row)) (sym (add-one c))

-- no word more
pub put_end : (recs : List ℕ) (i c : ℕ) (row : List ℕ) → length row ≤ c → put_row recs i c (drop c row) ≡ recs
unfolding put_row
put_end recs i c row h = rw (drop_of_length-le row {i = c} h)

-- as many words
pub row_length : (recs : List ℕ) (i c : ℕ) (vs : List ℕ) → length (put_row recs i c vs) ≡ length recs
unfolding put_row
row_length recs i c [] = refl
row_length recs i c (v ∷ vs) = row_length (set recs (c * most_records + i) v) i (c + 1) vs ∙ simp length-set

-- other rows stay
pub row_other : (recs : List ℕ) (i c : ℕ) (vs : List ℕ) (d j : ℕ) → i < most_records → j < most_records → (j ≡ i → ⊥)
    → record_word (put_row recs i c vs) (d * most_records) j ≡ record_word recs (d * most_records) j
unfolding put_row
row_other recs i c [] d j h l e = refl
row_other recs i c (v ∷ vs) d j h l e =
    row_other (set recs (c * most_records + i) v) i (c + 1) vs d j h l e
    ∙ get_or-set_other recs (c * most_records + i) (d * most_records + j) v 0 (λ q. e (omega arith))

-- words past the columns stay
pub row_past : (recs : List ℕ) (i c : ℕ) (vs : List ℕ) (j : ℕ) → i < most_records → (c + length vs) * most_records ≤ j
    → get_or (put_row recs i c vs) j 0 ≡ get_or recs j 0
unfolding put_row
row_past recs i c [] j h l = refl
row_past recs i c (v ∷ vs) j h l =
    row_past (set recs (c * most_records + i) v) i (c + 1) vs j h (omega arith)
    ∙ get_or-set_other recs (c * most_records + i) j v 0 (λ q. omega arith)

-- columns before the first stay
row_before : (recs : List ℕ) (i c : ℕ) (vs : List ℕ) (d : ℕ) → i < most_records → d < c
    → record_word (put_row recs i c vs) (d * most_records) i ≡ record_word recs (d * most_records) i
unfolding put_row
row_before recs i c [] d h l = refl
row_before recs i c (v ∷ vs) d h l =
    row_before (set recs (c * most_records + i) v) i (c + 1) vs d h (omega arith)
    ∙ get_or-set_other recs (c * most_records + i) (d * most_records + i) v 0 (λ q. omega arith)

-- the columns of the row are the words
pub row_here : (recs : List ℕ) (i c : ℕ) (vs : List ℕ) (d : ℕ) → i < most_records → d < length vs → (c + length vs) * most_records ≤ length recs
    → record_word (put_row recs i c vs) ((c + d) * most_records) i ≡ get_or vs d 0
unfolding put_row
row_here recs i c [] d h l r = absurd (not-suc-le-zero l)
row_here recs i c (v ∷ vs) zero h l r =
    let e : c + 0 ≡ c = omega arith in
    rw e (row_before (set recs (c * most_records + i) v) i (c + 1) vs c h (omega arith)
    ∙ get_or-set_same recs (c * most_records + i) v 0 (omega arith))
row_here recs i c (v ∷ vs) (suc d) h l r =
    let e : c + suc d ≡ c + 1 + d = omega arith in
    let z : length (set recs (c * most_records + i) v) ≡ length recs = simp length-set in
    rw e (row_here (set recs (c * most_records + i) v) i (c + 1) vs d h (omega arith) (omega arith))

-- the words of a row
abbrev pub row_of : Counts → Counts → ℕ → ℕ → ℕ → ℕ → ℕ → ℕ → ℕ → List ℕ
row_of k k' kind line name term flag code group = kind ∷ line ∷ name ∷ term ∷ flag ∷ k.uses ∷ k'.uses ∷ k.entries ∷ k'.entries ∷ code ∷ group ∷ []

-- a row of these words
pub rowed : {recs recs' : List ℕ} (k k' : Counts) (kind line name term flag code group : ℕ) → k.records < most_records → working_words ≤ length recs
    → recs' ≡ put_row recs k.records 0 (row_of k k' kind line name term flag code group) → Rowed recs recs' k k' kind line name term flag code group
rowed {recs} {recs'} k k' kind line name term flag code group few room is =
    let row = row_of k k' kind line name term flag code group in
    let here : (d : ℕ) → d < row_columns → record_word recs' (d * most_records) k.records ≡ get_or row d 0 =
    λ d l. let e : 0 + d ≡ d = omega arith in rw is (rw e at (row_here recs k.records 0 row d few (omega arith) (omega arith))) in
    record {
      same_length = rw is (row_length recs k.records 0 row);
      others = λ c j l e. rw is (row_other recs k.records 0 row c j few l e);
      past = λ j l. rw is (row_past recs k.records 0 row j few l);
      kind_is = here 0 (omega arith);
      line_is = here 1 (omega arith);
      name_is = here 2 (omega arith);
      term_is = here 3 (omega arith);
      flag_is = here 4 (omega arith);
      uses_from = here 5 (omega arith);
      uses_to = here 6 (omega arith);
      entries_from = here 7 (omega arith);
      entries_to = here 8 (omega arith);
      code_is = here 9 (omega arith);
      group_is = here 10 (omega arith);
    }
