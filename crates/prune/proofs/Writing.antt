-- Lists written behind each other in a column.
use Prim.Native.Nat.{ℕ, suc, ◌+◌, ◌-◌, ◌≤◌, ◌<◌}
use native.Mathlib.Omega.{arith}
use mathlib.Core.Path.{◌≡◌, refl, sym, ◌∙◌, ap}
use mathlib.Core.Logic.{⊎_elim}
use mathlib.Core.List.{List, [], ◌∷◌, ◌++◌, append-nil}
use lib.ListN.{length, get_or, set, length-append}
use lib.Seq.{sets, length-sets, get_or-set_other}
use borrow.Author.Tests.{eq-eqb, ne_eqb}
use Rattle.model.specs.Reading.{most_records}
use Rattle.words.specs.Slices.{SameBut}
use Rattle.terms.proofs.Laws.{below}
use Rattle.prune.specs.Listing.{record_behind}
use Rattle.prune.specs.Loops.{kept_column, prune_room, Behind, KeptBehind}

-- words before a place are not written from it on
pub sets_below : (w : List ℕ) (a : ℕ) (l : List ℕ) (j : ℕ) → j < a → get_or (sets w a l) j 0 ≡ get_or w j 0
sets_below w a [] j h = refl
sets_below w a (x ∷ l) j h = sets_below (set w a x) (suc a) l j (omega arith) ∙ get_or-set_other w a j x 0 (λ e. omega arith)

-- nor those behind the list
pub sets_above : (w : List ℕ) (a : ℕ) (l : List ℕ) (j : ℕ) → a + length l ≤ j → get_or (sets w a l) j 0 ≡ get_or w j 0
sets_above w a [] j h = refl
sets_above w a (x ∷ l) j h = sets_above (set w a x) (suc a) l j (omega arith) ∙ get_or-set_other w a j x 0 (λ e. omega arith)

-- one list after the other
sets_append : (w : List ℕ) (a : ℕ) (l k : List ℕ) → sets w a (l ++ k) ≡ sets (sets w a l) (a + length l) k
sets_append w a [] k = ap (λ (b : ℕ). sets w b k) (omega arith)
sets_append w a (x ∷ l) k = sets_append (set w a x) (suc a) l k ∙ ap (λ (b : ℕ). sets (sets (set w a x) (suc a) l) b k) (omega arith)

-- the rest of a list of records is still to be written
pub record Going (column : ℕ) (w : List ℕ) (m : ℕ) (whole : List ℕ) (v : List ℕ) (to : ℕ) (rest : List ℕ) : Type 0 where
  pub same : sets w (column + m) whole ≡ sets v (column + to) rest
  pub count : m + length whole ≡ to + length rest

module _ {column : ℕ} {w : List ℕ} {m : ℕ} {whole v : List ℕ} {to : ℕ} {rest : List ℕ}
    (g : Going column w m whole v to rest) where
  pub going_length : length v ≡ length w
  going_length = sym (length-sets v (column + to) rest) ∙ ap length (sym g.same) ∙ length-sets w (column + m) whole

  -- the words before the column stay
  pub going_below : (j : ℕ) → j < column → get_or v j 0 ≡ get_or w j 0
  going_below j h =
      sym (sets_below v (column + to) rest j (omega arith)) ∙ ap (λ (u : List ℕ). get_or u j 0) (sym g.same)
      ∙ sets_below w (column + m) whole j (omega arith)

  -- and those behind it
  pub going_above : {most : ℕ} → m + length whole ≤ most → (j : ℕ) → column + most ≤ j → get_or v j 0 ≡ get_or w j 0
  going_above f j h =
      let c = g.count in
      sym (sets_above v (column + to) rest j (omega arith)) ∙ ap (λ (u : List ℕ). get_or u j 0) (sym g.same)
      ∙ sets_above w (column + m) whole j (omega arith)

  pub going_end : rest ≡ [] → Behind column w m whole v to
  going_end e = record {
    written = sym (g.same ∙ ap (sets v (column + to)) e);
    count = let c = g.count in let d = ap length e in omega arith;
  }

pub going_start : (column : ℕ) (w : List ℕ) (m : ℕ) (whole : List ℕ) → Going column w m whole w m whole
going_start column w m whole = record { same = refl; count = refl }

-- a list of records written is as long as the slice it is written to
pub lists_length : {column : ℕ} {w : List ℕ} {m : ℕ} {l v : List ℕ} {to : ℕ} → Behind column w m l v to → length v ≡ length w
lists_length {column} {w} {m} {l} p = ap length p.written ∙ length-sets w (column + m) l

-- only the column changes
pub column_same : {column size : ℕ} {w : List ℕ} {m : ℕ} {l v : List ℕ} {to : ℕ} → Behind column w m l v to
    → m + length l ≤ size → SameBut column size w v
column_same {column} {w = w} {m} {l} p f = record {
  same_length = lists_length p;
  same_words = λ i h.
      ap (λ (v : List ℕ). get_or v i 0) p.written
      ∙ ⊎_elim
      (λ low. sets_below w (column + m) l i (omega arith))
      (λ high. sets_above w (column + m) l i (omega (arith, h high)))
      (below i column);
}

-- only the columns of the list change
pub lists_same : {w : List ℕ} {m : ℕ} {l v : List ℕ} {to : ℕ} → KeptBehind w m l v to → m + length l ≤ most_records
    → SameBut kept_column prune_room w v
lists_same p f = column_same p (omega arith)

-- a list written, the rest still to come
pub going_list : {column : ℕ} {w : List ℕ} {m : ℕ} {whole v u : List ℕ} {to next : ℕ} {l rest all : List ℕ}
    → Going column w m whole v to all → all ≡ l ++ rest → Behind column v to l u next → Going column w m whole u next rest
going_list {column} {v = v} {to = to} {l = l} {rest = rest} g e p =
    let c = g.count in
    let n = p.count in
    let d = length-append l rest in
    let f = ap length e in
    record {
      same = g.same ∙ ap (sets v (column + to)) e ∙ sets_append v (column + to) l rest
          ∙ rw (p.written, n) (ap (λ (b : ℕ). sets (sets v (column + to) l) b rest) (omega arith));
      count = omega arith;
    }

-- there is room for a list that stands before others
pub list_room : {column most : ℕ} {w : List ℕ} {m : ℕ} {whole v : List ℕ} {to : ℕ} {all : List ℕ} (l rest : List ℕ)
    → Going column w m whole v to all → all ≡ l ++ rest → m + length whole ≤ most → to + length l ≤ most
list_room l rest g e h = let c = g.count in let d = ap length e in let f = length-append l rest in omega arith

-- two lists written one after the other
pub lists_both : {column : ℕ} {w v u : List ℕ} {m mid to : ℕ} {l k : List ℕ} → Behind column w m l v mid
    → Behind column v mid k u to → Behind column w m (l ++ k) u to
lists_both {column} {w = w} {m = m} {l = l} {k = k} p q =
    going_end (going_list (going_list (going_start column w m (l ++ k)) refl p) (sym (append-nil k)) q) refl

-- nothing is written
pub lists_none : (column : ℕ) (w : List ℕ) (m : ℕ) → Behind column w m [] w m
lists_none column w m = record { written = refl; count = omega arith }

module _ {column : ℕ} {w : List ℕ} {m : ℕ} {whole v : List ℕ} {to : ℕ} {all : List ℕ} {t x : ℕ} (rest : List ℕ)
    (g : Going column w m whole v to all) (e : all ≡ record_behind x ++ rest) (p : t ≡ x) where
  -- nothing is picked
  pub pick_none : t ≡ 0 → Going column w m whole v to rest
  unfolding record_behind
  pick_none z = going_list {l = []} g (e ∙ rw (eq-eqb x 0 (sym p ∙ z))) (lists_none column v to)

  -- a record is picked and written
  pub pick_one : (t ≡ 0 → ⊥) → Going column w m whole (set v (column + to) (t - 1)) (to + 1) rest
  unfolding record_behind
  pick_one z =
      going_list {l = (t - 1) ∷ []} g (e ∙ rw (ne_eqb x 0 (λ y. z (p ∙ y)), ← p)) (record { written = refl; count = refl })

  -- room for one more
  pub pick_room : {most : ℕ} → (t ≡ 0 → ⊥) → m + length whole ≤ most → to < most
  unfolding record_behind
  pick_room z h =
      let c = g.count in
      let f : all ≡ (t - 1) ∷ rest = e ∙ rw (ne_eqb x 0 (λ y. z (p ∙ y)), ← p) in
      let d = ap length f in
      omega arith
