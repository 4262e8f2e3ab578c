-- The bits of a column's words, one after the other.
--     none-marked                  nothing is marked yet
--     next-marked, next-unmarked   one word more, whose bit is set, or whose word is zero
--     all-counted                  the ones of the row are the words that are not zero
--     bits-counted                 as many as the ones of any bits that say of each number whether its word is not zero
use mathlib.Core.Path.{◌≡◌, refl, sym, ap, ◌∙◌}
use Prim.Native.Nat.{ℕ, zero, suc, ◌+◌, ◌-◌, ◌/◌, ◌%◌, ◌^◌, ◌≤◌, ◌<◌}
use native.Mathlib.Nat.{zero-div, add-zero, sub-zero}
use native.Mathlib.Numerals.{add-one}
use native.Mathlib.Omega.{arith}
use mathlib.Core.Bool.{Bool, true, false}
use mathlib.Core.List.{List, [], ◌∷◌, ◌++◌, map, append_assoc}
use lib.Dec.{eqb}
use lib.ListN.{length, get_or, set, take, drop, replicate, length-drop, length-map, length-replicate, get_or-replicate}
use lib.Seq.{drop-cons, set_at, take-suc, take-append-add, get_or-drop, get_or-take, length-take-le, ext_get_or}
use borrow.Author.Tests.{lt-ltb}
use Rattle.model.specs.Lists.{count}
use Rattle.model.proofs.PartLaws.{part_same}
use Rattle.words.specs.Slices.{Zeroed}
use Rattle.bits.specs.Bits.{bits_from, ones_of, SetBit, is_nonzero, Unmarked, Marked, met_column, Met}
use Rattle.bits.proofs.Laws.{bits_length, bit_from, ones_append}

-- ---- plain lists
map_append : (xs ys : List ℕ) → map is_nonzero (xs ++ ys) ≡ map is_nonzero xs ++ map is_nonzero ys
map_append [] ys = refl
map_append (x ∷ xs) ys = ap (λ (bs : List Bool). is_nonzero x ∷ bs) (map_append xs ys)

column_next : (C : List ℕ) (n : ℕ) → n < length C → map is_nonzero (take (suc n) C) ≡ map is_nonzero (take n C) ++ (is_nonzero (get_or C n 0) ∷ [])
column_next C n h = rw (take-suc C n 0 h, map_append)

column_length : (C : List ℕ) (n : ℕ) → n ≤ length C → length (map is_nonzero (take n C)) ≡ n
column_length C n h = length-map (take n C) is_nonzero ∙ length-take-le n C h

-- the bit b at the seam
row_next : (A B : List Bool) (n : ℕ) (b : Bool) → length A ≡ n → n < length B → set (A ++ drop n B) n b ≡ (A ++ (b ∷ [])) ++ drop (suc n) B
row_next A B n b e h = rw (drop-cons B n false h, set_at A (get_or B n false) (drop (suc n) B) b n e, append_assoc)

row_skip : (A B : List Bool) (n : ℕ) → n < length B → get_or B n false ≡ false → A ++ drop n B ≡ (A ++ (false ∷ [])) ++ drop (suc n) B
row_skip A B n h e = rw (drop-cons B n false h, e, append_assoc)

-- ---- the row
pub none_marked : (column base : ℕ) (ws : List ℕ) → Marked column 0 base ws ws
none_marked column base ws = record { bits = refl; same = record { same_length = refl; same_words = λ i out. refl } }

module _ {column size base : ℕ} {ws : List ℕ} (u : Unmarked column size base ws) where
  row_length : 2048 ≤ length (bits_from base ws)
  unfolding bits_from
  row_length = rw (bits_length, length-drop) (omega arith)

  no_bit : (n : ℕ) → n < 2048 → get_or (bits_from base ws) n false ≡ false
  no_bit n h =
      let zero_word : get_or ws (base + n / 32) 0 ≡ 0 = u.clear (base + n / 32) (omega arith) (omega arith) in
      sym (bit_from ws base n (omega arith)) ∙ ap (λ (x : ℕ). eqb (x / 2 ^ (n % 32) % 2) 1) zero_word ∙ ap (λ (x : ℕ). eqb (x % 2) 1) (zero-div (2 ^ (n % 32)))

  module _ (w : List ℕ) (n : ℕ) (h : n < size) (m : Marked column n base ws w) where
    in_column : n < length (drop column ws)
    in_column = simp length-drop (omega arith)

    -- the word of the column is as it was
    the_word : get_or w (column + n) 0 ≡ get_or (drop column ws) n 0
    the_word = m.same.same_words (column + n) (λ a b. omega arith) ∙ sym (get_or-drop column ws n 0)

    -- the bits of one word more
    one_more : (b : Bool) → is_nonzero (get_or (drop column ws) n 0) ≡ b
        → (map is_nonzero (take n (drop column ws)) ++ (b ∷ [])) ++ drop (suc n) (bits_from base ws) ≡ map is_nonzero (take (n + 1) (drop column ws)) ++ drop (n + 1) (bits_from base ws)
    one_more b e = rw (add-one n, column_next (drop column ws) n in_column, e)

    pub next_marked : (w' : List ℕ) → SetBit base n w w' → (get_or w (column + n) 0 ≡ 0 → ⊥) → Marked column (n + 1) base ws w'
    next_marked w' s other =
        let some : 0 < get_or (drop column ws) n 0 = omega (arith, other, the_word) in
        let short : n ≤ length (drop column ws) = omega (arith, in_column) in
        let long : n < length (bits_from base ws) = omega (arith, row_length) in
        record {
          bits = s.bits ∙ ap (λ (l : List Bool). set l n true) m.bits ∙ row_next (map is_nonzero (take n (drop column ws))) (bits_from base ws) n true (column_length
              (drop column ws) n short) long
              ∙ one_more true (lt-ltb 0 (get_or (drop column ws) n 0) some);
          same = record {
            same_length = s.same.same_length ∙ m.same.same_length;
            same_words = λ i out. s.same.same_words i (λ a b. out (omega arith) (omega arith)) ∙ m.same.same_words i out;
          };
        }

    pub next_unmarked : get_or w (column + n) 0 ≡ 0 → Marked column (n + 1) base ws w
    next_unmarked z =
        let long : n < length (bits_from base ws) = omega (arith, row_length) in
        record {
          bits = m.bits ∙ row_skip (map is_nonzero (take n (drop column ws))) (bits_from base ws) n long (no_bit n (omega arith)) ∙ one_more false (ap is_nonzero (sym the_word ∙ z));
          same = m.same;
        }

-- ---- the count
count_marks : (xs : List ℕ) → ones_of (map is_nonzero xs) ≡ count is_nonzero xs
unfolding ones_of count
count_marks [] = refl
count_marks (x ∷ xs) = rw (count_marks xs)

no_ones_in : (n : ℕ) → ones_of (replicate n false) ≡ 0
unfolding ones_of count
no_ones_in zero = refl
no_ones_in (suc n) = no_ones_in n

-- the words of the bits cleared: nothing is marked there
pub clear_unmarked : {named : ℕ} {before mid : List ℕ} → met_column + 64 ≤ length before → named ≤ 2048
    → Zeroed met_column 64 before mid → Unmarked 0 named met_column mid
clear_unmarked space few z =
    record { apart = omega arith; few = few; space = omega (arith, z.same.same_length); clear = λ i l h. z.zero i l h }

module _ {named : ℕ} {before after : List ℕ} {r : ℕ} (u : Unmarked 0 named met_column before)
    (m : Marked 0 named met_column before after) (e : r ≡ ones_of (take 2048 (bits_from met_column after))) where
  rest : take (2048 - named) (drop named (bits_from met_column before)) ≡ replicate (2048 - named) false
  rest =
      let all = row_length u in
      let after_names = drop named (bits_from met_column before) in
      let part : length (take (2048 - named) after_names) ≡ 2048 - named = length-take-le (2048 - named) after_names (simp length-drop (omega arith)) in
      ext_get_or false (take (2048 - named) after_names) (replicate (2048 - named) false) (part ∙ sym (length-replicate (2048 - named) false)) (λ i l.
      let small : i < 2048 - named = rw part at l in
      get_or-take (2048 - named) after_names i false small ∙ get_or-drop named (bits_from met_column before) i false
      ∙ no_bit u (named + i) (omega arith) ∙ sym (get_or-replicate (2048 - named) i false false small))

  the_row : take 2048 (bits_from met_column after) ≡ map is_nonzero (take named before) ++ replicate (2048 - named) false
  the_row =
      let long : named ≤ length before = omega arith in
      let seam : 2048 ≡ length (map is_nonzero (take named before)) + (2048 - named) = omega (arith, column_length before named long) in
      ap (λ (l : List Bool). take 2048 l) m.bits
      ∙ ap (λ (n : ℕ). take n (map is_nonzero (take named before) ++ drop named (bits_from met_column before))) seam
      ∙ take-append-add (map is_nonzero (take named before)) (drop named (bits_from met_column before)) (2048 - named)
      ∙ ap (λ (l : List Bool). map is_nonzero (take named before) ++ l) rest

  all_marked : Met named before after r
  all_marked =
      record {
        row = the_row;
        ones = e;
        met = e ∙ ap ones_of the_row ∙ ones_append (map is_nonzero (take named before)) (replicate (2048 - named) false) ∙ sums;
        same = m.same;
      }
    where
      sums : ones_of (map is_nonzero (take named before)) + ones_of (replicate (2048 - named) false) ≡ count is_nonzero (take named before)
      sums = rw (count_marks, no_ones_in, add-zero (count is_nonzero (take named before)))

-- the words of the names are not those of the bits
same_names : {named : ℕ} {before mid : List ℕ} → met_column + 64 ≤ length before → named ≤ 2048 → Zeroed met_column 64 before mid
    → take named mid ≡ take named before
same_names {named} {before} {mid} space few z =
    simp sub-zero at (part_same before mid named 0 named (omega arith) (omega arith) (omega (arith, z.same.same_length)) (λ i h.
    z.same.same_words i (λ x y. omega arith)))

pub all_counted : {named : ℕ} {before mid after : List ℕ} {r : ℕ} → met_column + 64 ≤ length before → named ≤ 2048
    → Zeroed met_column 64 before mid → Marked 0 named met_column mid after
    → r ≡ ones_of (take 2048 (bits_from met_column after)) → Met named before after r
all_counted {named} {before} {mid} {after} space few z m e =
    let names = same_names space few z in
    let all = all_marked (clear_unmarked space few z) m e in
    record {
      row = all.row ∙ ap (λ (l : List ℕ). map is_nonzero l ++ replicate (2048 - named) false) names;
      ones = e;
      met = all.met ∙ ap (λ (l : List ℕ). count is_nonzero l) names;
      same = record {
        same_length = m.same.same_length ∙ z.same.same_length;
        same_words = λ i out. m.same.same_words i out ∙ z.same.same_words i out;
      };
    }

-- bits that say of each number below their count whether its word is not zero have as many ones as those words
pub bits_counted : (ws : List ℕ) (bs : List Bool) → length bs ≤ length ws
    → ((i : ℕ) → i < length bs → is_nonzero (get_or ws i 0) ≡ get_or bs i false) → count is_nonzero (take (length bs) ws) ≡ count (λ b. b) bs
unfolding count
bits_counted ws [] h same = refl
bits_counted [] (b ∷ bs) h same = absurd (omega arith)
bits_counted (w ∷ ws) (b ∷ bs) h same =
    rw (same 0 (omega arith), bits_counted ws bs (omega arith) (λ i l. same (suc i) (omega arith)))
