-- Laws of rows on plain lists.
--     rows-length      n rows are in 2 n words
--     rows_snoc        one row more: the row of the next two words at the end
--     filled_next      a table with i rows written, and the next written in its place, has i + 1 rows written
--     rows_words       the rows in the words of rows whose third numbers are below 65536 are these rows
--     words_append     the words of rows one behind the other
--     words-length     a row is two words
--     words-put        the words of one row more, once that row is put behind the others
use mathlib.Core.Path.{◌≡◌, refl, ap}
use Prim.Native.Nat.{ℕ, zero, suc, ◌+◌, ◌*◌, ◌≤◌, ◌<◌, ◌/◌, ◌%◌}
use native.Mathlib.Numerals.{add-one}
use native.Mathlib.Omega.{arith}
use mathlib.Core.List.{List, [], ◌∷◌, ◌++◌, append_assoc}
use lib.ListN.{length, get_or, set, take, drop, length-append, length-drop, length-set}
use lib.Seq.{drop-cons, set_at, take-suc-set}
use Rattle.model.specs.declared.Row.{Row}
use Rattle.rows.specs.Rows.{row, pair, rows_held, words_of}

pub rows_length : (n : ℕ) (ws : List ℕ) → 2 * n ≤ length ws → length (rows_held n ws) ≡ n
unfolding rows_held
rows_length zero ws h = refl
rows_length (suc n) [] h = absurd (omega arith)
rows_length (suc n) (a ∷ []) h = absurd (omega arith)
rows_length (suc n) (a ∷ b ∷ ws) h = ap suc (rows_length n ws (omega arith))

pub rows_snoc : (n : ℕ) (ws : List ℕ) → 2 * n + 1 < length ws
    → rows_held (suc n) ws ≡ rows_held n ws ++ (row (get_or ws (2 * n) 0) (get_or ws (2 * n + 1) 0) ∷ [])
unfolding rows_held
rows_snoc n [] h = absurd (omega arith)
rows_snoc n (a ∷ []) h = absurd (omega arith)
rows_snoc zero (a ∷ b ∷ ws) h = refl
rows_snoc (suc n) (a ∷ b ∷ ws) h =
    let first : 2 * suc n ≡ suc (suc (2 * n)) = omega arith in
    let second : 2 * suc n + 1 ≡ suc (suc (2 * n + 1)) = omega arith in
    rw (second, first) (ap (λ (rs : List Row). row a b ∷ rs) (rows_snoc n ws (omega arith)))

-- the table ys with the first i rows of the words written
unfoldable pub filled : List ℕ → List Row → ℕ → List Row
filled core ys i = rows_held i core ++ drop i ys

pub filled_start : (core : List ℕ) (ys : List Row) → filled core ys 0 ≡ ys
unfolding filled rows_held
filled_start core ys = refl

pub filled_length : (core : List ℕ) (ys : List Row) (i : ℕ) → 2 * i ≤ length core → i ≤ length ys
    → length (filled core ys i) ≡ length ys
unfolding filled
filled_length core ys i h l = simp (length-append, length-drop, rows_length i core h) (omega arith)

pub filled_next : (core : List ℕ) (ys : List Row) (i : ℕ) (d : Row) → 2 * i + 1 < length core → i < length ys
    → set (filled core ys i) i (row (get_or core (2 * i) 0) (get_or core (2 * i + 1) 0)) ≡ filled core ys (i + 1)
unfolding filled
filled_next core ys i d h l =
    let fits : 2 * i ≤ length core = omega arith in
    let here = row (get_or core (2 * i) 0) (get_or core (2 * i + 1) 0) in
    rw (
      add-one i,
      drop-cons ys i d,
      set_at (rows_held i core) (get_or ys i d) (drop (suc i) ys) here i (rows_length i core fits),
      rows_snoc i core h,
      append_assoc,
    )

-- the third numbers are below 65536
abbrev pub Small : List Row → Type 0
Small [] = Unit {0}
Small (r ∷ rs) = (r.cause < 65536) × Small rs

pub rows_words : (rs : List Row) (rest : List ℕ) → Small rs → rows_held (length rs) (words_of rs ++ rest) ≡ rs
unfolding rows_held words_of
rows_words [] rest s = refl
rows_words (r ∷ rs) rest s =
    let small : r.cause < 65536 = s.0 in
    let number : pair r.number r.cause / 65536 ≡ r.number = omega arith in
    let cause : pair r.number r.cause % 65536 ≡ r.cause = omega arith in
    rw (number, cause, rows_words rs rest s.1)

pub words_append : (rs qs : List Row) → words_of (rs ++ qs) ≡ words_of rs ++ words_of qs
unfolding words_of
words_append [] qs = refl
words_append (r ∷ rs) qs = rw (words_append rs qs)

pub words_length : (rs : List Row) → length (words_of rs) ≡ 2 * length rs
unfolding words_of
words_length [] = refl
words_length (r ∷ rs) = let rest = words_length rs in omega arith

pub words_put : (w : List ℕ) (rs : List Row) (r : Row) (i : ℕ) → 2 * i + 1 < length w → take (2 * i) w ≡ words_of rs
    → take (2 * (i + 1)) (set (set w (2 * i) r.line) (2 * i + 1) (pair r.number r.cause)) ≡ words_of (rs ++ (r ∷ []))
unfolding words_of
words_put w rs r i h e =
    let two : 2 * (i + 1) ≡ suc (suc (2 * i)) = omega arith in
    let second : 2 * i + 1 ≡ suc (2 * i) = omega arith in
    let first_fits : 2 * i < length w = omega arith in
    let second_fits : suc (2 * i) < length (set w (2 * i) r.line) = simp length-set (omega arith) in
    rw (
      two,
      second,
      take-suc-set (set w (2 * i) r.line) (suc (2 * i)) (pair r.number r.cause) second_fits,
      take-suc-set w (2 * i) r.line first_fits,
      e,
      append_assoc,
      words_append rs (r ∷ []),
    )
