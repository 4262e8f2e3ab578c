-- Rows put into words, number after number: the ranks of a record or a def, the records of a file.
use Prim.Native.Nat.{ℕ, suc, ◌+◌, ◌*◌, ◌-◌, ◌≤◌, ◌<◌}
use native.Mathlib.Omega.{arith}
use mathlib.Core.Path.{◌≡◌, ◌∙◌, ap}
use mathlib.Core.List.{List, [], ◌∷◌, ◌++◌}
use lib.ListN.{length, set, take}
use lib.Seq.{sets}
use Rattle.model.specs.Lists.{collect}
use Rattle.model.specs.declared.Row.{Row}
use Rattle.rows.specs.Rows.{pair, words_of}
use Rattle.rows.proofs.Laws.{words_append, words_length}
use Rattle.prune.specs.Listing.{from}
use Rattle.prune.specs.Rows.{RowsBehind}
use Rattle.prune.proofs.Ranges.{collect_from, collect_past}
use Rattle.prune.proofs.Writing.{Going, going_start, going_length, going_end, going_list, list_room, lists_none}
use Rattle.prune.proofs.Gathering.{part_sets}

-- the rows of the numbers from r on are left
pub record RowsTo (w : List ℕ) (m : ℕ) (rows : ℕ → List Row) (n : ℕ) (v : List ℕ) (to r : ℕ) : Type 0 where
  pub high : r ≤ n
  pub going : Going 0 w (2 * m) (words_of (collect rows (from 0 n))) v (2 * to) (words_of (collect rows (from r (n - r))))

pub rows_start : (w : List ℕ) (m : ℕ) (rows : ℕ → List Row) (n : ℕ) → RowsTo w m rows n w m 0
rows_start w m rows n =
    let e : n - 0 ≡ n = omega arith in
    record { high = omega arith; going = rw e (going_start 0 w (2 * m) (words_of (collect rows (from 0 n)))) }

module _ {w : List ℕ} {m : ℕ} {rows : ℕ → List Row} {n : ℕ} {v : List ℕ} {to r : ℕ} (s : RowsTo w m rows n v to r) where
  pub rows_length_same : length v ≡ length w
  rows_length_same = going_length s.going

  module _ (h : r < n) where
    -- the words of the first number left, and the rest
    words_next : words_of (collect rows (from r (n - r))) ≡ words_of (rows r) ++ words_of (collect rows (from (r + 1) (n - (r + 1))))
    words_next = ap words_of (collect_from rows r n h) ∙ words_append (rows r) (collect rows (from (r + 1) (n - (r + 1))))

    -- those of a number put
    pub rows_next : {u : List ℕ} {next : ℕ} → RowsBehind v to (rows r) u next → RowsTo w m rows n u next (r + 1)
    rows_next p = record { high = omega arith; going = going_list s.going words_next p }

    -- a number has none
    pub rows_none : rows r ≡ [] → RowsTo w m rows n v to (r + 1)
    unfolding words_of
    rows_none e = rows_next (rw e (lists_none 0 v (2 * to)))

    -- room for those of a number
    pub rows_room : {most : ℕ} → m + length (collect rows (from 0 n)) ≤ most → to + length (rows r) ≤ most
    rows_room {most} f =
        let a = words_length (collect rows (from 0 n)) in
        let b = words_length (rows r) in
        let c = list_room {most = 2 * most} (words_of (rows r)) (words_of (collect rows (from (r + 1) (n - (r + 1)))))
        s.going words_next (omega arith) in
        omega arith

  pub rows_end : n ≤ r → RowsBehind w m (collect rows (from 0 n)) v to
  unfolding words_of
  rows_end h = going_end s.going (ap words_of (collect_past rows r n h))

-- none put
pub rows_nothing : (w : List ℕ) (m : ℕ) {rows : List Row} → rows ≡ [] → RowsBehind w m rows w m
unfolding words_of
rows_nothing w m e = rw e (lists_none 0 w (2 * m))

-- a row put into its two words
pub one_row : (v : List ℕ) (to : ℕ) (x : Row) {u : List ℕ}
    → u ≡ set (set v (2 * to) x.line) (2 * to + 1) (pair x.number x.cause) → RowsBehind v to (x ∷ []) u (to + 1)
unfolding words_of
one_row v to x e =
    let next : 2 * to + 1 ≡ suc (2 * to) = omega arith in
    let first : 0 + 2 * to ≡ 2 * to = omega arith in
    record { written = e ∙ rw (next, first); count = omega arith }

-- rows put from the start of a slice on: how many, and their words
module _ {w : List ℕ} (rs : List Row) {v : List ℕ} (to : ℕ) (p : RowsBehind w 0 rs v to) where
  pub rows_count : to ≡ length rs
  rows_count = let a = p.count in let b = words_length rs in omega arith

  pub rows_words_put : 2 * length rs ≤ length w → take (2 * to) v ≡ words_of rs
  rows_words_put room =
      let b = words_length rs in
      let size : 2 * to ≡ 0 + length (words_of rs) - 0 = (let a = p.count in omega arith) in
      ap (take (2 * to)) p.written ∙ ap (λ (n : ℕ). take n (sets w 0 (words_of rs))) size
      ∙ part_sets w 0 (words_of rs) (omega arith)
