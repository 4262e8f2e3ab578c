-- A call that lists rows: what is left with none, or with some whose words stand in the run's slice and all else cleared. At its end:
-- n rows written to a table from the words in which they stand, and these words cleared.
use Prim.Native.Nat.{ℕ, ◌+◌, ◌*◌, ◌≤◌, ◌<◌}
use native.Mathlib.Omega.{arith}
use mathlib.Core.Path.{◌≡◌, refl, sym, ap, ◌∙◌, subst}
use mathlib.Core.Bool.{Bool, true, false}
use mathlib.Core.List.{List, [], ◌++◌}
use lib.Dec.{ltb}
use lib.ListN.{length, get_or, take, drop, take-append-drop}
use lib.Seq.{ext_get_or, get_or-take, length-take-le}
use borrow.Author.Tests.{ltb-true, ltb-false}
use Rattle.model.specs.Outcome.{Lent}
use Rattle.model.specs.Working.{Working, six, works_after}
use Rattle.model.specs.declared.Row.{Row}
use Rattle.words.specs.Slices.{SameBut, Zeroed}
use Rattle.words.proofs.Slices.{same_then, same_wider}
use Rattle.rows.specs.Rows.{rows_held, words_of}
use Rattle.rows.specs.Left.{RowsLeft}
use Rattle.rows.proofs.Laws.{Small, rows_words, words_length}

-- ---- what is left

-- no word changed
zeroed_none : {l m : List ℕ} → Zeroed 0 0 l m → m ≡ l
zeroed_none {l} {m} z = ext_get_or 0 m l z.same.same_length (λ i h. z.same.same_words i (λ a b. omega arith))

-- without rows the slices are those of the end
pub none_left : {works : List Lent} {lent left : Working} → left ≡ works_after works lent → RowsLeft works lent left []
unfolding rows_held
none_left {works} {lent} {left} e = record {
  names = ap (λ (w : Working). w.names) e;
  refs = ap (λ (w : Working). w.refs) e;
  rows = ap (λ (w : Working). w.rows) e;
  recs = ap (λ (w : Working). w.recs) e;
  lists = ap (λ (w : Working). w.lists) e;
  inside = omega arith;
  stand = refl;
  cleared = λ run z. zeroed_none z ∙ ap (λ (w : Working). w.run) e;
}

-- the words of n rows at the start of a slice that has them of another
pub rows_begin : {n : ℕ} (source run : List ℕ) (rs : List Row) → n ≡ length rs → 2 * n ≤ length run
    → take (2 * n) source ≡ words_of rs → ((i : ℕ) → i < 2 * n → get_or run i 0 ≡ get_or source i 0)
    → Small rs → rows_held (length rs) run ≡ rs
rows_begin {n} source run rs count room stand moved small =
    ap (rows_held (length rs)) (sym (take-append-drop (2 * n) run) ∙ ap (◌++ drop (2 * n) run) first)
    ∙ rows_words rs (drop (2 * n) run) small
  where
    size : length (words_of rs) ≡ 2 * length rs
    size = words_length rs

    taken : length (take (2 * n) run) ≡ 2 * n
    taken = length-take-le (2 * n) run room

    first : take (2 * n) run ≡ words_of rs
    first = ext_get_or 0 (take (2 * n) run) (words_of rs) (omega (arith, size, taken, count)) (λ i h.
        let low : i < 2 * n = omega (arith, taken) in
        get_or-take (2 * n) run i 0 low ∙ moved i low ∙ sym (get_or-take (2 * n) source i 0 low) ∙ ap (λ (l : List ℕ). get_or l i 0) stand)

-- a slice that is zero behind its first words, once these are cleared
pub front_cleared : {n size : ℕ} {before held last : List ℕ} → n ≤ size → SameBut 0 size before held
    → ((i : ℕ) → n ≤ i → i < size → get_or held i 0 ≡ 0) → Zeroed 0 n held last → Zeroed 0 size before last
front_cleared {n} {size} {last = last} few s behind z = record {
  same = same_then s (same_wider 0 size (omega arith) (omega arith) z.same);
  zero = λ i a b. go i b (ltb i n) refl;
}
  where
    go : (i : ℕ) → i < 0 + size → (t : Bool) → ltb i n ≡ t → get_or last i 0 ≡ 0
    go i b true e = let l = ltb-true i n e in z.zero i (omega arith) (omega arith)
    go i b false e = let l = ltb-false i n e in z.same.same_words i (λ x y. omega arith) ∙ behind i l (omega arith)

-- ---- the end

module _ {works : List Lent} {lent held : Working} {rs : List Row} {n : ℕ} (number : n ≡ length rs) (left : RowsLeft works lent held rs) where
  -- the table has the rows, and past them what it had
  pub rows_listed : (table : List Row) {table' : List Row} → table' ≡ rows_held n held.run ++ drop n table
      → table' ≡ rs ++ drop (length rs) table
  rows_listed table written =
      written ∙ ap (λ (m : ℕ). rows_held m held.run ++ drop m table) number
      ∙ ap (λ (given : List Row). given ++ drop (length rs) table) left.stand

  -- the working slices are those of the end of a call
  pub slices_left : {run : List ℕ} → Zeroed 0 (2 * n) held.run run
      → six held.names held.refs held.rows held.recs held.lists run ≡ works_after works lent
  slices_left {run} zeroed =
      let last = left.cleared run (subst (λ (m : ℕ). Zeroed 0 (2 * m) held.run run) number zeroed) in
      rw (left.names, left.refs, left.rows, left.recs, left.lists, last)
