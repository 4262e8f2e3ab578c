-- The loops that put the rows of ranks into words.
use Prim.Native.Nat.{ℕ, ◌+◌, ◌*◌, ◌-◌, ◌≤◌, ◌<◌}
use native.Mathlib.Omega.{arith}
use mathlib.Core.Path.{◌≡◌, sym, ◌∙◌, ap}
use mathlib.Core.Bool.{Bool, true, false, cond}
use mathlib.Core.List.{List, [], ◌∷◌, map, append-nil}
use lib.ListN.{length, set}
use borrow.Author.Tests.{eq-eqb, ne_eqb}
use Rattle.model.specs.Lists.{keep, collect}
use Rattle.model.specs.Outcome.{working_words}
use Rattle.model.specs.Explaining.{most_rows}
use Rattle.model.specs.declared.Counts.{Counts}
use Rattle.model.specs.declared.Row.{Row}
use Rattle.model.proofs.ListLaws.{true_T, collect_one, collect_map}
use Rattle.rows.specs.Rows.{pair}
use Rattle.rows.proofs.Laws.{words_length}
use Rattle.names.specs.Table.{ranked}
use Rattle.records.specs.Columns.{record_line}
use Rattle.prune.specs.Listing.{from, record_behind, picked, reached_at}
use Rattle.prune.specs.Rows.{RowsBehind}
use Rattle.prune.proofs.Writing.{column_same}
use Rattle.prune.proofs.Rows.{RowsTo, rows_next, rows_none, rows_room, one_row, rows_count, rows_words_put}
use Rattle.prune.proofs.Members.{reached_low}
use Rattle.prune.proofs.Ranges.{collect_keep, collect_collect}
use Rattle.reasons.specs.Rows.{supplied, row_due, row_at, rows_at, rows_in, Supplier, Explainable, RowsPut}
use Rattle.reasons.proofs.Listed.{due_met}

-- what the rows ask, after some rows are put
pub explainable_after : {names w v recs lists run : List ℕ} {k : Counts} → Explainable names w recs lists run k → length v ≡ length w
    → Explainable names v recs lists run k
explainable_after x e = record {
  laid = x.laid;
  index = x.index;
  took = x.took;
  row_room = omega (arith, x.row_room);
  run_room = x.run_room;
  suppliers = x.suppliers;
  fits = x.fits;
}

-- ---- the rows of a record

-- those of a rank
unfoldable pub rank_rows : List ℕ → List ℕ → List ℕ → List ℕ → ℕ → ℕ → List Row
rank_rows names recs lists run i r =
    cond (row_due recs lists run i (ranked names r)) (row_at recs (supplied run) i (ranked names r) ∷ []) []

pub rows_ranks : (names recs lists run : List ℕ) (named i : ℕ)
    → rows_at names recs lists run (supplied run) named i ≡ collect (rank_rows names recs lists run i) (from 0 named)
unfolding rows_at rank_rows
rows_ranks names recs lists run named i =
    sym (collect_one (row_at recs (supplied run) i) (keep (row_due recs lists run i) (map (ranked names) (from 0 named))))
    ∙ collect_keep (λ n. row_at recs (supplied run) i n ∷ []) (row_due recs lists run i) (map (ranked names) (from 0 named))
    ∙ collect_map (λ n. cond (row_due recs lists run i n) (row_at recs (supplied run) i n ∷ []) []) (ranked names) (from 0 named)

module _ (names recs lists run : List ℕ) (i r n : ℕ) (e : n ≡ ranked names r) {b : Bool} (q : b ≡ row_due recs lists run i n) where
  pub rank_none : b ≡ false → rank_rows names recs lists run i r ≡ []
  unfolding rank_rows
  rank_none z = rw (← e, ← q, z)

  pub rank_one : b ≡ true → rank_rows names recs lists run i r ≡ row_at recs (supplied run) i n ∷ []
  unfolding rank_rows
  rank_one z = rw (← e, ← q, z)

-- a name that is due a row has its supplier
pub supplier_in : {names w recs lists run : List ℕ} {k : Counts} (i n : ℕ) {b : Bool} {word : ℕ} → Explainable names w recs lists run k
    → n < k.names → b ≡ row_due recs lists run i n → b ≡ true → word ≡ supplied run n → Supplier recs k.records word
supplier_in {recs = recs} {lists = lists} {run = run} i n x h p q e =
    rw e (x.suppliers n h (due_met recs lists run i n (true_T (sym p ∙ q))))

module _ (names recs lists run : List ℕ) (i : ℕ) {w : List ℕ} {m named : ℕ} {v : List ℕ} {to r n : ℕ} {b : Bool}
    (s : RowsTo w m (rank_rows names recs lists run i) named v to r) (h : r < named) (e : n ≡ ranked names r)
    (q : b ≡ row_due recs lists run i n) where
  -- a rank passed
  pub rank_passed : b ≡ false → RowsTo w m (rank_rows names recs lists run i) named v to (r + 1)
  rank_passed z = rows_none s h (rank_none names recs lists run i r n e q z)

  module _ (z : b ≡ true) where
    -- room for its row
    pub rank_room : m + length (rows_at names recs lists run (supplied run) named i) ≤ most_rows → to < most_rows
    rank_room f =
        let room = rows_room s h (rw (rows_ranks names recs lists run named i) at f) in
        let one = ap length (rank_one names recs lists run i r n e q z) in
        omega arith

    -- its row put
    pub rank_put : {u : List ℕ} {word : ℕ} → word ≡ supplied run n
        → u ≡ set (set v (2 * to) (record_line recs i)) (2 * to + 1) (pair n (record_line recs (word - 1)))
        → RowsTo w m (rank_rows names recs lists run i) named u (to + 1) (r + 1)
    unfolding row_at
    rank_put p f =
        rows_next s h
        (rw (rank_one names recs lists run i r n e q z) (one_row v to (row_at recs (supplied run) i n) (f ∙ rw p)))

-- ---- all rows

-- those of the record that is reached by a rank
unfoldable pub reached_rows : List ℕ → List ℕ → List ℕ → List ℕ → ℕ → ℕ → List Row
reached_rows names recs lists run named r =
    collect (rows_at names recs lists run (supplied run) named) (record_behind (reached_at names run r))

pub all_ranks : (names recs lists run : List ℕ) (k : Counts)
    → rows_in names recs lists run (supplied run) k ≡ collect (reached_rows names recs lists run k.names) (from 0 k.names)
unfolding rows_in reached_rows picked
all_ranks names recs lists run k =
    collect_collect (rows_at names recs lists run (supplied run) k.names) (λ r. record_behind (reached_at names run r)) (from 0 k.names)

pub all_fit : {names w recs lists run : List ℕ} {k : Counts} → Explainable names w recs lists run k
    → 0 + length (collect (reached_rows names recs lists run k.names) (from 0 k.names)) ≤ most_rows
all_fit {names} {recs = recs} {lists = lists} {run = run} {k = k} x = omega (arith, x.fits, ap length (all_ranks names recs lists run k))

module _ (names recs lists run : List ℕ) (named r t : ℕ) (e : t ≡ reached_at names run r) where
  pub reached_no_rows : t ≡ 0 → reached_rows names recs lists run named r ≡ []
  unfolding reached_rows record_behind collect
  reached_no_rows z = rw (← e, eq-eqb t 0 z)

  pub reached_its_rows : (t ≡ 0 → ⊥) → reached_rows names recs lists run named r ≡ rows_at names recs lists run (supplied run) named (t - 1)
  unfolding reached_rows record_behind collect
  reached_its_rows d = rw (← e, ne_eqb t 0 d) (append-nil (rows_at names recs lists run (supplied run) named (t - 1)))

-- a reached record is one of the table
pub reached_below : {names w recs lists run : List ℕ} {k : Counts} (r : ℕ) {t : ℕ} → Explainable names w recs lists run k → r < k.names
    → t ≡ reached_at names run r → (t ≡ 0 → ⊥) → t - 1 < k.records
reached_below {names} {run = run} r x h e d = omega (arith, d, reached_low names run r, x.took (ranked names r) (x.index.numbers r h))

module _ (names recs lists run : List ℕ) {w : List ℕ} {m named : ℕ} {v : List ℕ} {to r t : ℕ}
    (s : RowsTo w m (reached_rows names recs lists run named) named v to r) (h : r < named) (e : t ≡ reached_at names run r) where
  -- a rank that reaches nothing passed
  pub reached_passed : t ≡ 0 → RowsTo w m (reached_rows names recs lists run named) named v to (r + 1)
  reached_passed z = rows_none s h (reached_no_rows names recs lists run named r t e z)

  module _ (d : t ≡ 0 → ⊥) where
    -- room for the rows of its record
    pub reached_room : m + length (collect (reached_rows names recs lists run named) (from 0 named)) ≤ most_rows
        → to + length (rows_at names recs lists run (supplied run) named (t - 1)) ≤ most_rows
    reached_room f = rw (reached_its_rows names recs lists run named r t e d) at (rows_room s h f)

    -- they are put
    pub reached_put : {u : List ℕ} {next : ℕ} → RowsBehind v to (rows_at names recs lists run (supplied run) named (t - 1)) u next
        → RowsTo w m (reached_rows names recs lists run named) named u next (r + 1)
    reached_put p = rows_next s h (rw (reached_its_rows names recs lists run named r t e d) p)

-- the rows written from the start of the slice
pub rows_put : (names recs lists run : List ℕ) (k : Counts) {w v : List ℕ} {to : ℕ}
    → working_words ≤ length w → length (rows_in names recs lists run (supplied run) k) ≤ most_rows
    → RowsBehind w 0 (rows_in names recs lists run (supplied run) k) v to → RowsPut names recs lists run k w v to
rows_put names recs lists run k {to = to} room fits p =
    let rows = rows_in names recs lists run (supplied run) k in
    let b = words_length rows in
    let n = rows_count rows to p in
    record { count = n; words = rows_words_put rows to p (omega arith); same = column_same p (omega arith) }
