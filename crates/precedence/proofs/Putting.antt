-- Rows put into words, number after number: the ranks of a def, the records of a file.
use Prim.Native.Nat.{ℕ, ◌+◌, ◌*◌, ◌≤◌, ◌<◌}
use native.Mathlib.Omega.{arith}
use mathlib.Core.Path.{◌≡◌, ◌∙◌, ap}
use mathlib.Core.Bool.{Bool}
use mathlib.Core.List.{List, [], ◌∷◌}
use lib.ListN.{length, set}
use Rattle.model.specs.Reading.{most_names, most_uses}
use Rattle.model.specs.Outcome.{working_words}
use Rattle.model.specs.declared.Counts.{Counts}
use Rattle.model.specs.declared.Row.{Row}
use Rattle.words.specs.Slices.{Zeroed}
use Rattle.words.proofs.Slices.{same_then}
use Rattle.rows.specs.Rows.{pair, words_of}
use Rattle.names.specs.Table.{ranked}
use Rattle.records.specs.Columns.{record_line}
use Rattle.prune.specs.Loops.{Index, Readable, Behind}
use Rattle.prune.specs.Rows.{RowsBehind}
use Rattle.prune.proofs.Rows.{RowsTo, rows_start, rows_next, rows_none, rows_room, rows_end, one_row}
use Rattle.std.specs.Prelude.{Option, None, Some}
use Rattle.precedence.specs.Sorts.{sort_number, late_at, sorted_row, rank_row, body_rows, def_rows, all_late}
use Rattle.precedence.specs.declared.Sort.{Sort}
use Rattle.precedence.specs.Loops.{StampedTo}
use Rattle.precedence.specs.Call.{LatePut}
use Rattle.precedence.proofs.Sorts.{row_none, row_one}
use Rattle.precedence.proofs.Stamps.{stamped_then, stamps_cleared}

-- the same rows put
pub body_put : {w : List ℕ} {a : ℕ} {rows rows' : List Row} {v : List ℕ} {b : ℕ} → rows ≡ rows' → Behind 0 w a (words_of rows) v b
    → Behind 0 w a (words_of rows') v b
body_put e p = rw e at p

-- a name of the index can be looked up
pub readable : {names recs : List ℕ} {named r n : ℕ} → Index names named → working_words ≤ length recs → r < named → n ≡ ranked names r
    → Readable names recs n
readable {names} {recs} {named} {r} {n} x room h e =
    let low = x.numbers r h in
    let few = x.few in
    record { room = x.room; rows = room; low = omega arith; took = x.takers n (omega arith) }

-- ---- the ranks of a def

module _ (names recs : List ℕ) (free : ℕ → Bool) (i : ℕ) {w : List ℕ} {m named : ℕ} {v : List ℕ} {to r n : ℕ} {s : Option Sort}
    (t : RowsTo w m (rank_row names recs free i) named v to r) (h : r < named) (e : n ≡ ranked names r)
    (q : s ≡ late_at names recs free i n) where
  -- the row of a rank, by its sort
  rank_is : rank_row names recs free i r ≡ sorted_row recs i n s
  unfolding rank_row
  rank_is = rw (← e, ← q)

  -- a rank passed
  pub rank_passed : s ≡ None → RowsTo w m (rank_row names recs free i) named v to (r + 1)
  rank_passed z = rows_none t h (rank_is ∙ row_none recs i n z)

  module _ {sort : Sort} (z : s ≡ Some sort) where
    rank_one : rank_row names recs free i r ≡ record { line = record_line recs i; number = n; cause = sort_number sort } ∷ []
    rank_one = rank_is ∙ row_one recs i n z

    -- its row put
    pub rank_put : {u : List ℕ} {line c : ℕ} → line ≡ record_line recs i → c ≡ sort_number sort
        → u ≡ set (set v (2 * to) line) (2 * to + 1) (pair n c)
        → RowsTo w m (rank_row names recs free i) named u (to + 1) (r + 1)
    rank_put {u} l d p =
        rows_next t h (rw rank_one (one_row v to (record { line = record_line recs i; number = n; cause = sort_number sort }) (p ∙ rw (l, d))))

    -- there is room for it
    pub rank_room : m + length (body_rows names recs free named i) ≤ most_uses → to < most_uses
    unfolding body_rows
    rank_room f = let a = rows_room t h {most = most_uses} f in let b = ap length rank_one in omega arith

-- all ranks gone over
pub ranks_end : (names recs : List ℕ) (free : ℕ → Bool) (i : ℕ) {w : List ℕ} {m named : ℕ} {v : List ℕ} {to r : ℕ}
    → RowsTo w m (rank_row names recs free i) named v to r → named ≤ r → RowsBehind w m (body_rows names recs free named i) v to
unfolding body_rows
ranks_end names recs free i s h = rows_end s h

-- ---- the records of a file

-- the records from i on are left
pub record DefsTo (names recs lists refs₀ run₀ : List ℕ) (k : Counts) (refs run : List ℕ) (to i : ℕ) : Type 0 where
  pub rows : RowsTo run₀ 0 (def_rows names recs lists k.names) k.records run to i
  pub stamped : StampedTo refs₀ refs i

pub defs_start : (names recs lists : List ℕ) {before refs : List ℕ} (run : List ℕ) (k : Counts) → Zeroed 0 most_names before refs
    → DefsTo names recs lists refs run k refs run 0 0
defs_start names recs lists run k z = record {
  rows = rows_start run 0 (def_rows names recs lists k.names) k.records;
  stamped = stamps_cleared z;
}

module _ {names recs lists refs₀ run₀ : List ℕ} {k : Counts} {refs run : List ℕ} {to i : ℕ} (d : DefsTo names recs lists refs₀ run₀ k refs run to i) where
  -- the rows of a record put
  pub defs_next : i < k.records → {refs' run' : List ℕ} {next : ℕ} → RowsBehind run to (def_rows names recs lists k.names i) run' next
      → StampedTo refs refs' (i + 1) → DefsTo names recs lists refs₀ run₀ k refs' run' next (i + 1)
  defs_next h p q = record { rows = rows_next d.rows h p; stamped = stamped_then d.stamped q }

  -- there is room for them
  pub defs_room : i < k.records → length (all_late names recs lists k) ≤ most_uses
      → to + length (def_rows names recs lists k.names i) ≤ most_uses
  unfolding all_late
  defs_room h f = rows_room d.rows h {most = most_uses} (omega arith)

  -- all put
  pub defs_end : {before : List ℕ} → Zeroed 0 most_names before refs₀ → k.records ≤ i
      → LatePut (all_late names recs lists k) before refs run₀ run to
  unfolding all_late
  defs_end z h = record { put = rows_end d.rows h; stamped = same_then z.same d.stamped.same }
