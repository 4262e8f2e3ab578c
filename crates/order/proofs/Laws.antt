-- The call: what the core found, the rows written from the start of the table, their words cleared.
use Prim.Native.Nat.{ℕ, ◌*◌}
use mathlib.Core.Path.{◌≡◌, refl, ap, ◌∙◌}
use mathlib.Core.List.{List, ◌++◌}
use lib.ListN.{length, drop}
use Rattle.model.specs.Working.{Working, six}
use Rattle.model.specs.Checking.{Checked, refusal_at, listed_rows, ordered, table_after}
use Rattle.model.specs.declared.Row.{Row}
use Rattle.words.specs.Slices.{Zeroed}
use Rattle.rows.specs.Rows.{rows_held}
use Rattle.rows.proofs.Leaving.{rows_listed, slices_left}
use Rattle.precedence.specs.Call.{check_in_numbers, rows_of_check, FoundRows}
use Rattle.precedence.specs.declared.Late.{Late}
use Rattle.precedence.proofs.Call.{ordered_count}
use Rattle.order.specs.Demands.{KeptPromise}
use Rattle.order.proofs.Demands.{promise}

-- the number of rows is told, and the table has these rows
rows_number : (e : Checked) → (check_in_numbers (ordered e)).rows ≡ length (rows_of_check e)
unfolding check_in_numbers
rows_number e = ordered_count e

table_told : (e : Checked) (table : List Row) → rows_of_check e ++ drop (length (rows_of_check e)) table ≡ table_after e table
unfolding rows_of_check table_after
table_told (refusal_at r place) table = refl
table_told (listed_rows rs) table = refl

-- what the call promises
pub called : {file : List ℕ} {lent held : Working} {table table' : List Row} {r : Late} {run : List ℕ}
    → FoundRows file lent (length table) r held → table' ≡ rows_held r.rows held.run ++ drop r.rows table
    → Zeroed 0 (2 * r.rows) held.run run
    → KeptPromise (record {
      file = file;
      lent = lent;
      table = table;
      answer = r;
      left = six held.names held.refs held.rows held.recs held.lists run;
      table' = table';
    })
called {table = table} found written zeroed =
    let number = ap (λ (a : Late). a.rows) found.told ∙ rows_number _ in
    promise _ (record {
      answered = found.told;
      table = rows_listed number found.left table written ∙ table_told _ table;
      slices = slices_left number found.left zeroed;
    })
