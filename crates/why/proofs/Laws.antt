-- The call: what the core found, the rows written from the start of the table, their words cleared.
use Prim.Native.Nat.{ℕ, ◌*◌}
use mathlib.Core.Path.{◌≡◌, refl, ap, ◌∙◌}
use mathlib.Core.List.{List, ◌++◌}
use lib.ListN.{length, drop}
use Rattle.model.specs.Working.{Working, six}
use Rattle.model.specs.Explaining.{Explanation, refusal_at, no_position, told, why, table_after}
use Rattle.model.specs.declared.Row.{Row}
use Rattle.words.specs.Slices.{Zeroed}
use Rattle.rows.specs.Rows.{rows_held}
use Rattle.rows.proofs.Leaving.{rows_listed, slices_left}
use Rattle.explain.specs.Call.{reasons_in_numbers, rows_told, FoundReasons}
use Rattle.explain.specs.declared.Reasons.{Reasons}
use Rattle.explain.proofs.Laws.{told_count}
use Rattle.why.specs.Demands.{KeptPromise}
use Rattle.why.proofs.Demands.{promise}

-- the number of rows is told, and the table has these rows
rows_number : (e : Explanation) → (reasons_in_numbers (why e)).rows ≡ length (rows_told e)
unfolding reasons_in_numbers
rows_number e = told_count e

table_told : (e : Explanation) (table : List Row) → rows_told e ++ drop (length (rows_told e)) table ≡ table_after e table
unfolding rows_told table_after
table_told (refusal_at r place) table = refl
table_told no_position table = refl
table_told (told given met) table = refl

-- what the call promises
pub called : {file : List ℕ} {position : ℕ} {lent held : Working} {table table' : List Row} {r : Reasons} {run : List ℕ}
    → FoundReasons file position lent (length table) r held → table' ≡ rows_held r.rows held.run ++ drop r.rows table
    → Zeroed 0 (2 * r.rows) held.run run
    → KeptPromise (record {
      file = file;
      position = position;
      lent = lent;
      table = table;
      answer = r;
      left = six held.names held.refs held.rows held.recs held.lists run;
      table' = table';
    })
called {table = table} found written zeroed =
    let number = ap (λ (a : Reasons). a.rows) found.answered ∙ rows_number _ in
    promise _ (record {
      answered = found.answered;
      table = rows_listed number found.left table written ∙ table_told _ table;
      slices = slices_left number found.left zeroed;
    })
