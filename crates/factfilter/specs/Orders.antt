-- The program's call of the check: over slices and a table that are long enough for every accepted file.
use Rattle.std.specs.Prelude.{ℕ, ◌*◌, ◌≤◌, ◌≡◌, List, length}
use Rattle.model.specs.Reading.{most_uses}
use Rattle.model.specs.Checking.{Checked, check, ordered}
use Rattle.model.specs.declared.Ordered.{Ordered}
use Rattle.rows.specs.Rows.{rows_held}
use Rattle.precedence.specs.Call.{rows_of_check}
use Rattle.factfilter.specs.Filters.{own_slices}

-- the words of the rows that a call can list
abbrev pub late_words : ℕ
late_words = 12288

-- what the call comes to over these
abbrev pub own_check : List ℕ → Checked
own_check file = check file own_slices most_uses

-- the answer is that of the call, and its rows stand in words
pub record OrdersFile (file : List ℕ) (o : Ordered) (rows : List ℕ) : Type 0 where
  pub answered : o ≡ ordered (own_check file)
  pub stand : rows_held o.rows rows ≡ rows_of_check (own_check file)
  pub room : 2 * o.rows ≤ length rows
