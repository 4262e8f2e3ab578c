-- The program's call of reasons: over slices that are long enough for every accepted file.
use Rattle.std.specs.Prelude.{ℕ, ◌*◌, ◌≤◌, ◌≡◌, List, length}
use Rattle.model.specs.Explaining.{Explanation, most_rows, explanation, why}
use Rattle.model.specs.declared.Why.{Why}
use Rattle.rows.specs.Rows.{rows_held}
use Rattle.explain.specs.Call.{rows_told}
use Rattle.factfilter.specs.Filters.{own_slices}

-- the words of the rows that a call can list
abbrev pub row_words : ℕ
row_words = 4096

-- what the call comes to over these
abbrev pub own_explanation : List ℕ → ℕ → Explanation
own_explanation file position = explanation file position own_slices most_rows

-- the answer is that of the call, and its rows stand in words
pub record Explains (file : List ℕ) (position : ℕ) (w : Why) (rows : List ℕ) : Type 0 where
  pub answered : w ≡ why (own_explanation file position)
  pub stand : rows_held w.rows rows ≡ rows_told (own_explanation file position)
  pub room : 2 * w.rows ≤ length rows
