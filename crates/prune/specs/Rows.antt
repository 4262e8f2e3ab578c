-- Rows in words of a slice.
use Rattle.std.specs.Prelude.{ℕ, ◌*◌, List}
use Rattle.model.specs.declared.Row.{Row}
use Rattle.rows.specs.Rows.{words_of}
use Rattle.prune.specs.Loops.{Behind}

-- rows put into words behind the first m rows; then there are `to`
abbrev pub RowsBehind : List ℕ → ℕ → List Row → List ℕ → ℕ → Type 0
RowsBehind before m rows after to = Behind 0 before (2 * m) (words_of rows) after (2 * to)
