-- The six working slices as a call that lists rows leaves them before the rows are written: those of its end, but for the words of
-- the run's slice in which the rows stand.
use Rattle.std.specs.Prelude.{ℕ, ◌*◌, ◌≤◌, ◌≡◌, List, length}
use Rattle.model.specs.Outcome.{Lent}
use Rattle.model.specs.Working.{Working, works_after}
use Rattle.model.specs.declared.Row.{Row}
use Rattle.words.specs.Slices.{Zeroed}
use Rattle.rows.specs.Rows.{rows_held}

pub record RowsLeft (works : List Lent) (lent held : Working) (rs : List Row) : Type 0 where
  pub names : held.names ≡ (works_after works lent).names
  pub refs : held.refs ≡ (works_after works lent).refs
  pub rows : held.rows ≡ (works_after works lent).rows
  pub recs : held.recs ≡ (works_after works lent).recs
  pub lists : held.lists ≡ (works_after works lent).lists
  -- the rows stand at the start of the run's slice
  pub inside : 2 * length rs ≤ length held.run
  pub stand : rows_held (length rs) held.run ≡ rs
  -- with their words set to zero it is that of the end
  pub cleared : (run : List ℕ) → Zeroed 0 (2 * length rs) held.run run → run ≡ (works_after works lent).run
