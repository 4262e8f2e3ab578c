-- What the core of the call tells and leaves: the rows in words of the run's slice, all else as at the end of a call.
use Rattle.std.specs.Prelude.{ℕ, ◌*◌, ◌≤◌, ◌≡◌, List, [], length}
use Rattle.model.specs.Reading.{most_names, most_uses}
use Rattle.model.specs.Working.{Working, sizes}
use Rattle.model.specs.Checking.{Checked, refusal_at, listed_rows, rows_fitting, check, ordered}
use Rattle.model.specs.declared.Counts.{Counts}
use Rattle.model.specs.declared.Ordered.{Ordered}
use Rattle.model.specs.declared.Row.{Row}
use Rattle.words.specs.Slices.{SameBut}
use Rattle.front.specs.Demand.{verdict_number}
use Rattle.front.specs.Opening.{Long, Rest}
use Rattle.rows.specs.Left.{RowsLeft}
use Rattle.prune.specs.Rows.{RowsBehind}
use Rattle.precedence.specs.Sorts.{all_late}
use Rattle.precedence.specs.Loops.{Checkable}
use Rattle.precedence.specs.declared.Late.{Late}

-- the answer in numbers
unfoldable pub check_in_numbers : Ordered → Late
check_in_numbers o = record { refusal = verdict_number o.verdict; place = o.place; rows = o.rows }

-- the rows that a call lists: none after a refusal
unfoldable pub rows_of_check : Checked → List Row
rows_of_check (refusal_at r place) = []
rows_of_check (listed_rows rs) = rs

-- rows put into words from the start of the run's slice on
pub record LatePut (rows : List Row) (refs refs' run run' : List ℕ) (count : ℕ) : Type 0 where
  pub put : RowsBehind run 0 rows run' count
  pub stamped : SameBut 0 most_names refs refs'

-- tables of an open file whose rows fit into words
pub record LateTables (held : Working) (k : Counts) : Type 0 where
  pub checkable : Checkable held.names held.recs held.lists k
  pub long : Long held
  pub few : length (all_late held.names held.recs held.lists k) ≤ most_uses

-- these rows listed, or 8: what is told, and what is left for whatever slices were lent
pub record ListsRows (rs : List Row) (room : ℕ) (held left : Working) (r : Ordered) : Type 0 where
  pub answered : r ≡ ordered (rows_fitting room (listed_rows rs))
  pub fits : r.rows ≤ room
  pub stands : (lent : Working) → Long lent → Rest lent held
      → RowsLeft (sizes lent) lent left (rows_of_check (rows_fitting room (listed_rows rs)))
  pub rest : Rest held left

-- what the core tells and leaves
pub record Orders (file : List ℕ) (lent : Working) (room : ℕ) (r : Ordered) (held : Working) : Type 0 where
  pub answered : r ≡ ordered (check file (sizes lent) room)
  pub fits : r.rows ≤ room
  pub left : RowsLeft (sizes lent) lent held (rows_of_check (check file (sizes lent) room))
  pub rest : Rest lent held

-- the same in numbers
pub record FoundRows (file : List ℕ) (lent : Working) (room : ℕ) (r : Late) (held : Working) : Type 0 where
  pub told : r ≡ check_in_numbers (ordered (check file (sizes lent) room))
  pub fits : r.rows ≤ room
  pub held_rows : 2 * r.rows ≤ length held.run
  pub left : RowsLeft (sizes lent) lent held (rows_of_check (check file (sizes lent) room))
