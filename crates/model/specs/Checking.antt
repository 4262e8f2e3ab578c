-- Document 02, Change 9: the call that lists the rows of the check in a lent table.
use Rattle.std.specs.Prelude.{ℕ, cond, List, ◌++◌, leb, length, drop}
use Rattle.model.specs.Outcome.{Lent, Front, stopped, opened, front}
use Rattle.model.specs.Precedence.{late_rows}
use Rattle.model.specs.declared.Ordered.{Ordered}
use Rattle.model.specs.declared.Refusal.{Refusal}
use Rattle.model.specs.declared.Refusal.TheVariants as refusal
use Rattle.model.specs.declared.Row.{Row}
use Rattle.model.specs.declared.Verdict.TheVariants.{Accepted, Refused}

-- what the call comes to: a refusal and its place, or the rows
pub data Checked : Type 0 where
  refusal_at : Refusal → ℕ → Checked
  listed_rows : List Row → Checked

-- a refusal of the front, or the rows
unfoldable pub checked : Front → Checked
checked (stopped r place) = refusal_at r place
checked (opened s) = listed_rows (late_rows s)

-- 8 where the table is too short for them, with the rows needed as its place
unfoldable pub rows_fitting : ℕ → Checked → Checked
rows_fitting room (refusal_at r place) = refusal_at r place
rows_fitting room (listed_rows rs) = cond (leb (length rs) room) (listed_rows rs) (refusal_at refusal.Room (length rs))

-- the call, from the file's bytes, the working slices and the rows of the table: 8 behind the front
unfoldable pub check : List ℕ → List Lent → ℕ → Checked
check file works room = rows_fitting room (checked (front file works))

-- the answer's fields: a refused one has no rows
unfoldable pub ordered : Checked → Ordered
ordered (refusal_at r place) = record { verdict = Refused r; place = place; rows = 0 }
ordered (listed_rows rs) = record { verdict = Accepted; place = 0; rows = length rs }

-- the table at exit: the rows from its start and nothing beyond; untouched by a refusal
unfoldable pub table_after : Checked → List Row → List Row
table_after (refusal_at r place) table = table
table_after (listed_rows rs) table = rs ++ drop (length rs) table
