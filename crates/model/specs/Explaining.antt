-- Document 02, Change 2: the call that fills a lent table of rows, for the ask or also line at a position (Changes 7 and 11).
use Rattle.std.specs.Prelude.{ℕ, zero, suc, List, [], ◌∷◌, ◌++◌, length, drop, Option, None as none, Some as some}
use Rattle.model.specs.Reading.{Ask, State}
use Rattle.model.specs.Outcome.{Lent, Front, stopped, opened, front}
use Rattle.model.specs.Reasons.{rows, met_number}
use Rattle.model.specs.declared.Refusal.{Refusal}
use Rattle.model.specs.declared.Refusal.TheVariants as refusal
use Rattle.model.specs.declared.Row.{Row}
use Rattle.model.specs.declared.Verdict.TheVariants.{Accepted, Refused}
use Rattle.model.specs.declared.Why.{Why}

-- what the call comes to: a refusal of the front and its place; 15, the position has no ask or also line; or the rows, and how many
-- of the numbered names are met
pub data Explanation : Type 0 where
  refusal_at : Refusal → ℕ → Explanation
  no_position : Explanation
  told : List Row → ℕ → Explanation

-- the rows that a table must have room for
abbrev pub most_rows : ℕ
most_rows = 2048

-- a table of so many rows, as 7 counts it
abbrev pub row_table : ℕ → Lent
row_table n = record { size = n; least = most_rows }

-- the ask at a position, counted from 1
unfoldable pub nth_ask : List Ask → ℕ → Option Ask
nth_ask [] position = none
nth_ask (a ∷ asks) zero = none
nth_ask (a ∷ asks) (suc zero) = some a
nth_ask (a ∷ asks) (suc (suc n)) = nth_ask asks (suc n)

-- the reasons of the ask, if there is one
unfoldable pub reasons : State → Option Ask → Explanation
reasons s none = no_position
reasons s (some a) = told (rows a s) (met_number a s)

-- a refusal of the front, or the reasons of the ask at the position
unfoldable pub explained : ℕ → Front → Explanation
explained position (stopped r place) = refusal_at r place
explained position (opened s) = reasons s (nth_ask s.asks position)

-- the call, from the file's bytes, the position, the working slices and the rows of the table: 15 behind the front
unfoldable pub explanation : List ℕ → ℕ → List Lent → ℕ → Explanation
explanation file position works table = explained position (front file (row_table table ∷ works))

-- the answer's fields: a refused one has both counts 0
unfoldable pub why : Explanation → Why
why (refusal_at r place) = record { verdict = Refused r; place = place; met = 0; rows = 0 }
why no_position = record { verdict = Refused refusal.Position; place = 0; met = 0; rows = 0 }
why (told given met) = record { verdict = Accepted; place = 0; met = met; rows = length given }

-- the table at exit: the rows from its start and nothing beyond; untouched by a refusal
unfoldable pub table_after : Explanation → List Row → List Row
table_after (refusal_at r place) table = table
table_after no_position table = table
table_after (told given met) table = given ++ drop (length given) table
