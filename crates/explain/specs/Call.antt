-- What the core of the call tells and leaves: the rows in words of the run's slice, all else as at the end of a call.
use Rattle.std.specs.Prelude.{ℕ, ◌*◌, ◌≤◌, ◌<◌, ◌≡◌, List, [], ◌∷◌, length, take, get_or, Some as some}
use Rattle.model.specs.Reading.{most_asks}
use Rattle.model.specs.Outcome.{most_bytes, working_words}
use Rattle.model.specs.Working.{Working, sizes}
use Rattle.model.specs.Reasons.{rows}
use Rattle.model.specs.Explaining.{Explanation, refusal_at, no_position, told, most_rows, row_table, reasons, explanation, why}
use Rattle.model.specs.declared.Asked.{Asked}
use Rattle.model.specs.declared.Counts.{Counts}
use Rattle.model.specs.declared.Row.{Row}
use Rattle.model.specs.declared.Why.{Why}
use Rattle.demands.specs.LinesRead.{LinesRead}
use Rattle.words.specs.Slices.{SameBut, Zeroed}
use Rattle.records.specs.Columns.{ask_room}
use Rattle.records.specs.States.{ask_of, state_of}
use Rattle.macros.specs.Macros.{Filled}
use Rattle.front.specs.Demand.{verdict_number}
use Rattle.front.specs.Opening.{Long, Rest, state_in, OpenFile}
use Rattle.rows.specs.Rows.{words_of}
use Rattle.rows.specs.Left.{RowsLeft}
use Rattle.explain.specs.declared.Reasons.{Reasons}

-- the answer in numbers
unfoldable pub reasons_in_numbers : Why → Reasons
reasons_in_numbers w = record { refusal = verdict_number w.verdict; place = w.place; met = w.met; rows = w.rows }

-- the rows that a call tells: none after a refusal
unfoldable pub rows_told : Explanation → List Row
rows_told (refusal_at r place) = []
rows_told no_position = []
rows_told (told given met) = given

-- what telling the reasons of an ask asks: tables filled from a file that was read, slices for the rows and the run
pub record LentTables (file names refs recs lists run : List ℕ) (k : Counts) (a : Asked) : Type 0 where
  pub filled : Filled file names recs lists k
  pub row_room : working_words ≤ length refs
  pub room : working_words ≤ length run
  pub asked : a.end ≤ ask_room
  pub small : length file ≤ most_bytes
  pub table : List ℕ
  pub read : LinesRead file (state_of file names refs table recs lists k)

-- the reasons of an ask: the rows in words of a slice, and the counts
pub record TellsRows (file names recs lists : List ℕ) (k : Counts) (a : Asked) (refs refs' run run' : List ℕ) (r : Why) : Type 0 where
  pub answered : (table : List ℕ)
      → r ≡ why (reasons (state_of file names refs table recs lists k) (some (ask_of recs a)))
  pub stand : (table : List ℕ)
      → take (2 * r.rows) refs' ≡ words_of (rows (ask_of recs a) (state_of file names refs table recs lists k))
  pub few : r.rows ≤ most_rows
  pub row_words : SameBut 0 working_words refs refs'
  pub run_words : SameBut 0 working_words run run'

-- so many rows moved from the slice of the references to that of the run, and all else that a call uses cleared
pub record MovesRows (rows : ℕ) (held left : Working) : Type 0 where
  pub names : Zeroed 0 working_words held.names left.names
  pub refs : Zeroed 0 working_words held.refs left.refs
  pub rows_cleared : Zeroed 0 working_words held.rows left.rows
  pub recs : Zeroed 0 working_words held.recs left.recs
  pub lists : Zeroed 0 working_words held.lists left.lists
  pub moved : (i : ℕ) → i < 2 * rows → get_or left.run i 0 ≡ get_or held.refs i 0
  pub cleared : (i : ℕ) → 2 * rows ≤ i → i < working_words → get_or left.run i 0 ≡ 0
  pub run : SameBut 0 working_words held.run left.run

-- a file that is open: its tables, and that its lines are read
pub record HeldOpen (file : List ℕ) (held : Working) (k : Counts) : Type 0 where
  pub filled : Filled file held.names held.recs held.lists k
  pub long : Long held
  pub few_asks : k.asks ≤ most_asks
  pub small : length file ≤ most_bytes
  pub read : LinesRead file (state_in file held k)

-- what the core tells and leaves
pub record ExplainsTo (file : List ℕ) (position : ℕ) (lent : Working) (room : ℕ) (r : Why) (held : Working) : Type 0 where
  pub answered : r ≡ why (explanation file position (sizes lent) room)
  pub fits : r.rows ≤ room
  pub left : RowsLeft (row_table room ∷ sizes lent) lent held (rows_told (explanation file position (sizes lent) room))
  pub rest : Rest lent held

-- what is told at a position of a file that is open, for whatever slices it was opened over
pub record PositionTold (file : List ℕ) (position : ℕ) (k : Counts) (held left : Working) (r : Why) : Type 0 where
  pub told_at : (lent : Working) (room : ℕ) → OpenFile file lent held k → most_rows ≤ room → ExplainsTo file position lent room r left
  pub rest : Rest held left

-- the same in numbers
pub record FoundReasons (file : List ℕ) (position : ℕ) (lent : Working) (room : ℕ) (r : Reasons) (held : Working) : Type 0 where
  pub answered : r ≡ reasons_in_numbers (why (explanation file position (sizes lent) room))
  pub fits : r.rows ≤ room
  pub held_rows : 2 * r.rows ≤ length held.run
  pub left : RowsLeft (row_table room ∷ sizes lent) lent held (rows_told (explanation file position (sizes lent) room))
