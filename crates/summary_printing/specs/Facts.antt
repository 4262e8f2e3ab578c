-- What printing a fact asks of the tables.
use Rattle.std.specs.Prelude.{ℕ, ◌≤◌, ◌<◌, List, length}
use Rattle.model.specs.Reading.{most_records, most_entries, most_uses}
use Rattle.model.specs.Outcome.{working_words}
use Rattle.model.specs.declared.Counts.{Counts}
use Rattle.names.specs.Table.{Table}
use Rattle.rules.specs.Choices.{OfTables}
use Rattle.summary_printing.specs.declared.Fact.{Fact}
use Rattle.records.specs.Columns.{record_name, record_term, uses_end, entries_start, entries_end}

-- the names are there, and the entries and the uses of the i-th record are among those that there can be
pub record Listed (file names recs lists : List ℕ) (named i : ℕ) : Type 0 where
  pub table : Table file names named
  pub record_room : working_words ≤ length recs
  pub list_room : working_words ≤ length lists
  pub few : i < most_records
  pub entries_from : entries_start recs i ≤ most_entries
  pub entries_to : entries_end recs i ≤ most_entries
  pub uses_to : uses_end recs i ≤ most_uses

-- the i-th record is there, and its name and its term are of the tables
pub record Headed (file names refs rows recs : List ℕ) (k : Counts) (i : ℕ) : Type 0 where
  pub record_room : working_words ≤ length recs
  pub few : i < most_records
  pub told : OfTables file names refs rows k.names k.references k.terms (record_name recs i) (record_term recs i)

-- both
pub record Printable (file names refs rows recs lists : List ℕ) (k : Counts) (i : ℕ) : Type 0 where
  pub headed : Headed file names refs rows recs k i
  pub listed : Listed file names recs lists k.names i

-- a fact can be printed
abbrev pub IsPrintable : Fact → Type 0
IsPrintable f = Printable f.file.now f.names.now f.refs.now f.rows.now f.recs.now f.lists.now f.k f.i
