-- A record line added to the tables, its name spelled before.
use Rattle.std.specs.Prelude.{ℕ, ◌+◌, ◌*◌, ◌≤◌, ◌<◌, ◌≡◌, cond, List}
use Rattle.model.specs.Reading.{Result, ok, refused, Content, State, add_line, repeats, limits, under_limits, most_names}
use Rattle.model.specs.Summaries.{exclude_names}
use Rattle.model.specs.Outcome.{working_words}
use Rattle.model.specs.declared.Counts.{Counts}
use Rattle.model.specs.declared.Refusal.{Refusal}
use Rattle.model.specs.declared.Refusal.TheVariants as refusal
use Rattle.words.specs.Slices.{SameBut}
use Rattle.gather.specs.Sets.{Fresh}
use Rattle.rules.specs.Views.{Tables}
use Rattle.model.specs.Steps.{Step}
use Rattle.model.specs.Steps as step
use Rattle.records.specs.States.{state_of}
use Rattle.records.specs.Filing.{Records, Termed, Stocked, Hiding}

-- the tables between two lines; a record takes at most two marks beside one for each of its entries
pub record Standing (file names refs rows recs lists : List ℕ) (k : Counts) : Type 0 where
  pub tables : Tables file names refs rows k.names k.references k.terms
  pub recorded : Records recs lists k.names k.records k.entries k.uses
  pub termed : Termed recs k.records k.terms
  pub fresh : Fresh names rows k.mark
  pub few_marks : k.mark ≤ 2 * k.records + k.entries + 1
  pub stocked : Stocked file names recs lists k.records k.entries
  pub hiding : Hiding file names recs k.names k.records k.hides

-- what the n-th line comes to, once its fields are read: 5, then the limits
unfoldable pub judge : ℕ → State → Content → Result State
judge n s c =
    let after = add_line exclude_names n s c in
    let limited = under_limits (limits after) after in
    cond (repeats exclude_names n s c) (refused refusal.Repeated) limited

-- what adding a record comes to: a name of its line had no room; or the line is refused; or the tables have the record
pub data Adds (file names refs rows recs lists names' rows' recs' lists' : List ℕ) (k : Counts) (line : ℕ) (c : Content) : Step → Type 0 where
  full : most_names < k.names → Adds file names refs rows recs lists names' rows' recs' lists' k line c (step.Refused refusal.FullNames)
  stops : {x : Refusal} → k.names ≤ most_names → judge line (state_of file names refs rows recs lists k) c ≡ refused x
      → Adds file names refs rows recs lists names' rows' recs' lists' k line c (step.Refused x)
  added : {k' : Counts} → judge line (state_of file names refs rows recs lists k) c ≡ ok (state_of file names' refs rows' recs' lists' k')
      → Standing file names' refs rows' recs' lists' k'
      → Adds file names refs rows recs lists names' rows' recs' lists' k line c (step.On k')

-- the words past those that a call uses stay
pub record Untouched (names rows recs lists names' rows' recs' lists' : List ℕ) : Type 0 where
  pub name_words : SameBut 0 working_words names names'
  pub row_words : SameBut 0 working_words rows rows'
  pub record_words : SameBut 0 working_words recs recs'
  pub list_words : SameBut 0 working_words lists lists'
