-- What `prune` asks and leaves.
use Rattle.std.specs.Prelude.{ℕ, ◌+◌, ◌≤◌, ◌<◌, ◌≡◌, List, T, length}
use Rattle.model.specs.Lists.{part}
use Rattle.model.specs.Names.{Name}
use Rattle.model.specs.Reading.{most_records}
use Rattle.model.specs.Bodies.{kept_followed}
use Rattle.model.specs.Outcome.{working_words}
use Rattle.model.specs.declared.Asked.{Asked}
use Rattle.model.specs.declared.Counts.{Counts}
use Rattle.names.specs.Table.{name_of}
use Rattle.words.specs.Slices.{SameBut}
use Rattle.records.specs.Columns.{record_name, ask_room}
use Rattle.records.specs.States.{roots_of, background_of, takes_part, ask_of}
use Rattle.macros.specs.Macros.{Filled}
use Rattle.firing.specs.Held.{set_of}
use Rattle.firing.specs.Met.{is_reached, run_end}
use Rattle.prune.specs.Loops.{kept_column, prune_room}

-- the names of the reached records
unfoldable pub reached_of : List ℕ → List ℕ → List ℕ → List ℕ → Counts → List Name
reached_of file names recs run k = set_of (λ i. name_of file names (record_name recs i)) (is_reached run) k.records

-- the kept lines of the tables after a run
unfoldable pub kept_of : List ℕ → List ℕ → List ℕ → List ℕ → List ℕ → Counts → Asked → List ℕ
kept_of file names recs lists run k a =
    kept_followed (ask_of recs a)
    (background_of (name_of file names) recs lists (ask_of recs a) k.records)
    (roots_of (name_of file names) recs lists k.records)
    (reached_of file names recs run k)

-- tables that were filled and a slice of a run over them, with room for the kept lines
pub record RunOver (file names recs lists run : List ℕ) (k : Counts) (a : Asked) : Type 0 where
  pub filled : Filled file names recs lists k
  pub room : working_words ≤ length run
  pub asked : a.end ≤ ask_room
  pub only_facts : (i : ℕ) → i < k.records → T (is_reached run i) → T (takes_part recs (ask_of recs a) i)
  pub fits : length (kept_of file names recs lists run k a) ≤ most_records

-- the kept lines stand in the slice, so many; the columns of the run are as it left them
pub record Pruned (file names recs lists before after : List ℕ) (k : Counts) (a : Asked) (r : ℕ) : Type 0 where
  pub lines : part after kept_column (kept_column + r) ≡ kept_of file names recs lists before k a
  pub count : r ≡ length (kept_of file names recs lists before k a)
  pub same : SameBut run_end prune_room before after
