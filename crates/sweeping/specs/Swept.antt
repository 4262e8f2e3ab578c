-- What a sweep of an ask over the tables comes to.
use Rattle.std.specs.Prelude.{ℕ, ◌+◌, ◌≤◌, ◌<◌, ◌≡◌, false, List, T}
use Rattle.model.specs.Names.{mem}
use Rattle.model.specs.Reading.{most_records}
use Rattle.model.specs.Sweep.{Sweep, sweep}
use Rattle.model.specs.declared.Asked.{Asked}
use Rattle.model.specs.declared.Counts.{Counts}
use Rattle.names.specs.Table.{name_of}
use Rattle.words.specs.Slices.{SameBut}
use Rattle.records.specs.Columns.{record_name}
use Rattle.records.specs.States.{roots_of, background_of, takes_part, ask_of}
use Rattle.firing.specs.Held.{set_of}
use Rattle.firing.specs.Met.{work_column, is_met, is_reached, zeroed_to}
use Rattle.firing.specs.Tables.{held_of, starts_at}
use Rattle.sweeping.specs.Sweeping.{sweeping, met_of, Passes}

-- the sweep of `model` of an ask over its background
unfoldable pub tables_sweep : List ℕ → List ℕ → List ℕ → List ℕ → Counts → Asked → Sweep
tables_sweep file names recs lists k a =
    sweep (ask_of recs a) (background_of (name_of file names) recs lists (ask_of recs a) k.records)
    (roots_of (name_of file names) recs lists k.records)

-- the slice before the first pass: its columns set to zero, the names of the records that start met
unfoldable pub met_first : List ℕ → List ℕ → List ℕ → Counts → Asked → List ℕ → List ℕ
met_first names recs lists k a w =
    met_of (held_of names recs lists k a) (starts_at recs a) k.records (zeroed_to work_column w)

-- the run's slice after it, and how many passes there were. A name of the sweep may have no number: a macro of the start opens
-- to it
pub record SweptThrough (file names recs lists : List ℕ) (k : Counts) (a : Asked) (before after : List ℕ)
    (many : ℕ) : Type 0 where
  pub met : (n : ℕ) → n < k.names → is_met after n ≡ mem (name_of file names n) (tables_sweep file names recs lists k a).met
  pub reached : set_of (λ i. name_of file names (record_name recs i)) (is_reached after) k.records
      ≡ (tables_sweep file names recs lists k a).reached
  pub only_facts : (i : ℕ) → i < k.records → T (is_reached after i) → T (takes_part recs (ask_of recs a) i)
  pub passes : many ≡ (tables_sweep file names recs lists k a).passes
  pub few : many ≤ most_records + 1
  pub same : SameBut 0 work_column before after
  -- every word: the passes on numbers, from the names that the records that start meet
  pub words : Passes (held_of names recs lists k a)
      (sweeping (met_first names recs lists k a before) 0 false)
      (sweeping after many false)
