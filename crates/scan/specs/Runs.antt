-- What a run of an ask over the tables comes to.
use Rattle.std.specs.Prelude.{ℕ, ◌+◌, ◌<◌, ◌≡◌, List, T, get_or}
use Rattle.model.specs.Names.{mem}
use Rattle.model.specs.Rounds.{Run, facts, run, history, round_met, round_of, visits}
use Rattle.model.specs.declared.Asked.{Asked}
use Rattle.model.specs.declared.Counts.{Counts}
use Rattle.names.specs.Table.{name_of}
use Rattle.words.specs.Slices.{SameBut}
use Rattle.records.specs.Columns.{record_name}
use Rattle.records.specs.States.{fact_at, roots_of, background_of, takes_part, ask_of}
use Rattle.firing.specs.Held.{set_of}
use Rattle.firing.specs.Met.{reached_column, work_column, run_end, is_met, is_reached, zeroed_to}
use Rattle.scan.specs.Steps.{going, Rounds}
use Rattle.firing.specs.Tables.{held_of, starts_at}
use Rattle.scan.specs.Starts.{first_scan, pushed}
use Rattle.scan.specs.declared.Scan.{Scan}

-- the run of `model` of an ask over its background
unfoldable pub tables_run : List ℕ → List ℕ → List ℕ → List ℕ → Counts → Asked → Run
tables_run file names recs lists k a =
    run (ask_of recs a) (background_of (name_of file names) recs lists (ask_of recs a) k.records)
    (roots_of (name_of file names) recs lists k.records)

-- its history
unfoldable pub tables_history : List ℕ → List ℕ → List ℕ → List ℕ → Counts → Asked → List Run
tables_history file names recs lists k a =
    history (ask_of recs a) (background_of (name_of file names) recs lists (ask_of recs a) k.records)
    (roots_of (name_of file names) recs lists k.records)

-- a state and the run's slice after it. A name of the run may have no number: a macro of the start opens to it
pub record Ran (file names recs lists : List ℕ) (k : Counts) (a : Asked) (before after : List ℕ) (s : Scan) : Type 0 where
  pub met : (n : ℕ) → n < k.names → is_met after n ≡ mem (name_of file names n) (tables_run file names recs lists k a).met
  pub reached : set_of (λ i. name_of file names (record_name recs i)) (is_reached after) k.records ≡ (tables_run file names recs lists k a).reached
  pub only_facts : (i : ℕ) → i < k.records → T (is_reached after i) → T (takes_part recs (ask_of recs a) i)
  -- a word of the columns is the round that first met the name, or that reached the fact
  pub met_round : (n : ℕ) → n < k.names → T (is_met after n)
      → get_or after n 0 ≡ round_met (tables_history file names recs lists k a) (name_of file names n)
  pub reached_round : (i : ℕ) → i < k.records → T (is_reached after i)
      → get_or after (reached_column + i) 0 ≡ round_of (tables_history file names recs lists k a) (fact_at (name_of file names) recs lists i)
  pub rounds : s.rounds ≡ (tables_run file names recs lists k a).rounds
  pub visits : s.visits
      ≡ visits (tables_run file names recs lists k a).met
      (facts (background_of (name_of file names) recs lists (ask_of recs a) k.records))
  pub same : SameBut 0 run_end before after
  -- every word: the rounds on numbers, from columns set to zero with the records of round 1 on the worklist
  pub words : Rounds (held_of names recs lists k a)
      (pushed (starts_at recs a) k.records (going first_scan (zeroed_to work_column before)))
      (going s after)
