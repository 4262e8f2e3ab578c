-- A run that goes on: where the chain of an ask stands in the tables, and the stretch of one more query.
use Rattle.std.specs.Prelude.{ℕ, ◌+◌, ◌-◌, ◌≤◌, ◌<◌, ◌≡◌, Bool, ◌&&◌, List, T, eqb, length, get_or}
use Rattle.model.specs.Names.{mem}
use Rattle.model.specs.Reading.{Ask, most_names, most_records}
use Rattle.model.specs.Rounds.{Run, facts, visits}
use Rattle.model.specs.Also.{chain, stretch_visits}
use Rattle.model.specs.declared.Asked.{Asked}
use Rattle.model.specs.declared.Counts.{Counts}
use Rattle.names.specs.Table.{name_of}
use Rattle.words.specs.Slices.{SameBut}
use Rattle.records.specs.Columns.{record_kind, record_name, record_flag, root_kind, ask_query}
use Rattle.records.specs.States.{roots_of, background_of, takes_part, ask_of}
use Rattle.firing.specs.Held.{set_of}
use Rattle.firing.specs.Met.{run_end, is_met, is_reached, unmet}
use Rattle.scan.specs.Steps.{going, Rounds}
use Rattle.firing.specs.Tables.{held_of}
use Rattle.scan.specs.Starts.{pushed}
use Rattle.scan.specs.declared.Scan.{Scan}

-- whether a record is a root of the query
unfoldable pub root_for : List ℕ → ℕ → ℕ → Bool
root_for recs q i = eqb (record_kind recs i) root_kind && eqb (record_flag recs i) q

-- the worklist empty, the rounds and the visits counted on
abbrev pub emptied : Scan → Scan
emptied s = record { from = 0; to = 0; visits = s.visits; rounds = s.rounds; triggered = s.triggered }

-- the ask without its last query
abbrev pub before_last : Asked → Asked
before_last a = record { first = a.first; end = a.end - 1; options = a.options; groups = a.groups }

-- where the chain of an ask over its background stands, after all its queries
unfoldable pub tables_chain : List ℕ → List ℕ → List ℕ → List ℕ → Counts → Ask → Run
tables_chain file names recs lists k a =
    let name = name_of file names in
    chain a (background_of name recs lists a k.records) (roots_of name recs lists k.records) a.queries

-- a state and the run's slice after the chain of an ask, its rounds and visits counted on from line to line
pub record ChainStands (file names recs lists : List ℕ) (k : Counts) (a : Ask) (run : List ℕ) (s : Scan) : Type 0 where
  pub long : run_end ≤ length run
  pub met : (n : ℕ) → n < k.names → is_met run n ≡ mem (name_of file names n) (tables_chain file names recs lists k a).met
  pub reached : set_of (λ i. name_of file names (record_name recs i)) (is_reached run) k.records
      ≡ (tables_chain file names recs lists k a).reached
  pub only_facts : (i : ℕ) → i < most_records → T (is_reached run i) → (i < k.records) × T (takes_part recs a i)
  pub low : (n : ℕ) → n < k.names → get_or run n 0 ≤ s.rounds
  -- each round but the last of a line meets a name
  pub few_rounds : s.rounds + unmet k.names run ≤ most_names + length a.queries
  pub visits : s.visits
      ≡ visits (tables_chain file names recs lists k a).met (facts (background_of (name_of file names) recs lists a k.records))

-- the stretch of the last query of an ask, from a state and slice to another
pub record WentOn (file names recs lists : List ℕ) (k : Counts) (a : Asked) (before : List ℕ) (s : Scan)
    (after : List ℕ) (r : Scan) : Type 0 where
  pub stands : ChainStands file names recs lists k (ask_of recs a) after r
  pub rounds : r.rounds ≡ s.rounds + (tables_chain file names recs lists k (ask_of recs a)).rounds
  pub visits : r.visits
      ≡ s.visits
      + stretch_visits (tables_chain file names recs lists k (ask_of recs (before_last a))).met
      (tables_chain file names recs lists k (ask_of recs a)).met
      (facts (background_of (name_of file names) recs lists (ask_of recs a) k.records))
  pub same : SameBut 0 run_end before after
  -- every word: the rounds on numbers, from the roots of the last query on a worklist that was emptied
  pub words : Rounds (held_of names recs lists k a)
      (pushed (root_for recs (ask_query recs (a.end - 1))) k.records (going (emptied s) before))
      (going r after)
