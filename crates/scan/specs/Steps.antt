-- A run on numbers, step after step. The run's slice: by name the round first met, by record the round reached, the worklist.
use Rattle.std.specs.Prelude.{ℕ, zero, suc, ◌+◌, ◌*◌, ◌≤◌, ◌<◌, ◌≡◌, Bool, true, false, cond, not, ◌&&◌, ◌||◌, T, ltb, eqb, length, get_or, set}
use mathlib.Core.List.{List, [], ◌++◌, Memᴰ}
use Rattle.model.specs.Lists.{count, fold_left, part}
use Rattle.model.specs.Reading.{most_names, most_records, most_entries, most_asks}
use Rattle.firing.specs.Held.{Held, upto, waiting}
use Rattle.scan.specs.declared.Scan.{Scan}
use Rattle.model.specs.declared.Asked.{Asked}
use Rattle.firing.specs.declared.tables.RecordTables.{RecordTables}
use Rattle.firing.specs.Tables.{held_in}
use Rattle.firing.specs.Met.{reached_column, work_column, run_end, is_met, is_reached, marks, unreached, unmet}
use Rattle.firing.specs.Firing.{scanned_by, fires_on}

-- how many records the worklist has room for: the roots, and each record that is reached
abbrev pub work_room : ℕ
work_room = 2048

-- the state of a run and its slice
pub record Going : Type 0 where
  pub scan : Scan
  pub run : List ℕ

-- a state with a slice
abbrev pub going : Scan → List ℕ → Going
going s w = record { scan = s; run = w }

-- the records that the next round scans
unfoldable pub items : Going → List ℕ
items g = part g.run (work_column + g.scan.from) (work_column + g.scan.to)

-- one visit counted; the fact triggered where it fires
unfoldable pub counted : Bool → Going → Going
counted fires g =
    record {
      scan = record {
        from = g.scan.from;
        to = g.scan.to;
        visits = g.scan.visits + 1;
        rounds = g.scan.rounds;
        triggered = g.scan.triggered || fires;
      };
      run = g.run;
    }

-- a record reached in this round, behind the worklist
unfoldable pub reach_record : Going → ℕ → Going
reach_record g i =
    record {
      scan = record {
        from = g.scan.from;
        to = g.scan.to + 1;
        visits = g.scan.visits;
        rounds = g.scan.rounds;
        triggered = g.scan.triggered;
      };
      run = set (set g.run (reached_column + i) g.scan.rounds) (work_column + g.scan.to) i;
    }

module _ (h : Held) where
  -- an entry visited: a fact that fires is triggered, and reached if it is retainable and was not reached
  unfoldable pub visit : Going → ℕ → Going
  visit g e =
      let i = h.entry_fact e in
      let fires = fires_on h (is_met g.run) i in
      cond (fires && (h.retains i && not (is_reached g.run i))) (reach_record (counted fires g) i) (counted fires g)

  -- entries visited one after the other
  unfoldable pub visits_of : Going → List ℕ → Going
  visits_of g es = fold_left visit g es

  -- the entries of the first n names that were first met in round r, in the order of the names
  unfoldable pub visited : ℕ → List ℕ → ℕ → List ℕ
  visited r w zero = []
  visited r w (suc n) = visited r w n ++ cond (eqb (get_or w n 0) r) (waiting h n h.entries) []

  -- the first half of a round: all that it scans is met
  unfoldable pub met_phase : Going → Going
  met_phase g =
      record {
        scan = record {
          from = g.scan.to;
          to = g.scan.to;
          visits = g.scan.visits;
          rounds = g.scan.rounds + 1;
          triggered = false;
        };
        run = marks (g.scan.rounds + 1) g.run (scanned_by h (items g));
      }

  -- the second half: the entries of the names first met in it are visited
  unfoldable pub visit_phase : Going → Going
  visit_phase g = visits_of g (visited g.scan.rounds g.run h.named)

  -- a round
  unfoldable pub round : Going → Going
  round g = visit_phase (met_phase g)

  -- round after round, to the one that triggers no fact
  pub data Rounds : Going → Going → Type 0 where
    last : {g : Going} → (round g).scan.triggered ≡ false → Rounds g (round g)
    more : {g end : Going} → (round g).scan.triggered ≡ true → Rounds (round g) end → Rounds g end

-- the worklist has room for the records that are not reached
pub record Room (g : Going) : Type 0 where
  pub fits : g.scan.to + unreached g.run ≤ work_room
  pub long : run_end ≤ length g.run

-- what a step in the middle of a round asks of the state and the slice
pub record Steady (g : Going) : Type 0 where
  pub room : Room g
  pub started : 0 < g.scan.rounds
  pub few_rounds : g.scan.rounds < 4294967296
  pub few_visits : g.scan.visits ≤ 3 * most_entries

-- what a round asks of the state and the slice, and what holds before each: each round but the last of a line meets a name
pub record Ready (h : Held) (g : Going) : Type 0 where
  pub room : Room g
  pub ends : g.scan.from ≤ g.scan.to
  pub few_rounds : g.scan.rounds + unmet h.named g.run ≤ most_names + most_asks
  pub low : (n : ℕ) → n < h.named → get_or g.run n 0 ≤ g.scan.rounds
  pub visits_are : g.scan.visits ≡ count (λ e. ltb (h.entry_name e) h.named && is_met g.run (h.entry_name e)) (upto h.entries)
  pub items_small : (i : ℕ) → Memᴰ i (items g) → i < h.records
  pub only_facts : (i : ℕ) → i < most_records → T (is_reached g.run i) → (i < h.records) × T (h.takes_part i)

-- a step from a state and slice of a run to another
abbrev pub Goes : RecordTables → Asked → (Held → Going → Going) → Scan → List ℕ → Scan → List ℕ → Type 0
Goes t a step s w s' w' = going s' w' ≡ step (held_in t a) (going s w)
