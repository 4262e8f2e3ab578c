-- The start of a run on numbers: the records that round 1 scans put on the worklist.
use Rattle.std.specs.Prelude.{ℕ, zero, suc, ◌+◌, Bool, false, cond, set}
use Rattle.firing.specs.Met.{work_column}
use Rattle.scan.specs.Steps.{Going}
use Rattle.scan.specs.declared.Scan.{Scan}

-- the state before round 1, nothing on the worklist
abbrev pub first_scan : Scan
first_scan = record { from = 0; to = 0; visits = 0; rounds = 0; triggered = false }

-- a record put behind the worklist
unfoldable pub push : Going → ℕ → Going
push g i =
    record {
      scan = record {
        from = g.scan.from;
        to = g.scan.to + 1;
        visits = g.scan.visits;
        rounds = g.scan.rounds;
        triggered = g.scan.triggered;
      };
      run = set g.run (work_column + g.scan.to) i;
    }

-- those of the first n records put there of which the test holds
unfoldable pub pushed : (ℕ → Bool) → ℕ → Going → Going
pushed test zero g = g
pushed test (suc n) g = let before = pushed test n g in cond (test n) (push before n) before
