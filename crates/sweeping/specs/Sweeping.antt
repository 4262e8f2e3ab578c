-- A sweep on numbers, record after record. Its slice is that of a run without the worklist: by name the word 1 where it is
-- met, by record the word 1 where it is reached.
use Rattle.std.specs.Prelude.{ℕ, zero, suc, ◌+◌, ◌%◌, ◌≡◌, Bool, true, false, cond, not, ◌&&◌, List, ltb, set}
use Rattle.model.specs.Lists.{any}
use Rattle.model.specs.declared.Asked.{Asked}
use Rattle.triggers.specs.Entries.{last_flag, no_name}
use Rattle.records.specs.States.{entries_at, takes_part, ask_of}
use Rattle.firing.specs.Held.{Held}
use Rattle.firing.specs.Met.{reached_column, is_met, is_reached, marks}
use Rattle.firing.specs.Firing.{opened_all, fires_in, fires_on}
use Rattle.firing.specs.Tables.{retained}

-- the state of a sweep and its slice
pub record Sweeping : Type 0 where
  pub run : List ℕ
  pub passes : ℕ
  pub added : Bool

-- a slice with the passes so far and whether the last added a fact
abbrev pub sweeping : List ℕ → ℕ → Bool → Sweeping
sweeping w passes added = record { run = w; passes = passes; added = added }

-- ---- by the entries in the tables

-- whether the name of an entry is met; one that has none is not
unfoldable pub name_met : List ℕ → ℕ → Bool
name_met w x = ltb (x % last_flag) no_name && is_met w (x % last_flag)

-- whether a record is added: a fact that the ask admits, retainable, not reached, a name of its entries met, a disjunct wholly
unfoldable pub adds_at : List ℕ → List ℕ → Asked → List ℕ → ℕ → Bool
adds_at recs lists a w i =
    takes_part recs (ask_of recs a) i
    && (retained recs a i
    && (not (is_reached w i)
    && (any (name_met w) (entries_at recs lists i) && fires_in w true (entries_at recs lists i))))

module _ (h : Held) where
  -- ---- by the disjuncts

  -- whether a record fires: a name of its disjuncts is met, and one of them wholly. The second alone would let an empty one
  -- fire
  unfoldable pub fires_now : List ℕ → ℕ → Bool
  fires_now w i = any (any (is_met w)) (h.disjuncts i) && fires_on h (is_met w) i

  -- whether a record is added
  unfoldable pub joins : List ℕ → ℕ → Bool
  joins w i = h.takes_part i && (h.retains i && (not (is_reached w i) && fires_now w i))

  -- the slice with the record reached and its names met
  unfoldable pub joined : List ℕ → ℕ → List ℕ
  joined w i = marks 1 (set w (reached_column + i) 1) (opened_all h.opens (h.frees i))

  -- a record passed
  unfoldable pub pass_record : Sweeping → ℕ → Sweeping
  pass_record s i = cond (joins s.run i) (sweeping (joined s.run i) s.passes true) s

  -- the first n records passed
  unfoldable pub passed : ℕ → Sweeping → Sweeping
  passed zero s = s
  passed (suc n) s = pass_record (passed n s) n

  -- a pass
  unfoldable pub pass_all : Sweeping → Sweeping
  pass_all s = passed h.records (sweeping s.run (s.passes + 1) false)

  -- pass after pass, to the one that adds no fact
  pub data Passes : Sweeping → Sweeping → Type 0 where
    last : {s : Sweeping} → (pass_all s).added ≡ false → Passes s (pass_all s)
    more : {s end : Sweeping} → (pass_all s).added ≡ true → Passes (pass_all s) end → Passes s end

  -- before the first pass: the names met of those of the first n records of which the test holds
  unfoldable pub met_of : (ℕ → Bool) → ℕ → List ℕ → List ℕ
  met_of test zero w = w
  met_of test (suc n) w =
      let before = met_of test n w in
      cond (test n) (marks 1 before (opened_all h.opens (h.frees n))) before
