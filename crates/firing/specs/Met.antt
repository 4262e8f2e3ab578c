-- The columns of a run's slice, for both engines: by name a word that is not 0 where it is met, by record where it is reached.
use Rattle.std.specs.Prelude.{ℕ, zero, suc, ◌+◌, Bool, cond, not, List, ltb, eqb, get_or, set}
use Rattle.model.specs.Lists.{count, fold_left}
use Rattle.model.specs.Reading.{most_records}
use Rattle.firing.specs.Held.{upto}

-- the first words of the columns, and the word after the last
abbrev pub reached_column : ℕ
reached_column = 2048

abbrev pub work_column : ℕ
work_column = 3072

abbrev pub run_end : ℕ
run_end = 5120

-- whether a name is met
unfoldable pub is_met : List ℕ → ℕ → Bool
is_met w n = ltb 0 (get_or w n 0)

-- whether a record is reached
unfoldable pub is_reached : List ℕ → ℕ → Bool
is_reached w i = ltb 0 (get_or w (reached_column + i) 0)

-- a name met in round r, if it was not met before
unfoldable pub mark : ℕ → List ℕ → ℕ → List ℕ
mark r w n = cond (eqb (get_or w n 0) 0) (set w n r) w

-- names met in round r, one after the other
unfoldable pub marks : ℕ → List ℕ → List ℕ → List ℕ
marks r w ns = fold_left (mark r) w ns

-- how many records are not reached
unfoldable pub unreached : List ℕ → ℕ
unreached w = count (λ i. not (is_reached w i)) (upto most_records)

-- how many of the first n names are not met
unfoldable pub unmet : ℕ → List ℕ → ℕ
unmet n w = count (λ m. not (is_met w m)) (upto n)

-- the first n words set to zero
unfoldable pub zeroed_to : ℕ → List ℕ → List ℕ
zeroed_to zero w = w
zeroed_to (suc n) w = set (zeroed_to n w) n 0
