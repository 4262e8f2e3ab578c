-- An options number, or a groups number, by division and remainder: the option at a place, and the values of those that are on. A
-- group that is admitted is an option that is on.
use Rattle.std.specs.Prelude.{ℕ, zero, suc, ◌+◌, ◌*◌, ◌/◌, ◌%◌, Bool, cond, eqb}

-- whether the option at a place, counted from 0, is on: what remains by 2 after so many halvings
unfoldable pub option_at : ℕ → ℕ → Bool
option_at zero n = eqb (n % 2) 1
option_at (suc i) n = option_at i (n / 2)

-- the values of the first k options that are on, summed: that at place 0 counts 1, each later one twice the one before
unfoldable pub values_on : ℕ → ℕ → ℕ
values_on zero n = 0
values_on (suc k) n = cond (option_at 0 n) 1 0 + 2 * values_on k (n / 2)
