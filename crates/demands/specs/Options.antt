-- Document 02, Change 4: the options number is taken apart by division and remainder, and "the options found on, each at its
-- value, sum to the number"; Change 8: "Options gains 8 and runs to 15"; Change 13: "Groups is a number from 0 to 65,535 whose bit k
-- admits group k".
use Rattle.std.specs.Prelude.{ℕ, zero, suc, ◌+◌, ◌^◌, ◌≤◌, ◌<◌, ◌≡◌, cond}
use Rattle.model.specs.Reading.{Ask, no_ambients, pretyping_axioms, prune_decls, follow_bodies}
use Rattle.model.specs.Rounds.{admits}
use Rattle.laws.specs.Places.{option_at, values_on}

-- of any number of options
abbrev pub PlacesSum : Type 0
PlacesSum = (k n : ℕ) → n < 2 ^ k → values_on k n ≡ n

-- each option of an ask is at its place
abbrev pub OptionsAtPlaces : Type 0
OptionsAtPlaces =
    (a : Ask)
    → (no_ambients a ≡ option_at 0 a.options)
    × (pretyping_axioms a ≡ option_at 1 a.options)
    × (prune_decls a ≡ option_at 2 a.options)
    × (follow_bodies a ≡ option_at 3 a.options)

-- "the options found on, each at its value, sum to the number"
abbrev pub OptionsSum : Type 0
OptionsSum =
    (a : Ask) → a.options ≤ 15
    → cond (no_ambients a) 1 0 + cond (pretyping_axioms a) 2 0 + cond (prune_decls a) 4 0 + cond (follow_bodies a) 8 0 ≡ a.options

-- "bit k admits group k": a group is admitted where the groups number is on at its place
abbrev pub GroupsAtPlaces : Type 0
GroupsAtPlaces = (a : Ask) (k : ℕ) → admits a k ≡ option_at k a.groups

-- the values of the groups below k that an ask admits, summed: that of group i is 2 ^ i
unfoldable pub admitted_below : ℕ → Ask → ℕ
admitted_below zero a = 0
admitted_below (suc k) a = admitted_below k a + cond (admits a k) (2 ^ k) 0

-- the groups admitted, each at its value, sum to the groups number
abbrev pub GroupsSum : Type 0
GroupsSum = (a : Ask) → a.groups ≤ 65535 → admitted_below 16 a ≡ a.groups
