-- The options that are on sum to the options number, the groups that are admitted to the groups number.
use Prim.Native.Nat.{ℕ, zero, suc}
use native.Mathlib.Omega.{arith}
use mathlib.Core.Path.{◌≡◌, refl}
use Rattle.model.specs.Reading.{Ask}
use Rattle.laws.specs.Places.{values_on}
use Rattle.laws.proofs.OptionLaws as laws
use Rattle.demands.specs.Options.{PlacesSum, OptionsAtPlaces, OptionsSum, GroupsAtPlaces, admitted_below, GroupsSum}

pub places_sum : PlacesSum
places_sum = laws.places_sum

pub options_at_places : OptionsAtPlaces
options_at_places = laws.options_at_places

pub options_sum : OptionsSum
options_sum = laws.options_sum

pub groups_at_places : GroupsAtPlaces
groups_at_places = laws.admits_at_place

-- the values of the groups admitted are those of the places that are on
admitted_values : (k : ℕ) (a : Ask) → admitted_below k a ≡ values_on k a.groups
unfolding admitted_below
admitted_values zero a = unfold values_on in refl
admitted_values (suc k) a = rw (admitted_values k a, laws.admits_at_place a k, laws.values_more k a.groups)

pub groups_sum : GroupsSum
groups_sum a h =
    let all = admitted_values 16 a in
    let sum = laws.places_sum 16 a.groups (omega arith) in
    omega arith
