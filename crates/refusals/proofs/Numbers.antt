-- The numbers of the refusals.
use Prim.Native.Nat.{ℕ}
use mathlib.Core.Path.{◌≡◌, refl, sym, ap, ◌∙◌}
use Rattle.model.specs.declared.Refusal.{Refusal}
use Rattle.model.specs.declared.Refusal.TheVariants as refusal
use Rattle.model.specs.Outcome.{refusal_number}

-- the number of each
pub numbers : (1 ≡ refusal_number refusal.Form) × (2 ≡ refusal_number refusal.Name) × (3 ≡ refusal_number refusal.Number)
    × (4 ≡ refusal_number refusal.Term) × (5 ≡ refusal_number refusal.Repeated) × (6 ≡ refusal_number refusal.FullNames)
    × (7 ≡ refusal_number refusal.Working) × (8 ≡ refusal_number refusal.Room) × (9 ≡ refusal_number refusal.Size)
    × (10 ≡ refusal_number refusal.FullTerms) × (11 ≡ refusal_number refusal.FullRecords)
    × (12 ≡ refusal_number refusal.FullTriggers) × (13 ≡ refusal_number refusal.FullAsks)
    × (15 ≡ refusal_number refusal.Position)
unfolding refusal_number
numbers = (refl, refl, refl, refl, refl, refl, refl, refl, refl, refl, refl, refl, refl, refl)

-- the number of a refusal that is known
pub number_is : {r x : Refusal} {n : ℕ} → r ≡ x → n ≡ refusal_number x → n ≡ refusal_number r
number_is e p = p ∙ ap refusal_number (sym e)
