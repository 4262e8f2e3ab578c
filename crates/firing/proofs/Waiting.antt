-- The name on which an entry waits, by whether its fact takes part.
use Prim.Native.Nat.{ℕ, ◌<◌}
use native.Mathlib.Omega.{arith}
use mathlib.Core.Path.{◌≡◌, refl, sym, ◌∙◌, ap}
use mathlib.Core.Bool.{Bool, true, false, cond}
use mathlib.Core.List.{List}
use lib.Dec.{T}
use Rattle.model.specs.declared.Asked.{Asked}
use Rattle.triggers.specs.Entries.{no_name}
use Rattle.records.specs.Columns.{entry_name, entry_fact}
use Rattle.records.specs.States.{takes_part, ask_of}
use Rattle.firing.specs.Tables.{waits_on}

module _ (recs lists : List ℕ) (a : Asked) (e : ℕ) where
  -- whether the fact of an entry takes part
  pub owner_part : {i : ℕ} {b c : Bool} → i ≡ entry_fact lists e → b ≡ takes_part recs (ask_of recs a) i → b ≡ c
      → takes_part recs (ask_of recs a) (entry_fact lists e) ≡ c
  owner_part owner part is = ap (takes_part recs (ask_of recs a)) (sym owner) ∙ sym part ∙ is

  -- it does: its own
  pub waits_is : takes_part recs (ask_of recs a) (entry_fact lists e) ≡ true → waits_on recs lists a e ≡ entry_name lists e
  unfolding waits_on
  waits_is part = rw part

  -- it does not: none
  pub waits_not : takes_part recs (ask_of recs a) (entry_fact lists e) ≡ false → waits_on recs lists a e ≡ no_name
  unfolding waits_on
  waits_not part = rw part

  -- where an entry waits on a name its fact takes part, and the name is its own
  pub waits_part : waits_on recs lists a e < no_name → T (takes_part recs (ask_of recs a) (entry_fact lists e)) × (entry_name lists e ≡ waits_on recs lists a e)
  unfolding waits_on
  waits_part = go (takes_part recs (ask_of recs a) (entry_fact lists e))
    where
      go : (b : Bool) → cond b (entry_name lists e) no_name < no_name → T b × (entry_name lists e ≡ cond b (entry_name lists e) no_name)
      go true l = (tt, refl)
      go false l = absurd (omega arith)
