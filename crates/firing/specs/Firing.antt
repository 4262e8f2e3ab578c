-- What an item meets, and whether a fact fires on the names met.
use Rattle.std.specs.Prelude.{ℕ, ◌%◌, Bool, true, false, cond, not, ◌&&◌, ◌||◌, List, [], ◌∷◌, ltb, eqb, get_or}
use Rattle.model.specs.Lists.{any, all, collect}
use Rattle.triggers.specs.Entries.{last_flag, no_name}
use Rattle.firing.specs.Held.{Held}

-- whether the name of an entry is met, or it has none
unfoldable pub entry_met : List ℕ → ℕ → Bool
entry_met w x = not (ltb (x % last_flag) no_name && eqb (get_or w (x % last_flag) 0) 0)

-- whether a disjunct of entries is wholly met, where of the first some are passed, all of them met or not
unfoldable pub fires_in : List ℕ → Bool → List ℕ → Bool
fires_in w good [] = false
fires_in w good (x ∷ xs) =
    let rest = fires_in w (good && entry_met w x) xs in
    let next = fires_in w true xs in
    cond (ltb x last_flag) rest ((good && entry_met w x) || next)

-- what an item with these free names meets: each of them, and what it opens to
unfoldable pub opened_all : (ℕ → List ℕ) → List ℕ → List ℕ
opened_all opens ns = collect (λ n. n ∷ opens n) ns

module _ (h : Held) where
  -- what items meet
  unfoldable pub scanned_by : List ℕ → List ℕ
  scanned_by is = collect (λ i. opened_all h.opens (h.frees i)) is

  -- whether a disjunct of the record lies wholly within the met names
  unfoldable pub fires_on : (ℕ → Bool) → ℕ → Bool
  fires_on met i = any (all met) (h.disjuncts i)
