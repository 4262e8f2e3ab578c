-- The entries of a fact, looked at one after the other, say whether one of its disjuncts is wholly met.
use Prim.Native.Nat.{ℕ, zero, suc, ◌+◌, ◌%◌, ◌≤◌, ◌<◌}
use native.Mathlib.Omega.{arith}
use native.Mathlib.Numerals.{add-one}
use mathlib.Core.Path.{◌≡◌, refl, ◌∙◌, ap}
use mathlib.Core.Bool.{Bool, true, false, cond, not, ◌&&◌, ◌||◌, and_assoc}
use mathlib.Core.List.{List, [], ◌∷◌}
use lib.Dec.{eqb, ltb}
use lib.ListN.{length, get_or}
use borrow.Author.Tests.{ne_eqb, lt-ltb, le-ltb, ltb-true, ltb-false}
use Rattle.model.specs.Lists.{any, all, part}
use Rattle.model.proofs.ListLaws.{all_append}
use Rattle.model.proofs.PartLaws.{part_cons, part_nil}
use Rattle.triggers.specs.Entries.{entry_number, before_first, disjuncts_of_words, last_flag, no_name}
use Rattle.firing.specs.Met.{is_met}
use Rattle.firing.specs.Firing.{entry_met, fires_in}

-- ---- the loops

pub entry_none : (w : List ℕ) (x : ℕ) → no_name ≤ x % last_flag → true ≡ entry_met w x
unfolding entry_met
entry_none w x l = rw (le-ltb (x % last_flag) no_name l)

pub entry_some : (w : List ℕ) (x y : ℕ) → x % last_flag < no_name → y ≡ get_or w (x % last_flag) 0 → not (eqb y 0) ≡ entry_met w x
unfolding entry_met
entry_some w x y l e = rw (lt-ltb (x % last_flag) no_name l, e)

pub fires_end : (w l : List ℕ) (good : Bool) (i e : ℕ) → e ≤ i → fires_in w good (part l i e) ≡ false
unfolding fires_in
fires_end w l good i e a = rw (part_nil l i e a)

module _ (w l : List ℕ) (i e x : ℕ) (a : i < e) (b : e ≤ length l) (c : x ≡ get_or l i 0) where
  -- an entry passed
  pub past_last : last_flag ≤ x → fires_in w false (part l i e) ≡ fires_in w true (part l (i + 1) e)
  unfolding fires_in
  past_last d = rw (part_cons l i e a b, ← c, le-ltb x last_flag d)

  pub past_next : x < last_flag → fires_in w false (part l i e) ≡ fires_in w false (part l (i + 1) e)
  unfolding fires_in
  past_next d = rw (part_cons l i e a b, ← c, lt-ltb x last_flag d)

  -- an entry looked at
  module _ (y : Bool) (p : y ≡ entry_met w x) where
    pub fires_unmet : y ≡ false → x < last_flag → fires_in w true (part l i e) ≡ fires_in w false (part l (i + 1) e)
    unfolding fires_in
    fires_unmet q s = rw (part_cons l i e a b, ← c, lt-ltb x last_flag s, ← p, q)

    pub fires_unmet_last : y ≡ false → last_flag ≤ x → fires_in w true (part l i e) ≡ fires_in w true (part l (i + 1) e)
    unfolding fires_in
    fires_unmet_last q s = rw (part_cons l i e a b, ← c, le-ltb x last_flag s, ← p, q)

    pub fires_met : y ≡ true → x < last_flag → fires_in w true (part l i e) ≡ fires_in w true (part l (i + 1) e)
    unfolding fires_in
    fires_met q s = rw (part_cons l i e a b, ← c, lt-ltb x last_flag s, ← p, q)

    pub fires_met_last : y ≡ true → last_flag ≤ x → fires_in w true (part l i e) ≡ true
    unfolding fires_in
    fires_met_last q s = rw (part_cons l i e a b, ← c, le-ltb x last_flag s, ← p, q)

-- ---- their answer

-- an entry's name is met where its number is
entry_at : (w : List ℕ) (x : ℕ) → all (is_met w) (entry_number x) ≡ entry_met w x
unfolding entry_number entry_met all is_met
entry_at w x = go (ltb (x % last_flag) no_name)
  where
    zero_test : (v : ℕ) → (ltb 0 v && true) ≡ not (eqb v 0)
    zero_test zero = refl
    zero_test (suc v) = rw (lt-ltb 0 (suc v) (omega arith), ne_eqb (suc v) 0 (λ e. omega (arith, e)))

    go : (b : Bool) → all (is_met w) (cond b (x % last_flag ∷ []) []) ≡ not (b && eqb (get_or w (x % last_flag) 0) 0)
    go true = zero_test (get_or w (x % last_flag) 0)
    go false = refl

-- whether a disjunct is met, where of the first some is passed
first_met : List ℕ → Bool → List (List ℕ) → Bool
first_met w good [] = false
first_met w good (d ∷ ds) = (good && all (is_met w) d) || any (all (is_met w)) ds

first_true : (w : List ℕ) (ds : List (List ℕ)) → first_met w true ds ≡ any (all (is_met w)) ds
unfolding first_met any
first_true w [] = refl
first_true w (d ∷ ds) = refl

first_more : (w : List ℕ) (good : Bool) (ns : List ℕ) (ds : List (List ℕ)) → (ds ≡ [] → ⊥)
    → first_met w good (before_first ns ds) ≡ first_met w (good && all (is_met w) ns) ds
unfolding first_met before_first
first_more w good ns [] d = absurd (d refl)
first_more w good ns (e ∷ ds) d = rw (all_append (is_met w) ns e, and_assoc good (all (is_met w) ns) (all (is_met w) e))

-- entries whose last ends its disjunct
data Ended : List ℕ → Type 0 where
  none : Ended []
  end : {x : ℕ} {xs : List ℕ} → last_flag ≤ x → Ended xs → Ended (x ∷ xs)
  more : {x y : ℕ} {xs : List ℕ} → x < last_flag → Ended (y ∷ xs) → Ended (x ∷ y ∷ xs)

ended : (ws : List ℕ) → ((i : ℕ) → i + 1 ≡ length ws → last_flag ≤ get_or ws i 0) → Ended ws
ended [] c = none
ended (x ∷ []) c = end (c 0 refl) none
ended (x ∷ y ∷ ws) c = go (ltb x last_flag) refl (ended (y ∷ ws) (λ i e. rw (add-one i) at (c (i + 1) (omega arith))))
  where
    go : (b : Bool) → ltb x last_flag ≡ b → Ended (y ∷ ws) → Ended (x ∷ y ∷ ws)
    go true e d = more (ltb-true x last_flag e) d
    go false e d = end (ltb-false x last_flag e) d

not_nil : {A : Type 0} (x : A) (l : List A) → x ∷ l ≡ [] → ⊥
not_nil x l e = let z : ◌≡◌ {A = ℕ} 0 1 = cc in omega arith

first_not_nil : (ns : List ℕ) (ds : List (List ℕ)) → before_first ns ds ≡ [] → ⊥
unfolding before_first
first_not_nil ns [] e = not_nil _ _ e
first_not_nil ns (d ∷ ds) e = not_nil _ _ e

some_disjunct : (x : ℕ) (xs : List ℕ) → disjuncts_of_words (x ∷ xs) ≡ [] → ⊥
unfolding disjuncts_of_words
some_disjunct x xs e = go (ltb x last_flag) e
  where
    go : (b : Bool) → cond b (before_first (entry_number x) (disjuncts_of_words xs)) (entry_number x ∷ disjuncts_of_words xs) ≡ [] → ⊥
    go true e = first_not_nil _ _ e
    go false e = not_nil _ _ e

fires_law : (w : List ℕ) (good : Bool) {ws : List ℕ} → Ended ws → fires_in w good ws ≡ first_met w good (disjuncts_of_words ws)
unfolding fires_in disjuncts_of_words first_met
fires_law w good none = refl
fires_law w good (end {x} {xs} l d) =
    rw (le-ltb x last_flag l, entry_at w x, fires_law w true d)
    (ap (λ b. (good && entry_met w x) || b) (first_true w (disjuncts_of_words xs)))
fires_law w good (more {x} {y} {xs} l d) =
    rw (lt-ltb x last_flag l, first_more w good (entry_number x) (disjuncts_of_words (y ∷ xs)) (some_disjunct y xs), entry_at w x)
    (fires_law w (good && entry_met w x) d)

-- of entries whose last ends its disjunct the loops' answer is the definition's
pub fires_exact : (w ws : List ℕ) → ((i : ℕ) → i + 1 ≡ length ws → last_flag ≤ get_or ws i 0)
    → fires_in w true ws ≡ any (all (is_met w)) (disjuncts_of_words ws)
fires_exact w ws c = fires_law w true (ended ws c) ∙ first_true w (disjuncts_of_words ws)
