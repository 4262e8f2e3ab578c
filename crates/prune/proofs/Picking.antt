-- What is picked: the tests of one rank or record, and the ranks and records in order.
use Prim.Native.Nat.{ℕ, zero, suc, ◌+◌, ◌-◌, ◌≤◌, ◌<◌}
use native.Mathlib.Omega.{arith}
use mathlib.Core.Path.{◌≡◌, refl, sym, ◌∙◌, ap}
use mathlib.Core.Bool.{Bool, true, false, cond}
use mathlib.Core.List.{List, [], ◌∷◌, ◌++◌}
use lib.Dec.{eqb}
use lib.ListN.{get_or}
use borrow.Author.Tests.{eq-eqb, ne_eqb, lt-ltb, le-ltb}
use Rattle.model.specs.Lists.{keep, collect}
use Rattle.model.specs.Reading.{most_records}
use Rattle.model.specs.Rounds.{is_ambient, asks_for}
use Rattle.model.specs.declared.Asked.{Asked}
use Rattle.model.proofs.ListLaws.{cond_case}
use Rattle.names.specs.Table.{ranked}
use Rattle.records.specs.Columns.{record_kind, record_flag, summary_code, kind_of_code, root_kind, taken_at}
use Rattle.records.specs.States.{takes_part, ask_of}
use Rattle.firing.specs.Held.{upto}
use Rattle.firing.specs.Met.{is_reached, reached_column}
use Rattle.prune.specs.Listing.{from, record_behind, picked, taker, reached_at, kind_at, ambient_at, is_goal}
use Rattle.prune.specs.Loops.{kept_column, Index}
use Rattle.prune.proofs.Ranges.{collect_from, collect_past}

-- ---- the name of a rank and who took it

-- the number at a rank is that of a name
pub number_in : {names : List ℕ} {named r n : ℕ} → Index names named → r < named → n ≡ ranked names r → n < named
number_in {names} {named} {r} {n} i h e = let k = i.numbers r h in omega arith

pub taker_is : (names : List ℕ) (r : ℕ) {n t : ℕ} → n ≡ ranked names r → t ≡ taken_at names n → t ≡ taker names r
taker_is names r p q = q ∙ ap (taken_at names) p

-- ---- a reached record

module _ (names run : List ℕ) (r t : ℕ) (e : t ≡ taker names r) where
  pub reached_none : t ≡ 0 → 0 ≡ reached_at names run r
  unfolding reached_at
  reached_none z = rw (eq-eqb (taker names r) 0 (sym e ∙ z))

  module _ (d : t ≡ 0 → ⊥) (x : ℕ) (q : x ≡ get_or run (reached_column + (t - 1)) 0) where
    pub reached_not : x ≡ 0 → 0 ≡ reached_at names run r
    unfolding reached_at is_reached
    reached_not z = rw (← e, ne_eqb t 0 d, le-ltb 0 (get_or run (reached_column + (t - 1)) 0) (omega arith))

    pub reached_is : (x ≡ 0 → ⊥) → t ≡ reached_at names run r
    unfolding reached_at is_reached
    reached_is z = rw (← e, ne_eqb t 0 d, lt-ltb 0 (get_or run (reached_column + (t - 1)) 0) (omega (arith, z)))

-- ---- a record of a kind

module _ (names recs : List ℕ) (kind r t : ℕ) (e : t ≡ taker names r) where
  pub kind_none : t ≡ 0 → 0 ≡ kind_at names recs kind r
  unfolding kind_at
  kind_none z = rw (eq-eqb (taker names r) 0 (sym e ∙ z))

  module _ (d : t ≡ 0 → ⊥) (x : ℕ) (q : x ≡ record_kind recs (t - 1)) where
    pub kind_not : (x ≡ kind → ⊥) → 0 ≡ kind_at names recs kind r
    unfolding kind_at
    kind_not z = rw (← e, ne_eqb t 0 d, ← q, ne_eqb x kind z)

    pub kind_is : x ≡ kind → t ≡ kind_at names recs kind r
    unfolding kind_at
    kind_is z = rw (← e, ne_eqb t 0 d, ← q, eq-eqb x kind z)

-- ---- an ambient

-- a code below those of ambients
code_low : (y : ℕ) → y < 1 → is_ambient (kind_of_code y) ≡ false
unfolding is_ambient kind_of_code
code_low zero h = refl
code_low (suc y) h = absurd (omega arith)

-- a code above them
code_high : (y : ℕ) → 3 ≤ y → is_ambient (kind_of_code y) ≡ false
unfolding is_ambient kind_of_code
code_high zero h = absurd (omega arith)
code_high (suc zero) h = absurd (omega arith)
code_high (suc (suc zero)) h = absurd (omega arith)
code_high (suc (suc (suc y))) h = refl

-- one of theirs
code_in : (y : ℕ) → 1 ≤ y → y < 3 → is_ambient (kind_of_code y) ≡ true
unfolding is_ambient kind_of_code
code_in zero g h = absurd (omega arith)
code_in (suc zero) g h = refl
code_in (suc (suc zero)) g h = refl
code_in (suc (suc (suc y))) g h = absurd (omega arith)

module _ (recs : List ℕ) (a : Asked) (i y : ℕ) (q : y ≡ summary_code recs i) where
  pub ambient_low : y < 1 → 0 ≡ ambient_at recs a i
  unfolding ambient_at
  ambient_low h = rw (← q, code_low y h)

  pub ambient_high : 3 ≤ y → 0 ≡ ambient_at recs a i
  unfolding ambient_at
  ambient_high h = rw (← q, code_high y h)

  -- by whether it takes part
  ambient_by : 1 ≤ y → y < 3 → {b : Bool} → b ≡ takes_part recs (ask_of recs a) i → cond b (i + 1) 0 ≡ ambient_at recs a i
  unfolding ambient_at
  ambient_by g h p = rw (← q, code_in y g h, ← p)

  pub ambient_apart : 1 ≤ y → y < 3 → {b : Bool} → b ≡ takes_part recs (ask_of recs a) i → b ≡ false → 0 ≡ ambient_at recs a i
  ambient_apart g h p d = ambient_by g h (sym d ∙ p)

  pub ambient_is : 1 ≤ y → y < 3 → {b : Bool} → b ≡ takes_part recs (ask_of recs a) i → b ≡ true → i + 1 ≡ ambient_at recs a i
  ambient_is g h p d = ambient_by g h (sym d ∙ p)

-- ---- a root of one of the queries

module _ (recs : List ℕ) (a : Asked) (i x : ℕ) (e : x ≡ record_kind recs i) where
  pub goal_other : (x ≡ root_kind → ⊥) → false ≡ is_goal recs a i
  unfolding is_goal
  goal_other d = rw (← e, ne_eqb x root_kind d)

  pub goal_root : x ≡ root_kind → (y : ℕ) (b : Bool) → y ≡ record_flag recs i → b ≡ asks_for (ask_of recs a) y → b ≡ is_goal recs a i
  unfolding is_goal
  goal_root p y b q r = rw (← e, eq-eqb x root_kind p, ← q) r

-- ---- ranks upward

-- the first of the numbers left
pub from_next : (pick : ℕ → ℕ) (r n : ℕ) → r < n → picked pick (from r (n - r)) ≡ record_behind (pick r) ++ picked pick (from (r + 1) (n - (r + 1)))
unfolding picked
from_next pick r n h = collect_from (λ r. record_behind (pick r)) r n h

pub from_end : (pick : ℕ → ℕ) (r n : ℕ) → n ≤ r → picked pick (from r (n - r)) ≡ []
unfolding picked
from_end pick r n h = collect_past (λ r. record_behind (pick r)) r n h

-- the first of the numbers left, kept or not
kept_next : (test : ℕ → Bool) (i n : ℕ) → i < n
    → keep test (from i (n - i)) ≡ cond (test i) (i ∷ keep test (from (i + 1) (n - (i + 1)))) (keep test (from (i + 1) (n - (i + 1))))
unfolding from keep
kept_next test i n h = ap (λ (k : ℕ). keep test (from i k)) (let e : n - i ≡ suc (n - (i + 1)) = omega arith in e)

pub kept_skip : (test : ℕ → Bool) (i n : ℕ) → i < n → test i ≡ false → keep test (from i (n - i)) ≡ keep test (from (i + 1) (n - (i + 1)))
kept_skip test i n h e =
    kept_next test i n h
    ∙ ap (λ (b : Bool). cond b (i ∷ keep test (from (i + 1) (n - (i + 1)))) (keep test (from (i + 1) (n - (i + 1))))) e

pub kept_take : (test : ℕ → Bool) (i n : ℕ) → i < n → test i ≡ true → keep test (from i (n - i)) ≡ i ∷ keep test (from (i + 1) (n - (i + 1)))
kept_take test i n h e =
    kept_next test i n h
    ∙ ap (λ (b : Bool). cond b (i ∷ keep test (from (i + 1) (n - (i + 1)))) (keep test (from (i + 1) (n - (i + 1))))) e

pub kept_end : (test : ℕ → Bool) (i n : ℕ) → n ≤ i → keep test (from i (n - i)) ≡ []
unfolding from keep
kept_end test i n h = ap (λ (k : ℕ). keep test (from i k)) (let e : n - i ≡ 0 = omega arith in e)

-- ---- records downward

-- the last of the numbers left
pub collect_next : (f : ℕ → List ℕ) (r : ℕ) → 0 < r → collect f (upto r) ≡ f (r - 1) ++ collect f (upto (r - 1))
unfolding upto collect
collect_next f zero h = absurd (let z : ◌<◌ 0 0 = h in omega arith)
collect_next f (suc r) h = ap (λ (k : ℕ). f k ++ collect f (upto k)) (let e : r ≡ suc r - 1 = omega arith in e)

pub collect_end : (f : ℕ → List ℕ) (r : ℕ) → r ≤ 0 → collect f (upto r) ≡ []
unfolding upto collect
collect_end f zero h = refl
collect_end f (suc r) h = absurd (omega arith)

pub picked_next : (pick : ℕ → ℕ) (r : ℕ) → 0 < r → picked pick (upto r) ≡ record_behind (pick (r - 1)) ++ picked pick (upto (r - 1))
unfolding picked
picked_next pick r h = collect_next (λ r. record_behind (pick r)) r h

pub picked_end : (pick : ℕ → ℕ) (r : ℕ) → r ≤ 0 → picked pick (upto r) ≡ []
unfolding picked
picked_end pick r h = collect_end (λ r. record_behind (pick r)) r h

-- ---- what is picked depends on the columns before the kept list only

pub reached_same : (names v w : List ℕ) (r : ℕ) → taker names r ≤ most_records → ((j : ℕ) → j < kept_column → get_or v j 0 ≡ get_or w j 0)
    → reached_at names v r ≡ reached_at names w r
unfolding reached_at is_reached
reached_same names v w r h same =
    go (taker names r) h
  where
    go : (t : ℕ) → t ≤ most_records → cond (eqb t 0) 0 (cond (is_reached v (t - 1)) t 0) ≡ cond (eqb t 0) 0 (cond (is_reached w (t - 1)) t 0)
    go t h = rw (same (reached_column + (t - 1)) (omega arith))

-- an ambient is picked by its own number
pub ambient_small : (recs : List ℕ) (a : Asked) (i : ℕ) {t : ℕ} → t ≡ ambient_at recs a i → t ≤ i + 1
unfolding ambient_at
ambient_small recs a i {t} e =
    rw e (cond_case (λ x. x ≤ i + 1) (is_ambient (kind_of_code (summary_code recs i)))
    (cond_case (λ x. x ≤ i + 1) (takes_part recs (ask_of recs a) i) (omega arith) (omega arith)) (omega arith))
