-- The chains of the positions, and the queries of an ask.
use Prim.Native.Nat.{ℕ, zero, suc, ◌+◌, ◌-◌, ◌≤◌, ◌<◌}
use native.Mathlib.Numerals.{add-one}
use native.Mathlib.Omega.{arith}
use mathlib.Core.Path.{◌≡◌, refl, sym, ◌∙◌}
use mathlib.Core.Bool.{Bool, true, false, cond, false≢true, ◌||◌}
use mathlib.Core.Logic.{⊎_elim}
use Rattle.terms.proofs.Laws.{equal}
use mathlib.Core.List.{List, [], ◌∷◌}
use lib.Dec.{eqb}
use borrow.Author.Tests.{eq-eqb, ne_eqb, lt-ltb, le-ltb}
use Rattle.model.specs.Lists.{any}
use Rattle.model.specs.Reading.{with_query}
use Rattle.model.specs.Rounds.{asks_for}
use Rattle.model.specs.declared.Asked.{Asked}
use Rattle.options.specs.OptionsOf.{asks}
use Rattle.records.specs.Columns.{ask_query, ask_options, ask_groups, ask_kind, also_kind}
use Rattle.records.specs.States.{also_at, ask_at, queries_of, ask_of, first_at, asked_at}

-- ---- also lines

pub first_asks : (recs : List ℕ) (i : ℕ) → i ≡ 0 → false ≡ also_at recs i
unfolding also_at
first_asks recs i e = rw e

pub also_by : (recs : List ℕ) (i : ℕ) → (i ≡ 0 → ⊥) → eqb (ask_kind recs i) also_kind ≡ also_at recs i
unfolding also_at
also_by recs zero n = absurd (n refl)
also_by recs (suc i) n = refl

-- ---- the queries

-- none before the first
pub no_queries : (recs : List ℕ) (first n : ℕ) → n ≤ first → queries_of recs first n ≡ []
unfolding queries_of
no_queries recs first zero l = refl
no_queries recs first (suc n) l = rw (lt-ltb n first (omega arith))

-- so none of them is looked for
pub none_asked : (recs : List ℕ) (first n q : ℕ) → n ≤ first → any (eqb q) (queries_of recs first n) ≡ false
unfolding any
none_asked recs first n q l = rw (no_queries recs first n l)

-- one more behind them
pub one_query : (recs : List ℕ) (first n : ℕ) → first ≤ n → queries_of recs first (suc n) ≡ ask_query recs n ∷ queries_of recs first n
unfolding queries_of
one_query recs first n l = rw (le-ltb n first l)

-- the query of a place is the one looked for
pub query_is : (recs : List ℕ) (first n i q x : ℕ) → first ≤ i → i < n → x ≡ ask_query recs i → x ≡ q → any (eqb q) (queries_of recs first n) ≡ true
unfolding any
query_is recs first zero i q x l m e h = absurd (omega arith)
query_is recs first (suc n) i q x l m e h = ⊎_elim
    (λ z. rw (one_query recs first n (omega arith), eq-eqb q (ask_query recs n) (sym h ∙ (rw z at e))))
    (λ d. rw (one_query recs first n (omega arith), query_is recs first n i q x l (omega (arith, d)) e h) (or_true (eqb q (ask_query recs n))))
    (equal i n)
  where
    or_true : (b : Bool) → (b || true) ≡ true
    or_true true = refl
    or_true false = refl

-- it is another
pub query_other : (recs : List ℕ) (first n q x : ℕ) → first < n → x ≡ ask_query recs (n - 1) → (x ≡ q → ⊥)
    → any (eqb q) (queries_of recs first n) ≡ any (eqb q) (queries_of recs first (n - 1))
unfolding any
query_other recs first zero q x l e h = absurd (omega arith)
query_other recs first (suc n) q x l e h =
    let one : suc n - 1 ≡ n = omega arith in
    rw (one, one_query recs first n (omega arith), ne_eqb q (ask_query recs n) (λ z. h ((rw one at e) ∙ sym z)))

-- whether a query is an ask's, by its queries
pub asked_for : (recs : List ℕ) (a : Asked) (q : ℕ) → asks_for (ask_of recs a) q ≡ any (eqb q) (queries_of recs a.first a.end)
unfolding asks_for
asked_for recs a q = refl

-- ---- what is asked at a position: the queries from the start of its chain on

-- a chain starts no later
pub first_le : (recs : List ℕ) (n : ℕ) → first_at recs n ≤ n
unfolding first_at
first_le recs zero = omega arith
first_le recs (suc n) = go (also_at recs (suc n)) (first_le recs n)
  where
    go : (b : Bool) → first_at recs n ≤ n → cond b (first_at recs n) (suc n) ≤ suc n
    go true l = omega arith
    go false l = omega arith

-- at a position that is no also line's
pub first_here : (recs : List ℕ) (n : ℕ) → also_at recs n ≡ false → first_at recs n ≡ n
unfolding first_at
first_here recs zero e = refl
first_here recs (suc n) e = rw e

-- at an also line's it is that of the position before
pub first_before : (recs : List ℕ) (n : ℕ) → also_at recs (suc n) ≡ true → first_at recs (suc n) ≡ first_at recs n
unfolding first_at
first_before recs n e = rw e

chain_asks : (recs : List ℕ) (n : ℕ) → ask_at recs n ≡ asks (queries_of recs (first_at recs n) (suc n)) (ask_options recs (first_at recs n)) (ask_groups recs (first_at recs n))
unfolding ask_at first_at with_query queries_of
chain_asks recs zero = refl
chain_asks recs (suc n) = go (also_at recs (suc n)) (chain_asks recs n)
  where
    go : (b : Bool) → ask_at recs n ≡ asks (queries_of recs (first_at recs n) (suc n)) (ask_options recs (first_at recs n)) (ask_groups recs (first_at recs n))
        → cond b (with_query (ask_query recs (suc n)) (ask_at recs n)) (asks (ask_query recs (suc n) ∷ []) (ask_options recs (suc n)) (ask_groups recs (suc n)))
        ≡ asks (queries_of recs (cond b (first_at recs n) (suc n)) (suc (suc n))) (ask_options recs (cond b (first_at recs n) (suc n)))
        (ask_groups recs (cond b (first_at recs n) (suc n)))
    go true e = rw (one_query recs (first_at recs n) (suc n) (let l = first_le recs n in omega arith), e)
    go false e = rw (one_query recs (suc n) (suc n) (omega arith), no_queries recs (suc n) (suc n) (omega arith))

-- what a run is asked at a position is what the position asks
pub asked_is : (recs : List ℕ) (n : ℕ) → ask_of recs (asked_at recs n) ≡ ask_at recs n
asked_is recs n = rw (add-one n) (sym (chain_asks recs n))

-- a position behind the start of its chain is in that of the position before
pub chain_before : (recs : List ℕ) (n : ℕ) → first_at recs (suc n) < suc n → first_at recs (suc n) ≡ first_at recs n
unfolding first_at
chain_before recs n = go (also_at recs (suc n))
  where
    go : (b : Bool) → cond b (first_at recs n) (suc n) < suc n → cond b (first_at recs n) (suc n) ≡ first_at recs n
    go true l = refl
    go false l = absurd (omega arith)

-- ---- the walk to the start of a chain

-- a position that is no also line's is where the walk ends
pub walk_ends : (recs : List ℕ) (i first o gs : ℕ) {b : Bool} → first_at recs i ≡ first_at recs first → b ≡ also_at recs first → b ≡ false
    → o ≡ ask_options recs first → gs ≡ ask_groups recs first
    → record { first = first; end = i + 1; options = o; groups = gs } ≡ asked_at recs i
walk_ends recs i first o gs e f g h j = rw (h, j, e ∙ first_here recs first (sym f ∙ g))

-- an also line's has one before it, in the same chain
pub walk_on : (recs : List ℕ) (i first : ℕ) {b : Bool} → first_at recs i ≡ first_at recs first → b ≡ also_at recs first → b ≡ true
    → (0 < first) × (first_at recs i ≡ first_at recs (first - 1))
unfolding also_at
walk_on recs i zero e f g = absurd (false≢true (sym f ∙ g))
walk_on recs i (suc n) e f g =
    let one : suc n - 1 ≡ n = omega arith in
    (omega arith, rw one (e ∙ first_before recs n (sym f ∙ g)))
