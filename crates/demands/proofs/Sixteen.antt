-- The answer's counts are sixteen of each sort, each ask's at its place and 0 past the last; the lists stand end to end.
use Prim.Native.Nat.{ℕ, zero, suc, ◌+◌, ◌-◌, ◌≤◌}
use native.Mathlib.Omega.{arith}
use mathlib.Core.Path.{◌≡◌, refl, sym, ◌∙◌, ap, ap₂}
use mathlib.Core.List.{List, [], ◌∷◌, ◌++◌, map, map-append, append_assoc}
use lib.ListN.{length, get_or, take, drop, replicate, length-append, length-replicate}
use lib.Seq.{take_at, drop_at, get_or_at, get_or-append-add}
use Rattle.model.specs.Lists.{sum, collect}
use Rattle.model.specs.Reading.{Ask, State}
use Rattle.model.specs.Outcome.{Position, Outcome, refusal_at, lists, position, filtered, all_kept, padded, outcome, answer, result_after}
use Rattle.model.proofs.ListLaws.{collect_append}
use Rattle.demands.specs.LinesRead.{Pairwise, ends, pair}
use Rattle.demands.specs.Demand1.{Answers}
use Rattle.demands.specs.Sixteen.{Sixteen, AnswerSixteen, ToldAt, EachTold, AsksTold, PastLast}
use Rattle.demands.proofs.Moved.{map_length}
use Rattle.demands.proofs.Queries.{at_map}
use Rattle.demands.proofs.Demand1.{answers_filtered, list_given}
use Rattle.demands.proofs.Asks.{accepted_asks}

-- at most sixteen counts are padded to sixteen
pub padded_length : (counts : List ℕ) → length counts ≤ 16 → length (padded counts) ≡ 16
unfolding padded
padded_length counts h =
    length-append counts (replicate (16 - length counts) 0) ∙ ap (length counts +◌) (length-replicate {A = ℕ} (16 - length counts) 0) ∙ omega arith

-- as many positions as asks
pairs_length : {s : State} (asks : List Ask) {ps : List Position} → Pairwise (Answers s) asks ps → length ps ≡ length asks
pairs_length [] ends = refl
pairs_length (a ∷ asks) (pair r more) = ap suc (pairs_length asks more)

-- of refusals, and of at most sixteen positions
sixteen_of : (o : Outcome) → ((ps : List Position) → o ≡ lists ps → length ps ≤ 16) → Sixteen (answer o)
unfolding answer
sixteen_of (refusal_at r place) h = record { kept = padded_length [] (omega arith); visits = padded_length [] (omega arith); rounds = padded_length [] (omega arith) }
sixteen_of (lists ps) h =
    let few = h ps refl in
    record {
      kept = padded_length (map (λ (p : Position). length p.kept) ps) (rw (map_length (λ (p : Position). length p.kept) ps) few);
      visits = padded_length (map (λ (p : Position). p.visits) ps) (rw (map_length (λ (p : Position). p.visits) ps) few);
      rounds = padded_length (map (λ (p : Position). p.rounds) ps) (rw (map_length (λ (p : Position). p.rounds) ps) few);
    }

-- every call tells sixteen counts of each sort
pub answer_sixteen : AnswerSixteen
answer_sixteen file works room =
    sixteen_of (outcome file works room) (λ ps e.
    let (j, (s, accepted, pairs, h)) = (list_given file works room ps).0 e in
    omega (arith, pairs_length s.asks pairs, (accepted_asks file s accepted).few))

-- ---- the count at a place

-- counts of a list, padded, where an element stands
module _ {A : Type 0} (f : A → ℕ) (before : List A) (p : A) (after : List A) where
  padded_split : padded (map f (before ++ (p ∷ after))) ≡ map f before ++ (f p ∷ (map f after ++ replicate (16 - length (map f (before ++ (p ∷ after)))) 0))
  unfolding padded
  padded_split = ap (◌++ replicate (16 - length (map f (before ++ (p ∷ after)))) 0) (map-append f before (p ∷ after)) ∙ append_assoc (map f before) (f p ∷ map f after) _

  pub padded_at : get_or (padded (map f (before ++ (p ∷ after)))) (length before) 0 ≡ f p
  padded_at = ap (λ l. get_or l (length before) 0) padded_split ∙ get_or_at (map f before) (f p) _ 0 (length before) (map_length f before)

  -- those before it
  padded_before : take (length before) (padded (map f (before ++ (p ∷ after)))) ≡ map f before
  padded_before = ap (take (length before)) padded_split ∙ take_at (map f before) _ (length before) (map_length f before)

-- the lists of positions are as long as their counts sum to
kept_length : (ps : List Position) → length (all_kept ps) ≡ sum (map (λ (p : Position). length p.kept) ps)
unfolding all_kept collect sum
kept_length [] = refl
kept_length (p ∷ ps) = length-append p.kept (all_kept ps) ∙ ap (length p.kept +◌) (kept_length ps)

-- a list among others, with more behind
lists_split : (before : List Position) (p : Position) (after : List Position) (out : List ℕ)
    → all_kept (before ++ (p ∷ after)) ++ out ≡ all_kept before ++ (p.kept ++ (all_kept after ++ out))
unfolding all_kept collect
lists_split before p after out =
    ap (◌++ out) (collect_append (λ (p : Position). p.kept) before (p ∷ after))
    ∙ append_assoc (all_kept before) (p.kept ++ all_kept after) out
    ∙ ap (all_kept before ++◌) (append_assoc p.kept (all_kept after) out)

-- every position is told at its place
told_split : (before : List Position) (p : Position) (after : List Position) (out : List ℕ)
    → ToldAt (answer (lists (before ++ (p ∷ after)))) (result_after (lists (before ++ (p ∷ after))) out) (length before) p
unfolding answer result_after
told_split before p after out =
    let kept_at = padded_at (λ (p : Position). length p.kept) before p after in
    let from : sum (take (length before) (padded (map (λ (p : Position). length p.kept) (before ++ (p ∷ after))))) ≡ length (all_kept before) =
    ap sum (padded_before (λ (p : Position). length p.kept) before p after) ∙ sym (kept_length before) in
    let rest = drop (length (all_kept (before ++ (p ∷ after)))) out in
    record {
      kept = kept_at;
      visits = padded_at (λ (p : Position). p.visits) before p after;
      rounds = padded_at (λ (p : Position). p.rounds) before p after;
      list = ap₂ (λ n m. take n (drop m (all_kept (before ++ (p ∷ after)) ++ rest))) kept_at from
          ∙ ap (λ l. take (length p.kept) (drop (length (all_kept before)) l)) (lists_split before p after rest)
          ∙ ap (take (length p.kept)) (drop_at (all_kept before) _ (length (all_kept before)) refl)
          ∙ take_at p.kept _ (length p.kept) refl;
    }

pub each_told : EachTold
each_told ps i p out h = rw (h.are, ← h.place) (told_split h.before p h.after out)

-- so are the asks of an accepted file
pub asks_told : AsksTold
unfolding filtered
asks_told file works room ps s e accepted i a out h =
    let (j, (t, reads, pairs, fits)) = (list_given file works room ps).0 e in
    let same : t ≡ s = cc in
    let are : ps ≡ map (position s.decls s.roots) s.asks = answers_filtered t pairs ∙ ap filtered same in
    each_told ps i (position s.decls s.roots a) out (rw are (at_map (position s.decls s.roots) h))

-- past the last there is 0
zeros_at : (n i : ℕ) → get_or {A = ℕ} (replicate n 0) i 0 ≡ 0
zeros_at zero i = refl
zeros_at (suc n) zero = refl
zeros_at (suc n) (suc i) = zeros_at n i

pub padded_past : (counts : List ℕ) (i : ℕ) → length counts ≤ i → get_or (padded counts) i 0 ≡ 0
unfolding padded
padded_past counts i h =
    let there : i ≡ length counts + (i - length counts) = omega arith in
    ap (λ n. get_or (padded counts) n 0) there ∙ get_or-append-add counts (replicate (16 - length counts) 0) (i - length counts) 0 ∙ zeros_at (16 - length counts) (i - length counts)

pub past_last : PastLast
unfolding answer
past_last ps i h =
    record {
      kept = padded_past (map (λ (p : Position). length p.kept) ps) i (rw (map_length (λ (p : Position). length p.kept) ps) h);
      visits = padded_past (map (λ (p : Position). p.visits) ps) i (rw (map_length (λ (p : Position). p.visits) ps) h);
      rounds = padded_past (map (λ (p : Position). p.rounds) ps) i (rw (map_length (λ (p : Position). p.rounds) ps) h);
    }
