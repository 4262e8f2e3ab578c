-- The printed lists: how many lines there are, and each by its place.
use Prim.Native.Nat.{ℕ, zero, suc, ◌+◌, ◌<◌}
use native.Mathlib.Omega.{arith}
use mathlib.Core.Path.{◌≡◌, refl, sym, ap, ◌∙◌}
use mathlib.Core.List.{List, [], ◌∷◌, ◌++◌, map, append_assoc}
use lib.ListN.{length, take, get_or, length-append, length-map, get_or-append}
use lib.Seq.{get_or-append-add, get_or_at}
use Rattle.model.specs.Lists.{sum, collect}
use Rattle.model.specs.Outcome.{Position, all_kept}
use Rattle.model.specs.Text.{kept_line, sum_line, printed_list}

-- how many lines each list keeps, and the visits and rounds of each
abbrev pub counts : List Position → List ℕ
counts ps = map (λ (p : Position). length p.kept) ps

abbrev pub all_visits : List Position → List ℕ
all_visits ps = map (λ (p : Position). p.visits) ps

abbrev pub all_rounds : List Position → List ℕ
all_rounds ps = map (λ (p : Position). p.rounds) ps

-- the counts sum to the length of all lists
pub counts_sum : (ps : List Position) → sum (counts ps) ≡ length (all_kept ps)
unfolding sum all_kept collect
counts_sum [] = refl
counts_sum (p ∷ ps) = omega (arith, length-append p.kept (all_kept ps), counts_sum ps)

-- how many lines a list is printed in
list_length : (file : List ℕ) (p : Position) → length (printed_list file p) ≡ length p.kept + 1
unfolding printed_list
list_length file p =
    let last = sum_line (length p.kept) p.visits p.rounds in
    let two = length-append (map (kept_line file) p.kept) (last ∷ []) in
    omega (arith, length-map p.kept (kept_line file))

-- how many lines all lists are printed in
pub lists_length : (file : List ℕ) (ps : List Position) → length (collect (printed_list file) ps) ≡ sum (counts ps) + length ps
unfolding collect sum
lists_length file [] = refl
lists_length file (p ∷ ps) =
    let two = length-append (printed_list file p) (collect (printed_list file) ps) in
    omega (arith, list_length file p, lists_length file ps)

-- a line of those before the last
line_before : (f : ℕ → List ℕ) (ls : List ℕ) (end : List ℕ) (i : ℕ) → i < length ls
    → get_or (map f ls ++ (end ∷ [])) i [] ≡ f (get_or ls i 0)
line_before f [] end i h = absurd (omega arith)
line_before f (l ∷ ls) end zero h = refl
line_before f (l ∷ ls) end (suc i) h = line_before f ls end i (omega arith)

-- the line of a kept record of a list
list_before : (file : List ℕ) (p : Position) (i : ℕ) → i < length p.kept
    → get_or (printed_list file p) i [] ≡ kept_line file (get_or p.kept i 0)
unfolding printed_list
list_before file p i h = line_before (kept_line file) p.kept (sum_line (length p.kept) p.visits p.rounds) i h

-- the line of a kept record: line `k` of the list at position `i`, word `at` of all lists
pub kept_at : (file : List ℕ) (ps : List Position) (i k j at : ℕ) → k < get_or (counts ps) i 0
    → j ≡ sum (take i (counts ps)) + i + k → at ≡ sum (take i (counts ps)) + k
    → get_or (collect (printed_list file) ps) j [] ≡ kept_line file (get_or (all_kept ps) at 0)
unfolding collect sum all_kept
kept_at file [] i k j at h e w = absurd (omega arith)
kept_at file (p ∷ ps) zero k j at h e w =
    let same : j ≡ at = omega arith in
    let short : at < length p.kept = omega arith in
    get_or-append (printed_list file p) (collect (printed_list file) ps) [] j (omega (arith, list_length file p))
    ∙ ap (λ n. get_or (printed_list file p) n []) same
    ∙ list_before file p at short
    ∙ ap (kept_line file) (sym (get_or-append p.kept (all_kept ps) 0 at short))
kept_at file (p ∷ ps) (suc i) k j at h e w =
    let j' = sum (take i (counts ps)) + i + k in
    let at' = sum (take i (counts ps)) + k in
    let on : j ≡ length (printed_list file p) + j' = omega (arith, list_length file p) in
    let word : at ≡ length p.kept + at' = omega arith in
    ap (λ n. get_or (printed_list file p ++ collect (printed_list file) ps) n []) on
    ∙ get_or-append-add (printed_list file p) (collect (printed_list file) ps) j' []
    ∙ kept_at file ps i k j' at' h refl refl
    ∙ ap (kept_line file)
    (sym (ap (λ n. get_or (p.kept ++ all_kept ps) n 0) word ∙ get_or-append-add p.kept (all_kept ps) at' 0))

-- the line after the list at position `i`
pub sum_at : (file : List ℕ) (ps : List Position) (i j : ℕ) → i < length ps
    → j ≡ sum (take i (counts ps)) + i + get_or (counts ps) i 0
    → get_or (collect (printed_list file) ps) j []
    ≡ sum_line (get_or (counts ps) i 0) (get_or (all_visits ps) i 0) (get_or (all_rounds ps) i 0)
unfolding collect sum printed_list
sum_at file [] i j h e = absurd (omega arith)
sum_at file (p ∷ ps) zero j h e =
    let last = sum_line (length p.kept) p.visits p.rounds in
    let here : length (map (kept_line file) p.kept) ≡ j = omega (arith, length-map p.kept (kept_line file)) in
    let rest = collect (printed_list file) ps in
    ap (λ (l : List (List ℕ)). get_or l j []) (append_assoc (map (kept_line file) p.kept) (last ∷ []) rest)
    ∙ get_or_at (map (kept_line file) p.kept) last rest [] j here
sum_at file (p ∷ ps) (suc i) j h e =
    let j' = sum (take i (counts ps)) + i + get_or (counts ps) i 0 in
    let on : j ≡ length (printed_list file p) + j' = omega (arith, list_length file p) in
    ap (λ n. get_or (printed_list file p ++ collect (printed_list file) ps) n []) on
    ∙ get_or-append-add (printed_list file p) (collect (printed_list file) ps) j' []
    ∙ sum_at file ps i j' (omega arith) refl
