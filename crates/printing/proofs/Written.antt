-- Laws of what a writer holds when lines are written one after the other.
use Prim.Native.Nat.{ℕ, zero, suc, ◌+◌, ◌≤◌, ◌<◌}
use native.Mathlib.Numerals.{add-one}
use mathlib.Core.Path.{◌≡◌, refl, sym, ◌∙◌, subst}
use mathlib.Core.List.{List, [], ◌∷◌, ◌++◌, append-nil, map}
use lib.ListN.{length, take, get_or, length-map}
use native.Mathlib.Omega.{arith}
use lib.Seq.{take-suc, take_all}
use Rattle.std.specs.declared.option.Option.{Option}
use Rattle.std.specs.Io.KnownBytes.{Appends}
use Rattle.std.specs.List.{concat}
use Rattle.std.proofs.KnownBytes.{Appends-nil, Appends-trans}
use Rattle.std.proofs.lemmas.List.Folds.{concat-append}

-- no line is written
pub written_start : (a : Option (List ℕ)) (ls : List (List ℕ)) → Appends a a (concat (take 0 ls))
written_start a ls = Appends-nil a

-- one line more
pub written_next : (a b c : Option (List ℕ)) (ls : List (List ℕ)) (i : ℕ) (line : List ℕ) → Appends a b (concat (take i ls)) → Appends b c line
    → line ≡ get_or ls i [] → i < length ls → Appends a c (concat (take (i + 1) ls))
written_next a b c ls i line p q e h =
    let more : concat (take (i + 1) ls) ≡ concat (take i ls) ++ line =
    rw (add-one i, take-suc ls i [] h, concat-append, append-nil, e) in
    subst (Appends a c) (sym more) (Appends-trans a b c _ _ p q)

-- all lines are written
pub written_end : (a b : Option (List ℕ)) (ls : List (List ℕ)) (i : ℕ) → Appends a b (concat (take i ls)) → length ls ≤ i → Appends a b (concat ls)
written_end a b ls i p h = subst (λ l. Appends a b (concat l)) (take_all i ls h) p

-- what stands at a place of a list of lines, one for each number
line_of : (f : ℕ → List ℕ) (l : List ℕ) (i : ℕ) → i < length l → get_or (map f l) i [] ≡ f (get_or l i 0)
line_of f [] i h = absurd (omega arith)
line_of f (x ∷ xs) zero h = refl
line_of f (x ∷ xs) (suc i) h = line_of f xs i (omega arith)

-- one line more, of lines for each number
pub written_mapped : (a b c : Option (List ℕ)) (f : ℕ → List ℕ) (l : List ℕ) (i : ℕ) (line : List ℕ) → Appends a b (concat (take i (map f l)))
    → Appends b c line → line ≡ f (get_or l i 0) → i < length l → Appends a c (concat (take (i + 1) (map f l)))
written_mapped a b c f l i line p q e h =
    written_next a b c (map f l) i line p q (e ∙ sym (line_of f l i h)) (omega (arith, length-map l f))

-- all lines for each number
pub written_all : (a b : Option (List ℕ)) (f : ℕ → List ℕ) (l : List ℕ) (i : ℕ) → Appends a b (concat (take i (map f l))) → length l ≤ i
    → Appends a b (concat (map f l))
written_all a b f l i p h = written_end a b (map f l) i p (omega (arith, length-map l f))
