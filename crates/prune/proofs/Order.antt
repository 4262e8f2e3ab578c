-- The names in the order in which they are first met: by the stamp of the set that first has them, then by rank.
use Prim.Native.Nat.{ℕ, ◌+◌, ◌≤◌, ◌<◌}
use native.Mathlib.Omega.{arith}
use mathlib.Core.Path.{◌≡◌, refl, sym, ◌∙◌, ap, ap₂}
use mathlib.Core.Logic.{◌⊎◌, inl, inr, ⊎_elim}
use mathlib.Core.Bool.{Bool, true, false, cond, not, ◌&&◌, ◌||◌}
use mathlib.Core.List.Memᴰ
use mathlib.Core.List.{List, [], ◌∷◌, ◌++◌, Memᴰ}
use lib.Dec.{T, eqb, not_T}
use lib.ListN.{length}
use borrow.Author.Tests.{eq-eqb, ne_eqb}
use Rattle.model.specs.Lists.{any, keep, concat, collect}
use Rattle.model.specs.Names.{Name, same, mem, remove}
use Rattle.model.specs.Kept.{first_met}
use Rattle.model.proofs.ListLaws.{T_and, true_T, keep_not, keep_all, keep_cong, keep_append, collect_cong}
use Rattle.model.proofs.SetLaws.{same_sym, same_eq, mem_intro, mem_keep, Ascending, ascending_tail, ascending_keep, ascending_ext, distinct}
use Rattle.prune.specs.Listing.{from}
use Rattle.prune.proofs.Ranges.{from_elim}

-- names first met in two lists
pub first_met_append : (l m : List Name) → first_met (l ++ m) ≡ first_met l ++ keep (λ n. not (mem n l)) (first_met m)
unfolding first_met remove mem any
first_met_append [] m = sym (keep_all (λ n. true) (first_met m) (λ n i. tt))
first_met_append (x ∷ l) m =
    rw (
      first_met_append l m,
      keep_append (λ n. not (same x n)) (first_met l) (keep (λ n. not (mem n l)) (first_met m)),
      keep_not (same x) (λ n. mem n l) (first_met m),
    )
    (ap (λ (t : List Name). x ∷ (keep (λ n. not (same x n)) (first_met l) ++ t))
    (keep_cong (λ n. not (same x n || mem n l)) (λ n. not (same n x || mem n l)) (first_met m)
    (λ n i. ap (λ (b : Bool). not (b || mem n l)) (same_sym x n))))

-- all names of a set are met first there
pub first_met_set : {l : List Name} → Ascending l → first_met l ≡ l
unfolding first_met remove
first_met_set {l = []} a = refl
first_met_set {l = n ∷ l} a =
    rw (first_met_set (ascending_tail a))
    (ap (n ∷◌) (keep_all (λ m. not (same n m)) l (λ m i. not_T (same n m) (λ t. distinct a (rw (same_eq t) (mem_intro i))))))

-- the place, counted from s, of the first set that has the name; 0 where none has
unfoldable pub name_stamp : ℕ → List (List Name) → Name → ℕ
name_stamp s [] n = 0
name_stamp s (l ∷ ls) n = let later = name_stamp (s + 1) ls n in cond (mem n l) s later

-- a place from s on, or none
stamp_at : (s : ℕ) (ls : List (List Name)) (n : Name) → (name_stamp s ls n ≡ 0) ⊎ (s ≤ name_stamp s ls n)
unfolding name_stamp
stamp_at s [] n = inl refl
stamp_at s (l ∷ ls) n = go (mem n l) (stamp_at (s + 1) ls n)
  where
    go : (b : Bool) → (name_stamp (s + 1) ls n ≡ 0) ⊎ (s + 1 ≤ name_stamp (s + 1) ls n)
        → (cond b s (name_stamp (s + 1) ls n) ≡ 0) ⊎ (s ≤ cond b s (name_stamp (s + 1) ls n))
    go true h = inr (omega arith)
    go false h = ⊎_elim inl (λ k. inr (omega arith)) h

-- what is asked of the sets: each is one, of names of a list
abbrev pub SetsIn : List Name → List (List Name) → Type 0
SetsIn all ls = (l : List Name) → Memᴰ l ls → Ascending l × ((n : Name) → T (mem n l) → T (mem n all))

-- names of sets within `all`, first met: by stamp, then by rank; the names seen before left out
by_stamp : (all : List Name) → Ascending all → (s : ℕ) → 0 < s → (ls : List (List Name)) → SetsIn all ls → (seen : Name → Bool)
    → keep (λ n. not (seen n)) (first_met (concat ls))
    ≡ collect (λ k. keep (λ n. not (seen n) && eqb (name_stamp s ls n) k) all) (from s (length ls))
unfolding concat collect from name_stamp first_met
by_stamp all up s pos [] h seen = keep_all (λ n. not (seen n)) [] (λ n m. absurd (Memᴰ.not-nil m))
by_stamp all up s pos (l ∷ ls) h seen =
    rw (
      first_met_append l (concat ls),
      first_met_set (h l (head_mem l ls)).0,
      keep_append (λ n. not (seen n)) l (keep (λ n. not (mem n l)) (first_met (concat ls))),
      keep_not seen (λ n. mem n l) (first_met (concat ls)),
    )
    (ap₂ ◌++◌
    (ascending_ext (ascending_keep (λ n. not (seen n)) (h l (head_mem l ls)).0) (ascending_keep now up) into back)
    (by_stamp all up (s + 1) (omega arith) ls (λ m i. h m (tail_mem l m ls i)) (λ n. seen n || mem n l)
    ∙ collect_cong
    (λ k. keep (λ n. not (seen n || mem n l) && eqb (name_stamp (s + 1) ls n) k) all)
    (λ k. keep (λ n. not (seen n) && eqb (cond (mem n l) s (name_stamp (s + 1) ls n)) k) all)
    (from (s + 1) (length ls))
    (λ k m. keep_cong
    (λ n. not (seen n || mem n l) && eqb (name_stamp (s + 1) ls n) k)
    (λ n. not (seen n) && eqb (cond (mem n l) s (name_stamp (s + 1) ls n)) k) all
    (λ n i. later k n (from_elim (s + 1) (length ls) m).0 (seen n) (mem n l)))))
  where
    now : Name → Bool
    now n = not (seen n) && eqb (cond (mem n l) s (name_stamp (s + 1) ls n)) s

    head_mem : (l : List Name) (ls : List (List Name)) → Memᴰ l (l ∷ ls)
    head_mem l ls = Memᴰ.head refl

    tail_mem : (l m : List Name) (ls : List (List Name)) → Memᴰ m ls → Memᴰ m (l ∷ ls)
    tail_mem l m ls i = Memᴰ.tail i

    at_s : (n : Name) → T (mem n l) → T (eqb (cond (mem n l) s (name_stamp (s + 1) ls n)) s)
    at_s n t = go (mem n l) t
      where
        go : (b : Bool) → T b → T (eqb (cond b s (name_stamp (s + 1) ls n)) s)
        go true t = true_T (eq-eqb s s refl)
        go false t = absurd t

    of_s : (n : Name) → T (eqb (cond (mem n l) s (name_stamp (s + 1) ls n)) s) → T (mem n l)
    of_s n t = go (mem n l) (stamp_at (s + 1) ls n) t
      where
        go : (b : Bool) → (name_stamp (s + 1) ls n ≡ 0) ⊎ (s + 1 ≤ name_stamp (s + 1) ls n)
            → T (eqb (cond b s (name_stamp (s + 1) ls n)) s) → T b
        go true o t = tt
        go false o t =
            absurd (rw (ne_eqb (name_stamp (s + 1) ls n) s (λ e. ⊎_elim (λ z. omega arith) (λ z. omega arith) o)) at t)

    into : (n : Name) → T (mem n (keep (λ n. not (seen n)) l)) → T (mem n (keep now all))
    into n t =
        let (i, u) = (mem_keep n (λ n. not (seen n)) l).0 t in
        (mem_keep n now all).1
        ((h l (head_mem l ls)).1 n i, (T_and (not (seen n)) (eqb (cond (mem n l) s (name_stamp (s + 1) ls n)) s)).1 (u, at_s n i))

    back : (n : Name) → T (mem n (keep now all)) → T (mem n (keep (λ n. not (seen n)) l))
    back n t =
        let (i, u) = (mem_keep n now all).0 t in
        let (v, w) = (T_and (not (seen n)) (eqb (cond (mem n l) s (name_stamp (s + 1) ls n)) s)).0 u in
        (mem_keep n (λ n. not (seen n)) l).1 (of_s n w, v)

    later : (k : ℕ) (n : Name) → s + 1 ≤ k → (a b : Bool)
        → (not (a || b) && eqb (name_stamp (s + 1) ls n) k) ≡ (not a && eqb (cond b s (name_stamp (s + 1) ls n)) k)
    later k n h true b = refl
    later k n h false true = sym (ne_eqb s k (λ e. omega arith))
    later k n h false false = refl

-- names of sets within `all`, first met: by stamp from 1 on, then by rank
pub met_by_stamp : (all : List Name) → Ascending all → (ls : List (List Name)) → SetsIn all ls
    → first_met (concat ls) ≡ collect (λ k. keep (λ n. eqb (name_stamp 1 ls n) k) all) (from 1 (length ls))
met_by_stamp all up ls h =
    sym (keep_all (λ n. true) (first_met (concat ls)) (λ n i. tt)) ∙ by_stamp all up 1 (omega arith) ls h (λ n. false)
