-- Names met, one after the other.
use Prim.Native.Nat.{ℕ, ◌≤◌, ◌<◌}
use native.Mathlib.Omega.{arith}
use mathlib.Core.Path.{◌≡◌, refl, ◌∙◌}
use mathlib.Core.Bool.{Bool, true, false, cond, not}
use mathlib.Core.Logic.{◌⊎◌, inl, inr, ⊎_elim}
use mathlib.Core.List.Memᴰ
use mathlib.Core.List.{List, [], ◌∷◌, ◌++◌, Memᴰ}
use lib.Dec.{T, T_not, not_T, eqb, ltb, eqb→eq, eqb_refl, ltb→lt, nltb→le, lt→ltb}
use lib.ListN.{length, get_or, set, length-set}
use lib.Seq.{get_or-set_same, get_or-set_other}
use borrow.Author.Tests.{eqb-true, eq-eqb, ne_eqb}
use Rattle.model.specs.Lists.{any, fold_left}
use Rattle.model.proofs.ListLaws.{T_ext, T_dec, T_false, true_T, any_intro, any_elim, fold_left_append}
use Rattle.terms.proofs.Laws.{equal}
use Rattle.firing.specs.Met.{mark, marks, is_met}

-- ---- one name

pub mark_length : (r : ℕ) (w : List ℕ) (n : ℕ) → length (mark r w n) ≡ length w
unfolding mark
mark_length r w n = go (eqb (get_or w n 0) 0)
  where
    go : (b : Bool) → length (cond b (set w n r) w) ≡ length w
    go true = length-set w n r
    go false = refl

mark_other : (r : ℕ) (w : List ℕ) (n k : ℕ) → (k ≡ n → ⊥) → get_or (mark r w n) k 0 ≡ get_or w k 0
unfolding mark
mark_other r w n k d = go (eqb (get_or w n 0) 0)
  where
    go : (b : Bool) → get_or (cond b (set w n r) w) k 0 ≡ get_or w k 0
    go true = get_or-set_other w n k r 0 d
    go false = refl

mark_zero : (r : ℕ) (w : List ℕ) (n : ℕ) → n < length w → get_or w n 0 ≡ 0 → get_or (mark r w n) n 0 ≡ r
unfolding mark
mark_zero r w n l e = rw (eq-eqb (get_or w n 0) 0 e, get_or-set_same w n r 0 l)

mark_old : (r : ℕ) (w : List ℕ) (n k : ℕ) → 0 < get_or w k 0 → get_or (mark r w n) k 0 ≡ get_or w k 0
unfolding mark
mark_old r w n k l = go (eqb (get_or w n 0) 0) refl
  where
    go : (b : Bool) → eqb (get_or w n 0) 0 ≡ b → get_or (cond b (set w n r) w) k 0 ≡ get_or w k 0
    go true e =
        get_or-set_other w n k r 0
        (λ d. let z = eqb-true (get_or w n 0) 0 e in let l' : 0 < get_or w n 0 = rw d at l in omega arith)
    go false e = refl

-- ---- names

pub marks_nil : (r : ℕ) (w : List ℕ) → marks r w [] ≡ w
unfolding marks fold_left
marks_nil r w = refl

pub marks_cons : (r : ℕ) (w : List ℕ) (n : ℕ) (ns : List ℕ) → marks r w (n ∷ ns) ≡ marks r (mark r w n) ns
unfolding marks fold_left
marks_cons r w n ns = refl

pub marks_append : (r : ℕ) (w ns ms : List ℕ) → marks r w (ns ++ ms) ≡ marks r (marks r w ns) ms
unfolding marks
marks_append r w ns ms = fold_left_append (mark r) w ns ms

pub marks_length : (r : ℕ) (w ns : List ℕ) → length (marks r w ns) ≡ length w
unfolding marks fold_left
marks_length r w [] = refl
marks_length r w (n ∷ ns) = marks_length r (mark r w n) ns ∙ mark_length r w n

-- a name met before keeps its round
pub marks_old : (r : ℕ) (w ns : List ℕ) (k : ℕ) → 0 < get_or w k 0 → get_or (marks r w ns) k 0 ≡ get_or w k 0
unfolding marks fold_left
marks_old r w [] k l = refl
marks_old r w (n ∷ ns) k l = let e = mark_old r w n k l in marks_old r (mark r w n) ns k (omega arith) ∙ e

-- other words stay
pub marks_out : (r : ℕ) (w ns : List ℕ) (k : ℕ) → (Memᴰ k ns → ⊥) → get_or (marks r w ns) k 0 ≡ get_or w k 0
unfolding marks fold_left
marks_out r w [] k o = refl
marks_out r w (n ∷ ns) k o =
    marks_out r (mark r w n) ns k (λ m. o (Memᴰ.tail m)) ∙ mark_other r w n k (λ e. o (Memᴰ.head e))

-- a name of the list that was not met is met in round r
pub marks_in : (r : ℕ) {k : ℕ} (w : List ℕ) {ns : List ℕ} → 0 < r → k < length w → get_or w k 0 ≡ 0 → Memᴰ k ns → get_or (marks r w ns) k 0 ≡ r
unfolding marks fold_left
marks_in r {k} w p l e (Memᴰ.head {x = n} {xs} s) =
    let z : get_or (mark r w n) k 0 ≡ r = rw (← s, mark_zero r w k l e) in
    marks_old r (mark r w n) xs k (omega arith) ∙ z
marks_in r {k} w p l e (Memᴰ.tail {x = n} {xs} m) =
    ⊎_elim
    (λ (s : k ≡ n).
    let z : get_or (mark r w n) k 0 ≡ r = rw (← s, mark_zero r w k l e) in
    marks_old r (mark r w n) xs k (omega arith) ∙ z)
    (λ d. marks_in r (mark r w n) p (rw (mark_length r w n) l) (mark_other r w n k d ∙ e) m)
    (equal k n)

-- ---- met before, and first met in round r

-- a number is in a list or not
pub mem_dec : (n : ℕ) (l : List ℕ) → Memᴰ n l ⊎ (Memᴰ n l → ⊥)
mem_dec n l =
    ⊎_elim (λ t. let (m, i, e) = any_elim (eqb n) l t in inl (Memᴰ.cast (eqb→eq n m e) i))
    (λ t. inr (λ m. T_not (any (eqb n) l) t (any_intro (eqb n) m (eqb_refl n)))) (T_dec (any (eqb n) l))

module _ (r : ℕ) (w ns : List ℕ) where
  pub met_old : (n : ℕ) → T (is_met w n) → T (is_met (marks r w ns) n)
  unfolding is_met
  met_old n t = rw (marks_old r w ns n (ltb→lt 0 (get_or w n 0) t)) t

  pub met_in : 0 < r → {n : ℕ} → n < length w → Memᴰ n ns → T (is_met (marks r w ns) n)
  unfolding is_met
  met_in p {n} l m =
      ⊎_elim (λ t. met_old n t)
      (λ t. let z = nltb→le 0 (get_or w n 0) t in rw (marks_in r w p l (omega arith) m) (lt→ltb 0 r p))
      (T_dec (ltb 0 (get_or w n 0)))

  pub met_cases : (n : ℕ) → T (is_met (marks r w ns) n) → T (is_met w n) ⊎ Memᴰ n ns
  unfolding is_met
  met_cases n t = ⊎_elim inr (λ d. inl (rw (marks_out r w ns n d) at t)) (mem_dec n ns)

  -- first met in round r: met at its end and not before
  pub new_elim : (n : ℕ) → 0 < r → get_or w n 0 < r → get_or (marks r w ns) n 0 ≡ r → T (is_met (marks r w ns) n) × T (not (is_met w n))
  unfolding is_met
  new_elim n p l e = (
    rw e (lt→ltb 0 r p),
    not_T (ltb 0 (get_or w n 0)) (λ t. let s = marks_old r w ns n (ltb→lt 0 (get_or w n 0) t) in omega arith),
  )

  pub new_intro : (n : ℕ) → 0 < r → n < length w → T (is_met (marks r w ns) n) → T (not (is_met w n)) → get_or (marks r w ns) n 0 ≡ r
  unfolding is_met
  new_intro n p l t u =
      let z = nltb→le 0 (get_or w n 0) u in
      ⊎_elim (λ v. absurd (T_not (ltb 0 (get_or w n 0)) u v)) (λ m. marks_in r w p l (omega arith) m) (met_cases n t)

  -- a mark is no higher than the round
  pub marks_low : (n : ℕ) → 0 < r → n < length w → get_or w n 0 < r → get_or (marks r w ns) n 0 ≤ r
  marks_low n p l s =
      ⊎_elim
      (λ m. ⊎_elim
      (λ t. let e = marks_old r w ns n (ltb→lt 0 (get_or w n 0) t) in omega arith)
      (λ t. let z = nltb→le 0 (get_or w n 0) t in let e = marks_in r w p l (omega arith) m in omega arith)
      (T_dec (ltb 0 (get_or w n 0))))
      (λ d. let e = marks_out r w ns n d in omega arith) (mem_dec n ns)

  -- a name met at the end of the round was met before it or is first met in it, and not both
  pub old_or_new : (n : ℕ) → 0 < r → n < length w → get_or w n 0 < r
      → ((is_met w n ≡ is_met (marks r w ns) n) × (eqb (get_or (marks r w ns) n 0) r ≡ false))
      ⊎ ((eqb (get_or (marks r w ns) n 0) r ≡ is_met (marks r w ns) n) × (is_met w n ≡ false))
  unfolding is_met
  old_or_new n p l s =
      ⊎_elim
      (λ t.
      let e = marks_old r w ns n (ltb→lt 0 (get_or w n 0) t) in
      inl (T_ext (met_old n) (λ u. t), ne_eqb (get_or (marks r w ns) n 0) r (λ d. omega arith)))
      (λ t. inr (
        T_ext (λ u. (new_elim n p s (eqb→eq (get_or (marks r w ns) n 0) r u)).0)
            (λ u. true_T (eq-eqb (get_or (marks r w ns) n 0) r (new_intro n p l u t))),
        T_false (ltb 0 (get_or w n 0)) t,
      ))
      (T_dec (ltb 0 (get_or w n 0)))
