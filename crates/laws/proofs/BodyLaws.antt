-- Bodies followed: the names come to be closed, are the least closed set that has them, and are a set.
use Prim.Native.Nat.{ℕ, zero, suc, ◌≤◌, ◌<◌}
use native.Mathlib.Omega.{arith}
use mathlib.Core.Path.{ap}
use mathlib.Core.Logic.{◌⊎◌, inl, inr, ⊎_elim}
use mathlib.Core.Bool.{true, not}
use mathlib.Core.List.Memᴰ
use mathlib.Core.List.{List, Memᴰ}
use lib.Dec.{T, T_not, not_T}
use lib.ListN.{length}
use Rattle.model.specs.Lists.{keep, is_nil}
use Rattle.model.specs.Names.{Name, mem, from_list}
use Rattle.model.specs.Reading.{Decl}
use Rattle.model.specs.Bodies.{with_bodies, followed, all_followed, added_names}
use Rattle.model.proofs.ListLaws.{T_dec, keep_intro, keep_elim, keep_all, keep_less, keep_le, collect_intro, collect_elim, is_nil_elim, not_nil_mem}
use Rattle.model.proofs.SetLaws.{Ascending, Within, ascending_from_list, ascending_union, ascending_diff, mem_intro, mem_elim, mem_union, mem_from_list, mem_diff}

-- names are closed if they have the free names of each body of a definition that one of them names
abbrev pub ClosedNames : List Decl → List Name → Type 0
ClosedNames ds names = (d : Decl) → Memᴰ d ds → T (mem d.name names) → Within d.free_names names

module _ (ds : List Decl) where
  -- the definitions that none of the names is of
  abbrev outside : List Name → List Decl
  outside names = keep (λ d. not (mem d.name names)) ds

  -- the names stay
  bodies_grow : (names : List Name) → Within names (with_bodies ds names)
  unfolding with_bodies
  bodies_grow names k t = (mem_union k _ names).1 (inr t)

  -- the free names of a body come in
  bodies_intro : (names : List Name) {d : Decl} → Memᴰ d ds → T (mem d.name names) → Within d.free_names (with_bodies ds names)
  unfolding with_bodies
  bodies_intro names {d} i t k u =
      (mem_union k _ names).1 (inl (mem_intro (collect_intro (λ (d : Decl). d.free_names) (keep_intro (λ d. mem d.name names) i t) (mem_elim u))))

  -- nothing else does
  bodies_elim : (names : List Name) (k : Name) → T (mem k (with_bodies ds names))
      → T (mem k names) ⊎ ((d : Decl) × Memᴰ d ds × T (mem d.name names) × T (mem k d.free_names))
  unfolding with_bodies
  bodies_elim names k t =
      ⊎_elim (λ u. let (d, i, j) = collect_elim (λ (d : Decl). d.free_names) (keep (λ d. mem d.name names) ds) (mem_elim u) in
      let (l, v) = keep_elim (λ d. mem d.name names) ds i in inr (d, l, v, mem_intro j))
      inl ((mem_union k _ names).0 t)

  -- closed names stay closed, however much fuel there is
  closed_stays : (fuel : ℕ) (names : List Name) → ClosedNames ds names → ClosedNames ds (followed ds fuel names)
  unfolding followed
  closed_stays zero names h = h
  closed_stays (suc fuel) names h = closed_stays fuel (with_bodies ds names) (λ d i t k u. bodies_grow names k (h d i (back d.name t) k u))
    where
      back : (k : Name) → T (mem k (with_bodies ds names)) → T (mem k names)
      back k t = ⊎_elim (λ u. u) (λ p. h p.0 p.1 p.2 k p.3) (bodies_elim names k t)

  -- with more fuel than definitions are outside, the names come to be closed
  closed_followed : (fuel : ℕ) (names : List Name) → length (outside names) < fuel → ClosedNames ds (followed ds fuel names)
  unfolding followed
  closed_followed zero names h = absurd (omega arith)
  closed_followed (suc fuel) names h = ⊎_elim stays (grows (closed_followed fuel (with_bodies ds names))) (T_dec (is_nil new))
    where
      new : List Decl
      new = keep (λ d. mem d.name (with_bodies ds names)) (outside names)

      stays : T (is_nil new) → ClosedNames ds (followed ds fuel (with_bodies ds names))
      stays t = closed_stays fuel (with_bodies ds names)
          (λ d i u. bodies_intro names i (old d i u))
        where
          old : (d : Decl) → Memᴰ d ds → T (mem d.name (with_bodies ds names)) → T (mem d.name names)
          old d i u = ⊎_elim (λ v. v) (λ v. absurd (Memᴰ.not-nil (rw (is_nil_elim new t) at (keep_intro (λ d. mem d.name (with_bodies ds names)) (keep_intro (λ d. not (mem d.name names)) i v) u)))) (T_dec (mem d.name names))

      grows : (length (outside (with_bodies ds names)) < fuel → ClosedNames ds (followed ds fuel (with_bodies ds names)))
          → T (not (is_nil new)) → ClosedNames ds (followed ds fuel (with_bodies ds names))
      grows below t =
          let (d, i) = not_nil_mem new t in
          let (j, u) = keep_elim (λ d. mem d.name (with_bodies ds names)) (outside names) i in
          let (k, v) = keep_elim (λ d. not (mem d.name names)) ds j in
          let fewer = keep_less (λ (d : Decl). not (mem d.name names)) (λ (d : Decl). not (mem d.name (with_bodies ds names)))
          (λ e m w. not_T (mem e.name names) (λ x. T_not (mem e.name (with_bodies ds names)) w (bodies_grow names e.name x)))
          k v (not_T (not (mem d.name (with_bodies ds names))) (λ w. T_not (mem d.name (with_bodies ds names)) w u)) in
          below (omega arith)

  -- no more definitions are outside than there are
  few_outside : (names : List Name) → length (outside names) ≤ length ds
  few_outside names = omega (arith, keep_le (λ (d : Decl). true) (λ (d : Decl). not (mem d.name names)) ds (λ d i t. tt), ap length (keep_all (λ (d : Decl). true) ds (λ d i. tt)))

  -- a law of names that bodies keep holds of all that is followed
  pub followed_law : (law : Name → Type 0) → ((d : Decl) → Memᴰ d ds → law d.name → (k : Name) → T (mem k d.free_names) → law k)
      → (fuel : ℕ) (names : List Name) → ((k : Name) → T (mem k names) → law k) → (k : Name) → T (mem k (followed ds fuel names)) → law k
  unfolding followed
  followed_law law step zero names h = h
  followed_law law step (suc fuel) names h =
      followed_law law step fuel (with_bodies ds names) (λ k t. ⊎_elim (h k) (λ p. step p.0 p.1 (h p.0.name p.2) k p.3) (bodies_elim names k t))

  -- the names stay among what is followed
  followed_grow : (fuel : ℕ) (names : List Name) → Within names (followed ds fuel names)
  unfolding followed
  followed_grow zero names k t = t
  followed_grow (suc fuel) names k t = followed_grow fuel (with_bodies ds names) k (bodies_grow names k t)

  -- what is followed from a set is a set
  followed_set : (fuel : ℕ) {names : List Name} → Ascending names → Ascending (followed ds fuel names)
  unfolding followed with_bodies
  followed_set zero a = a
  followed_set (suc fuel) a = followed_set fuel (ascending_union _ a)

  -- all that is followed is closed
  pub all_closed : (names : List Name) → ClosedNames ds (all_followed ds names)
  unfolding all_followed
  all_closed names = closed_followed (suc (length ds)) (from_list names) (omega (arith, few_outside (from_list names)))

  -- and has the names
  pub all_has : (names : List Name) → Within names (all_followed ds names)
  unfolding all_followed
  all_has names k t = followed_grow (suc (length ds)) (from_list names) k ((mem_from_list k names).1 t)

  -- and is within every closed list that has them
  pub all_least : (names set : List Name) → ClosedNames ds set → Within names set → Within (all_followed ds names) set
  unfolding all_followed
  all_least names set closed has =
      followed_law (λ k. T (mem k set)) (λ d i t k u. closed d i t k u) (suc (length ds)) (from_list names) (λ k t. has k ((mem_from_list k names).0 t))

  -- what is followed is a set
  pub all_set : (names : List Name) → Ascending (all_followed ds names)
  unfolding all_followed
  all_set names = followed_set (suc (length ds)) (ascending_from_list names)

  -- a name is followed that is one of the names, or is added
  pub added_or : (names : List Name) (k : Name) → T (mem k (all_followed ds names)) → Memᴰ k names ⊎ Memᴰ k (added_names ds names)
  unfolding added_names
  added_or names k t = ⊎_elim (λ u. inl (mem_elim u)) (λ u. inr (mem_elim ((mem_diff k (all_followed ds names) names).1 (t, u)))) (T_dec (mem k names))

  -- an added name is followed, and is none of the names
  pub added_elim : (names : List Name) {k : Name} → Memᴰ k (added_names ds names) → T (mem k (all_followed ds names)) × (Memᴰ k names → ⊥)
  unfolding added_names
  added_elim names {k} i = let (t, u) = (mem_diff k (all_followed ds names) names).0 (mem_intro i) in (t, λ j. T_not (mem k names) u (mem_intro j))

  -- the added names are a set
  pub added_set : (names : List Name) → Ascending (added_names ds names)
  unfolding added_names
  added_set names = ascending_diff names (all_set names)

  -- an added name is free in the body of a definition
  pub added_free : (names : List Name) {k : Name} → Memᴰ k (added_names ds names) → (d : Decl) × Memᴰ d ds × Memᴰ k d.free_names
  unfolding all_followed
  added_free names {k} i =
      let (t, new) = added_elim names i in
      ⊎_elim (λ j. absurd (new j)) (λ p. p)
      (followed_law (λ n. Memᴰ n names ⊎ ((d : Decl) × Memᴰ d ds × Memᴰ n d.free_names))
      (λ d j h n u. inr (d, j, mem_elim u)) (suc (length ds)) (from_list names) (λ n u. inl (mem_elim ((mem_from_list n names).0 u))) k t)
