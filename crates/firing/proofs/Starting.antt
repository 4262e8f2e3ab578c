-- What an engine starts with: the names of the records that start.
use Prim.Native.Nat.{ℕ, zero, suc, ◌<◌}
use native.Mathlib.Omega.{arith}
use mathlib.Core.Path.{◌≡◌, refl, sym, subst}
use mathlib.Core.Bool.{Bool, true, false, cond, not, ◌&&◌}
use mathlib.Core.Logic.{◌⊎◌, inl, inr, ⊎_elim}
use mathlib.Core.List.Memᴰ
use mathlib.Core.List.{List, [], map, Memᴰ}
use lib.Dec.{T, eqb, eqb→eq}
use borrow.Author.Tests.{eq-eqb, ne_eqb}
use Rattle.model.specs.Lists.{collect, keep}
use Rattle.model.specs.Names.{Name}
use Rattle.model.specs.Summaries.{Fact}
use Rattle.model.specs.Reading.{Root, no_ambients}
use Rattle.model.specs.Rounds.{facts, asks_for, goal_roots, ambient_roots, is_ambient_root, first_scanned}
use Rattle.model.specs.declared.AsumKind.TheVariants.{Ambient}
use Rattle.model.specs.declared.Asked.{Asked}
use Rattle.model.specs.declared.Counts.{Counts}
use Rattle.model.proofs.ListLaws.{true_T, T_and, collect_intro, collect_elim, keep_intro, keep_elim}
use Rattle.model.proofs.SetLaws.{mem_intro, mem_elim, mem_from_list}
use Rattle.names.specs.Table.{name_of}
use Rattle.terms.proofs.Laws.{equal}
use Rattle.records.specs.Columns.{record_kind, record_flag, summary_code, root_kind, kind_of_code, code_of}
use Rattle.records.specs.States.{uses_at, free_at, fact_at, roots_of, background_of, takes_part, ask_of}
use Rattle.macros.specs.Macros.{Filled}
use Rattle.firing.specs.Tables.{starts_at}
use Rattle.records.proofs.Taking.{part_kind}
use Rattle.firing.proofs.Background.{facts_elim, facts_intro, root_of, roots_elim, roots_intro}

-- ---- the records that start

-- the code of an ambient root
pub root_code : (c : ℕ) → is_ambient_root (kind_of_code c) ≡ eqb c (code_of (Ambient true))
unfolding is_ambient_root kind_of_code code_of
root_code zero = refl
root_code (suc zero) = refl
root_code (suc (suc zero)) = refl
root_code (suc (suc (suc n))) = rw (ne_eqb (suc (suc (suc n))) 2 (λ e. omega arith))

module _ (recs : List ℕ) (a : Asked) (i : ℕ) where
  -- whether its code is that of an ambient root
  abbrev ambient : Bool
  ambient = eqb (summary_code recs i) (code_of (Ambient true))

  pub root_starts : record_kind recs i ≡ root_kind → T (asks_for (ask_of recs a) (record_flag recs i)) → T (starts_at recs a i)
  unfolding starts_at
  root_starts e t = rw (eq-eqb (record_kind recs i) root_kind e) t

  pub fact_starts : T (takes_part recs (ask_of recs a) i) → T ambient → T (not (no_ambients (ask_of recs a))) → T (starts_at recs a i)
  unfolding starts_at
  fact_starts p f t =
      rw (part_kind recs (ask_of recs a) i p)
      ((T_and ambient (takes_part recs (ask_of recs a) i && not (no_ambients (ask_of recs a)))).1
      (f, (T_and (takes_part recs (ask_of recs a) i) (not (no_ambients (ask_of recs a)))).1 (p, t)))

  pub starts_elim : T (starts_at recs a i)
      → ((record_kind recs i ≡ root_kind) × T (asks_for (ask_of recs a) (record_flag recs i)))
      ⊎ (T (takes_part recs (ask_of recs a) i) × T ambient × T (not (no_ambients (ask_of recs a))))
  unfolding starts_at
  starts_elim t = go (equal (record_kind recs i) root_kind)
    where
      go : (record_kind recs i ≡ root_kind) ⊎ (record_kind recs i ≡ root_kind → ⊥)
          → ((record_kind recs i ≡ root_kind) × T (asks_for (ask_of recs a) (record_flag recs i)))
          ⊎ (T (takes_part recs (ask_of recs a) i) × T ambient × T (not (no_ambients (ask_of recs a))))
      go (inl e) = inl (e, rw (eq-eqb (record_kind recs i) root_kind e) at t)
      go (inr e) =
          let part = takes_part recs (ask_of recs a) i in
          let (c, b) = (T_and ambient (part && not (no_ambients (ask_of recs a)))).0 (rw (ne_eqb (record_kind recs i) root_kind e) at t) in
          let (p, d) = (T_and part (not (no_ambients (ask_of recs a)))).0 b in
          inr (p, c, d)

-- ---- the names that round 1 scans

module _ {file names recs lists : List ℕ} {k : Counts} (x : Filled file names recs lists k) (a : Asked) where
  abbrev name : ℕ → Name
  name = name_of file names

  abbrev fs : List Fact
  fs = facts (background_of name recs lists (ask_of recs a) k.records)

  abbrev roots : List Root
  roots = roots_of name recs lists k.records

  -- a free name by number
  pub free_in : (i : ℕ) {y : Name} → Memᴰ y (free_at name recs lists i) → Memᴰ y (map name (uses_at recs lists i))
  unfolding free_at
  free_in i {y} m = mem_elim ((mem_from_list y (map name (uses_at recs lists i))).0 (mem_intro m))

  pub free_out : (i : ℕ) {y : Name} → Memᴰ y (map name (uses_at recs lists i)) → Memᴰ y (free_at name recs lists i)
  unfolding free_at
  free_out i {y} m = mem_elim ((mem_from_list y (map name (uses_at recs lists i))).1 (mem_intro m))

  ambient_in : {f : Fact} → Memᴰ f (ambient_roots (ask_of recs a) fs) → Memᴰ f fs × T (is_ambient_root f.kind) × T (not (no_ambients (ask_of recs a)))
  unfolding ambient_roots
  ambient_in {f} m = go (no_ambients (ask_of recs a)) refl m
    where
      go : (b : Bool) → no_ambients (ask_of recs a) ≡ b → Memᴰ f (cond b [] (keep (λ f. is_ambient_root f.kind) fs))
          → Memᴰ f fs × T (is_ambient_root f.kind) × T (not (no_ambients (ask_of recs a)))
      go true e m = absurd (Memᴰ.not-nil m)
      go false e m = let (u, v) = keep_elim (λ (f : Fact). is_ambient_root f.kind) fs m in (u, v, rw e tt)

  ambient_out : {f : Fact} → Memᴰ f fs → T (is_ambient_root f.kind) → T (not (no_ambients (ask_of recs a))) → Memᴰ f (ambient_roots (ask_of recs a) fs)
  unfolding ambient_roots
  ambient_out {f} m t n = go (no_ambients (ask_of recs a)) n
    where
      go : (b : Bool) → T (not b) → Memᴰ f (cond b [] (keep (λ f. is_ambient_root f.kind) fs))
      go true n = elim n [ ]
      go false n = keep_intro (λ (f : Fact). is_ambient_root f.kind) m t

  -- a record that starts, with this free name
  abbrev pub Starts : Name → Type 0
  Starts y = (i : ℕ) × (i < k.records) × T (starts_at recs a i) × Memᴰ y (map name (uses_at recs lists i))

  -- what round 1 scans are names of records that start
  pub first_in : (y : Name) → Memᴰ y (first_scanned (ask_of recs a) fs roots) → Starts y
  unfolding first_scanned goal_roots fact_at
  first_in y m =
      ⊎_elim
      (λ p.
      let (z, u, v) = collect_elim (λ (r : Root). r.free_names) (goal_roots (ask_of recs a) roots) p in
      let (s, q) = keep_elim (λ (r : Root). asks_for (ask_of recs a) r.query) roots u in
      let (i, l, c, e) = roots_elim name recs lists k.records s in
      root_in i z l (eqb→eq (record_kind recs i) root_kind c) e q v)
      (λ p.
      let (f, u, v) = collect_elim (λ (f : Fact). f.free_names) (ambient_roots (ask_of recs a) fs) p in
      let (s, t, n) = ambient_in u in
      let (i, l, c, e) = facts_elim name recs lists (ask_of recs a) k.records s in
      fact_in i f l c e t n v)
      (Memᴰ.append_cases (collect (λ (r : Root). r.free_names) (goal_roots (ask_of recs a) roots)) m)
    where
      root_in : (i : ℕ) (z : Root) → i < k.records → record_kind recs i ≡ root_kind → z ≡ root_of name recs lists i → T (asks_for (ask_of recs a) z.query)
          → Memᴰ y z.free_names → Starts y
      root_in i z l c e q v = (
        i,
        l,
        root_starts recs a i c (subst (λ (r : Root). T (asks_for (ask_of recs a) r.query)) e q),
        free_in i (subst (λ (r : Root). Memᴰ y r.free_names) e v),
      )

      fact_in : (i : ℕ) (f : Fact) → i < k.records → T (takes_part recs (ask_of recs a) i) → f ≡ fact_at name recs lists i → T (is_ambient_root f.kind)
          → T (not (no_ambients (ask_of recs a))) → Memᴰ y f.free_names → Starts y
      fact_in i f l c e t n v =
          let w = subst (λ b. T b) (root_code (summary_code recs i)) (subst (λ (f : Fact). T (is_ambient_root f.kind)) e t) in
          (i, l, fact_starts recs a i c w n, free_in i (subst (λ (f : Fact). Memᴰ y f.free_names) e v))

  -- the names of the records that start are what round 1 scans
  pub first_all : (i : ℕ) → i < k.records → T (starts_at recs a i) → (y : Name) → Memᴰ y (map name (uses_at recs lists i))
      → Memᴰ y (first_scanned (ask_of recs a) fs roots)
  unfolding first_scanned goal_roots fact_at
  first_all i l t y m =
      ⊎_elim
      (λ (e, q). Memᴰ.append_left (collect (λ (f : Fact). f.free_names) (ambient_roots (ask_of recs a) fs))
      (collect_intro (λ (r : Root). r.free_names)
      (keep_intro (λ (r : Root). asks_for (ask_of recs a) r.query)
      (roots_intro name recs lists k.records i l (true_T (eq-eqb (record_kind recs i) root_kind e))) q)
      (free_out i m)))
      (λ (e, q, n). Memᴰ.append_right (collect (λ (r : Root). r.free_names) (goal_roots (ask_of recs a) roots))
      (collect_intro (λ (f : Fact). f.free_names)
      (ambient_out (facts_intro name recs lists (ask_of recs a) k.records i l e)
      (subst (λ b. T b) (sym (root_code (summary_code recs i))) q) n)
      (free_out i m)))
      (starts_elim recs a i t)
