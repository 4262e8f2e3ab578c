-- The background of an ask, among the records of a file: its facts are those that the ask admits, all else stays. And what a run of
-- the ask scans first.
use Prim.Native.Nat.{ℕ, ◌≤◌}
use native.Mathlib.Omega.{arith}
use mathlib.Core.Path.{◌≡◌, refl, ap}
use mathlib.Core.Bool.{Bool, true, false, cond, not}
use mathlib.Core.List.Memᴰ
use mathlib.Core.List.{List, [], ◌∷◌, ◌++◌, Memᴰ}
use lib.Dec.{T, eqb, eqb→eq, eqb_refl}
use lib.ListN.{length}
use Rattle.model.specs.Lists.{keep}
use Rattle.model.specs.Summaries.{Fact}
use Rattle.model.specs.Reading.{Ask, no_ambients, Root, Summary, sum_assume, sum_definefun, sum_declfun, sum_retain}
use Rattle.model.specs.Rounds.{admits, is_admitted, background, facts, definitions, declarations, macros, is_ambient_root, asks_for, goal_roots, ambient_roots}
use Rattle.model.specs.Also.{with_queries}
use Rattle.model.proofs.ListLaws.{any_intro, any_elim, keep_append, keep_elim, keep_intro, keep_cong}

module _ (a : Ask) where
  -- the facts of the background are those that the ask admits
  pub background_facts : (decls : List Summary) → facts (background a decls) ≡ keep (λ f. admits a f.group) (facts decls)
  unfolding background keep facts is_admitted
  background_facts [] = refl
  background_facts (sum_assume f ∷ decls) = go (admits a f.group) (background_facts decls)
    where
      go : (b : Bool) → facts (keep (is_admitted a) decls) ≡ keep (λ f. admits a f.group) (facts decls)
          → facts (cond b (sum_assume f ∷ keep (is_admitted a) decls) (keep (is_admitted a) decls))
          ≡ cond b (f ∷ keep (λ f. admits a f.group) (facts decls)) (keep (λ f. admits a f.group) (facts decls))
      go true e = ap (f ∷◌) e
      go false e = e
  background_facts (sum_definefun d ∷ decls) = background_facts decls
  background_facts (sum_declfun d ∷ decls) = background_facts decls
  background_facts (sum_retain ∷ decls) = background_facts decls

  -- what is read off a record that is no fact is read off the background as off the file
  others : {X : Type 0} (part : List Summary → List X)
      → ((f : Fact) (decls : List Summary) → part (sum_assume f ∷ decls) ≡ part decls)
      → (f : Fact) (b : Bool) (decls kept : List Summary) → part kept ≡ part decls
      → part (cond b (sum_assume f ∷ kept) kept) ≡ part decls
  others part skips f true decls kept e = rw (skips f kept) e
  others part skips f false decls kept e = e

  -- its definitions are those of the file
  pub background_definitions : (decls : List Summary) → definitions (background a decls) ≡ definitions decls
  unfolding background keep definitions is_admitted
  background_definitions [] = refl
  background_definitions (sum_assume f ∷ decls) =
      others definitions (λ g ds. refl) f (admits a f.group) decls (keep (is_admitted a) decls) (background_definitions decls)
  background_definitions (sum_definefun d ∷ decls) = ap (d ∷◌) (background_definitions decls)
  background_definitions (sum_declfun d ∷ decls) = background_definitions decls
  background_definitions (sum_retain ∷ decls) = background_definitions decls

  -- its declarations are those of the file
  pub background_declarations : (decls : List Summary) → declarations (background a decls) ≡ declarations decls
  unfolding background keep declarations is_admitted
  background_declarations [] = refl
  background_declarations (sum_assume f ∷ decls) =
      others declarations (λ g ds. refl) f (admits a f.group) decls (keep (is_admitted a) decls) (background_declarations decls)
  background_declarations (sum_definefun d ∷ decls) = background_declarations decls
  background_declarations (sum_declfun d ∷ decls) = ap (d ∷◌) (background_declarations decls)
  background_declarations (sum_retain ∷ decls) = background_declarations decls

  -- its macros are those of the file
  pub background_macros : (decls : List Summary) → macros (background a decls) ≡ macros decls
  unfolding macros
  background_macros decls = rw (background_definitions decls)

  -- the background of two lists of records, one after the other
  pub background_append : (l m : List Summary) → background a (l ++ m) ≡ background a l ++ background a m
  unfolding background
  background_append l m = keep_append (is_admitted a) l m

  -- a record of the background is one of the file that the ask has to do with
  pub background_elim : (decls : List Summary) {x : Summary} → Memᴰ x (background a decls) → Memᴰ x decls × T (is_admitted a x)
  unfolding background
  background_elim decls i = keep_elim (is_admitted a) decls i

  -- it has no more records than the file
  pub background_few : (decls : List Summary) → length (background a decls) ≤ length decls
  unfolding background keep
  background_few [] = omega arith
  background_few (x ∷ decls) = go (is_admitted a x) (background_few decls)
    where
      go : (b : Bool) → length (keep (is_admitted a) decls) ≤ length decls
          → length (cond b (x ∷ keep (is_admitted a) decls) (keep (is_admitted a) decls)) ≤ length (x ∷ decls)
      go true h = omega arith
      go false h = omega arith

-- asks of the same groups have the same background
pub background_groups : (a b : Ask) (decls : List Summary) → a.groups ≡ b.groups → background a decls ≡ background b decls
unfolding background
background_groups a b decls e = keep_cong (is_admitted a) (is_admitted b) decls (λ x i. same x)
  where
    same : (x : Summary) → is_admitted a x ≡ is_admitted b x
    same (sum_assume f) = unfold is_admitted admits in (rw e)
    same (sum_definefun d) = unfold is_admitted in refl
    same (sum_declfun d) = unfold is_admitted in refl
    same sum_retain = unfold is_admitted in refl

-- so has an ask with other queries
pub background_with : (a : Ask) (qs : List ℕ) (decls : List Summary) → background (with_queries a qs) decls ≡ background a decls
unfolding with_queries
background_with a qs decls = background_groups (with_queries a qs) a decls refl

module _ (a : Ask) (roots : List Root) where
  -- a root of the ask's queries is a root whose query is one of them
  pub goal_root_elim : {r : Root} → Memᴰ r (goal_roots a roots) → Memᴰ r roots × Memᴰ r.query a.queries
  unfolding goal_roots asks_for
  goal_root_elim {r} i =
      let (j, t) = keep_elim (λ r. asks_for a r.query) roots i in
      let (q, m, e) = any_elim (eqb r.query) a.queries t in
      (j, Memᴰ.cast (eqb→eq r.query q e) m)

  pub goal_root_intro : {r : Root} → Memᴰ r roots → Memᴰ r.query a.queries → Memᴰ r (goal_roots a roots)
  unfolding goal_roots asks_for
  goal_root_intro {r} i q = keep_intro (λ r. asks_for a r.query) i (any_intro (eqb r.query) q (eqb_refl r.query))

module _ (a : Ask) (fs : List Fact) where
  -- an ambient root that is scanned is one of the facts, where option 1 is off
  pub ambient_root_elim : {f : Fact} → Memᴰ f (ambient_roots a fs) → Memᴰ f fs × T (is_ambient_root f.kind) × T (not (no_ambients a))
  unfolding ambient_roots
  ambient_root_elim {f} i = go (no_ambients a) i
    where
      go : (b : Bool) → Memᴰ f (cond b [] (keep (λ f. is_ambient_root f.kind) fs)) → Memᴰ f fs × T (is_ambient_root f.kind) × T (not b)
      go true j = absurd (Memᴰ.not-nil j)
      go false j = let (k, t) = keep_elim (λ f. is_ambient_root f.kind) fs j in (k, t, tt)

  pub ambient_root_intro : {f : Fact} → Memᴰ f fs → T (is_ambient_root f.kind) → T (not (no_ambients a)) → Memᴰ f (ambient_roots a fs)
  unfolding ambient_roots
  ambient_root_intro {f} i t u = go (no_ambients a) u
    where
      go : (b : Bool) → T (not b) → Memᴰ f (cond b [] (keep (λ f. is_ambient_root f.kind) fs))
      go true v = absurd v
      go false v = keep_intro (λ f. is_ambient_root f.kind) i t
