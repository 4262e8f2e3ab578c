-- The facts, the definitions and the roots of the tables, record by record, and the filed names.
use Prim.Native.Nat.{ℕ, zero, suc, ◌+◌, ◌-◌, ◌%◌, ◌≤◌, ◌<◌}
use native.Mathlib.Omega.{arith}
use mathlib.Core.Path.{◌≡◌, refl, sym, ap, ap₂, ◌∙◌}
use mathlib.Core.Bool.{Bool, true, false, cond, ◌&&◌}
use mathlib.Core.Logic.{⊎_elim}
use mathlib.Core.List.Memᴰ
use mathlib.Core.List.{List, [], ◌∷◌, ◌++◌, append-nil, Memᴰ}
use lib.ListN.{length, get_or}
use lib.Dec.{T, ltb, eqb}
use borrow.Author.Tests.{ne_eqb, ltb-true, ltb-false}
use Rattle.model.specs.Lists.{keep, count, collect, concat, part}
use Rattle.model.specs.Names.{Name}
use Rattle.model.specs.Summaries.{entries, Fact}
use Rattle.model.specs.Reading.{Ask, Decl, sum_assume, Root}
use Rattle.model.specs.Rounds.{admits, is_admitted, background, facts, definitions, listed, filed}
use Rattle.model.proofs.ListLaws.{count_append, collect_append}
use Rattle.model.proofs.PartLaws.{part_length}
use Rattle.laws.proofs.BackgroundLaws.{background_append}
use Rattle.laws.proofs.Records.{facts_append, definitions_append}
use Rattle.terms.proofs.Laws.{equal}
use Rattle.triggers.specs.Entries.{disjuncts_of, last_flag, no_name, entries_base}
use Rattle.records.specs.Columns.{record_kind, record_line, record_name, record_flag, record_group, entries_start, entries_end, assume_kind, def_kind, root_kind, entry_name, entry_fact}
use Rattle.records.specs.States.{entries_at, free_at, fact_at, decl_at, summary_at, root_at, decls_of, roots_of, background_of, takes_part}
use Rattle.records.specs.Filing.{Records, entries_before, Filing}
use Rattle.firing.specs.Held.{upto}
use Rattle.firing.proofs.Numbers.{count_none, range_agree}
use Rattle.firing.proofs.Listing.{listed_count, places_count}

-- ---- lists that each record adds to

pub only : {A : Type 0} {x y : A} → Memᴰ x (y ∷ []) → x ≡ y
only m = ⊎_elim (λ q. q) (λ q. absurd (Memᴰ.not-nil q)) (Memᴰ.cases_cons m)

-- one element, if the test holds
one_elim : {A : Type 0} (b : Bool) {x y : A} → Memᴰ x (cond b (y ∷ []) []) → T b × (x ≡ y)
one_elim true m = (tt, only m)
one_elim false m = absurd (Memᴰ.not-nil m)

one_intro : {A : Type 0} (b : Bool) {y : A} → T b → Memᴰ y (cond b (y ∷ []) [])
one_intro true t = Memᴰ.head refl
one_intro false t = absurd t

module _ {A : Type 0} (list : ℕ → List A) (test : ℕ → Bool) (one : ℕ → A) (start : list 0 ≡ [])
    (next : (n : ℕ) → list (suc n) ≡ list n ++ cond (test n) (one n ∷ []) []) where
  each_elim : (n : ℕ) {x : A} → Memᴰ x (list n) → (i : ℕ) × (i < n) × T (test i) × (x ≡ one i)
  each_elim zero m = absurd (Memᴰ.not-nil (rw start at m))
  each_elim (suc n) m =
      ⊎_elim
      (λ q. let (i, l, t, e) = each_elim n q in (i, omega arith, t, e))
      (λ q. let (t, e) = one_elim (test n) q in (n, omega arith, t, e))
      (Memᴰ.append_cases (list n) (rw (next n) at m))

  each_intro : (n i : ℕ) → i < n → T (test i) → Memᴰ (one i) (list n)
  each_intro zero i l t = absurd (omega arith)
  each_intro (suc n) i l t =
      rw (next n)
      (⊎_elim
      (λ (e : i ≡ n). Memᴰ.append_right (list n) (rw e (one_intro (test n) (rw e at t))))
      (λ (e : i ≡ n → ⊥). Memᴰ.append_left (cond (test n) (one n ∷ []) []) (each_intro n i (omega arith) t))
      (equal i n))

-- whether it is a definition
abbrev pub is_definition : List ℕ → ℕ → Bool
is_definition recs i = eqb (record_kind recs i) def_kind

-- whether it is a root
abbrev pub is_root : List ℕ → ℕ → Bool
is_root recs i = eqb (record_kind recs i) root_kind

module _ (name : ℕ → Name) (recs lists : List ℕ) where
  -- the definition, the root of a record
  abbrev pub def_at : ℕ → Decl
  def_at i = decl_at name recs lists i (free_at name recs lists i)

  abbrev pub root_of : ℕ → Root
  root_of i =
      record { line = record_line recs i; query = record_flag recs i; name = name (record_name recs i); free_names = free_at name recs lists i }

  -- ---- the facts that an ask admits

  module _ (a : Ask) where
    record_facts : (i kind : ℕ)
        → facts (background a (summary_at name recs lists i kind))
        ≡ cond (eqb kind assume_kind && admits a (record_group recs i)) (fact_at name recs lists i ∷ []) []
    unfolding summary_at fact_at background is_admitted keep facts
    record_facts i zero = go (admits a (record_group recs i))
      where
        go : (b : Bool) → facts (cond b (sum_assume (fact_at name recs lists i) ∷ []) []) ≡ cond b (fact_at name recs lists i ∷ []) []
        go true = refl
        go false = refl
    record_facts i (suc zero) = refl
    record_facts i (suc (suc zero)) = refl
    record_facts i (suc (suc (suc zero))) = refl
    record_facts i (suc (suc (suc (suc k)))) = rw (ne_eqb (suc (suc (suc (suc k)))) 0 (λ e. omega arith))

    pub next_facts : (n : ℕ)
        → facts (background_of name recs lists a (suc n))
        ≡ facts (background_of name recs lists a n) ++ cond (takes_part recs a n) (fact_at name recs lists n ∷ []) []
    unfolding decls_of takes_part
    next_facts n =
        ap facts (background_append a (decls_of name recs lists n) (summary_at name recs lists n (record_kind recs n)))
        ∙ facts_append (background_of name recs lists a n) (background a (summary_at name recs lists n (record_kind recs n)))
        ∙ ap (facts (background_of name recs lists a n) ++◌) (record_facts n (record_kind recs n))

    pub no_facts : facts (background_of name recs lists a 0) ≡ []
    unfolding decls_of background keep facts
    no_facts = refl

    pub facts_elim : (n : ℕ) {f : Fact} → Memᴰ f (facts (background_of name recs lists a n))
        → (i : ℕ) × (i < n) × T (takes_part recs a i) × (f ≡ fact_at name recs lists i)
    facts_elim = each_elim (λ n. facts (background_of name recs lists a n)) (takes_part recs a) (fact_at name recs lists) no_facts next_facts

    pub facts_intro : (n i : ℕ) → i < n → T (takes_part recs a i) → Memᴰ (fact_at name recs lists i) (facts (background_of name recs lists a n))
    facts_intro = each_intro (λ n. facts (background_of name recs lists a n)) (takes_part recs a) (fact_at name recs lists) no_facts next_facts

    next_filed : (n : ℕ)
        → filed (facts (background_of name recs lists a (suc n)))
        ≡ filed (facts (background_of name recs lists a n)) ++ cond (takes_part recs a n) (concat (disjuncts_of name (entries_at recs lists n))) []
    unfolding filed collect listed fact_at
    next_filed n =
        ap (collect listed) (next_facts n)
        ∙ collect_append listed (facts (background_of name recs lists a n)) (cond (takes_part recs a n) (fact_at name recs lists n ∷ []) [])
        ∙ ap (collect listed (facts (background_of name recs lists a n)) ++◌) (one (takes_part recs a n))
      where
        one : (b : Bool) → collect listed (cond b (fact_at name recs lists n ∷ []) []) ≡ cond b (concat (disjuncts_of name (entries_at recs lists n))) []
        one true = append-nil (concat (disjuncts_of name (entries_at recs lists n)))
        one false = refl

  -- ---- definitions

  record_defs : (i kind : ℕ) → definitions (summary_at name recs lists i kind) ≡ cond (eqb kind def_kind) (def_at i ∷ []) []
  unfolding summary_at definitions
  record_defs i zero = refl
  record_defs i (suc zero) = refl
  record_defs i (suc (suc zero)) = refl
  record_defs i (suc (suc (suc zero))) = refl
  record_defs i (suc (suc (suc (suc k)))) = rw (ne_eqb (suc (suc (suc (suc k)))) 2 (λ e. omega arith))

  pub next_defs : (n : ℕ) → definitions (decls_of name recs lists (suc n)) ≡ definitions (decls_of name recs lists n) ++ cond (is_definition recs n) (def_at n ∷ []) []
  unfolding decls_of
  next_defs n =
      definitions_append (decls_of name recs lists n) (summary_at name recs lists n (record_kind recs n))
      ∙ ap (definitions (decls_of name recs lists n) ++◌) (record_defs n (record_kind recs n))

  pub no_defs : definitions (decls_of name recs lists 0) ≡ []
  unfolding decls_of definitions
  no_defs = refl

  pub defs_elim : (n : ℕ) {d : Decl} → Memᴰ d (definitions (decls_of name recs lists n)) → (i : ℕ) × (i < n) × T (is_definition recs i) × (d ≡ def_at i)
  defs_elim = each_elim (λ n. definitions (decls_of name recs lists n)) (is_definition recs) def_at no_defs next_defs

  pub defs_intro : (n i : ℕ) → i < n → T (is_definition recs i) → Memᴰ (def_at i) (definitions (decls_of name recs lists n))
  defs_intro = each_intro (λ n. definitions (decls_of name recs lists n)) (is_definition recs) def_at no_defs next_defs

  -- ---- roots

  record_roots : (i kind : ℕ) → root_at name recs lists i kind ≡ cond (eqb kind root_kind) (root_of i ∷ []) []
  unfolding root_at
  record_roots i zero = refl
  record_roots i (suc zero) = refl
  record_roots i (suc (suc zero)) = refl
  record_roots i (suc (suc (suc zero))) = refl
  record_roots i (suc (suc (suc (suc zero)))) = refl
  record_roots i (suc (suc (suc (suc (suc k))))) = rw (ne_eqb (suc (suc (suc (suc (suc k))))) root_kind (λ e. omega arith))

  pub next_roots : (n : ℕ) → roots_of name recs lists (suc n) ≡ roots_of name recs lists n ++ cond (is_root recs n) (root_of n ∷ []) []
  unfolding roots_of
  next_roots n = ap (roots_of name recs lists n ++◌) (record_roots n (record_kind recs n))

  pub no_roots : roots_of name recs lists 0 ≡ []
  unfolding roots_of
  no_roots = refl

  pub roots_elim : (n : ℕ) {r : Root} → Memᴰ r (roots_of name recs lists n) → (i : ℕ) × (i < n) × T (is_root recs i) × (r ≡ root_of i)
  roots_elim = each_elim (roots_of name recs lists) (is_root recs) root_of no_roots next_roots

  pub roots_intro : (n i : ℕ) → i < n → T (is_root recs i) → Memᴰ (root_of i) (roots_of name recs lists n)
  roots_intro = each_intro (roots_of name recs lists) (is_root recs) root_of no_roots next_roots

-- ---- the entries of the records

-- a count over the places up to b, where from a on one test is fixed
range_count : (on : ℕ → Bool) (test : ℕ → Bool) (l : List ℕ) (base a d b : ℕ) (fixed : Bool) → a + d ≡ b → base + b ≤ length l
    → ((i : ℕ) → a ≤ i → i < b → on i ≡ fixed)
    → count (λ e. on e && test (get_or l (base + e) 0)) (upto b)
    ≡ count (λ e. on e && test (get_or l (base + e) 0)) (upto a) + count test (cond fixed (part l (base + a) (base + b)) [])
range_count on test l base a d b fixed e room same =
    rw (← e) (go fixed (range_agree (λ i. on i && test (get_or l (base + i) 0)) (λ i. fixed && test (get_or l (base + i) 0)) a d
    (λ i x y. ap (λ c. c && test (get_or l (base + i) 0)) (same i x (omega arith)))))
  where
    go : (c : Bool)
        → count (λ i. on i && test (get_or l (base + i) 0)) (upto (a + d)) + count (λ i. c && test (get_or l (base + i) 0)) (upto a)
        ≡ count (λ i. on i && test (get_or l (base + i) 0)) (upto a) + count (λ i. c && test (get_or l (base + i) 0)) (upto (a + d))
        → count (λ i. on i && test (get_or l (base + i) 0)) (upto (a + d))
        ≡ count (λ i. on i && test (get_or l (base + i) 0)) (upto a) + count test (cond c (part l (base + a) (base + (a + d))) [])
    go true w = let z = places_count test l base a d (omega arith) in omega arith
    go false w =
        unfold count in
        (let x = count_none (λ i. false && test (get_or l (base + i) 0)) (upto a) (λ i. tt) in
        let y = count_none (λ i. false && test (get_or l (base + i) 0)) (upto (a + d)) (λ i. tt) in
        omega arith)

module _ {name : ℕ → Name} {recs lists : List ℕ} {records total : ℕ} (g : Filing name recs lists records total) where
  -- an entry is in the part of a record
  owner : (n : ℕ) → n ≤ records → (e : ℕ) → e < entries_before recs n → (i : ℕ) × (i < n) × (entries_start recs i ≤ e) × (e < entries_end recs i)
  unfolding entries_before
  owner zero h e l = absurd (omega arith)
  owner (suc n) h e l = go (ltb e (entries_before recs n)) refl (owner n (omega arith) e)
    where
      go : (b : Bool) → ltb e (entries_before recs n) ≡ b
          → (e < entries_before recs n → (i : ℕ) × (i < n) × (entries_start recs i ≤ e) × (e < entries_end recs i))
          → (i : ℕ) × (i < suc n) × (entries_start recs i ≤ e) × (e < entries_end recs i)
      go true q w = let (i, a, b, c) = w (ltb-true e (entries_before recs n) q) in (i, omega arith, b, c)
      go false q w = (n, omega arith, omega (arith, g.starts n (omega arith), ltb-false e (entries_before recs n) q), l)

  -- the fact of an entry: a record that is one, and the entry is in its part
  pub entry_owner : (e : ℕ) → e < total
      → (entry_fact lists e < records) × (record_kind recs (entry_fact lists e) ≡ assume_kind)
      × (entries_start recs (entry_fact lists e) ≤ e) × (e < entries_end recs (entry_fact lists e))
  entry_owner e h =
      let (i, l, a, b) = owner records (omega arith) e (omega (arith, g.whole)) in
      rw (g.facts i e l a b)
      (l, ⊎_elim (λ q. q) (λ q. absurd (omega (arith, g.only_facts i l q))) (equal (record_kind recs i) assume_kind), a, b)

  module _ {named uses : ℕ} (r : Records recs lists named records total uses) where
    -- the words of a record's entries are as many as its sets take
    full : (i : ℕ) → i < records → length (entries_at recs lists i) ≡ entries (disjuncts_of name (entries_at recs lists i))
    full i h =
        part_length lists (entries_base + entries_start recs i) (entries_base + entries_end recs i)
        (omega (arith, r.entries_in i h, r.few_entries, r.lists_room))
        ∙ omega (arith, g.sized i h)

    -- the count over the filed names of an ask is that over the entries of the facts that it admits
    pub upto_count : (a : Ask) (p : Name → Bool) (n : ℕ) → n ≤ records
        → count p (filed (facts (background_of name recs lists a n)))
        ≡ count (λ e. takes_part recs a (entry_fact lists e) && (ltb (entry_name lists e) no_name && p (name (entry_name lists e)))) (upto (entries_before recs n))
    unfolding decls_of background keep facts filed collect count entries_before upto
    upto_count a p zero h = refl
    upto_count a p (suc n) h =
        let end = entries_end recs n in
        ap (count p) (next_filed name recs lists a n)
        ∙ count_append p (filed (facts (background_of name recs lists a n))) _
        ∙ ap₂ ◌+◌ (upto_count a p n (omega arith)) (one (takes_part recs a n) refl)
        ∙ sym (joined (takes_part recs a n) refl)
      where
        test : ℕ → Bool
        test w = ltb (w % last_flag) no_name && p (name (w % last_flag))

        -- the entries of the record
        here : (b : Bool) → List ℕ
        here b = cond b (part lists (entries_base + entries_before recs n) (entries_base + entries_end recs n)) []

        -- those of the records up to it
        joined : (b : Bool) → takes_part recs a n ≡ b
            → count (λ e. takes_part recs a (entry_fact lists e) && test (get_or lists (entries_base + e) 0)) (upto (entries_end recs n))
            ≡ count (λ e. takes_part recs a (entry_fact lists e) && test (get_or lists (entries_base + e) 0)) (upto (entries_before recs n)) + count test (here b)
        joined b e =
            let s = g.starts n (omega arith) in
            let z = g.sized n (omega arith) in
            range_count (λ e. takes_part recs a (entry_fact lists e)) test lists entries_base (entries_before recs n)
            (entries_end recs n - entries_before recs n) (entries_end recs n) b (omega arith)
            (omega (arith, r.entries_in n (omega arith), r.few_entries, r.lists_room))
            (λ i l m. rw (g.facts n i (omega arith) (omega arith) m) e)

        one : (b : Bool) → takes_part recs a n ≡ b
            → count p (cond b (concat (disjuncts_of name (entries_at recs lists n))) []) ≡ count test (here b)
        one true e = rw (← (g.starts n (omega arith))) (listed_count p name (entries_at recs lists n) (full n (omega arith)))
        one false e = refl
