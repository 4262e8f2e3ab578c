-- The lines of the records of an accepted file ascend, so no two records stand on one line; nor does a root on that of another.
use Prim.Native.Nat.{ℕ, ◌+◌, ◌<◌}
use native.Mathlib.Omega.{arith}
use mathlib.Core.Path.{◌≡◌, refl}
use mathlib.Core.Logic.{◌⊎◌, inl, inr, ⊎_elim}
use mathlib.Core.List.Memᴰ
use mathlib.Core.List.{List, [], ◌∷◌, ◌++◌, map, map-append, append-nil, Memᴰ}
use lib.ListN.{length}
use Rattle.model.specs.Lists.{collect}
use Rattle.model.specs.Names.{Name}
use Rattle.model.specs.Lines.{lines}
use Rattle.model.specs.Terms.{Term}
use Rattle.model.specs.Summaries.{Fact, summarize_assumption}
use Rattle.model.specs.Reading.{Content, head, term, assume, fun, def, retain, root, Decl, Summary, sum_assume, sum_definefun, sum_declfun, Root, State, start, read, summarize_decl, root_of, excluded, add_line, read_file}
use Rattle.model.specs.Rounds.{facts, definitions, declarations}
use Rattle.model.proofs.ListLaws.{collect_append, collect_intro, map_intro}
use Rattle.demands.specs.LinesRead.{Distinct, none as no_more, one_more}
use Rattle.demands.specs.FileOrder.{line_of, Rising, none, one, more}
use Rattle.demands.proofs.Distinct.{distinct_collect}
use Rattle.laws.proofs.Records.{fact_summary, definition_summary, declaration_summary}
use Rattle.laws.proofs.ReadingLaws.{line_read, kept_by_file}

-- the records of the n-th line stand on it
line_n : (exclude : List Name) (terms : List Term) (n : ℕ) (c : Content) → (collect line_of (summarize_decl exclude terms n c) ≡ []) ⊎ (collect line_of (summarize_decl exclude terms n c) ≡ n ∷ [])
unfolding collect line_of summarize_decl summarize_assumption
line_n exclude terms n (head h) = inl refl
line_n exclude terms n (term node) = inl refl
line_n exclude terms n (assume name flag group t) = inr refl
line_n exclude terms n (fun name) = inr refl
line_n exclude terms n (def name t) = inr refl
line_n exclude terms n (retain names) = inl refl
line_n exclude terms n (root q name t) = inl refl

-- the root that the n-th line is stands on it
root_n : (exclude : List Name) (terms : List Term) (n : ℕ) (c : Content)
    → (map (λ (r : Root). r.line) (root_of exclude terms n c) ≡ []) ⊎ (map (λ (r : Root). r.line) (root_of exclude terms n c) ≡ n ∷ [])
unfolding root_of
root_n exclude terms n (head h) = inl refl
root_n exclude terms n (term node) = inl refl
root_n exclude terms n (assume name flag group t) = inl refl
root_n exclude terms n (fun name) = inl refl
root_n exclude terms n (def name t) = inl refl
root_n exclude terms n (retain names) = inl refl
root_n exclude terms n (root q name t) = inr refl

-- a line is a root or another record, and not both
one_sort : (exclude : List Name) (terms : List Term) (n : ℕ) (c : Content)
    → (collect line_of (summarize_decl exclude terms n c) ≡ []) ⊎ (map (λ (r : Root). r.line) (root_of exclude terms n c) ≡ [])
unfolding collect summarize_decl root_of
one_sort exclude terms n (head h) = inl refl
one_sort exclude terms n (term node) = inl refl
one_sort exclude terms n (assume name flag group t) = inr refl
one_sort exclude terms n (fun name) = inr refl
one_sort exclude terms n (def name t) = inr refl
one_sort exclude terms n (retain names) = inr refl
one_sort exclude terms n (root q name t) = inl refl

-- a number above all of ascending ones stands at their end
rising_end : {l : List ℕ} {n : ℕ} → Rising l → ((k : ℕ) → Memᴰ k l → k < n) → Rising (l ++ (n ∷ []))
rising_end none below = one
rising_end (one {n}) below = more (below n (Memᴰ.head refl)) one
rising_end (more h r) below = more h (rising_end r (λ k i. below k (Memᴰ.tail i)))

-- the first of ascending numbers is below the others
pub rising_head : {n : ℕ} {l : List ℕ} → Rising (n ∷ l) → (k : ℕ) → Memᴰ k l → n < k
rising_head one k i = absurd (Memᴰ.not-nil i)
rising_head (more {m} h r) k i = ⊎_elim (λ (e : k ≡ m). omega arith) (λ j. omega (arith, rising_head r k j)) (Memᴰ.cases_cons i)

-- the others of ascending numbers ascend
pub rising_tail : {n : ℕ} {l : List ℕ} → Rising (n ∷ l) → Rising l
rising_tail one = none
rising_tail (more h r) = r

-- ascending numbers are distinct
rising_distinct : {l : List ℕ} → Rising l → Distinct l
rising_distinct none = no_more
rising_distinct one = one_more Memᴰ.not-nil no_more
rising_distinct (more {n} h r) = one_more (λ i. let z = rising_head (more h r) n i in omega arith) (rising_distinct r)

-- before the n-th line: records stand on ascending lines below n
record LinesBelow (n : ℕ) (l : List ℕ) : Type 0 where
  rising : Rising l
  below : (k : ℕ) → Memᴰ k l → k < n

-- with a record on the n-th line, or none, they stand on ascending lines below n + 1
lines_step : (n : ℕ) (l m : List ℕ) → LinesBelow n l → (m ≡ []) ⊎ (m ≡ n ∷ []) → LinesBelow (n + 1) (l ++ m)
lines_step n l m i (inl e) = rw (e, append-nil) (record { rising = i.rising; below = λ k j. omega (arith, i.below k j) })
lines_step n l m i (inr e) =
    rw e
    (record {
      rising = rising_end i.rising i.below;
      below = λ k j. ⊎_elim (λ h. omega (arith, i.below k h)) (λ h. let p : k ≡ n = Memᴰ.eq_of_singleton h in omega arith) (Memᴰ.append_cases l j);
    })

-- two lists of lines have none in common
abbrev Apart : List ℕ → List ℕ → Type 0
Apart l m = (k : ℕ) → Memᴰ k l → Memᴰ k m → ⊥

-- lines that stand on the n-th line are not below it
not_below : (n : ℕ) {l m : List ℕ} → LinesBelow n l → (m ≡ []) ⊎ (m ≡ n ∷ []) → Apart l m
not_below n i (inl e) k x y = Memᴰ.not-nil (rw e at y)
not_below n i (inr e) k x y = let p : k ≡ n = Memᴰ.eq_of_singleton (rw e at y) in omega (arith, i.below k x)

-- lists of lines below n, with the n-th added to one of them, or to none, stay apart
apart_step : (n : ℕ) (l m l' m' : List ℕ) → LinesBelow n l → LinesBelow n l' → (m ≡ []) ⊎ (m ≡ n ∷ []) → (m' ≡ []) ⊎ (m' ≡ n ∷ [])
    → (m ≡ []) ⊎ (m' ≡ []) → Apart l l' → Apart (l ++ m) (l' ++ m')
apart_step n l m l' m' i i' at at' either h k x y =
    ⊎_elim
    (λ u. ⊎_elim (h k u) (λ (v : Memᴰ k m'). not_below n i at' k u v) (Memᴰ.append_cases l' y))
    (λ (u : Memᴰ k m). ⊎_elim (λ v. not_below n i' at k v u)
    (λ (v : Memᴰ k m'). ⊎_elim (λ e. Memᴰ.not-nil (rw e at u)) (λ e. Memᴰ.not-nil (rw e at v)) either)
    (Memᴰ.append_cases l' y))
    (Memᴰ.append_cases l x)

-- both the records and the roots do, and on no common line
record Placed (n : ℕ) (s : State) : Type 0 where
  decls : LinesBelow n (collect line_of s.decls)
  roots : LinesBelow n (map (λ (r : Root). r.line) s.roots)
  apart : Apart (collect line_of s.decls) (map (λ (r : Root). r.line) s.roots)

-- they do before line 1
placed_start : Placed 1 start
unfolding start collect
placed_start = record { decls = nowhere; roots = nowhere; apart = λ k i j. Memᴰ.not-nil i }
  where
    nowhere : LinesBelow 1 []
    nowhere = record { rising = none; below = λ k m. absurd (Memᴰ.not-nil m) }

-- they do after the n-th line, if before it
placed_line : (exclude : List Name) (n : ℕ) (s : State) (c : Content) → Placed n s → Placed (n + 1) (add_line exclude n s c)
unfolding add_line
placed_line exclude n s c i =
    record {
      decls = rw collect_append (lines_step n (collect line_of s.decls) _ i.decls (line_n (excluded exclude s) s.terms n c));
      roots = rw map-append (lines_step n (map (λ r. r.line) s.roots) _ i.roots (root_n (excluded exclude s) s.terms n c));
      apart = rw (collect_append, map-append)
          (apart_step n (collect line_of s.decls) _ (map (λ r. r.line) s.roots) _ i.decls i.roots (line_n (excluded exclude s) s.terms n c)
          (root_n (excluded exclude s) s.terms n c) (one_sort (excluded exclude s) s.terms n c) i.apart);
    }

module _ (exclude : List Name) (file : List ℕ) (s : State) (e : read_file exclude file ≡ read s) where
  -- so they do in a file that is read
  placed_file : Placed (1 + length (lines file)) s
  placed_file =
      kept_by_file exclude Placed
      (λ n s s' line r i. let l = line_read exclude n s line s' r in rw l.after (placed_line exclude n s l.content i))
      file s e placed_start

  -- the lines of its records ascend
  pub records_rise : Rising (collect line_of s.decls)
  records_rise = placed_file.decls.rising

  -- the lines of its roots ascend
  pub roots_rise : Rising (map (λ (r : Root). r.line) s.roots)
  roots_rise = placed_file.roots.rising

  -- no fact and root of it stand on one line
  pub fact_or_root : {f : Fact} {r : Root} → Memᴰ f (facts s.decls) → Memᴰ r s.roots → f.line ≡ r.line → ⊥
  unfolding line_of
  fact_or_root {f} {r} i j p =
      placed_file.apart f.line (collect_intro line_of (fact_summary s.decls i) (Memᴰ.head refl))
      (rw p (map_intro (λ (r : Root). r.line) j))

  -- no two of its records stand on one line
  pub read_file_lines : Distinct (collect line_of s.decls)
  read_file_lines = rising_distinct records_rise

module _ (decls : List Summary) (once : Distinct (collect line_of decls)) where
  -- two records on one line are one record
  one_record : {x y : Summary} (n : ℕ) → Memᴰ x decls → Memᴰ y decls → Memᴰ n (line_of x) → Memᴰ n (line_of y) → x ≡ y
  one_record n i j k l = distinct_collect line_of {z = n} decls once i j k l

  -- two facts on one line are one fact
  pub fact_by_line : {f g : Fact} → Memᴰ f (facts decls) → Memᴰ g (facts decls) → f.line ≡ g.line → f ≡ g
  unfolding line_of
  fact_by_line {f} {g} i j e =
      let is : sum_assume f ≡ sum_assume g = one_record f.line (fact_summary decls i) (fact_summary decls j) (Memᴰ.head refl) (Memᴰ.head e) in
      cc

  -- two definitions on one line are one
  pub definition_by_line : {c d : Decl} → Memᴰ c (definitions decls) → Memᴰ d (definitions decls) → c.line ≡ d.line → c ≡ d
  unfolding line_of
  definition_by_line {c} {d} i j e =
      let is : sum_definefun c ≡ sum_definefun d = one_record c.line (definition_summary decls i) (definition_summary decls j) (Memᴰ.head refl) (Memᴰ.head e) in
      cc

  -- two declarations on one line are one
  pub declaration_by_line : {c d : Decl} → Memᴰ c (declarations decls) → Memᴰ d (declarations decls) → c.line ≡ d.line → c ≡ d
  unfolding line_of
  declaration_by_line {c} {d} i j e =
      let is : sum_declfun c ≡ sum_declfun d = one_record c.line (declaration_summary decls i) (declaration_summary decls j) (Memᴰ.head refl) (Memᴰ.head e) in
      cc

  -- no fact and definition stand on one line
  pub fact_or_definition : {f : Fact} {d : Decl} → Memᴰ f (facts decls) → Memᴰ d (definitions decls) → f.line ≡ d.line → ⊥
  unfolding line_of
  fact_or_definition {f} {d} i j e =
      let is : sum_assume f ≡ sum_definefun d = one_record f.line (fact_summary decls i) (definition_summary decls j) (Memᴰ.head refl) (Memᴰ.head e) in
      let z : ◌≡◌ {A = ℕ} 0 1 = cc in
      omega arith

  -- no fact and declaration do
  pub fact_or_declaration : {f : Fact} {d : Decl} → Memᴰ f (facts decls) → Memᴰ d (declarations decls) → f.line ≡ d.line → ⊥
  unfolding line_of
  fact_or_declaration {f} {d} i j e =
      let is : sum_assume f ≡ sum_declfun d = one_record f.line (fact_summary decls i) (declaration_summary decls j) (Memᴰ.head refl) (Memᴰ.head e) in
      let z : ◌≡◌ {A = ℕ} 0 1 = cc in
      omega arith

  -- and no definition and declaration do
  pub definition_or_declaration : {c d : Decl} → Memᴰ c (definitions decls) → Memᴰ d (declarations decls) → c.line ≡ d.line → ⊥
  unfolding line_of
  definition_or_declaration {c} {d} i j e =
      let is : sum_definefun c ≡ sum_declfun d = one_record c.line (definition_summary decls i) (declaration_summary decls j) (Memᴰ.head refl) (Memᴰ.head e) in
      let z : ◌≡◌ {A = ℕ} 0 1 = cc in
      omega arith
