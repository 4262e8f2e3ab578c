-- Change 3: the definitions and the declarations on the kept list are those whose name is walked, each last met first; no
-- other list is so.
use Prim.Native.Nat.{ℕ, suc, ◌<◌}
use native.Mathlib.Omega.{arith}
use mathlib.Core.Path.{◌≡◌, refl, sym, ◌∙◌, ap, ap₂}
use mathlib.Core.Logic.{◌↔◌, ⊎_elim}
use mathlib.Core.Bool.{Bool, true, false, cond, not}
use mathlib.Core.List.Memᴰ
use mathlib.Core.List.{List, [], ◌∷◌, ◌++◌, map, reverse, reverse-cons, Memᴰ}
use lib.Dec.{T}
use Rattle.model.specs.Lists.{keep, collect}
use Rattle.model.specs.Names.{Name, same, remove}
use Rattle.model.specs.Summaries.{exclude_names, Fact}
use Rattle.model.specs.Reading.{Root, Decl, prune_decls, taken_by}
use Rattle.model.specs.Rounds.{facts, definitions, declarations, asks_for, goal_roots}
use Rattle.model.specs.Kept.{kept_names, first_met, kept_decls, kept}
use Rattle.model.proofs.ListLaws.{T_dec, cond_case, cond_true, cond_false, keep_intro, keep_elim, reverse_intro, reverse_elim, collect_intro, collect_elim, map_intro}
use Rattle.model.proofs.SetLaws.{same_eq, same_refl}
use Rattle.demands.specs.LinesRead.{records_for, Distinct, none as no_more, one_more}
use Rattle.demands.specs.Demand3.{run_of}
use Rattle.demands.specs.FileOrder.{Rising, none as none_rise, one as one_rises, more as more_rise}
use Rattle.demands.specs.Order.{first_place, Falling, none, one, more, LastMetFirst, listed_facts, DeclsInOrder, OrderFixed}
use Rattle.demands.proofs.Distinct.{distinct_map_keep}
use Rattle.demands.proofs.ListedLaws.{kept_facts_elim, kept_decls_elim}
use Rattle.demands.proofs.Queries.{asked_query}
use Rattle.demands.proofs.Background.{well_for}
use Rattle.demands.proofs.RecordLines.{rising_head, rising_tail, roots_rise}
use Rattle.demands.proofs.Pruned.{distinct_definitions, distinct_declarations}

-- a list each element of which is so related to all after it
pub data Ordered {A : Type 0} (R : A → A → Type 0) : List A → Type 0 where
  end : Ordered R []
  ahead : {x : A} {l : List A} → ((y : A) → Memᴰ y l → R x y) → Ordered R l → Ordered R (x ∷ l)

module _ {A : Type 0} {R : A → A → Type 0} where
  -- two such lists, one after the other, where those of the first are so related to those of the second
  ordered_append : {l m : List A} → Ordered R l → Ordered R m → ((x y : A) → Memᴰ x l → Memᴰ y m → R x y) → Ordered R (l ++ m)
  ordered_append end q h = q
  ordered_append (ahead {x} {l} f p) q h =
      ahead (λ y i. ⊎_elim (f y) (h x y (Memᴰ.head refl)) (Memᴰ.append_cases l i))
      (ordered_append p q (λ z y i. h z y (Memᴰ.tail i)))

  -- what is kept of such a list
  ordered_keep : (test : A → Bool) {l : List A} → Ordered R l → Ordered R (keep test l)
  unfolding keep
  ordered_keep test end = end
  ordered_keep test (ahead {x} {l} f p) =
      cond_case (Ordered R) (test x) (ahead (λ y i. f y (keep_elim test l i).0) (ordered_keep test p)) (ordered_keep test p)

  -- where the members so related are otherwise related too
  ordered_imp : {S : A → A → Type 0} {l : List A} → Ordered R l → ((x y : A) → Memᴰ x l → Memᴰ y l → R x y → S x y) → Ordered S l
  ordered_imp end h = end
  ordered_imp (ahead {x} f p) h =
      ahead (λ y i. h x y (Memᴰ.head refl) (Memᴰ.tail i) (f y i))
      (ordered_imp p (λ y z i j. h y z (Memᴰ.tail i) (Memᴰ.tail j)))

-- such a list the other way round
ordered_reverse : {A : Type 0} {R : A → A → Type 0} {l : List A} → Ordered R l → Ordered (λ x y. R y x) (reverse l)
ordered_reverse end = end
ordered_reverse {R} (ahead {x} {l} f p) =
    rw reverse-cons (ordered_append {R = λ x y. R y x} (ordered_reverse p) (ahead (λ y i. absurd (Memᴰ.not-nil i)) end)
    (λ y z i j. rw (Memᴰ.eq_of_singleton j) (f y (reverse_elim l i))))

-- lists so ordered with the same members are equal, where no two are related both ways
pub ordered_unique : {A : Type 0} {R : A → A → Type 0} → ((x y : A) → R x y → R y x → ⊥)
    → {l m : List A} → Ordered R l → Ordered R m → ((x : A) → Memᴰ x l ↔ Memᴰ x m) → l ≡ m
ordered_unique apart end end h = refl
ordered_unique apart end (ahead {x} g q) h = absurd (Memᴰ.not-nil ((h x).1 (Memᴰ.head refl)))
ordered_unique apart (ahead {x} f p) end h = absurd (Memᴰ.not-nil ((h x).0 (Memᴰ.head refl)))
ordered_unique {A} {R} apart (ahead {x} {l} f p) (ahead {x = y} {l = m} g q) h =
    let e : x ≡ y = ⊎_elim (λ e. e)
    (λ i. ⊎_elim sym (λ j. absurd (apart x y (f y j) (g x i))) (Memᴰ.cases_cons ((h y).1 (Memᴰ.head refl))))
    (Memᴰ.cases_cons ((h x).0 (Memᴰ.head refl))) in
    ap₂ ◌∷◌ e (ordered_unique apart p q (λ z. (
      λ i. ⊎_elim (λ k. absurd (twice x (f x (Memᴰ.cast (e ∙ sym k) i)))) (λ j. j) (Memᴰ.cases_cons ((h z).0 (Memᴰ.tail i))),
      λ i. ⊎_elim (λ k. absurd (twice y (g y (Memᴰ.cast (sym e ∙ sym k) i)))) (λ j. j) (Memᴰ.cases_cons ((h z).1 (Memᴰ.tail i))),
    )))
  where
    twice : (z : A) → R z z → ⊥
    twice z r = apart z z r r

-- the first of falling numbers is above the others
falling_head : {n : ℕ} {l : List ℕ} → Falling (n ∷ l) → (k : ℕ) → Memᴰ k l → k < n
falling_head one k i = absurd (Memᴰ.not-nil i)
falling_head (more {m} h r) k i = ⊎_elim (λ (e : k ≡ m). omega arith) (λ j. omega (arith, falling_head r k j)) (Memᴰ.cases_cons i)

-- the others of falling numbers fall
falling_tail : {n : ℕ} {l : List ℕ} → Falling (n ∷ l) → Falling l
falling_tail one = none
falling_tail (more h r) = r

module _ {A : Type 0} (key : A → ℕ) where
  -- elements ordered by falling keys have falling keys
  ordered_falling : {l : List A} → Ordered (λ x y. key y < key x) l → Falling (map key l)
  ordered_falling end = none
  ordered_falling (ahead f end) = one
  ordered_falling (ahead {x} f (ahead {x = y} g p)) = more {n = key x} {m = key y} (f y (Memᴰ.head refl)) (ordered_falling (ahead g p))

  -- and back
  falling_ordered : (l : List A) → Falling (map key l) → Ordered (λ x y. key y < key x) l
  falling_ordered [] r = end
  falling_ordered (x ∷ l) r = ahead (λ y i. falling_head r (key y) (map_intro key i)) (falling_ordered l (falling_tail r))

  -- elements ordered by rising keys have rising keys
  ordered_rising : {l : List A} → Ordered (λ x y. key x < key y) l → Rising (map key l)
  ordered_rising end = none_rise
  ordered_rising (ahead f end) = one_rises
  ordered_rising (ahead f (ahead {x = y} g p)) = more_rise (f y (Memᴰ.head refl)) (ordered_rising (ahead g p))

  -- and back
  rising_ordered : (l : List A) → Rising (map key l) → Ordered (λ x y. key x < key y) l
  rising_ordered [] r = end
  rising_ordered (x ∷ l) r = ahead (λ y i. rising_head r (key y) (map_intro key i)) (rising_ordered l (rising_tail r))

  -- elements ordered by falling keys are distinct
  falling_distinct : {l : List A} → Ordered (λ x y. key y < key x) l → Distinct l
  falling_distinct end = no_more
  falling_distinct (ahead {x} f p) = one_more (λ i. let z = f x i in omega arith) (falling_distinct p)

-- a name first met is walked
pub first_met_elim : (ns : List Name) {n : Name} → Memᴰ n (first_met ns) → Memᴰ n ns
unfolding first_met remove
first_met_elim [] i = i
first_met_elim (m ∷ ns) i =
    ⊎_elim Memᴰ.head (λ j. Memᴰ.tail (first_met_elim ns (keep_elim (λ n. not (same m n)) (first_met ns) j).0)) (Memᴰ.cases_cons i)

-- a walked name is first met
pub first_met_intro : (ns : List Name) {n : Name} → Memᴰ n ns → Memᴰ n (first_met ns)
unfolding first_met remove
first_met_intro [] i = i
first_met_intro (m ∷ ns) {n} i =
    ⊎_elim Memᴰ.head
    (λ j. ⊎_elim (λ t. Memᴰ.head (sym (same_eq t)))
    (λ t. Memᴰ.tail (keep_intro (λ n. not (same m n)) (first_met_intro ns j) t)) (T_dec (same m n)))
    (Memᴰ.cases_cons i)

-- the place of the first name
place_head : (n : Name) (ns : List Name) → first_place (n ∷ ns) n ≡ 0
unfolding first_place
place_head n ns = cond_true (same n n) 0 (suc (first_place ns n)) (same_refl n)

-- the place of another name
place_tail : (m : Name) (ns : List Name) (n : Name) → T (not (same m n)) → first_place (m ∷ ns) n ≡ suc (first_place ns n)
unfolding first_place
place_tail m ns n t = cond_false (same m n) 0 (suc (first_place ns n)) t

-- names first met, each before those met later
first_met_rises : (ns : List Name) → Ordered (λ m n. first_place ns m < first_place ns n) (first_met ns)
unfolding first_met remove
first_met_rises [] = end
first_met_rises (n ∷ ns) =
    ahead {x = n} {l = remove n (first_met ns)} (λ m i. omega (arith, place_head n ns, place_tail n ns m (other m i)))
    (ordered_imp (ordered_keep (λ m. not (same n m)) (first_met_rises ns))
    (λ k m i j h. omega (arith, h, place_tail n ns k (other k i), place_tail n ns m (other m j))))
  where
    other : (m : Name) → Memᴰ m (keep (λ m. not (same n m)) (first_met ns)) → T (not (same n m))
    other m i = (keep_elim (λ m. not (same n m)) (first_met ns) i).1

-- the name of a definition or declaration
abbrev decl_name : Decl → Name
decl_name d = d.name

-- definitions that all have one name, where no two have: at most one, so in any order
one_ordered : {R : Decl → Decl → Type 0} (n : Name) (l : List Decl) → Distinct (map decl_name l)
    → ((d : Decl) → Memᴰ d l → d.name ≡ n) → Ordered R l
one_ordered n [] d h = end
one_ordered n (c ∷ l) (one_more new d) h =
    ahead (λ y i. absurd (new (Memᴰ.cast (h c (Memᴰ.head refl) ∙ sym (h y (Memᴰ.tail i))) (map_intro decl_name i))))
    (one_ordered n l d (λ y i. h y (Memᴰ.tail i)))

module _ (ds : List Decl) where
  -- the definitions of a name
  abbrev of_name : Name → List Decl
  of_name n = keep (λ d. same d.name n) ds

  -- they have it
  named : (n : Name) (d : Decl) → Memᴰ d (of_name n) → d.name ≡ n
  named n d i = same_eq (keep_elim (λ d. same d.name n) ds i).1

  -- the definitions of names whose keys fall
  picked_fall : (key : Name → ℕ) → Distinct (map decl_name ds) → {l : List Name} → Ordered (λ m n. key n < key m) l
      → Ordered (λ c d. key d.name < key c.name) (collect of_name l)
  unfolding collect
  picked_fall key once end = end
  picked_fall key once (ahead {x = n} {l} f p) =
      ordered_append
      (one_ordered n (of_name n) (distinct_map_keep decl_name (λ d. same d.name n) ds once) (named n))
      (picked_fall key once p)
      (λ c d i j. let (m, k, o) = collect_elim of_name l j in rw (named n c i, named m d o) (f m k))

  -- the kept definitions, or declarations, each last met first
  kept_decls_fall : (names : List Name) → Distinct (map decl_name ds)
      → Ordered (λ c d. first_place names d.name < first_place names c.name) (kept_decls names ds)
  unfolding kept_decls
  kept_decls_fall names once = picked_fall (first_place names) once (ordered_reverse (first_met_rises names))

  -- those are kept whose name is walked
  pub kept_decls_intro : (names : List Name) {d : Decl} → Memᴰ d ds → Memᴰ d.name names → Memᴰ d (kept_decls names ds)
  unfolding kept_decls
  kept_decls_intro names {d} i j =
      collect_intro of_name (reverse_intro (first_met_intro names j)) (keep_intro (λ c. same c.name d.name) i (same_refl d.name))

  -- and no others
  pub kept_decls_name : (names : List Name) {d : Decl} → Memᴰ d (kept_decls names ds) → Memᴰ d.name names
  unfolding kept_decls
  kept_decls_name names {d} i =
      let (n, j, o) = collect_elim of_name (reverse (first_met names)) i in
      Memᴰ.cast (named n d o) (first_met_elim names (reverse_elim (first_met names) j))

  -- with option 4 the kept ones, without it none
  listed : (option_4 : Bool) (names : List Name) → Distinct (map decl_name ds)
      → LastMetFirst option_4 names ds (cond option_4 (kept_decls names ds) [])
  listed true names once =
      let falls = kept_decls_fall names once in
      record {
        noted = λ d. (λ i. (tt, kept_decls_elim names ds i, kept_decls_name names i), λ p. kept_decls_intro names p.1 p.2);
        once = falling_distinct (λ (d : Decl). first_place names d.name) falls;
        last_first = ordered_falling (λ (d : Decl). first_place names d.name) falls;
      }
  listed false names once =
      record {
        noted = λ d. (λ i. absurd (Memᴰ.not-nil i), λ p. absurd p.0);
        once = no_more;
        last_first = none;
      }

-- the lines of two lists, where both may be left out
pub lines_apart : (option_4 : Bool) (defs funs : List Decl)
    → cond option_4 (map (λ (d : Decl). d.line) (defs ++ funs)) [] ≡ map (λ (d : Decl). d.line) (cond option_4 defs [] ++ cond option_4 funs [])
lines_apart true defs funs = refl
lines_apart false defs funs = refl

-- the definitions and the declarations of every accepted file are listed in the one order
pub decls_in_order : DeclsInOrder
unfolding kept kept_names goal_roots taken_by
decls_in_order file s e a =
    let wf = well_for file s e a in
    let names = kept_names a (facts (records_for a s)) s.roots (run_of a s).reached in
    let asked : Root → Bool = λ r. asks_for a r.query in
    let line : Root → ℕ = λ r. r.line in
    record {
      roots = goal_roots a s.roots;
      of_query = λ r. (
        λ i. let (j, t) = keep_elim asked s.roots i in (j, (asked_query a r.query).0 t),
        λ p. keep_intro asked p.0 ((asked_query a r.query).1 p.1),
      );
      by_line = ordered_rising line (ordered_keep asked (rising_ordered line s.roots (roots_rise exclude_names file s e)));
      fact_names = λ f i. (wf.good_facts f (kept_facts_elim a (facts (records_for a s)) (run_of a s).reached i)).free_set;
      root_names = λ r i. wf.root_sets r (keep_elim asked s.roots i).0;
      defs = cond (prune_decls a) (kept_decls names (definitions (records_for a s))) [];
      funs = cond (prune_decls a) (kept_decls names (declarations (records_for a s))) [];
      defs_listed = listed (definitions (records_for a s)) (prune_decls a) names
          (distinct_definitions taken_by (λ d. d.name) (λ d. Memᴰ.head refl) (records_for a s) wf.distinct);
      funs_listed = listed (declarations (records_for a s)) (prune_decls a) names
          (distinct_declarations taken_by (λ d. d.name) (λ d. Memᴰ.head refl) (records_for a s) wf.distinct);
      list = ap (map (λ (f : Fact). f.line) (listed_facts a s) ++◌)
          (lines_apart (prune_decls a) (kept_decls names (definitions (records_for a s))) (kept_decls names (declarations (records_for a s))));
    }

-- what is said of the listed definitions, or declarations, leaves one list
last_met_unique : {option_4 : Bool} {names : List Name} {ds l m : List Decl}
    → LastMetFirst option_4 names ds l → LastMetFirst option_4 names ds m → l ≡ m
last_met_unique {names} {l} {m} p q =
    let key : Decl → ℕ = λ d. first_place names d.name in
    ordered_unique (λ c d h k. omega arith) (falling_ordered key l p.last_first) (falling_ordered key m q.last_first)
    (λ d. (λ i. (q.noted d).1 ((p.noted d).0 i), λ i. (p.noted d).1 ((q.noted d).0 i)))

-- no other list is in the one order
pub order_fixed : OrderFixed
order_fixed file s e a lines p =
    let q = decls_in_order file s e a in
    let line : Root → ℕ = λ r. r.line in
    let roots : p.roots ≡ q.roots =
    ordered_unique (λ x y h k. omega arith) (rising_ordered line p.roots p.by_line) (rising_ordered line q.roots q.by_line)
    (λ r. (λ i. (q.of_query r).1 ((p.of_query r).0 i), λ i. (p.of_query r).1 ((q.of_query r).0 i))) in
    let defs : p.defs ≡ q.defs = last_met_unique (rw roots at p.defs_listed) q.defs_listed in
    let funs : p.funs ≡ q.funs = last_met_unique (rw roots at p.funs_listed) q.funs_listed in
    p.list ∙ rw (defs, funs) (sym q.list)
