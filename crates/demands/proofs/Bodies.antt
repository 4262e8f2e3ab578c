-- Change 8: where bodies are followed the kept set is the smallest closed one, the added ones stand at the end of their group
-- by name, each line stands once, and no other list is so.
use Prim.Native.Nat.{ℕ, suc}
use mathlib.Core.Path.{◌≡◌, refl, sym, ◌∙◌, ap, ap₂}
use mathlib.Core.Logic.{◌⊎◌, inl, inr, ⊎_elim}
use mathlib.Core.Bool.{Bool, true, false, cond, not, ◌&&◌}
use mathlib.Core.List.{List, [], ◌∷◌, ◌++◌, map, map-append, append-nil, append_assoc, reverse, Memᴰ}
use lib.Dec.{T, T_not, not_T, eqb, eqb→eq, eqb_refl}
use lib.ListN.{length}
use Rattle.model.specs.Lists.{any, keep, collect}
use Rattle.model.specs.Names.{Name, order, same, mem, from_list}
use Rattle.model.specs.Summaries.{Fact}
use Rattle.model.specs.Reading.{Ask, prune_decls, follow_bodies, Root, Decl, Summary, State, taken_by}
use Rattle.model.specs.Rounds.{facts, definitions, declarations, Run, run}
use Rattle.model.specs.Kept.{ambients, kept_facts, kept_names, first_met, kept_decls, kept}
use Rattle.model.specs.Bodies.{all_followed, added_names, of_names, added_for, kept_followed}
use Rattle.std.specs.declared.cmp.Ordering.TheVariants.{Less as Before}
use Rattle.model.proofs.ListLaws.{T_and, T_dec, any_intro, any_elim, cond_true, cond_false, cond_case, option_elim, keep_intro, keep_elim, keep_all, keep_none, keep_append, collect_intro, collect_elim, collect_append, map_intro, map_elim, reverse_elim}
use Rattle.model.proofs.SetLaws.{Ascending, empty, keep_no_name, ascending_head, ascending_tail, ascending_keep, order_trans, order_irrefl, same_eq, same_refl, mem_intro, mem_elim, mem_from_list}
use Rattle.laws.proofs.BackgroundLaws.{background_groups}
use Rattle.laws.proofs.AlikeLaws.{goals_alike, run_alike, chain_alike}
use Rattle.laws.proofs.BodyLaws.{followed_law, all_closed, all_has, added_or, added_elim, added_set, added_free}
use Rattle.demands.specs.LinesRead.{LinesRead, records_for, Distinct, none}
use Rattle.demands.specs.Demand2.{kept_list, followed_list}
use Rattle.demands.specs.Demand3.{run_of}
use Rattle.demands.specs.FileOrder.{line_of}
use Rattle.demands.specs.Order.{listed_facts}
use Rattle.model.specs.Also.{chain}
use Rattle.demands.specs.Bodies.{ClosedLines, Smallest, BodiesFollowed, ListFollowed, FollowedFixed, PlainStands, FollowedOnce, ButForBodies, FollowingMeetsNothing, AddedNeverExcluded, AddedLinesNeverExcluded}
use Rattle.demands.proofs.Distinct.{keep_one_name, distinct_append, distinct_map, distinct_of_map, distinct_to_map, ascending_distinct, distinct_reverse}
use Rattle.demands.proofs.ListedLaws.{kept_facts_elim, kept_facts_once, kept_fact_line, kept_decls_elim, first_met_once, picked_once}
use Rattle.demands.proofs.NeverFree.{excluded_never_free}
use Rattle.demands.proofs.Background.{admitted_definition, well_for, lines_for}
use Rattle.demands.proofs.RecordLines.{fact_by_line, fact_or_definition, fact_or_declaration, definition_or_declaration, definition_by_line, declaration_by_line}
use Rattle.demands.proofs.Pruned.{distinct_definitions, distinct_declarations}
use Rattle.demands.proofs.Order.{Ordered, end, ahead, ordered_unique, first_met_elim, kept_decls_intro, kept_decls_name, lines_apart}

-- the name and the line of a definition or declaration
abbrev decl_name : Decl → Name
decl_name d = d.name

abbrev decl_line : Decl → ℕ
decl_line d = d.line

module _ (ds : List Decl) where
  -- the definitions of a name
  abbrev of_name : Name → List Decl
  of_name n = keep (λ d. same d.name n) ds

  -- one whose name is among the names is among those of the names
  pub of_names_intro : (names : List Name) {d : Decl} → Memᴰ d ds → Memᴰ d.name names → Memᴰ d (of_names names ds)
  unfolding of_names
  of_names_intro names {d} i j = collect_intro of_name j (keep_intro (λ c. same c.name d.name) i (same_refl d.name))

  -- and no other is
  pub of_names_elim : (names : List Name) {d : Decl} → Memᴰ d (of_names names ds) → Memᴰ d ds × Memᴰ d.name names
  unfolding of_names
  of_names_elim names m =
      let (n, i, j) = collect_elim of_name names m in
      let (k, t) = keep_elim (λ d. same d.name n) ds j in
      (k, mathlib.Core.List.Memᴰ.cast (same_eq t) i)

  -- where no two have one name, their names are those of the names that have one
  of_names_names : Distinct (map decl_name ds) → (names : List Name) → map decl_name (of_names names ds) ≡ keep (λ n. mem n (map decl_name ds)) names
  unfolding of_names collect keep
  of_names_names once [] = refl
  of_names_names once (n ∷ names) =
      map-append decl_name (of_name n) (of_names names ds)
      ∙ ap (map decl_name (of_name n) ++◌) (of_names_names once names)
      ∙ ⊎_elim has lacks (T_dec (mem n (map decl_name ds)))
    where
      others : List Name
      others = keep (λ n. mem n (map decl_name ds)) names

      has : T (mem n (map decl_name ds)) → map decl_name (of_name n) ++ others ≡ cond (mem n (map decl_name ds)) (n ∷ others) others
      has t =
          let (d, i, e) = map_elim decl_name ds (mem_elim t) in
          rw (cond_true (mem n (map decl_name ds)) (n ∷ others) others t, ← e, keep_one_name decl_name d ds once i)

      lacks : T (not (mem n (map decl_name ds))) → map decl_name (of_name n) ++ others ≡ cond (mem n (map decl_name ds)) (n ∷ others) others
      lacks t =
          rw (cond_false (mem n (map decl_name ds)) (n ∷ others) others t, keep_no_name decl_name n ds (λ m. T_not (mem n (map decl_name ds)) t (mem_intro m)))

  -- where no two have one name, those of a set of names are ascending by name
  pub of_names_set : Distinct (map decl_name ds) → {names : List Name} → Ascending names → Ascending (map decl_name (of_names names ds))
  of_names_set once {names} a = rw (of_names_names once names) (ascending_keep (λ n. mem n (map decl_name ds)) a)

  -- no line stands twice in a group, with names added that are not walked
  group_once : (names added : List Name) → Distinct added → ((n : Name) → Memᴰ n added → Memᴰ n names → ⊥)
      → Distinct (map decl_line ds) → Distinct (map decl_line (kept_decls names ds ++ of_names added ds))
  unfolding kept_decls of_names
  group_once names added once new lines =
      rw (← collect_append of_name (reverse (first_met names)) added)
      (distinct_to_map decl_line
      (picked_once decl_name ds (distinct_of_map decl_line ds lines)
      (distinct_append (distinct_reverse (first_met_once names)) once (λ n i j. new n j (first_met_elim names (reverse_elim (first_met names) i)))))
      (λ x y i j. distinct_map decl_line ds lines (member i) (member j)))
    where
      member : {d : Decl} → Memᴰ d (collect of_name (reverse (first_met names) ++ added)) → Memᴰ d ds
      member m = let (n, i, j) = collect_elim of_name (reverse (first_met names) ++ added) m in (keep_elim (λ d. same d.name n) ds j).0

-- two groups, where all may be left out
groups_apart : (b : Bool) (c c' e e' : List Decl)
    → cond b (map decl_line ((c ++ c') ++ (e ++ e'))) [] ≡ map decl_line ((cond b c [] ++ cond b c' []) ++ (cond b e [] ++ cond b e' []))
groups_apart true c c' e e' = refl
groups_apart false c c' e e' = refl

-- what holds of a group, and of none, holds where it may be left out
group_case : (P : List Decl → Type 0) (b : Bool) (c c' : List Decl) → P (c ++ c') → P [] → P (cond b c [] ++ cond b c' [])
group_case P true c c' p q = p
group_case P false c c' p q = q

module _ (decls : List Summary) (once : Distinct (collect line_of decls)) where
  -- facts, definitions and declarations of a file, one after the other: no line stands twice where none does in each
  pub parts_once : (fs : List Fact) (cs es : List Decl)
      → ((f : Fact) → Memᴰ f fs → Memᴰ f (facts decls))
      → ((c : Decl) → Memᴰ c cs → Memᴰ c (definitions decls))
      → ((e : Decl) → Memᴰ e es → Memᴰ e (declarations decls))
      → Distinct (map (λ (f : Fact). f.line) fs) → Distinct (map decl_line cs) → Distinct (map decl_line es)
      → Distinct (map (λ (f : Fact). f.line) fs ++ map decl_line (cs ++ es))
  parts_once fs cs es hf hc he df dc de =
      distinct_append df
      (rw map-append (distinct_append dc de (λ n i j.
      let (c, k, p) = map_elim decl_line cs i in
      let (e, l, q) = map_elim decl_line es j in
      definition_or_declaration decls once (hc c k) (he e l) (p ∙ sym q))))
      (λ n i j. let (f, k, p) = map_elim (λ (f : Fact). f.line) fs i in
      let (d, l, q) = map_elim decl_line (cs ++ es) j in
      ⊎_elim (λ m. fact_or_definition decls once (hf f k) (hc d m) (p ∙ sym q)) (λ m. fact_or_declaration decls once (hf f k) (he d m) (p ∙ sym q)) (mathlib.Core.List.Memᴰ.append_cases cs l))

module _ (file : List ℕ) (s : State) (accepted : LinesRead file s) (a : Ask) where
  -- the definitions and the declarations, the kept facts, the names walked and those added
  abbrev D : List Decl
  D = definitions (records_for a s)

  abbrev E : List Decl
  E = declarations (records_for a s)

  abbrev fact_lines : List ℕ
  fact_lines = map (λ (f : Fact). f.line) (listed_facts a s)

  abbrev walked : List Name
  walked = kept_names a (facts (records_for a s)) s.roots (run_of a s).reached

  abbrev added : List Name
  added = added_for a D walked

  -- the added names are a set
  added_ascending : Ascending added
  unfolding added_for
  added_ascending = cond_case Ascending (follow_bodies a) (added_set D walked) empty

  -- of names that are not walked
  added_new : (n : Name) → Memᴰ n added → Memᴰ n walked → ⊥
  unfolding added_for
  added_new n i = (added_elim D walked (option_elim (follow_bodies a) i)).1

  -- no two records stand on one line
  lines_once : Distinct (collect line_of (records_for a s))
  lines_once = lines_for file s accepted a

  -- a group: what is kept, then what is added
  abbrev group : List Decl → List Decl
  group ds = kept_decls walked ds ++ of_names added ds

  -- a group is of the definitions, or declarations, of the file
  in_group : (ds : List Decl) (d : Decl) → Memᴰ d (group ds) → Memᴰ d ds
  in_group ds d i = ⊎_elim (kept_decls_elim walked ds) (λ j. (of_names_elim ds added j).0) (mathlib.Core.List.Memᴰ.append_cases (kept_decls walked ds) i)

  -- what stands on the list without the added ones, of a definition or declaration: its name is walked
  plain_name : (ds : List Decl) (d : Decl) → ((e : Decl) → Memᴰ e ds → d.line ≡ e.line → d ≡ e) → Memᴰ d.line (map decl_line (kept_decls walked ds))
      → Memᴰ d.name walked
  plain_name ds d one i =
      let (e, j, p) = map_elim decl_line (kept_decls walked ds) i in
      rw (one e (kept_decls_elim walked ds j) (sym p)) (kept_decls_name ds walked j)

  -- each line stands once
  once_followed : Distinct (followed_list a s)
  unfolding kept_followed line_of
  once_followed =
      let b = prune_decls a in
      let wf = well_for file s accepted a in
      let within : (f : Fact) → Memᴰ f (listed_facts a s) → Memᴰ f (facts (records_for a s)) = λ f i. kept_facts_elim a (facts (records_for a s)) (run_of a s).reached i in
      rw (groups_apart b (kept_decls walked D) (of_names added D) (kept_decls walked E) (of_names added E))
      (parts_once (records_for a s) lines_once (listed_facts a s) (cond b (kept_decls walked D) [] ++ cond b (of_names added D) []) (cond b (kept_decls walked E) [] ++ cond b (of_names added E) []) within
      (group_case (λ l. (d : Decl) → Memᴰ d l → Memᴰ d D) b (kept_decls walked D) (of_names added D) (in_group D) (λ d i. absurd (mathlib.Core.List.Memᴰ.not-nil i)))
      (group_case (λ l. (d : Decl) → Memᴰ d l → Memᴰ d E) b (kept_decls walked E) (of_names added E) (in_group E) (λ d i. absurd (mathlib.Core.List.Memᴰ.not-nil i)))
      (distinct_to_map (λ (f : Fact). f.line) (kept_facts_once a (records_for a s) s.roots wf) (λ f g i j. fact_by_line (records_for a s) lines_once (within f i) (within g j)))
      (group_case (λ l. Distinct (map decl_line l)) b (kept_decls walked D) (of_names added D)
      (group_once D walked added (ascending_distinct added added_ascending) added_new (distinct_definitions line_of decl_line (λ d. mathlib.Core.List.Memᴰ.head refl) (records_for a s) lines_once)) none)
      (group_case (λ l. Distinct (map decl_line l)) b (kept_decls walked E) (of_names added E)
      (group_once E walked added (ascending_distinct added added_ascending) added_new (distinct_declarations line_of decl_line (λ d. mathlib.Core.List.Memᴰ.head refl) (records_for a s) lines_once)) none))

  -- ---- with options 4 and 8

  module _ (option_4 : T (prune_decls a)) (option_8 : T (follow_bodies a)) where
    -- the list with option 4 alone
    plain_eq : kept_list a s ≡ fact_lines ++ map decl_line (kept_decls walked D ++ kept_decls walked E)
    unfolding kept
    plain_eq = ap (fact_lines ++◌) (cond_true (prune_decls a) _ [] option_4)

    -- the names followed
    abbrev every : List Name
    every = all_followed D walked

    -- with option 8 the added names are those that bodies add
    added_eq : added ≡ added_names D walked
    unfolding added_for
    added_eq = cond_true (follow_bodies a) _ [] option_8

    -- one of the file is in its group exactly where its name is followed
    group_intro : (ds : List Decl) {d : Decl} → Memᴰ d ds → T (mem d.name every) → Memᴰ d (group ds)
    group_intro ds {d} i t =
        ⊎_elim (λ j. mathlib.Core.List.Memᴰ.append_left (of_names added ds) (kept_decls_intro ds walked i j))
        (λ j. mathlib.Core.List.Memᴰ.append_right (kept_decls walked ds) (of_names_intro ds added i (rw added_eq j)))
        (added_or D walked d.name t)

    group_elim : (ds : List Decl) {d : Decl} → Memᴰ d (group ds) → T (mem d.name every)
    group_elim ds {d} i =
        ⊎_elim (λ j. all_has D walked d.name (mem_intro (kept_decls_name ds walked j)))
        (λ j. (added_elim D walked (rw added_eq at (of_names_elim ds added {d = d} j).1)).0)
        (mathlib.Core.List.Memᴰ.append_cases (kept_decls walked ds) i)

    -- the list is the kept facts and the two groups
    followed_eq : followed_list a s ≡ fact_lines ++ map decl_line (group D ++ group E)
    unfolding kept_followed
    followed_eq = ap (fact_lines ++◌) (cond_true (prune_decls a) _ [] option_4)

    -- what stands on the list: a kept fact, or a definition or declaration whose name is followed
    data OnList (n : ℕ) : Type 0 where
      fact : Memᴰ n fact_lines → OnList n
      definition : (d : Decl) → Memᴰ d D → T (mem d.name every) → d.line ≡ n → OnList n
      declaration : (d : Decl) → Memᴰ d E → T (mem d.name every) → d.line ≡ n → OnList n

    on_list : {n : ℕ} → Memᴰ n (followed_list a s) → OnList n
    on_list {n} m = ⊎_elim fact
        (λ i. let (d, j, e) = map_elim decl_line (group D ++ group E) i in
        ⊎_elim (λ k. definition d (in_group D d k) (group_elim D k) e) (λ k. declaration d (in_group E d k) (group_elim E k) e)
        (mathlib.Core.List.Memᴰ.append_cases (group D) j))
        (mathlib.Core.List.Memᴰ.append_cases fact_lines (rw followed_eq at m))

    -- a definition or declaration whose name is followed stands on the list
    listed_part : (d : Decl) → Memᴰ d (D ++ E) → T (mem d.name every) → Memᴰ d.line (followed_list a s)
    listed_part d i t =
        rw followed_eq (mathlib.Core.List.Memᴰ.append_right fact_lines (map_intro decl_line {l = group D ++ group E}
        (⊎_elim (λ j. mathlib.Core.List.Memᴰ.append_left (group E) (group_intro D j t)) (λ j. mathlib.Core.List.Memᴰ.append_right (group D) (group_intro E j t)) (mathlib.Core.List.Memᴰ.append_cases D i))))

    -- one whose name is walked stands on the list without the added ones
    plain_part : (d : Decl) → Memᴰ d (D ++ E) → Memᴰ d.name walked → Memᴰ d.line (kept_list a s)
    plain_part d i j =
        rw plain_eq (mathlib.Core.List.Memᴰ.append_right fact_lines (map_intro decl_line {l = kept_decls walked D ++ kept_decls walked E}
        (⊎_elim (λ k. mathlib.Core.List.Memᴰ.append_left (kept_decls walked E) (kept_decls_intro D walked k j)) (λ k. mathlib.Core.List.Memᴰ.append_right (kept_decls walked D) (kept_decls_intro E walked k j))
        (mathlib.Core.List.Memᴰ.append_cases D i))))

    -- the name of a definition on the list is followed
    listed_name : (d : Decl) → Memᴰ d D → {n : ℕ} → OnList n → d.line ≡ n → T (mem d.name every)
    listed_name d i (fact m) e =
        let (f, j, p) = kept_fact_line a (facts (records_for a s)) (run_of a s).reached m in
        absurd (fact_or_definition (records_for a s) lines_once j i (p ∙ sym e))
    listed_name d i (definition c j t p) e = rw (definition_by_line (records_for a s) lines_once i j (e ∙ sym p)) t
    listed_name d i (declaration c j t p) e = absurd (definition_or_declaration (records_for a s) lines_once i j (e ∙ sym p))

    -- so is that of a declaration
    listed_fun_name : (d : Decl) → Memᴰ d E → {n : ℕ} → OnList n → d.line ≡ n → T (mem d.name every)
    listed_fun_name d i (fact m) e =
        let (f, j, p) = kept_fact_line a (facts (records_for a s)) (run_of a s).reached m in
        absurd (fact_or_declaration (records_for a s) lines_once j i (p ∙ sym e))
    listed_fun_name d i (definition c j t p) e = absurd (definition_or_declaration (records_for a s) lines_once j i (p ∙ sym e))
    listed_fun_name d i (declaration c j t p) e = rw (declaration_by_line (records_for a s) lines_once i j (e ∙ sym p)) t

    -- one that stands on the list stands on that without the added ones, or its name is added
    plain_or_added : (d : Decl) → Memᴰ d (D ++ E) → Memᴰ d.line (followed_list a s)
        → Memᴰ d.line (kept_list a s) ⊎ Memᴰ d.name (added_names D walked)
    plain_or_added d i m =
        ⊎_elim (λ j. inl (plain_part d i j)) inr
        (added_or D walked d.name
        (⊎_elim (λ j. listed_name d j (on_list m) refl) (λ j. listed_fun_name d j (on_list m) refl) (mathlib.Core.List.Memᴰ.append_cases D i)))

    -- a closed set that has the list without the added ones has each definition and declaration whose name is followed
    has_named : (has : ℕ → Bool) → ClosedLines (records_for a s) (λ n. T (has n)) → ((n : ℕ) → Memᴰ n (kept_list a s) → T (has n))
        → (k : Name) → T (mem k every) → (d : Decl) → Memᴰ d (D ++ E) → d.name ≡ k → T (has d.line)
    unfolding all_followed
    has_named has closed holds =
        followed_law D
        (λ k. (d : Decl) → Memᴰ d (D ++ E) → d.name ≡ k → T (has d.line))
        (λ d i h k t e j p. closed.has_every d e i j (mathlib.Core.List.Memᴰ.cast p (mem_elim t)) (h d (mathlib.Core.List.Memᴰ.append_left _ i) refl))
        (suc (length D)) (from_list walked)
        (λ k t d i p. holds d.line (plain_part d i (mathlib.Core.List.Memᴰ.cast p (mem_elim ((mem_from_list k walked).0 t)))))

    -- the kept set is the smallest closed one
    smallest : Smallest a s (followed_list a s)
    smallest =
        record {
          closed = record { has_every = λ d e i j k m. listed_part e j (all_closed D walked d i (listed_name d i (on_list m) refl) e.name (mem_intro k)) };
          holds = λ n m. ⊎_elim
              (λ i. rw followed_eq (mathlib.Core.List.Memᴰ.append_left _ i))
              (λ i. let (d, j, e) = map_elim decl_line (kept_decls walked D ++ kept_decls walked E) i in
              mathlib.Core.List.Memᴰ.cast (sym e) (⊎_elim
              (λ k. listed_part d (mathlib.Core.List.Memᴰ.append_left E (kept_decls_elim walked D k)) (all_has D walked d.name (mem_intro (kept_decls_name D walked k))))
              (λ k. listed_part d (mathlib.Core.List.Memᴰ.append_right D (kept_decls_elim walked E k)) (all_has D walked d.name (mem_intro (kept_decls_name E walked k))))
              (mathlib.Core.List.Memᴰ.append_cases (kept_decls walked D) j)))
              (mathlib.Core.List.Memᴰ.append_cases fact_lines (rw plain_eq at m));
          least = λ has closed holds n m. in_least has closed holds (on_list m);
        }
      where
        in_least : (has : ℕ → Bool) → ClosedLines (records_for a s) (λ n. T (has n)) → ((n : ℕ) → Memᴰ n (kept_list a s) → T (has n)) → {n : ℕ} → OnList n → T (has n)
        in_least has closed holds {n} (fact m) = holds n (rw plain_eq (mathlib.Core.List.Memᴰ.append_left (map decl_line (kept_decls walked D ++ kept_decls walked E)) m))
        in_least has closed holds (definition d i t e) = rw (← e) (has_named has closed holds d.name t d (mathlib.Core.List.Memᴰ.append_left E i) refl)
        in_least has closed holds (declaration d i t e) = rw (← e) (has_named has closed holds d.name t d (mathlib.Core.List.Memᴰ.append_right D i) refl)

  -- ---- without one of them

  -- nothing is added
  not_followed : T (not (prune_decls a && follow_bodies a)) → followed_list a s ≡ kept_list a s
  unfolding kept kept_followed added_for of_names collect
  not_followed t = ap (fact_lines ++◌) (go (prune_decls a) (follow_bodies a) t)
    where
      go : (b c : Bool) → T (not (b && c))
          → cond b (map decl_line
          ((kept_decls walked D ++ of_names (cond c (added_names D walked) []) D) ++ (kept_decls walked E ++ of_names (cond c (added_names D walked) []) E))) []
          ≡ cond b (map decl_line (kept_decls walked D ++ kept_decls walked E)) []
      go true true u = absurd u
      go true false u = rw (append-nil (kept_decls walked D), append-nil (kept_decls walked E))
      go false c u = refl

  -- ---- in either case

  -- an added definition or declaration is not on the list without the added ones
  added_apart : (d : Decl) → Memᴰ d (cond (prune_decls a) (of_names added D) [] ++ cond (prune_decls a) (of_names added E) []) → Memᴰ d.line (kept_list a s) → ⊥
  unfolding kept
  added_apart d i m =
      ⊎_elim
      (λ j. let (k, l) = of_names_elim D added (option_elim (prune_decls a) j) in
      ⊎_elim
      (λ p. let (f, u, q) = kept_fact_line a (facts (records_for a s)) (run_of a s).reached p in fact_or_definition (records_for a s) lines_once u k q)
      (λ p. ⊎_elim
      (λ q. added_new d.name l (plain_name D d (λ e u v. definition_by_line (records_for a s) lines_once k u v) q))
      (λ q. let (e, u, v) = map_elim decl_line (kept_decls walked E) q in definition_or_declaration (records_for a s) lines_once k (kept_decls_elim walked E u) (sym v))
      (of_decls p))
      (mathlib.Core.List.Memᴰ.append_cases fact_lines m))
      (λ j. let (k, l) = of_names_elim E added (option_elim (prune_decls a) j) in
      ⊎_elim
      (λ p. let (f, u, q) = kept_fact_line a (facts (records_for a s)) (run_of a s).reached p in fact_or_declaration (records_for a s) lines_once u k q)
      (λ p. ⊎_elim
      (λ q. let (e, u, v) = map_elim decl_line (kept_decls walked D) q in definition_or_declaration (records_for a s) lines_once (kept_decls_elim walked D u) k v)
      (λ q. added_new d.name l (plain_name E d (λ e u v. declaration_by_line (records_for a s) lines_once k u v) q))
      (of_decls p))
      (mathlib.Core.List.Memᴰ.append_cases fact_lines m))
      (mathlib.Core.List.Memᴰ.append_cases (cond (prune_decls a) (of_names added D) []) i)
    where
      of_decls : Memᴰ d.line (cond (prune_decls a) (map decl_line (kept_decls walked D ++ kept_decls walked E)) [])
          → Memᴰ d.line (map decl_line (kept_decls walked D)) ⊎ Memᴰ d.line (map decl_line (kept_decls walked E))
      of_decls p =
          let r : Memᴰ d.line (map decl_line (kept_decls walked D ++ kept_decls walked E)) = option_elim (prune_decls a) p in
          mathlib.Core.List.Memᴰ.append_cases (map decl_line (kept_decls walked D)) (rw map-append at r)

  -- the list is as Change 8 says
  is_followed : BodiesFollowed a s (followed_list a s)
  unfolding kept kept_followed taken_by
  is_followed =
      let b = prune_decls a in
      let wf = well_for file s accepted a in
      record {
        defs = cond b (kept_decls walked D) [];
        added_defs = cond b (of_names added D) [];
        funs = cond b (kept_decls walked E) [];
        added_funs = cond b (of_names added E) [];
        are_definitions = group_case (λ l. (d : Decl) → Memᴰ d l → Memᴰ d D) b (kept_decls walked D) (of_names added D) (in_group D) (λ d i. absurd (mathlib.Core.List.Memᴰ.not-nil i));
        are_declarations = group_case (λ l. (d : Decl) → Memᴰ d l → Memᴰ d E) b (kept_decls walked E) (of_names added E) (in_group E) (λ d i. absurd (mathlib.Core.List.Memᴰ.not-nil i));
        without = ap (fact_lines ++◌) (lines_apart b (kept_decls walked D) (kept_decls walked E));
        new = added_apart;
        list = ap (fact_lines ++◌) (groups_apart b (kept_decls walked D) (of_names added D) (kept_decls walked E) (of_names added E));
        defs_by_name = cond_case (λ l. Ascending (map decl_name l)) b (of_names_set D (distinct_definitions taken_by decl_name (λ d. mathlib.Core.List.Memᴰ.head refl) (records_for a s) wf.distinct) added_ascending) empty;
        funs_by_name = cond_case (λ l. Ascending (map decl_name l)) b (of_names_set E (distinct_declarations taken_by decl_name (λ d. mathlib.Core.List.Memᴰ.head refl) (records_for a s) wf.distinct) added_ascending) empty;
        smallest = smallest;
        as_it_was = not_followed;
      }

-- ---- no other list is so

-- a number on a list, as a test
on_intro : {n : ℕ} {l : List ℕ} → Memᴰ n l → T (any (eqb n) l)
on_intro {n} i = any_intro (eqb n) i (eqb_refl n)

on_elim : (n : ℕ) (l : List ℕ) → T (any (eqb n) l) → Memᴰ n l
on_elim n l t = let (m, i, e) = any_elim (eqb n) l t in mathlib.Core.List.Memᴰ.cast (eqb→eq n m e) i

-- by name
abbrev NameBefore : Decl → Decl → Type 0
NameBefore c d = order c.name d.name ≡ Before

by_name : (l : List Decl) → Ascending (map decl_name l) → Ordered NameBefore l
by_name [] u = end
by_name (d ∷ l) u = ahead (λ e i. ascending_head u e.name (mem_intro (map_intro decl_name i))) (by_name l (ascending_tail u))

-- two lists of declarations, each in the order of the names, with the same members are one
by_name_unique : {l m : List Decl} → Ascending (map decl_name l) → Ascending (map decl_name m)
    → ((d : Decl) → Memᴰ d l → Memᴰ d m) → ((d : Decl) → Memᴰ d m → Memᴰ d l) → l ≡ m
by_name_unique {l} {m} u v to back =
    ordered_unique {R = NameBefore} (λ c d h k. order_irrefl (order_trans c.name d.name c.name h k) refl) (by_name l u) (by_name m v) (λ d. (to d, back d))

-- the part of a list of which a test holds, where it holds of nothing else
keep_part : (test : ℕ → Bool) (x y z : List ℕ) → ((n : ℕ) → Memᴰ n x → T (not (test n))) → ((n : ℕ) → Memᴰ n y → T (test n))
    → ((n : ℕ) → Memᴰ n z → T (not (test n))) → keep test ((x ++ y) ++ z) ≡ y
keep_part test x y z p q r =
    keep_append test (x ++ y) z
    ∙ ap₂ ◌++◌ (keep_append test x y ∙ ap₂ ◌++◌ (keep_none test x p) (keep_all test y q)) (keep_none test z r)
    ∙ append-nil y

-- whether a line is that of one of these
unfoldable is_line_of : List Decl → ℕ → Bool
is_line_of ds n = any (λ d. eqb d.line n) ds

line_of_intro : {ds : List Decl} {d : Decl} → Memᴰ d ds → T (is_line_of ds d.line)
unfolding is_line_of
line_of_intro {d} i = any_intro (λ c. eqb c.line d.line) i (eqb_refl d.line)

line_of_elim : (ds : List Decl) (n : ℕ) → T (is_line_of ds n) → (d : Decl) × Memᴰ d ds × (d.line ≡ n)
unfolding is_line_of
line_of_elim ds n t = let (d, i, e) = any_elim (λ d. eqb d.line n) ds t in (d, i, eqb→eq d.line n e)

module _ (file : List ℕ) (s : State) (accepted : LinesRead file s) (a : Ask) where
  -- no two records stand on one line
  one_line : Distinct (collect line_of (records_for a s))
  one_line = lines_for file s accepted a

  -- the lines of the kept facts; whether a line is that of a definition, or of a declaration
  abbrev of_facts : List ℕ
  of_facts = map (λ (f : Fact). f.line) (listed_facts a s)

  abbrev is_def : ℕ → Bool
  is_def = is_line_of (definitions (records_for a s))

  abbrev is_fun : ℕ → Bool
  is_fun = is_line_of (declarations (records_for a s))

  fact_no_def : (n : ℕ) → Memᴰ n of_facts → T (not (is_def n))
  fact_no_def n i = not_T (is_def n) (λ t.
      let (f, j, e) = kept_fact_line a (facts (records_for a s)) (run_of a s).reached i in
      let (d, k, q) = line_of_elim (definitions (records_for a s)) n t in
      fact_or_definition (records_for a s) one_line j k (e ∙ sym q))

  fact_no_fun : (n : ℕ) → Memᴰ n of_facts → T (not (is_fun n))
  fact_no_fun n i = not_T (is_fun n) (λ t.
      let (f, j, e) = kept_fact_line a (facts (records_for a s)) (run_of a s).reached i in
      let (d, k, q) = line_of_elim (declarations (records_for a s)) n t in
      fact_or_declaration (records_for a s) one_line j k (e ∙ sym q))

  module _ {l : List ℕ} (p : BodiesFollowed a s l) where
    -- the lines of its definitions and of its declarations
    abbrev of_defs : List ℕ
    of_defs = map decl_line p.defs

    abbrev of_funs : List ℕ
    of_funs = map decl_line p.funs

    def_is : (n : ℕ) → Memᴰ n of_defs → (d : Decl) × Memᴰ d (definitions (records_for a s)) × (d.line ≡ n)
    def_is n i = let (d, j, e) = map_elim decl_line p.defs i in (d, p.are_definitions d (mathlib.Core.List.Memᴰ.append_left p.added_defs j), e)

    fun_is : (n : ℕ) → Memᴰ n of_funs → (d : Decl) × Memᴰ d (declarations (records_for a s)) × (d.line ≡ n)
    fun_is n i = let (d, j, e) = map_elim decl_line p.funs i in (d, p.are_declarations d (mathlib.Core.List.Memᴰ.append_left p.added_funs j), e)

    without_eq : kept_list a s ≡ (of_facts ++ of_defs) ++ of_funs
    without_eq = p.without ∙ ap (of_facts ++◌) (map-append decl_line p.defs p.funs) ∙ sym (append_assoc of_facts of_defs of_funs)

    -- the list without the added ones says which they are
    defs_are : keep is_def (kept_list a s) ≡ of_defs
    defs_are =
        ap (keep is_def) without_eq
        ∙ keep_part is_def of_facts of_defs of_funs fact_no_def
        (λ n i. let (d, j, e) = def_is n i in rw (← e) (line_of_intro j))
        (λ n i. not_T (is_def n) (λ t.
        let (c, j, e) = fun_is n i in
        let (d, k, q) = line_of_elim (definitions (records_for a s)) n t in
        definition_or_declaration (records_for a s) one_line k j (q ∙ sym e)))

    funs_are : keep is_fun (kept_list a s) ≡ of_funs
    funs_are =
        ap (keep is_fun) (without_eq ∙ sym (append-nil ((of_facts ++ of_defs) ++ of_funs)))
        ∙ keep_part is_fun (of_facts ++ of_defs) of_funs []
        (λ n i. ⊎_elim (fact_no_fun n)
        (λ j. not_T (is_fun n) (λ t.
        let (c, k, e) = def_is n j in
        let (d, m, q) = line_of_elim (declarations (records_for a s)) n t in
        definition_or_declaration (records_for a s) one_line k m (e ∙ sym q)))
        (mathlib.Core.List.Memᴰ.append_cases of_facts i))
        (λ n i. let (d, j, e) = fun_is n i in rw (← e) (line_of_intro j))
        (λ n i. absurd (mathlib.Core.List.Memᴰ.not-nil i))

    -- where a line of the list stands
    data Stands (n : ℕ) : Type 0 where
      plain : Memᴰ n (kept_list a s) → Stands n
      added_def : (d : Decl) → Memᴰ d p.added_defs → d.line ≡ n → Stands n
      added_fun : (d : Decl) → Memᴰ d p.added_funs → d.line ≡ n → Stands n

    stands : {n : ℕ} → Memᴰ n l → Stands n
    stands {n} i =
        ⊎_elim
        (λ j. plain (rw without_eq (mathlib.Core.List.Memᴰ.append_left of_funs (mathlib.Core.List.Memᴰ.append_left of_defs j))))
        (λ j. let (d, k, e) = map_elim decl_line ((p.defs ++ p.added_defs) ++ (p.funs ++ p.added_funs)) j in
        ⊎_elim
        (λ m. ⊎_elim
        (λ o. plain (rw without_eq (mathlib.Core.List.Memᴰ.append_left of_funs (mathlib.Core.List.Memᴰ.append_right of_facts (mathlib.Core.List.Memᴰ.cast (sym e) (map_intro decl_line o))))))
        (λ o. added_def d o e)
        (mathlib.Core.List.Memᴰ.append_cases p.defs m))
        (λ m. ⊎_elim
        (λ o. plain (rw without_eq (mathlib.Core.List.Memᴰ.append_right (of_facts ++ of_defs) (mathlib.Core.List.Memᴰ.cast (sym e) (map_intro decl_line o)))))
        (λ o. added_fun d o e)
        (mathlib.Core.List.Memᴰ.append_cases p.funs m))
        (mathlib.Core.List.Memᴰ.append_cases (p.defs ++ p.added_defs) k))
        (mathlib.Core.List.Memᴰ.append_cases of_facts (rw p.list at i))

    -- the added ones stand on the list
    def_on : (d : Decl) → Memᴰ d p.added_defs → Memᴰ d.line l
    def_on d i =
        rw p.list (mathlib.Core.List.Memᴰ.append_right of_facts (map_intro decl_line {l = (p.defs ++ p.added_defs) ++ (p.funs ++ p.added_funs)}
        (mathlib.Core.List.Memᴰ.append_left (p.funs ++ p.added_funs) (mathlib.Core.List.Memᴰ.append_right p.defs i))))

    fun_on : (d : Decl) → Memᴰ d p.added_funs → Memᴰ d.line l
    fun_on d i =
        rw p.list (mathlib.Core.List.Memᴰ.append_right of_facts (map_intro decl_line {l = (p.defs ++ p.added_defs) ++ (p.funs ++ p.added_funs)}
        (mathlib.Core.List.Memᴰ.append_right (p.defs ++ p.added_defs) (mathlib.Core.List.Memᴰ.append_right p.funs i))))

  module _ {l m : List ℕ} (p : BodiesFollowed a s l) (q : BodiesFollowed a s m) (u : T (prune_decls a)) (v : T (follow_bodies a)) where
    -- the lines of one list are on the other: each is within every closed set
    lines_within : (n : ℕ) → Memᴰ n l → Memᴰ n m
    lines_within n i =
        on_elim n m ((p.smallest u v).least (λ n. any (eqb n) m)
        (record { has_every = λ d e j k o t. on_intro ((q.smallest u v).closed.has_every d e j k o (on_elim d.line m t)) })
        (λ n j. on_intro ((q.smallest u v).holds n j)) n i)

    -- so are the added definitions and the added declarations
    defs_within : (d : Decl) → Memᴰ d p.added_defs → Memᴰ d q.added_defs
    defs_within d i = go (stands q (lines_within d.line (def_on p d i)))
      where
        there : Memᴰ d (definitions (records_for a s))
        there = p.are_definitions d (mathlib.Core.List.Memᴰ.append_right p.defs i)

        go : Stands q d.line → Memᴰ d q.added_defs
        go (plain j) = absurd (p.new d (mathlib.Core.List.Memᴰ.append_left p.added_funs i) j)
        go (added_def e j o) =
            mathlib.Core.List.Memᴰ.cast (definition_by_line (records_for a s) one_line there (q.are_definitions e (mathlib.Core.List.Memᴰ.append_right q.defs j)) (sym o)) j
        go (added_fun e j o) =
            absurd (definition_or_declaration (records_for a s) one_line there (q.are_declarations e (mathlib.Core.List.Memᴰ.append_right q.funs j)) (sym o))

    funs_within : (d : Decl) → Memᴰ d p.added_funs → Memᴰ d q.added_funs
    funs_within d i = go (stands q (lines_within d.line (fun_on p d i)))
      where
        there : Memᴰ d (declarations (records_for a s))
        there = p.are_declarations d (mathlib.Core.List.Memᴰ.append_right p.funs i)

        go : Stands q d.line → Memᴰ d q.added_funs
        go (plain j) = absurd (p.new d (mathlib.Core.List.Memᴰ.append_right p.added_defs i) j)
        go (added_def e j o) =
            absurd (definition_or_declaration (records_for a s) one_line (q.are_definitions e (mathlib.Core.List.Memᴰ.append_right q.defs j)) there o)
        go (added_fun e j o) =
            mathlib.Core.List.Memᴰ.cast (declaration_by_line (records_for a s) one_line there (q.are_declarations e (mathlib.Core.List.Memᴰ.append_right q.funs j)) (sym o)) j

  -- the lines of the four parts, one after the other
  four_parts : {l : List ℕ} (p : BodiesFollowed a s l)
      → l ≡ of_facts ++ ((map decl_line p.defs ++ map decl_line p.added_defs) ++ (map decl_line p.funs ++ map decl_line p.added_funs))
  four_parts p =
      p.list
      ∙ ap (of_facts ++◌)
      (map-append decl_line (p.defs ++ p.added_defs) (p.funs ++ p.added_funs)
      ∙ ap₂ ◌++◌ (map-append decl_line p.defs p.added_defs) (map-append decl_line p.funs p.added_funs))

  -- two such lists are one
  one_list : {l m : List ℕ} → BodiesFollowed a s l → BodiesFollowed a s m → l ≡ m
  one_list {l} {m} p q =
      ⊎_elim
      (λ t. let (u, v) = (T_and (prune_decls a) (follow_bodies a)).0 t in
      let defs : map decl_line p.defs ≡ map decl_line q.defs = sym (defs_are p) ∙ defs_are q in
      let funs : map decl_line p.funs ≡ map decl_line q.funs = sym (funs_are p) ∙ funs_are q in
      let new_defs : p.added_defs ≡ q.added_defs = by_name_unique p.defs_by_name q.defs_by_name (defs_within p q u v) (defs_within q p u v) in
      let new_funs : p.added_funs ≡ q.added_funs = by_name_unique p.funs_by_name q.funs_by_name (funs_within p q u v) (funs_within q p u v) in
      four_parts p
      ∙ ap (of_facts ++◌) (ap₂ ◌++◌ (ap₂ ◌++◌ defs (ap (map decl_line) new_defs)) (ap₂ ◌++◌ funs (ap (map decl_line) new_funs)))
      ∙ sym (four_parts q))
      (λ t. p.as_it_was t ∙ sym (q.as_it_was t))
      (T_dec (prune_decls a && follow_bodies a))

-- a list kept by a test of which parts hold and others do not
keep_parts : (test : ℕ → Bool) (x y u z v : List ℕ) → ((n : ℕ) → Memᴰ n x → T (test n)) → ((n : ℕ) → Memᴰ n y → T (test n))
    → ((n : ℕ) → Memᴰ n u → T (not (test n))) → ((n : ℕ) → Memᴰ n z → T (test n)) → ((n : ℕ) → Memᴰ n v → T (not (test n)))
    → keep test (x ++ ((y ++ u) ++ (z ++ v))) ≡ x ++ (y ++ z)
keep_parts test x y u z v a b c d e =
    keep_append test x ((y ++ u) ++ (z ++ v))
    ∙ ap₂ ◌++◌ (keep_all test x a)
    (keep_append test (y ++ u) (z ++ v)
    ∙ ap₂ ◌++◌
    (keep_append test y u ∙ ap₂ ◌++◌ (keep_all test y b) (keep_none test u c) ∙ append-nil y)
    (keep_append test z v ∙ ap₂ ◌++◌ (keep_all test z d) (keep_none test v e) ∙ append-nil z))

-- the list is so
pub list_followed : ListFollowed
list_followed file s accepted a = is_followed file s accepted a

-- each line stands once
pub followed_once : FollowedOnce
followed_once file s accepted a = once_followed file s accepted a

-- no other list is
pub followed_fixed : FollowedFixed
followed_fixed file s accepted a lines p = one_list file s accepted a p (list_followed file s accepted a)

-- the list without the added ones stands in it
pub plain_stands : PlainStands
plain_stands file s accepted a =
    ap (keep on) (four_parts file s accepted a p)
    ∙ keep_parts on fs (map decl_line p.defs) (map decl_line p.added_defs) (map decl_line p.funs) (map decl_line p.added_funs)
    (λ n i. is_on n (mathlib.Core.List.Memᴰ.append_left _ i))
    (λ n i. is_on n (mathlib.Core.List.Memᴰ.append_right fs (mathlib.Core.List.Memᴰ.append_left _ i)))
    (λ n i. is_new n p.added_defs i (λ d j. mathlib.Core.List.Memᴰ.append_left p.added_funs j))
    (λ n i. is_on n (mathlib.Core.List.Memᴰ.append_right fs (mathlib.Core.List.Memᴰ.append_right (map decl_line p.defs) i)))
    (λ n i. is_new n p.added_funs i (λ d j. mathlib.Core.List.Memᴰ.append_right p.added_defs j))
    ∙ sym plain
  where
    p : BodiesFollowed a s (followed_list a s)
    p = list_followed file s accepted a

    fs : List ℕ
    fs = map (λ (f : Fact). f.line) (listed_facts a s)

    on : ℕ → Bool
    on n = any (eqb n) (kept_list a s)

    plain : kept_list a s ≡ fs ++ (map decl_line p.defs ++ map decl_line p.funs)
    plain = p.without ∙ ap (fs ++◌) (map-append decl_line p.defs p.funs)

    is_on : (n : ℕ) → Memᴰ n (fs ++ (map decl_line p.defs ++ map decl_line p.funs)) → T (on n)
    is_on n i = on_intro {l = kept_list a s} (rw plain i)

    is_new : (n : ℕ) (ds : List Decl) → Memᴰ n (map decl_line ds) → ((d : Decl) → Memᴰ d ds → Memᴰ d (p.added_defs ++ p.added_funs)) → T (not (on n))
    is_new n ds i among = not_T (on n) (λ t.
        let (d, j, e) = map_elim decl_line ds i in
        p.new d (among d j) (mathlib.Core.List.Memᴰ.cast e (on_elim n (kept_list a s) t)))

-- ---- option 8 changes no run

-- the same list without what bodies add
kept_alike : (a b : Ask) (decls : List Summary) (roots : List Root) (reached : List Name) → ButForBodies a b
    → kept a decls roots reached ≡ kept b decls roots reached
unfolding kept kept_names kept_facts ambients
kept_alike a b decls roots reached h = rw (goals_alike a b roots h.queries, h.ambients, h.pruning)

-- option 8 changes neither the run nor the list without what bodies add
pub following_meets_nothing : FollowingMeetsNothing
following_meets_nothing a b h file s accepted =
    let same = background_groups a b s.decls h.admitted in
    let same_run : run_of a s ≡ run_of b s = run_alike a b h.queries h.ambients h.pretyping (records_for a s) s.roots ∙ ap (λ decls. run b decls s.roots) same in
    let listed : kept a (records_for a s) s.roots (run_of b s).reached ≡ kept_list b s =
    kept_alike a b (records_for a s) s.roots (run_of b s).reached h ∙ ap (λ decls. kept b decls s.roots (run_of b s).reached) same in (
      same_run,
      ap (λ (r : Run). kept a (records_for a s) s.roots r.reached) same_run ∙ listed,
      λ qs. chain_alike a b h.ambients h.pretyping (records_for a s) s.roots qs ∙ ap (λ decls. chain b decls s.roots qs) same,
    )

-- no name that bodies add is excluded
pub added_never_excluded : AddedNeverExcluded
added_never_excluded file s accepted a name i out =
    let (d, j, k) = added_free (definitions (records_for a s)) (kept_names a (facts (records_for a s)) s.roots (run_of a s).reached) i in
    (excluded_never_free file s accepted name out).in_definition d (admitted_definition a s.decls j) k

-- no definition or declaration that bodies add has an excluded name
pub added_lines_never_excluded : AddedLinesNeverExcluded
added_lines_never_excluded file s accepted a d i m new out =
    ⊎_elim
    (λ t. let (u, v) = (T_and (prune_decls a) (follow_bodies a)).0 t in
    ⊎_elim new (λ j. added_never_excluded file s accepted a d.name j out) (plain_or_added file s accepted a u v d i m))
    (λ t. new (rw (not_followed file s accepted a t) at m))
    (T_dec (prune_decls a && follow_bodies a))
