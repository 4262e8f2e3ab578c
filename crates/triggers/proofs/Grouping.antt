-- The groups of an `all` filed one after the other, and the triggers of the terms of a list.
use Prim.Native.Nat.{ℕ, zero, suc, ◌+◌, ◌-◌, ◌%◌, ◌≤◌, ◌<◌}
use native.Mathlib.Omega.{arith}
use mathlib.Core.Path.{◌≡◌, refl, sym, ap, ap₂, ◌∙◌}
use mathlib.Core.Bool.{Bool, true, false, not}
use mathlib.Core.List.{List, [], ◌∷◌, ◌++◌, map, map-append, append-nil}
use lib.ListN.{length, get_or, length-append}
use Rattle.model.specs.Lists.{collect, fold_left, sum, is_nil, part}
use Rattle.model.specs.Names.{Name}
use Rattle.model.specs.Summaries.{group_names, triggers_of_term, is_empty, entries}
use Rattle.model.proofs.ListLaws.{collect_append}
use Rattle.model.proofs.PartLaws.{part_nil}
use Rattle.terms.specs.Rows.{row_start, row_end, terms_of_words, group_of_words, groups_of_words, group_run, terms_of, bare_of, groups_at, Rows}
use Rattle.terms.proofs.Table.{bare_low}
use Rattle.terms.proofs.Laws.{groups_all}
use Rattle.terms.proofs.Groups.{Before, group_first, group_next, group_place, group_last, terms_split, terms_more}
use Rattle.words.specs.Slices.{SameBut}
use Rattle.gather.specs.Sets.{Fresh, Gathers, all_names, no_room, Gathered}
use Rattle.gather.specs.Visits.{visit_list, marked_at, WalksAs}
use Rattle.std.specs.Prelude.{Option, None, Some}
use Rattle.gather.proofs.Walking.{rows_marked}
use Rattle.gather.proofs.Rendering.{answer_names, answer_full}
use Rattle.words.proofs.Slices.{same_self}
use Rattle.triggers.specs.declared.Filed.{Filed}
use Rattle.triggers.specs.Entries.{filed_sets, Opened}
use Rattle.triggers.specs.Filings.{FilingState, filing, file_list, file_groups, file_parts, ask_empty, AsksAs}
use Rattle.triggers.proofs.Disjuncts.{entries_append}
use Rattle.triggers.proofs.Marked.{terms_marked, groups_marked, All, patterns, triggers_all, triggers_none, groups_more, groups_fewer}
use Rattle.gather.proofs.Fresh.{fresh_later, fresh_next}
use Rattle.triggers.proofs.Words.{after, words_count, filed_group, filed_groups, filed_all, filed_none, filed_part, filed_parts, counted_more, walked_one, names_kept, lists_kept}
use Rattle.triggers.proofs.Filing.{Sets, Comes, after_full, after_sets, comes_as, comes_is, comes_more, comes_next, comes_none, opened_then}

-- what reading the groups of a term asks
pub patterns_asks : {refs rows : List ℕ} {used many named : ℕ} → Rows refs rows used many named → (t : ℕ) → t < many
    → (16384 ≤ length rows) × (many ≤ 4096) × (t < many) × (bare_of rows t < many) × (row_start rows (bare_of rows t) ≤ 16384)
patterns_asks {rows = rows} {many = many} r t l =
    let u : bare_of rows t < many = omega (arith, bare_low r t l) in
    (r.row_room, r.few_rows, l, u, omega (arith, r.in_order (bare_of rows t) u, r.in_use (bare_of rows t) u, r.few_references))

-- what counting them asks
pub count_asks : {refs rows : List ℕ} {used many named : ℕ} → Rows refs rows used many named → (t : ℕ) → t < many
    → (16384 ≤ length rows) × (t < 4096) × (bare_of rows t < 4096)
count_asks r t l = (r.row_room, omega (arith, r.few_rows), omega (arith, r.few_rows, bare_low r t l))

-- what is read of them
pub patterns_read : (rows : List ℕ) (used many t : ℕ) {n u w e : ℕ} → n ≡ groups_at rows t → u ≡ bare_of rows t → w ≡ row_start rows u
    → e ≡ row_end rows used many u
    → (n ≡ groups_at rows t) × (w + 1 ≡ row_start rows (bare_of rows t) + 1) × (e ≡ row_end rows used many (bare_of rows t))
patterns_read rows used many t a b p q = (a, ap (◌+ 1) (p ∙ ap (row_start rows) b), q ∙ ap (row_end rows used many) b)

-- ---- the groups of an `all`

module _ {refs rows : List ℕ} {used many named t groups u e : ℕ} (r : Rows refs rows used many named) (all : All refs rows used many t groups u e) where
  -- the names of a group
  abbrev names_of : List Name → (ℕ → Name) → List ℕ → List Name
  names_of exclude name = group_names exclude (terms_of name refs rows used many)

  -- the references of the groups are in use
  pub groups_asks : {g a : ℕ} → Before refs (row_start rows u + 1) (row_end rows used many u) g a → (a ≤ e) × (e ≤ length refs)
  groups_asks b = (omega (arith, all.ends, b.high), omega (arith, all.ends, r.in_use u all.lower, r.few_references, r.ref_room))

  -- before the first group stands the body
  pub groups_first : {a : ℕ} → a ≡ row_start rows u + 1 → Before refs (row_start rows u + 1) (row_end rows used many u) 0 a
  groups_first q = rw q (group_first r all.lower all.quantifier)

  -- after the last group the references end
  groups_last : {g p : ℕ} → g ≡ groups → Before refs (row_start rows u + 1) (row_end rows used many u) g p → p ≡ e
  groups_last q b = group_last r all.lower all.quantifier (rw (q ∙ all.counted) at b) ∙ sym all.ends

  module _ {g a b : ℕ} (before : Before refs (row_start rows u + 1) (row_end rows used many u) g a) (run : b ≡ a + group_run g (part refs a e)) where
    -- the end of the group's references
    run_is : b ≡ a + group_run g (part refs a (row_end rows used many u))
    run_is = run ∙ ap (λ k. a + group_run g (part refs a k)) all.ends

    -- after the group stand the references of the next
    pub groups_next : Before refs (row_start rows u + 1) (row_end rows used many u) (g + 1) b
    groups_next = rw run_is (group_next r all.lower all.quantifier before)

    -- the group's references are in use
    pub group_asks : (a ≤ b) × (b ≤ used) × ((i : ℕ) → a ≤ i → i < b → get_or refs i 0 % 4096 < many)
    group_asks =
        let lo = before.low in
        let hi = groups_next.high in
        let few = all.lower in
        (omega arith, omega (arith, r.in_use u few), λ i x y. omega (arith, r.lower u i few (omega arith) (omega arith)))

    -- the terms of the group
    group_terms : terms_of_words (part refs a b) ≡ group_of_words (patterns refs rows used many u) g
    group_terms = rw run_is (group_place r all.lower all.quantifier before)

    -- the group filed after those before it
    pub groups_then : {names lists names₁ rows₁ lists₁ names₂ rows₂ lists₂ : List ℕ} {mark at end : ℕ} {f : Option Filed} → 8192 ≤ length lists
        → Comes names rows lists names₁ rows₁ lists₁ named mark at (λ exclude name. map (names_of exclude name)
        (groups_of_words (patterns refs rows used many u) g))
        (fold_left (file_list refs used many) (filing names rows lists mark at) (groups_of_words (patterns refs rows used many u) g)) g (filed_sets g end)
        → Comes names₁ rows₁ lists₁ names₂ rows₂ lists₂ named (mark + (end - at)) end
        (λ exclude name. group_names exclude (terms_of name refs rows₁ used many) (terms_of_words (part refs a b)) ∷ [])
        (file_list refs used many (filing names₁ rows₁ lists₁ (mark + (end - at)) end) (terms_of_words (part refs a b))) 1 f
        → Comes names rows lists names₂ rows₂ lists₂ named mark at (λ exclude name. map (names_of exclude name)
        (groups_of_words (patterns refs rows used many u) (g + 1)))
        (fold_left (file_list refs used many) (filing names rows lists mark at) (groups_of_words (patterns refs rows used many u) (g + 1))) (g + 1)
        (after g f)
    groups_then {names} {lists} {mark = mark} {at} long c d = comes_next _ _ _ (λ f. file_list refs used many f (terms_of_words (part refs a b)))
        r.few_names long
        (λ exclude name.
        ap (λ x. map (names_of exclude name) (groups_of_words (patterns refs rows used many u) g) ++ (x ∷ []))
        (ap₂ (group_names exclude) (terms_marked name c.filled.rows_same r) group_terms)
        ∙ groups_more (names_of exclude name) (patterns refs rows used many u) g)
        (ap (file_list refs used many (fold_left (file_list refs used many) (filing names rows lists mark at)
        (groups_of_words (patterns refs rows used many u) g))) group_terms
        ∙ filed_group refs used many (filing names rows lists mark at) (patterns refs rows used many u) g) refl c d

  module _ {names lists names₁ rows₁ lists₁ : List ℕ} {mark at : ℕ} (l : t < many) where
    -- where a group has no room there is none for all
    pub groups_full : {g count : ℕ} {f : Option Filed} → g < groups → f ≡ None
        → Comes names rows lists names₁ rows₁ lists₁ named mark at (λ exclude name. map (names_of exclude name)
        (groups_of_words (patterns refs rows used many u) (g + 1)))
        (fold_left (file_list refs used many) (filing names rows lists mark at) (groups_of_words (patterns refs rows used many u) (g + 1))) (g + 1)
        (after g f)
        → Comes names rows lists names₁ rows₁ lists₁ named mark at (λ exclude name. triggers_of_term exclude (terms_of name refs rows used many) t)
        (file_groups refs used many (filing names rows lists mark at) t) count None
    groups_full {g} h e c = comes_as (triggers_all r l all) (filed_all refs used many (filing names rows lists mark at) all) refl
        (comes_more (λ exclude name. groups_fewer (names_of exclude name) (patterns refs rows used many u) (g + 1) groups (omega arith))
        (filed_groups refs used many (filing names rows lists mark at) (patterns refs rows used many u) (g + 1) groups (omega arith))
        (comes_is (after_full g e) c))

    -- all groups are the triggers
    pub groups_done : {g end : ℕ} → g ≤ groups → groups ≤ g
        → Comes names rows lists names₁ rows₁ lists₁ named mark at (λ exclude name. map (names_of exclude name)
        (groups_of_words (patterns refs rows used many u) g))
        (fold_left (file_list refs used many) (filing names rows lists mark at) (groups_of_words (patterns refs rows used many u) g)) g (filed_sets g end)
        → Comes names rows lists names₁ rows₁ lists₁ named mark at (λ exclude name. triggers_of_term exclude (terms_of name refs rows used many) t)
        (file_groups refs used many (filing names rows lists mark at) t) (groups_at rows t) (filed_sets groups end)
    groups_done {g} {end} h k c =
        let q : g ≡ groups = omega arith in
        comes_as
        (λ exclude name. ap (λ n. map (names_of exclude name) (groups_of_words (patterns refs rows used many u) n)) q ∙ triggers_all r l all exclude name)
        (ap (λ n. fold_left (file_list refs used many) (filing names rows lists mark at) (groups_of_words (patterns refs rows used many u) n)) q
        ∙ filed_all refs used many (filing names rows lists mark at) all)
        (q ∙ all.counted ∙ sym (groups_all rows t u all.bare all.is_all))
        (comes_is (ap (λ n. filed_sets n end) q) c)

-- one group more, with its answer
pub groups_again : {names rows lists names₁ rows₁ lists₁ names₂ rows₂ lists₂ : List ℕ} {named mark mark₁ at m k e : ℕ} {f : Option Filed} {s t : Sets} {x y : FilingState}
    (g : ℕ) → f ≡ filed_sets k e
    → Comes names₁ rows₁ lists₁ names₂ rows₂ lists₂ named mark₁ m t y 1 f
    → Comes names rows lists names₂ rows₂ lists₂ named mark at s x (g + 1) (after g f)
    → Comes names rows lists names₂ rows₂ lists₂ named mark at s x (g + 1) (filed_sets (g + 1) e)
groups_again {k = k} {e = e} g p d c =
    let q = words_count p d.filed_as in
    comes_is (after_sets g k e (g + 1) p (omega arith)) c

-- before the first group nothing is filed
pub groups_start : {rows names lists : List ℕ} {named mark at : ℕ} (f : List Name → (ℕ → Name) → List ℕ → List Name) (step : FilingState → List ℕ → FilingState)
    (ws : List ℕ) → Opened names rows lists mark at
    → Comes names rows lists names rows lists named mark at (λ exclude name. map (f exclude name) (groups_of_words ws 0))
    (fold_left step (filing names rows lists mark at) (groups_of_words ws 0)) 0 (filed_sets 0 at)
unfolding groups_of_words fold_left
groups_start f step ws h = comes_none h

-- a term without groups files nothing
pub groups_none : {refs rows names lists : List ℕ} {used many named mark at groups : ℕ} (t : ℕ) → Rows refs rows used many named → t < many
    → groups ≡ groups_at rows t → groups ≡ 0 → Opened names rows lists mark at
    → Comes names rows lists names rows lists named mark at (λ exclude name. triggers_of_term exclude (terms_of name refs rows used many) t)
    (file_groups refs used many (filing names rows lists mark at) t) (groups_at rows t) (filed_sets 0 at)
groups_none {refs} {rows} {names} {lists} {used} {many} {mark = mark} {at} t r l c z h =
    comes_as (λ exclude name. sym (triggers_none r l c z exclude name)) (filed_none refs used many (filing names rows lists mark at) t c z) (sym z ∙ c)
    (comes_none h)

-- ---- the terms of a list

-- the term of a reference is as low as the reference says
pub term_low : {t u many : ℕ} → t ≡ u → u < many → t < many
term_low is l = rw is l

-- the triggers of the terms up to a place and of the term there
list_more : {A : Type 0} (f : ℕ → List A) (refs : List ℕ) (a i t : ℕ) → a ≤ i → i < length refs → t ≡ get_or refs i 0 % 4096
    → collect f (terms_of_words (part refs a i)) ++ f t ≡ collect f (terms_of_words (part refs a (i + 1)))
unfolding collect
list_more f refs a i t h l e = rw (terms_more refs a i h l, collect_append, e, append-nil)

-- the triggers of fewer terms take no more entries
list_fewer : (f : ℕ → List (List Name)) (refs : List ℕ) (a i e : ℕ) → a ≤ i → i ≤ e → e ≤ length refs
    → entries (collect f (terms_of_words (part refs a i))) ≤ entries (collect f (terms_of_words (part refs a e)))
list_fewer f refs a i e h k l =
    rw (terms_split refs a i e h k l, collect_append)
    (omega (arith, entries_append (collect f (terms_of_words (part refs a i))) (collect f (terms_of_words (part refs i e)))))

-- no term has no trigger
list_none : {A : Type 0} (f : ℕ → List A) (refs : List ℕ) (a i : ℕ) → i ≡ a → [] ≡ collect f (terms_of_words (part refs a i))
unfolding terms_of_words collect
list_none f refs a i q = rw (part_nil refs a i (omega arith))

-- the triggers of the terms that the references from a up to e name, by the names of the numbers
abbrev pub list_sets : List ℕ → List ℕ → ℕ → ℕ → ℕ → ℕ → Sets
list_sets refs rows used many a e exclude name = collect (triggers_of_term exclude (terms_of name refs rows used many)) (terms_of_words (part refs a e))

-- how many there are
abbrev pub list_count : List ℕ → List ℕ → ℕ → ℕ → ℕ
list_count refs rows a e = sum (map (groups_at rows) (terms_of_words (part refs a e)))

module _ {refs rows names lists : List ℕ} {used many named mark at a e : ℕ} (r : Rows refs rows used many named) (h : Opened names rows lists mark at)
    (in_use : e ≤ used) where
  -- no term files nothing
  pub list_start : {i : ℕ} → i ≡ a → Comes names rows lists names rows lists named mark at (list_sets refs rows used many a i)
      (file_parts refs used many (filing names rows lists mark at) (terms_of_words (part refs a i))) (list_count refs rows a i) (filed_sets 0 at)
  unfolding file_parts terms_of_words fold_left sum
  list_start {i} q = comes_as (λ exclude name. list_none (triggers_of_term exclude (terms_of name refs rows used many)) refs a i q)
      (rw (part_nil refs a i (omega arith))) (rw (part_nil refs a i (omega arith))) (comes_none h)

  module _ {names₁ rows₁ lists₁ names₂ rows₂ lists₂ : List ℕ} {count end i t : ℕ} {f : Option Filed} (low : a ≤ i) (high : i < e) (is : t ≡ get_or refs i 0 % 4096)
      (lower : t < many)
      (c : Comes names rows lists names₁ rows₁ lists₁ named mark at (list_sets refs rows used many a i)
      (file_parts refs used many (filing names rows lists mark at) (terms_of_words (part refs a i))) (list_count refs rows a i) (filed_sets count end))
      (d : Comes names₁ rows₁ lists₁ names₂ rows₂ lists₂ named (mark + (end - at)) end
      (λ exclude name. triggers_of_term exclude (terms_of name refs rows₁ used many) t)
      (file_groups refs used many (filing names₁ rows₁ lists₁ (mark + (end - at)) end) t) (groups_at rows₁ t) f) where
    -- the references are in the slice
    list_fits : i < length refs
    list_fits = omega (arith, r.few_references, r.ref_room)

    -- the term's after those before it
    list_then : Comes names rows lists names₂ rows₂ lists₂ named mark at (list_sets refs rows used many a (i + 1))
        (file_parts refs used many (filing names rows lists mark at) (terms_of_words (part refs a (i + 1)))) (list_count refs rows a (i + 1)) (after count f)
    list_then = comes_next _ _ _ (λ f. file_groups refs used many f t) r.few_names h.high
        (λ exclude name.
        ap (λ ts. list_sets refs rows used many a i exclude name ++ triggers_of_term exclude ts t) (terms_marked name c.filled.rows_same r)
        ∙ list_more (triggers_of_term exclude (terms_of name refs rows used many)) refs a i t low list_fits is)
        (filed_part refs used many (filing names rows lists mark at) a i low t list_fits is)
        (ap (λ n. list_count refs rows a i + n) (groups_marked c.filled.rows_same r t lower) ∙ counted_more rows refs a i t low list_fits is) c d

    -- where there is no room for them there is none for all
    pub list_full : f ≡ None → Comes names rows lists names₂ rows₂ lists₂ named mark at (list_sets refs rows used many a e)
        (file_parts refs used many (filing names rows lists mark at) (terms_of_words (part refs a e))) (list_count refs rows a e) None
    list_full q = comes_more
        (λ exclude name. list_fewer (triggers_of_term exclude (terms_of name refs rows used many)) refs a (i + 1) e (omega arith) (omega arith)
        (omega (arith, r.few_references, r.ref_room)))
        (filed_parts refs used many (filing names rows lists mark at) a (i + 1) (omega arith) e (omega arith) (omega (arith, r.few_references, r.ref_room)))
        (comes_is (after_full count q) list_then)

    -- the triggers up to the next place
    pub list_next : {k m : ℕ} → f ≡ filed_sets k m → Comes names rows lists names₂ rows₂ lists₂ named mark at (list_sets refs rows used many a (i + 1))
        (file_parts refs used many (filing names rows lists mark at) (terms_of_words (part refs a (i + 1)))) (list_count refs rows a (i + 1))
        (filed_sets (count + k) m)
    list_next {k} {m} q = comes_is (after_sets count k m (count + k) q refl) list_then

  -- a term without groups is passed over
  pub list_pass : {names₁ rows₁ lists₁ : List ℕ} {count end i t groups : ℕ} → a ≤ i → i < e → t ≡ get_or refs i 0 % 4096 → t < many
      → groups ≡ groups_at rows₁ t → groups ≡ 0
      → Comes names rows lists names₁ rows₁ lists₁ named mark at (list_sets refs rows used many a i)
      (file_parts refs used many (filing names rows lists mark at) (terms_of_words (part refs a i))) (list_count refs rows a i)
      (filed_sets count end)
      → Comes names rows lists names₁ rows₁ lists₁ named mark at (list_sets refs rows used many a (i + 1))
      (file_parts refs used many (filing names rows lists mark at) (terms_of_words (part refs a (i + 1))))
      (list_count refs rows a (i + 1)) (filed_sets count end)
  list_pass {count = count} {end} {t = t} low high is lower g z c =
      let same : count + 0 ≡ count = omega arith in
      comes_is (ap (λ n. filed_sets n end) same)
      (list_next low high is lower c (groups_none t (rows_marked c.filled.rows_same r) lower g z (opened_then h c)) refl)

  -- the triggers up to the end
  pub list_done : {names₁ rows₁ lists₁ : List ℕ} {i : ℕ} {f : Option Filed} → a ≤ i → i ≤ e → e ≤ i
      → Comes names rows lists names₁ rows₁ lists₁ named mark at (list_sets refs rows used many a i)
      (file_parts refs used many (filing names rows lists mark at) (terms_of_words (part refs a i))) (list_count refs rows a i) f
      → Comes names rows lists names₁ rows₁ lists₁ named mark at (list_sets refs rows used many a e)
      (file_parts refs used many (filing names rows lists mark at) (terms_of_words (part refs a e))) (list_count refs rows a e) f
  list_done {i = i} k x y c =
      let q : i ≡ e = omega arith in
      rw q at c

-- ---- a term without a trigger

-- how many triggers there are
triggers_length : (f : List ℕ → List Name) (ws : List ℕ) (g : ℕ) → length (map f (groups_of_words ws g)) ≡ g
unfolding groups_of_words
triggers_length f ws zero = refl
triggers_length f ws (suc g) = rw (map-append, length-append, triggers_length f ws g) (omega arith)

-- two disjuncts and more are not empty
empty_many : (l : List (List Name)) → (length l ≡ 0 → ⊥) → (length l ≡ 1 → ⊥) → false ≡ is_empty l
unfolding is_empty
empty_many [] a b = absurd (a refl)
empty_many (x ∷ []) a b = absurd (b refl)
empty_many (x ∷ y ∷ l) a b = refl

-- one is where its set is
empty_nil : (s : List Name) → length s ≡ 0 → true ≡ is_empty (s ∷ [])
unfolding is_empty is_nil
empty_nil [] e = refl
empty_nil (x ∷ s) e = absurd (let z : ⊥ = omega arith in z)

-- and is not where its set is not
empty_some : (s : List Name) → 0 < length s → false ≡ is_empty (s ∷ [])
unfolding is_empty is_nil
empty_some [] h = absurd (let z : ⊥ = omega arith in z)
empty_some (x ∷ s) h = refl

-- no trigger is empty
pub empty_none : {refs rows : List ℕ} {used many named t groups : ℕ} → Rows refs rows used many named → t < many → groups ≡ groups_at rows t → groups ≡ 0
    → (exclude : List Name) (name : ℕ → Name) → true ≡ is_empty (triggers_of_term exclude (terms_of name refs rows used many) t)
unfolding is_empty
empty_none r l c z exclude name = rw (triggers_none r l c z exclude name)

module _ {refs rows : List ℕ} {used many named t groups u e : ℕ} (r : Rows refs rows used many named) (l : t < many)
    (all : All refs rows used many t groups u e) where
  -- two groups and more are not empty
  pub empty_more : (groups ≡ 0 → ⊥) → (groups ≡ 1 → ⊥) → (exclude : List Name) (name : ℕ → Name)
      → false ≡ is_empty (triggers_of_term exclude (terms_of name refs rows used many) t)
  empty_more a b exclude name = rw (← (triggers_all r l all exclude name))
      (empty_many (map (group_names exclude (terms_of name refs rows used many)) (groups_of_words (patterns refs rows used many u) groups))
      (λ q. a (sym (triggers_length (group_names exclude (terms_of name refs rows used many)) (patterns refs rows used many u) groups) ∙ q))
      (λ q. b (sym (triggers_length (group_names exclude (terms_of name refs rows used many)) (patterns refs rows used many u) groups) ∙ q)))

  module _ {a : ℕ} (one : groups ≡ 1) (starts : a ≡ row_start rows u + 1) where
    -- the references of one group are all that stand after the body
    pub single_asks : (a ≤ e) × (e ≤ used) × ((i : ℕ) → a ≤ i → i < e → get_or refs i 0 % 4096 < many)
    single_asks =
        let b = groups_first r all starts in
        let few = all.lower in (
          (groups_asks r all b).0,
          omega (arith, all.ends, r.in_use u few),
          λ i x y. omega (arith, all.ends, r.lower u i few (omega arith) (omega (arith, all.ends))),
        )

    -- they are the terms of the group
    single_terms : terms_of_words (part refs a e) ≡ group_of_words (patterns refs rows used many u) 0
    single_terms =
        let b = groups_first r all starts in
        let last : a + group_run 0 (part refs a e) ≡ e = groups_last r all (sym one) (groups_next r all b refl) in
        group_terms r all b (sym last)

    -- they are the one trigger
    pub single_trigger : (exclude : List Name) (name : ℕ → Name)
        → triggers_of_term exclude (terms_of name refs rows used many) t
        ≡ group_names exclude (terms_of name refs rows used many) (terms_of_words (part refs a e)) ∷ []
    unfolding groups_of_words
    single_trigger exclude name =
        sym (triggers_all r l all exclude name)
        ∙ ap (λ g. map (group_names exclude (terms_of name refs rows used many)) (groups_of_words (patterns refs rows used many u) g)) one
        ∙ ap (λ ts. group_names exclude (terms_of name refs rows used many) ts ∷ []) (sym single_terms)

    module _ {names lists names' rows' lists' : List ℕ} {mark at : ℕ} {w : Option ℕ} (g : Gathered names rows lists names' rows' lists' mark at at w)
        (x : WalksAs (visit_list names refs rows used many (at - at) (terms_of_words (part refs a e))) names rows lists names' rows' lists' mark at w) where
      -- every word of the slices after gathering them without room
      single_words : (b : Bool) → (visit_list names refs rows used many (at - at) (terms_of_words (part refs a e))).full ≡ b
          → AsksAs (ask_empty refs used many names rows t) names rows lists names' rows' lists' mark (not b)
      single_words b q =
          let walk = walked_one names a at all one single_terms in
          record {
            answer = ap not (sym q ∙ ap (λ v. v.full) walk);
            name_words = names_kept g;
            row_words = x.row_words ∙ ap (λ v. marked_at 12288 mark v.walked rows) walk;
            lists_words = lists_kept g;
          }

      -- where there is no name
      pub single_none : {n : ℕ} → w ≡ Some n → AsksAs (ask_empty refs used many names rows t) names rows lists names' rows' lists' mark true
      single_none e = single_words false (answer_names at _ (sym e ∙ x.answer)).0

      -- and where there is one
      pub single_some : w ≡ None → AsksAs (ask_empty refs used many names rows t) names rows lists names' rows' lists' mark false
      single_some e = single_words true (answer_full at _ (sym e ∙ x.answer))

    -- a gathered set that has no name is empty, and one that has no room is not
    pub single_empty : (exclude : List Name) {name : ℕ → Name} {at n : ℕ} {lists : List ℕ} {f : Option ℕ} → f ≡ Some n
        → Gathers name named (group_names exclude (terms_of name refs rows used many) (terms_of_words (part refs a e))) at at lists f
        → true ≡ is_empty (triggers_of_term exclude (terms_of name refs rows used many) t)
    single_empty exclude {name} p g = rw (single_trigger exclude name) (empty_nil _ (none (rw p at g)))
      where
        none : {name : ℕ → Name} {s : List Name} {at n : ℕ} {lists : List ℕ} → Gathers name named s at at lists (Some n) → length s ≡ 0
        none (all_names is count fits small) = omega arith

    -- the other answer
    pub single_full : (exclude : List Name) {name : ℕ → Name} {at : ℕ} {lists : List ℕ} {f : Option ℕ} → f ≡ None
        → Gathers name named (group_names exclude (terms_of name refs rows used many) (terms_of_words (part refs a e))) at at lists f
        → false ≡ is_empty (triggers_of_term exclude (terms_of name refs rows used many) t)
    single_full exclude {name} p g = rw (single_trigger exclude name) (empty_some _ (some (rw p at g)))
      where
        some : {name : ℕ → Name} {s : List Name} {at : ℕ} {lists : List ℕ} → Gathers name named s at at lists None → 0 < length s
        some (no_room h f) = omega arith

-- an answer is a number or none
pub by_option : {P : Type 0} (w : Option ℕ) → ((n : ℕ) → w ≡ Some n → P) → (w ≡ None → P) → P
by_option (Some n) f g = f n refl
by_option None f g = g refl

-- tables that nothing was marked in
pub tables_kept : (names rows : List ℕ) (mark : ℕ) → Fresh names rows mark
    → SameBut 8192 2048 names names × SameBut 12288 4096 rows rows × Fresh names rows (mark + 1)
tables_kept names rows mark f = (same_self 8192 2048 names, same_self 12288 4096 rows, fresh_later mark (mark + 1) (omega arith) f)

-- tables that one set was marked in
pub tables_gathered : {names rows lists names' rows' lists' : List ℕ} {mark at room : ℕ} {r : Option ℕ} → Fresh names rows mark
    → Gathered names rows lists names' rows' lists' mark at room r
    → SameBut 8192 2048 names names' × SameBut 12288 4096 rows rows' × Fresh names' rows' (mark + 1)
tables_gathered f g = (g.names_same, g.rows_same, fresh_next f g)
