-- The names that a walk adds are those that `model` gives.
use Prim.Native.Nat.{ℕ, zero, suc, ◌+◌, ◌-◌, ◌%◌, ◌≤◌, ◌<◌}
use native.Mathlib.Nat.{not-suc-le-zero}
use native.Mathlib.Omega.{arith}
use mathlib.Core.Path.{◌≡◌, refl, sym, ap, ◌∙◌}
use mathlib.Core.Logic.{◌⊎◌, inl, inr, ⊎_elim}
use mathlib.Core.List.Memᴰ
use mathlib.Core.List.{List, [], ◌∷◌, map, Memᴰ}
use lib.ListN.{length, get_or, length-map}
use lib.Dec.{T}
use Rattle.model.specs.Lists.{fold_left, part}
use Rattle.model.specs.Names.{Name, mem, add, add_by, from_list, union}
use Rattle.model.specs.Terms.{term, references}
use Rattle.model.specs.Summaries.{free_top_level_names, group_names}
use Rattle.std.specs.declared.cmp.Ordering.{Ordering as Order}
use Rattle.model.proofs.ListLaws.{T_false, false_T, map_intro, map_elim}
use Rattle.model.proofs.SetLaws.{mem_intro, mem_elim, mem_cons, mem_later, mem_union, mem_from_list, mem_diff, Compared, first, equal as equal_names, second, compared, Ascending, empty, ascending_union, ascending_from_list, ascending_diff, ascending_ext, subset_length}
use Rattle.model.proofs.PartLaws.{part_cons, part_elim, part_intro, part_length, part_nil}
use Rattle.std.specs.Prelude.{Option, None as none, Some as some}
use Rattle.terms.specs.Rows.{row_kind, row_op, row_head, row_start, row_extra, row_end, terms_of_words, op_of_code, node_of, terms_of, Rows}
use Rattle.gather.specs.Sets.{name_mark, Named, Gathers, all_names, no_room, ended}
use Rattle.gather.specs.Walks.{Occurs, own, under, Free, Among, References, Comes, whole, over, Steps, MarkedListed}
use Rattle.terms.proofs.Table.{own_names, Inside, node_elim, node_intro, own_elim, own_intro, refs_elim, refs_intro, table, entry, table_all, table_term, table_ascending, row_right, kind_small}

-- ---- the free names of a term

module _ {refs rows : List ℕ} {used many named : ℕ} (r : Rows refs rows used many named) where
  -- a name that occurs has a number
  pub occurs_named : {t k : ℕ} → t < many → Occurs refs rows used many t k → k < named
  occurs_named l (own {t} h e) = rw (← e) (r.headed t l h)
  occurs_named l (under {t} i a b o) = let d = r.lower t i l a b in occurs_named (omega arith) o

  module _ (name : ℕ → Name) where
    -- a name that occurs in a term is free in it
    free_intro : (n : ℕ) {t k : ℕ} → t < n → n ≤ many → Occurs refs rows used many t k → T (mem (name k) (term (table name refs rows used many n) t).names)
    unfolding entry node_of
    free_intro n h l (own {t} p e) = rw (table_term name refs rows used many n t h)
        (node_intro (table name refs rows used many t) (node_of name refs rows used many t)
        (inl (rw (← e) (own_intro (row_kind rows t) (op_of_code (row_op rows t)) (name (row_head rows t))
        (part refs (row_start rows t) (row_end rows used many t)) (row_extra rows t) p))))
    free_intro n h l (under {t} i a b o) =
        let room = r.ref_room in
        let few = r.few_references in
        let m : t < many = omega arith in
        let most = r.in_use t m in
        let d = r.lower t i m a b in
        rw (table_term name refs rows used many n t h) (node_intro (table name refs rows used many t) (node_of name refs rows used many t)
        (inr (record {
          which = get_or refs i 0 % 4096;
          among = refs_intro (row_kind rows t) (op_of_code (row_op rows t)) (name (row_head rows t)) (part refs (row_start rows t) (row_end rows used many t))
              (row_extra rows t) (row_right name refs rows used many r t m) (part_intro refs (row_start rows t) (row_end rows used many t) i (omega arith) a b);
          free = free_intro t d (omega arith) o;
        })))

    -- a name is that of a number that occurs
    pub record Numbered (t : ℕ) (x : Name) : Type 0 where
      pub number : ℕ
      pub occurs : Occurs refs rows used many t number
      pub is : x ≡ name number

    -- a name that is free in a term occurs in it
    free_elim : (b n t : ℕ) {x : Name} → t < b → t < n → n ≤ many → T (mem x (term (table name refs rows used many n) t).names) → Numbered t x
    unfolding entry node_of
    free_elim zero n t h l k m = absurd (not-suc-le-zero h)
    free_elim (suc b) n t {x} h l k m =
        ⊎_elim here (there (λ u d. free_elim b t u (omega arith) d (omega arith)))
        (node_elim (table name refs rows used many t) (node_of name refs rows used many t) (rw (table_term name refs rows used many n t l) at m))
      where
        here : Memᴰ x (own_names (node_of name refs rows used many t)) → Numbered t x
        here q = let (p, e) = own_elim (row_kind rows t) (op_of_code (row_op rows t)) (name (row_head rows t))
            (part refs (row_start rows t) (row_end rows used many t)) (row_extra rows t) (kind_small rows t) q in
            record { number = row_head rows t; occurs = own {t = t} p refl; is = e }

        there : ((u : ℕ) → u < t → T (mem x (term (table name refs rows used many t) u).names) → Numbered u x)
            → Inside (table name refs rows used many t) (references (node_of name refs rows used many t)) x → Numbered t x
        there go p =
            let room = r.ref_room in
            let few = r.few_references in
            let v : t < many = omega arith in
            let most = r.in_use t v in
            let q = refs_elim (row_kind rows t) (op_of_code (row_op rows t)) (name (row_head rows t)) (part refs (row_start rows t) (row_end rows used many t))
            (row_extra rows t) (row_right name refs rows used many r t v) p.among in
            let w = part_elim {l = refs} {a = row_start rows t} {e = row_end rows used many t} (omega arith) q.among in
            let e : p.which ≡ get_or refs w.place 0 % 4096 = q.is ∙ ap (◌% 4096) (sym w.is) in
            let d = r.lower t w.place v w.low w.high in
            let z = go (get_or refs w.place 0 % 4096) d (rw e at p.free) in
            record { number = z.number; occurs = under {t = t} w.place w.low w.high z.occurs; is = z.is }

-- ---- sets of names

-- a set whose names are those of the numbers of which P holds
pub record SetOf (name : ℕ → Name) (P : ℕ → Type 0) (set : List Name) : Type 0 where
  pub is_set : Ascending set
  pub into : (k : ℕ) → P k → T (mem (name k) set)
  pub from : (x : Name) → T (mem x set) → (k : ℕ) × (P k × (x ≡ name k))

module _ {names refs rows : List ℕ} {used many named : ℕ} {exclude : List Name} (name : ℕ → Name) (r : Rows refs rows used many named)
    (d : Named exclude name names named) where
  -- the names that a term counts
  pub term_set : (t : ℕ) → t < many → SetOf name (Free names refs rows used many t) (free_top_level_names exclude (terms_of name refs rows used many) t)
  unfolding free_top_level_names
  term_set t l = rw (table_all name refs rows used many) (record {
    is_set = ascending_diff exclude (table_ascending name refs rows used many many t);
    into = λ k f. (mem_diff (name k) (term (table name refs rows used many many) t).names exclude).1
        (free_intro r name many l (omega arith) f.occurs, false_T (sym (d.excluded k (occurs_named r l f.occurs)) ∙ f.counts.counted));
    from = λ x m.
        let (a, b) = (mem_diff x (term (table name refs rows used many many) t).names exclude).0 m in
        let z = free_elim r name (suc t) many t (omega arith) l (omega arith) a in
        let s = occurs_named r l z.occurs in
        let few = r.few_names in (
          z.number,
          (
            record {
              occurs = z.occurs;
              counts = record {
                small = omega arith;
                counted = d.excluded z.number s
                    ∙ T_false (mem (name z.number) exclude) (rw z.is at b);
              };
            },
            z.is,
          ),
        );
  })

-- the names that a term counts are a set
free_ascending : (exclude : List Name) (name : ℕ → Name) (refs rows : List ℕ) (used many t : ℕ)
    → Ascending (free_top_level_names exclude (terms_of name refs rows used many) t)
unfolding free_top_level_names
free_ascending exclude name refs rows used many t = rw (table_all name refs rows used many)
    (ascending_diff exclude (table_ascending name refs rows used many many t))

module _ (f : ℕ → List Name) where
  -- a name of the union is one of the first set or of one of the others
  unions_elim : (acc : List Name) (ts : List ℕ) (x : Name) → T (mem x (fold_left (λ lists t. union lists (f t)) acc ts))
      → T (mem x acc) ⊎ ((t : ℕ) × (Memᴰ t ts × T (mem x (f t))))
  unfolding fold_left
  unions_elim acc [] x h = inl h
  unions_elim acc (t ∷ ts) x h = ⊎_elim
      (λ m. ⊎_elim inl (λ k. inr (t, (Memᴰ.head refl, k))) ((mem_union x acc (f t)).0 m))
      (λ (u, (m, k)). inr (u, (Memᴰ.tail m, k)))
      (unions_elim (union acc (f t)) ts x h)

  -- and back
  unions_intro : (acc : List Name) (ts : List ℕ) (x : Name) → T (mem x acc) ⊎ ((t : ℕ) × (Memᴰ t ts × T (mem x (f t))))
      → T (mem x (fold_left (λ lists t. union lists (f t)) acc ts))
  unfolding fold_left
  unions_intro acc [] x h = ⊎_elim (λ k. k) (λ (t, (m, k)). absurd (Memᴰ.not-nil m)) h
  unions_intro acc (t ∷ ts) x h = unions_intro (union acc (f t)) ts x (⊎_elim
      (λ k. inl ((mem_union x acc (f t)).1 (inl k)))
      (λ (u, (m, k)). ⊎_elim (λ e. inl ((mem_union x acc (f t)).1 (inr (rw e at k)))) (λ n. inr (u, (n, k))) (Memᴰ.cases_cons m))
      h)

  -- the union is a set
  unions_ascending : (acc : List Name) (ts : List ℕ) → Ascending acc → ((t : ℕ) → Ascending (f t)) → Ascending (fold_left (λ lists t. union lists (f t)) acc ts)
  unfolding fold_left
  unions_ascending acc [] a h = a
  unions_ascending acc (t ∷ ts) a h = unions_ascending (union acc (f t)) ts (ascending_union acc (h t)) h

module _ {names refs rows : List ℕ} {used many named : ℕ} {exclude : List Name} (name : ℕ → Name) (r : Rows refs rows used many named)
    (d : Named exclude name names named) where
  -- the names that the terms of a list of references count
  pub list_set : {a e : ℕ} → References refs used many a e → SetOf name (Among names refs rows used many a e)
      (group_names exclude (terms_of name refs rows used many) (terms_of_words (part refs a e)))
  unfolding group_names terms_of_words
  list_set {a} {e} g =
      let room = r.ref_room in
      let few = r.few_references in
      let most = g.in_use in
      let fits : e ≤ length refs = omega arith in
      record {
        is_set = unions_ascending free [] (map (λ w. w % 4096) (part refs a e)) empty ascending;
        into = λ k m. unions_intro free [] (map (λ w. w % 4096) (part refs a e)) (name k)
            (inr (
              get_or refs m.place 0 % 4096,
              (
                map_intro (λ w. w % 4096) (part_intro refs a e m.place fits m.low m.high),
                (term_set name r d (get_or refs m.place 0 % 4096) (g.in_table m.place m.low m.high)).into k m.free,
              ),
            ));
        from = λ x h. ⊎_elim (λ k. absurd (none x k)) (λ (t, (m, k)). found fits x t m k) (unions_elim free [] (map (λ w. w % 4096) (part refs a e)) x h);
      }
    where
      free : ℕ → List Name
      free = free_top_level_names exclude (terms_of name refs rows used many)

      ascending : (t : ℕ) → Ascending (free t)
      ascending t = free_ascending exclude name refs rows used many t

      none : (x : Name) → T (mem x []) → ⊥
      none x k = Memᴰ.not-nil (mem_elim k)

      found : e ≤ length refs → (x : Name) (t : ℕ) → Memᴰ t (map (λ w. w % 4096) (part refs a e)) → T (mem x (free t))
          → (k : ℕ) × (Among names refs rows used many a e k × (x ≡ name k))
      found fits x t m k =
          let (w, n, q) = map_elim (λ w. w % 4096) (part refs a e) m in
          let p = part_elim {l = refs} {a = a} {e = e} fits n in
          let u : t ≡ get_or refs p.place 0 % 4096 = sym q ∙ ap (◌% 4096) (sym p.is) in
          let (i, (f, v)) = (term_set name r d (get_or refs p.place 0 % 4096) (g.in_table p.place p.low p.high)).from x (rw u at k) in
          (i, (record { place = p.place; low = p.low; high = p.high; free = f }, v))

-- ---- what gathering comes to

-- a list of names no two of which are alike
data Apart : List Name → Type 0 where
  nothing : Apart []
  more : {n : Name} {ns : List Name} → (T (mem n ns) → ⊥) → Apart ns → Apart (n ∷ ns)

-- a set with a new name has one more
add_length : (n : Name) (l : List Name) → (T (mem n l) → ⊥) → length (add n l) ≡ suc (length l)
unfolding add add_by
add_length n [] h = refl
add_length n (m ∷ ms) h = go (add n ms) (add_length n ms (λ t. h (mem_later n m ms t))) (compared n m)
  where
    go : (w : List Name) → length w ≡ suc (length ms) → {o : Order} → Compared n m o → length (add_by o n m ms w) ≡ suc (suc (length ms))
    go w e (first p) = refl
    go w e (equal_names q) = absurd (h ((mem_cons n m ms).1 (inl q)))
    go w e (second p) = ap suc e

-- the set of names no two of which are alike has as many
apart_length : {l : List Name} → Apart l → length (from_list l) ≡ length l
unfolding from_list
apart_length nothing = refl
apart_length (more {n} {ns} h a) = add_length n (from_list ns) (λ t. h ((mem_from_list n ns).0 t)) ∙ ap suc (apart_length a)

module _ (name : ℕ → Name) where
  -- a name of some words' is that of one of them
  map_place : (lists : List ℕ) (a e : ℕ) {x : Name} → e ≤ length lists → T (mem x (map name (part lists a e)))
      → (i : ℕ) × ((a ≤ i) × (i < e) × (x ≡ name (get_or lists i 0)))
  map_place lists a e h m =
      let (k, n, q) = map_elim name (part lists a e) (mem_elim m) in
      let p = part_elim {l = lists} {a = a} {e = e} h n in
      (p.place, (p.low, p.high, sym q ∙ ap name (sym p.is)))

  -- the name of a word at a place is one of the words' names
  place_map : (lists : List ℕ) (a e i : ℕ) → e ≤ length lists → a ≤ i → i < e → T (mem (name (get_or lists i 0)) (map name (part lists a e)))
  place_map lists a e i h l k = mem_intro (map_intro name (part_intro lists a e i h l k))

  -- words whose names are all different
  words_apart : (lists : List ℕ) (d a e : ℕ) → e - a ≡ d → e ≤ length lists → ((i j : ℕ) → a ≤ i → i < j → j < e → name (get_or lists i 0) ≡ name (get_or lists j 0) → ⊥)
      → Apart (map name (part lists a e))
  words_apart lists zero a e q h u = rw (part_nil lists a e (omega arith)) nothing
  words_apart lists (suc d) a e q h u =
      rw (part_cons lists a e (omega arith) h)
      (more (λ t. let (i, (l, k, v)) = map_place lists (a + 1) e h t in u a i (omega arith) (omega arith) k v)
      (words_apart lists d (a + 1) e (omega arith) h (λ i j l k b v. u i j (omega arith) k b v)))

-- where no name has the mark none is in the slice
pub start_listed : {names lists : List ℕ} {mark from : ℕ} → ((k : ℕ) → k < 2048 → name_mark names k ≡ mark → ⊥) → MarkedListed names lists mark from from
start_listed fresh = record {
  place = λ k l e. absurd (fresh k l e);
  small = λ i a b. omega arith;
  marked = λ i a b. let z : ⊥ = omega arith in absurd z;
  once = λ i j a b c e. omega arith;
}

module _ {P : ℕ → Type 0} (names lists names' lists' : List ℕ) (mark from room named : ℕ) {name : ℕ → Name} {set : List Name}
    (low : from ≤ room) (high : room ≤ length lists) (fresh : (k : ℕ) → k < 2048 → name_mark names k ≡ mark → ⊥)
    (small : (k : ℕ) → P k → (k < named) × (k < 2048)) (distinct : (m n : ℕ) → m < named → n < named → name m ≡ name n → m ≡ n) (s : SetOf name P set) where
  module _ (n : ℕ) (fits : n ≤ length lists') (w : MarkedListed names' lists' mark from n)
      (sound : (k : ℕ) → k < 2048 → name_mark names' k ≡ mark → (name_mark names k ≡ mark) ⊎ P k) where
    -- a name in the slice is one of the set
    listed_in : (i : ℕ) → from ≤ i → i < n → P (get_or lists' i 0)
    listed_in i a b = ⊎_elim (λ e. absurd (fresh (get_or lists' i 0) (w.small i a b) e)) (λ p. p) (sound (get_or lists' i 0) (w.small i a b) (w.marked i a b))

    -- the names in the slice are all different
    listed_apart : Apart (map name (part lists' from n))
    listed_apart = words_apart name lists' (n - from) from n refl fits
        (λ i j a b c e. w.once i j a b c (distinct (get_or lists' i 0) (get_or lists' j 0) (small _ (listed_in i a (omega arith))).0
        (small _ (listed_in j (omega arith) c)).0 e))

    -- how many names are in the slice
    listed_length : from ≤ n → length (map name (part lists' from n)) ≡ n - from
    listed_length l = length-map (part lists' from n) name ∙ part_length lists' from n fits

    -- all names are in the slice
    gathers_all : from ≤ n → n ≤ room → ((k : ℕ) → P k → name_mark names' k ≡ mark) → Gathers name named set from room lists' (some n)
    gathers_all l b all = all_names same (rw (← same) (omega (arith, apart_length listed_apart, listed_length l))) b (λ i a c. (small _ (listed_in i a c)).0)
      where
        same : from_list (map name (part lists' from n)) ≡ set
        same = ascending_ext (ascending_from_list (map name (part lists' from n))) s.is_set
            (λ x t. let (i, (a, c, e)) = map_place name lists' from n fits ((mem_from_list x (map name (part lists' from n))).0 t) in rw e
            (s.into (get_or lists' i 0) (listed_in i a c)))
            (λ x t. let (k, (p, e)) = s.from x t in let (i, (a, c, q)) = w.place k (small k p).1 (all k p) in
            (mem_from_list x (map name (part lists' from n))).1 (rw (e, ← q) (place_map name lists' from n i fits a c)))

    -- a name of the set is not in the slice, which is full
    gathers_over : from ≤ n → room ≡ n → {k : ℕ} → P k → (name_mark names' k ≡ mark → ⊥) → Gathers name named set from room lists' none
    gathers_over l q {k} p new = no_room
        (omega (arith, apart_length longer, listed_length l, subset_length (ascending_from_list (name k ∷ map name (part lists' from n))) s.is_set within))
        (λ i a c. let m = listed_in i a (omega arith) in ((small _ m).0, s.into (get_or lists' i 0) m))
      where
        longer : Apart (name k ∷ map name (part lists' from n))
        longer = more (λ t. let (i, (a, c, e)) = map_place name lists' from n fits t in
            new (rw (distinct k (get_or lists' i 0) (small k p).0 (small _ (listed_in i a c)).0 e) (w.marked i a c))) listed_apart

        within : (x : Name) → T (mem x (from_list (name k ∷ map name (part lists' from n)))) → T (mem x set)
        within x t = ⊎_elim (λ e. rw e (s.into k p))
            (λ m. let (i, (a, c, e)) = map_place name lists' from n fits m in rw e (s.into (get_or lists' i 0) (listed_in i a c)))
            ((mem_cons x (name k) (map name (part lists' from n))).0 ((mem_from_list x (name k ∷ map name (part lists' from n))).0 t))

  -- what a walk of the set's names comes to
  pub steps_gathers : {r : Option ℕ} → Steps P names lists names' lists' mark from room r → Gathers name named set from room lists' r
  unfolding ended
  steps_gathers {r = some n} w =
      gathers_all n (rw w.lists_same.same_length (omega (arith, w.fits))) (w.listed from (omega arith) (start_listed fresh)) w.sound w.grows
      w.fits (all w.comes)
    where
      all : Comes P names' mark (some n) → (k : ℕ) → P k → name_mark names' k ≡ mark
      all (whole a) = a
  steps_gathers {r = none} w = go w.comes
    where
      go : Comes P names' mark none → Gathers name named set from room lists' none
      go (over {k} p l new) = gathers_over room (rw w.lists_same.same_length high) (w.listed from (omega arith) (start_listed fresh))
          w.sound low refl p new
