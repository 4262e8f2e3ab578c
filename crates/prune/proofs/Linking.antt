-- What the kept list has of facts, definitions and declarations, on numbers of records, is that of `model`.
use Prim.Native.Nat.{ℕ, zero, suc, ◌+◌, ◌<◌}
use native.Mathlib.Omega.{arith}
use mathlib.Core.Path.{◌≡◌, refl, sym, ap, ap₂, ◌∙◌, subst}
use mathlib.Core.Bool.{Bool, true, false, cond, ◌&&◌}
use mathlib.Core.List.{List, [], ◌∷◌, ◌++◌, map, map-append, reverse, Memᴰ}
use lib.Dec.{T, eqb, eqb→eq}
use lib.ListN.{length, length-map}
use borrow.Author.Tests.{eq-eqb}
use Rattle.model.specs.Lists.{keep, concat, collect}
use Rattle.model.specs.Names.{Name, same, mem, name_number}
use Rattle.model.specs.Summaries.{Fact}
use Rattle.model.specs.Reading.{Ask, Decl, no_ambients}
use Rattle.model.specs.Rounds.{admits, facts, definitions, declarations, is_ambient, asks_for, goal_roots}
use Rattle.model.specs.Kept.{reached_facts, ambients, kept_facts, kept_names, first_met, kept_decls}
use Rattle.model.specs.declared.Asked.{Asked}
use Rattle.model.specs.declared.Counts.{Counts}
use Rattle.model.proofs.ListLaws.{T_ext, true_T, cond_ap, any_intro, any_elim, map_intro, map_elim, keep_elim, keep_cong, keep_all, collect_append, collect_cong, collect_map, map_collect, map_reverse, concat_collect}
use Rattle.model.proofs.SetLaws.{mem_intro, mem_elim, mem_keep, mem_from_list, Ascending, ascending_from_list, ascending_keep, ascending_ext}
use Rattle.model.proofs.IndexLaws.{number_in}
use Rattle.names.specs.Table.{name_of, table_names, ranked}
use Rattle.names.proofs.Laws.{listed, listed_intro, listed_ascending, names_length, names_at, names_intro, distinct}
use Rattle.records.specs.Columns.{record_kind, record_name, record_flag, record_group, summary_code, kind_of_code, assume_kind, fun_kind, def_kind}
use Rattle.records.specs.States.{uses_at, free_at, fact_at, decl_at, decls_of, roots_of, background_of, takes_part, ask_of}
use Rattle.macros.specs.Macros.{Filled}
use Rattle.firing.specs.Held.{upto}
use Rattle.firing.specs.Met.{is_reached}
use Rattle.firing.proofs.Numbers.{set_elim, set_ascending, upto_elim}
use Rattle.records.proofs.Taking.{part_kind, part_admits}
use Rattle.firing.proofs.Background.{is_definition, is_root, def_at, root_of}
use Rattle.firing.proofs.Joining.{uses_low}
use Rattle.prune.specs.Listing.{from, record_behind, picked, reached_at, kind_at, ambient_at, is_goal, reached_records, ambient_records, fact_records, goal_records, kept_items, is_among, stamped, stamp_records, kind_records}
use Rattle.prune.specs.Loops.{Index}
use Rattle.prune.specs.Kept.{reached_of}
use Rattle.prune.proofs.Ranges.{keep_keep, keep_comm, keep_reverse, keep_collect_one, keep_map, collect_keep, reverse_collect, collect_collect, from_below, from_snoc, upto_reverse, upto_reverse_1}
use Rattle.prune.proofs.Order.{name_stamp, SetsIn, met_by_stamp}
use Rattle.prune.proofs.Filed.{is_declaration, fun_at, facts_are, definitions_are, declarations_are, roots_are}
use Rattle.prune.proofs.Takers.{one_zero, one_suc, by_name, reached_one, reached_record}

-- the values of a function at the numbers below another
listed_from : (f : ℕ → Name) (n : ℕ) → listed f n ≡ map f (from 0 n)
unfolding listed from
listed_from f zero = refl
listed_from f (suc n) =
    ap (◌++ (f n ∷ [])) (listed_from f n)
    ∙ sym (map-append f (from 0 n) (n ∷ []))
    ∙ ap (map f) (sym (from_snoc 0 n ∙ ap (λ i. from 0 n ++ (i ∷ [])) (let e : 0 + n ≡ n = omega arith in e)))

-- an ambient is picked where the tests of it hold
ambient_one : (recs : List ℕ) (a : Asked) (i : ℕ)
    → cond (takes_part recs (ask_of recs a) i && is_ambient (kind_of_code (summary_code recs i))) (i ∷ []) [] ≡ record_behind (ambient_at recs a i)
unfolding ambient_at
ambient_one recs a i = go (takes_part recs (ask_of recs a) i) (is_ambient (kind_of_code (summary_code recs i)))
  where
    go : (b c : Bool) → cond (b && c) (i ∷ []) [] ≡ record_behind (cond c (cond b (i + 1) 0) 0)
    go true true = sym (one_suc (i + 1) i (omega arith))
    go true false = sym (one_zero 0 refl)
    go false true = sym (one_zero 0 refl)
    go false false = sym (one_zero 0 refl)

module _ {file names recs lists : List ℕ} {k : Counts} (x : Filled file names recs lists k) where
  -- the name of a number, of a rank; the fact of a record
  abbrev name : ℕ → Name
  name = name_of file names

  abbrev rank_name : ℕ → Name
  rank_name r = name_of file names (ranked names r)

  abbrev fact : ℕ → Fact
  fact = fact_at (name_of file names) recs lists

  -- ---- names by rank

  -- the names by rank ascend
  up : Ascending (listed rank_name k.names)
  up = listed_ascending rank_name k.names x.table.ascending

  -- each name has a rank
  pub in_all : (m : ℕ) → m < k.names → T (mem (name m) (listed rank_name k.names))
  in_all m h =
      let (r, l, e) = x.table.each m h in
      subst (λ n. T (mem (name n) (listed rank_name k.names))) e (listed_intro rank_name k.names r l)

  -- the number of a name is its place
  pub number_is : (n : ℕ) → n < k.names → name_number (table_names file names k.names) (name n) ≡ n
  number_is n h =
      let all = table_names file names k.names in
      let (l, e) = number_in all (mem_elim (names_intro file names k.names n h)) in
      let m = name_number all (name n) in
      let low : m < k.names = omega (arith, l, names_length file names k.names) in
      distinct x.table m n low h (sym (names_at file names k.names m low) ∙ e)

  -- the index and the takers are in range
  pub index_filled : Index names k.names
  index_filled = record {
    room = x.table.room;
    few = x.table.few;
    numbers = x.table.numbers;
    takers = λ n h. let y = x.stocked.taken.low n (omega (arith, x.table.few)) in omega (arith, x.recorded.few);
  }

  -- a set of names of the table, by rank
  pub by_rank : (X : List Name) → Ascending X → ((n : Name) → T (mem n X) → T (mem n (listed rank_name k.names)))
      → X ≡ map rank_name (keep (λ r. mem (rank_name r) X) (from 0 k.names))
  by_rank X a found =
      ascending_ext a (ascending_keep there up)
      (λ n t. (mem_keep n there (listed rank_name k.names)).1 (found n t, t))
      (λ n t. ((mem_keep n there (listed rank_name k.names)).0 t).1)
      ∙ ap (keep there) (listed_from rank_name k.names)
      ∙ keep_map there rank_name (from 0 k.names)
    where
      there : Name → Bool
      there n = mem n X

  -- ---- facts

  -- whether an ask admits the group of a record
  abbrev admitted : Ask → ℕ → Bool
  admitted a i = admits a (record_group recs i)

  -- a fact that an ask admits found by the name of a rank
  fact_found : (a : Ask) (r : ℕ) → r < k.names
      → keep (λ f. same f.name (rank_name r)) (facts (background_of name recs lists a k.records))
      ≡ map fact (keep (admitted a) (record_behind (kind_at names recs assume_kind r)))
  unfolding fact_at takes_part
  fact_found a r h =
      let numbers = from 0 k.records in
      let named : ℕ → Bool = λ i. same (name (record_name recs i)) (rank_name r) in
      let of_kind : ℕ → Bool = λ i. eqb (record_kind recs i) assume_kind in
      ap (keep (λ f. same f.name (rank_name r))) (facts_are name recs lists a k.records)
      ∙ keep_map (λ f. same f.name (rank_name r)) fact (keep (takes_part recs a) numbers)
      ∙ ap (map fact)
      (ap (keep named) (sym (keep_keep (admitted a) of_kind numbers))
      ∙ keep_comm named (admitted a) (keep of_kind numbers)
      ∙ ap (keep (admitted a)) (by_name x assume_kind r (omega arith) h))

  module _ (a : Asked) (run : List ℕ) (only_facts : (i : ℕ) → i < k.records → T (is_reached run i) → T (takes_part recs (ask_of recs a) i)) where
    -- the reached names by rank
    reached_names : reached_of file names recs run k
        ≡ map rank_name (keep (λ r. mem (rank_name r) (reached_of file names recs run k)) (from 0 k.names))
    unfolding reached_of
    reached_names =
        by_rank (reached_of file names recs run k) (set_ascending (λ i. name (record_name recs i)) (is_reached run) k.records)
        (λ n t.
        let (i, l, u, e) = set_elim (λ i. name (record_name recs i)) (is_reached run) k.records t in
        subst (λ n. T (mem n (listed rank_name k.names))) (sym e)
        (in_all (record_name recs i) (x.recorded.named_in i l (λ z. omega (arith, part_kind recs (ask_of recs a) i (only_facts i l u))))))

    -- the reached facts
    pub reached_are : reached_facts (facts (background_of name recs lists (ask_of recs a) k.records)) (reached_of file names recs run k)
        ≡ map fact (reached_records names run k.names)
    unfolding reached_facts picked keep
    reached_are =
        let reached = reached_of file names recs run k in
        ap (collect found) reached_names
        ∙ collect_map found rank_name (keep (λ r. mem (rank_name r) reached) (from 0 k.names))
        ∙ collect_keep (λ r. found (rank_name r)) (λ r. mem (rank_name r) reached) (from 0 k.names)
        ∙ collect_cong (λ r. cond (mem (rank_name r) reached) (found (rank_name r)) []) (λ r. map fact (record_behind (reached_at names run r)))
        (from 0 k.names) (λ r m. each r (from_below k.names m))
        ∙ sym (map_collect fact (λ r. record_behind (reached_at names run r)) (from 0 k.names))
      where
        found : Name → List Fact
        found n = keep (λ f. same f.name n) (facts (background_of name recs lists (ask_of recs a) k.records))

        -- a record that is listed takes part
        listed_part : (r : ℕ) → r < k.names → (i : ℕ) → Memᴰ i (record_behind (reached_at names run r)) → T (admitted (ask_of recs a) i)
        listed_part r h i m =
            let (l, t) = reached_record x run r h m in
            part_admits recs (ask_of recs a) i (only_facts i l t)

        each : (r : ℕ) → r < k.names
            → cond (mem (rank_name r) (reached_of file names recs run k)) (found (rank_name r)) [] ≡ map fact (record_behind (reached_at names run r))
        each r h =
            let b = mem (rank_name r) (reached_of file names recs run k) in
            let p = admitted (ask_of recs a) in
            ap (λ l. cond b l []) (fact_found (ask_of recs a) r h)
            ∙ sym (cond_ap (λ l. map fact (keep p l)) b (record_behind (kind_at names recs assume_kind r)) [])
            ∙ ap (λ l. map fact (keep p l)) (reached_one x run (λ i l t. part_kind recs (ask_of recs a) i (only_facts i l t)) r h)
            ∙ ap (map fact) (keep_all p (record_behind (reached_at names run r)) (listed_part r h))

  -- the ambients
  ambients_are : (a : Asked) → ambients (ask_of recs a) (facts (background_of name recs lists (ask_of recs a) k.records)) ≡ map fact (ambient_records recs k a)
  unfolding ambients ambient_records picked fact_at
  ambients_are a =
      ap (cond (no_ambients (ask_of recs a)) []) listed_down
      ∙ sym (cond_ap (map fact) (no_ambients (ask_of recs a)) [] (picked (ambient_at recs a) (upto k.records)))
    where
      ambient : ℕ → Bool
      ambient i = is_ambient (kind_of_code (summary_code recs i))

      both : ℕ → Bool
      both i = takes_part recs (ask_of recs a) i && ambient i

      listed_down : reverse (keep (λ f. is_ambient f.kind) (facts (background_of name recs lists (ask_of recs a) k.records)))
          ≡ map fact (picked (ambient_at recs a) (upto k.records))
      listed_down =
          let numbers = from 0 k.records in
          ap (λ l. reverse (keep (λ f. is_ambient f.kind) l)) (facts_are name recs lists (ask_of recs a) k.records)
          ∙ ap reverse (keep_map (λ f. is_ambient f.kind) fact (keep (takes_part recs (ask_of recs a)) numbers))
          ∙ sym (map_reverse fact (keep ambient (keep (takes_part recs (ask_of recs a)) numbers)))
          ∙ ap (map fact)
          (ap reverse (keep_keep ambient (takes_part recs (ask_of recs a)) numbers)
          ∙ sym (keep_reverse both numbers)
          ∙ ap (keep both) (sym (upto_reverse k.records))
          ∙ keep_collect_one both (upto k.records)
          ∙ collect_cong (λ i. cond (both i) (i ∷ []) []) (λ i. record_behind (ambient_at recs a i)) (upto k.records) (λ i m. ambient_one recs a i))

  -- ---- roots

  -- the roots of the queries
  goals_are : (a : Asked) → goal_roots (ask_of recs a) (roots_of name recs lists k.records) ≡ map (root_of name recs lists) (goal_records recs k a)
  unfolding is_goal goal_roots
  goals_are a =
      let numbers = from 0 k.records in
      ap (keep (λ r. asks_for (ask_of recs a) r.query)) (roots_are name recs lists k.records)
      ∙ keep_map (λ r. asks_for (ask_of recs a) r.query) (root_of name recs lists) (keep (is_root recs) numbers)
      ∙ ap (map (root_of name recs lists)) (keep_keep (λ i. asks_for (ask_of recs a) (record_flag recs i)) (is_root recs) numbers)

  -- ---- stamps

  -- the free names of a record
  abbrev free : ℕ → List Name
  free = free_at (name_of file names) recs lists

  -- a name is free in a record where its number is among the uses
  pub free_has : (i m : ℕ) → i < k.records → m < k.names → mem (name m) (free i) ≡ is_among m (uses_at recs lists i)
  unfolding free_at is_among
  free_has i m h l =
      T_ext
      (λ t.
      let (n, a, e) = map_elim name uses (mem_elim ((mem_from_list (name m) (map name uses)).0 t)) in
      any_intro (λ n. eqb n m) a (true_T (eq-eqb n m (distinct x.table n m (uses_low x i n h a) l e))))
      (λ t.
      let (n, a, e) = any_elim (λ n. eqb n m) uses t in
      (mem_from_list (name m) (map name uses)).1 (mem_intro (subst (λ n. Memᴰ (name n) (map name uses)) (eqb→eq n m e) (map_intro name a))))
    where
      uses : List ℕ
      uses = uses_at recs lists i

  -- the free names of a record are a set, of names that have ranks
  free_set : (i : ℕ) → i < k.records → Ascending (free i) × ((n : Name) → T (mem n (free i)) → T (mem n (listed rank_name k.names)))
  unfolding free_at
  free_set i h = (
    ascending_from_list (map name (uses_at recs lists i)),
    λ n t.
        let (m, a, e) = map_elim name (uses_at recs lists i) (mem_elim ((mem_from_list n (map name (uses_at recs lists i))).0 t)) in
        subst (λ n. T (mem n (listed rank_name k.names))) e (in_all m (uses_low x i m h a)),
  )

  -- the stamp of a name is that of its number
  pub stamps_same : (is : List ℕ) → ((i : ℕ) → Memᴰ i is → i < k.records) → (s m : ℕ) → m < k.names
      → name_stamp s (map free is) (name m) ≡ stamped s (map (uses_at recs lists) is) m
  unfolding name_stamp stamped
  stamps_same [] h s m l = refl
  stamps_same (i ∷ is) h s m l =
      ap₂ (λ b t. cond b s t) (free_has i m (h i (Memᴰ.head refl)) l) (stamps_same is (λ j n. h j (Memᴰ.tail n)) (s + 1) m l)

  module _ (is : List ℕ) (small : (i : ℕ) → Memᴰ i is → i < k.records) where
    -- the stamp of a rank
    abbrev stamp : ℕ → ℕ
    stamp r = stamped 1 (map (uses_at recs lists) is) (ranked names r)

    -- the ranks of a stamp, the last first
    abbrev of_stamp : ℕ → List ℕ
    of_stamp q = keep (λ r. eqb (stamp r) q) (upto k.names)

    -- the names first met, last first
    met_are : reverse (first_met (concat (map free is))) ≡ collect (λ j. map rank_name (of_stamp (j + 1))) (upto (length is))
    met_are =
        ap reverse (met_by_stamp (listed rank_name k.names) up (map free is) sets)
        ∙ reverse_collect first (from 1 (length (map free is)))
        ∙ ap (collect (λ q. reverse (first q))) (ap (λ n. reverse (from 1 n)) (length-map is free) ∙ sym (upto_reverse_1 (length is)))
        ∙ collect_map (λ q. reverse (first q)) (λ j. j + 1) (upto (length is))
        ∙ collect_cong (λ j. reverse (first (j + 1))) (λ j. map rank_name (of_stamp (j + 1))) (upto (length is)) (λ j m. each (j + 1))
      where
        at_stamp : ℕ → Name → Bool
        at_stamp q n = eqb (name_stamp 1 (map free is) n) q

        first : ℕ → List Name
        first q = keep (at_stamp q) (listed rank_name k.names)

        sets : SetsIn (listed rank_name k.names) (map free is)
        sets l m =
            let (i, a, e) = map_elim free is m in
            subst (λ l. Ascending l × ((n : Name) → T (mem n l) → T (mem n (listed rank_name k.names)))) e (free_set i (small i a))

        each : (q : ℕ) → reverse (first q) ≡ map rank_name (of_stamp q)
        each q =
            ap (λ l. reverse (keep (at_stamp q) l)) (listed_from rank_name k.names)
            ∙ ap reverse (keep_map (at_stamp q) rank_name (from 0 k.names))
            ∙ sym (map_reverse rank_name (keep (λ r. at_stamp q (rank_name r)) (from 0 k.names)))
            ∙ ap (map rank_name)
            (sym (keep_reverse (λ r. at_stamp q (rank_name r)) (from 0 k.names))
            ∙ ap (keep (λ r. at_stamp q (rank_name r))) (sym (upto_reverse k.names))
            ∙ keep_cong (λ r. at_stamp q (rank_name r)) (λ r. eqb (stamp r) q) (upto k.names)
            (λ r m. ap (λ t. eqb t q) (stamps_same is small 1 (ranked names r) (x.table.numbers r (upto_elim k.names m)))))

    -- the definitions, or the declarations, of the names met
    pub decls_are : (ds : List Decl) (decl : ℕ → Decl) (kind : ℕ)
        → ((r : ℕ) → r < k.names → keep (λ d. same d.name (rank_name r)) ds ≡ map decl (record_behind (kind_at names recs kind r)))
        → kept_decls (concat (map free is)) ds ≡ map decl (kind_records names recs k.names stamp kind (length is))
    unfolding kept_decls kind_records stamp_records picked
    decls_are ds decl kind h =
        ap (collect found) met_are
        ∙ collect_collect found (λ j. map rank_name (of_stamp (j + 1))) (upto (length is))
        ∙ collect_cong (λ j. collect found (map rank_name (of_stamp (j + 1)))) (λ j. map decl (collect row (of_stamp (j + 1)))) (upto (length is))
        (λ j m. each (j + 1))
        ∙ sym (map_collect decl (λ j. collect row (of_stamp (j + 1))) (upto (length is)))
      where
        found : Name → List Decl
        found n = keep (λ d. same d.name n) ds

        row : ℕ → List ℕ
        row r = record_behind (kind_at names recs kind r)

        each : (q : ℕ) → collect found (map rank_name (of_stamp q)) ≡ map decl (collect row (of_stamp q))
        each q =
            collect_map found rank_name (of_stamp q)
            ∙ collect_cong (λ r. found (rank_name r)) (λ r. map decl (row r)) (of_stamp q)
            (λ r m. h r (upto_elim k.names (keep_elim (λ r. eqb (stamp r) q) (upto k.names) m).0))
            ∙ sym (map_collect decl row (of_stamp q))

  -- ---- definitions and declarations

  -- a definition found by the name of a rank
  pub def_found : (r : ℕ) → r < k.names
      → keep (λ d. same d.name (rank_name r)) (definitions (decls_of name recs lists k.records))
      ≡ map (def_at name recs lists) (record_behind (kind_at names recs def_kind r))
  unfolding decl_at
  def_found r h =
      ap (keep (λ d. same d.name (rank_name r))) (definitions_are name recs lists k.records)
      ∙ keep_map (λ d. same d.name (rank_name r)) (def_at name recs lists) (keep (is_definition recs) (from 0 k.records))
      ∙ ap (map (def_at name recs lists)) (by_name x def_kind r (omega arith) h)

  -- a declaration
  pub fun_found : (r : ℕ) → r < k.names
      → keep (λ d. same d.name (rank_name r)) (declarations (decls_of name recs lists k.records))
      ≡ map (fun_at name recs lists) (record_behind (kind_at names recs fun_kind r))
  unfolding decl_at
  fun_found r h =
      ap (keep (λ d. same d.name (rank_name r))) (declarations_are name recs lists k.records)
      ∙ keep_map (λ d. same d.name (rank_name r)) (fun_at name recs lists) (keep (is_declaration recs) (from 0 k.records))
      ∙ ap (map (fun_at name recs lists)) (by_name x fun_kind r (omega arith) h)

  -- ---- the kept list

  module _ (a : Asked) (run : List ℕ) (only_facts : (i : ℕ) → i < k.records → T (is_reached run i) → T (takes_part recs (ask_of recs a) i)) where
    -- the kept facts
    pub kept_facts_are : kept_facts (ask_of recs a) (facts (background_of name recs lists (ask_of recs a) k.records)) (reached_of file names recs run k)
        ≡ map fact (fact_records names recs run k a)
    unfolding kept_facts fact_records
    kept_facts_are =
        ap₂ ◌++◌ (reached_are a run only_facts) (ambients_are a) ∙ sym (map-append fact (reached_records names run k.names) (ambient_records recs k a))

    -- the names met are those free in the items
    pub names_are : kept_names (ask_of recs a) (facts (background_of name recs lists (ask_of recs a) k.records)) (roots_of name recs lists k.records) (reached_of file names recs run k)
        ≡ concat (map free (kept_items names recs run k a))
    unfolding kept_names kept_items fact_at
    names_are =
        let fs = fact_records names recs run k a in
        let gs = goal_records recs k a in
        ap₂ ◌++◌
        (ap (collect (λ f. f.free_names)) kept_facts_are ∙ collect_map (λ f. f.free_names) fact fs)
        (ap (collect (λ r. r.free_names)) (goals_are a) ∙ collect_map (λ r. r.free_names) (root_of name recs lists) gs)
        ∙ sym (concat_collect (map free (fs ++ gs)) ∙ collect_map (λ l. l) free (fs ++ gs) ∙ collect_append free fs gs)
