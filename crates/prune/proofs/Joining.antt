-- Bodies followed on numbers are those of `model`, and the lines of the kept records are the kept lines.
use Prim.Native.Nat.{ℕ, ◌+◌, ◌-◌, ◌≤◌, ◌<◌}
use native.Mathlib.Omega.{arith}
use mathlib.Core.Path.{◌≡◌, refl, sym, ap, ap₂, ◌∙◌}
use mathlib.Core.Logic.{inl, ⊎_elim}
use mathlib.Core.Bool.{Bool, true, false, cond, not, ◌||◌}
use mathlib.Core.List.{List, [], ◌∷◌, ◌++◌, map, map-append, map-map, Memᴰ}
use lib.Dec.{T, not_T, eqb, eqb→eq, ltb, ltb→lt, nltb→le, lt→ltb}
use lib.ListN.{length, length-map, length-append}
use borrow.Author.Tests.{eq-eqb, lt-ltb}
use Rattle.model.specs.Lists.{any, keep, concat, collect}
use Rattle.model.specs.Names.{Name, same, mem, from_list}
use Rattle.model.specs.Summaries.{Fact}
use Rattle.model.specs.Reading.{Ask, Decl, Summary, Root, prune_decls, follow_bodies}
use Rattle.model.specs.Rounds.{facts, definitions, declarations}
use Rattle.model.specs.Kept.{kept_facts, kept_names, kept_decls}
use Rattle.model.specs.Bodies.{all_followed, added_names, of_names, added_for, kept_followed}
use Rattle.model.specs.declared.Asked.{Asked}
use Rattle.model.specs.declared.Counts.{Counts}
use Rattle.model.proofs.ListLaws.{T_ext, T_dec, true_T, T_true, T_false, cond_ap, cond_true, cond_false, any_append, keep_cong, map_elim, map_intro, concat_elim, keep_collect, collect_cong, collect_map, map_collect}
use Rattle.model.proofs.SetLaws.{Within, ascending_ext, mem_intro, mem_elim, mem_diff, mem_from_list}
use Rattle.laws.proofs.BackgroundLaws.{background_definitions, background_declarations}
use Rattle.laws.proofs.BodyLaws.{all_closed, all_has, all_least, all_set, added_elim, added_set}
use Rattle.names.specs.Table.{name_of, ranked}
use Rattle.names.proofs.Laws.{distinct}
use Rattle.records.specs.Columns.{record_kind, record_line, record_name, fun_kind, def_kind, taken_at}
use Rattle.records.specs.States.{uses_at, free_at, fact_at, decl_at, decls_of, roots_of, background_of, takes_part, ask_of}
use Rattle.macros.specs.Macros.{is_def, Filled}
use Rattle.firing.specs.Held.{set_of}
use Rattle.firing.specs.Met.{is_reached}
use Rattle.firing.proofs.Numbers.{set_intro, set_elim, set_ascending}
use Rattle.firing.proofs.Background.{def_at, defs_elim, defs_intro}
use Rattle.firing.proofs.Joining.{uses_low}
use Rattle.prune.specs.Listing.{most_stamps, from, record_behind, picked, taker, kind_at, fact_records, kept_items, stamped, kind_records, item_stamp, followed_stamp, added_at, added_records, of_kind, group_records, groups_records, kept_records}
use Rattle.prune.specs.Follow.{body_at, StampsClosed, Stamps, Stamped}
use Rattle.prune.specs.Kept.{reached_of, kept_of}
use Rattle.prune.proofs.Ranges.{collect_keep, from_below}
use Rattle.prune.proofs.Order.{name_stamp}
use Rattle.prune.proofs.Noting.{stamped_low}
use Rattle.prune.proofs.Queueing.{def_is}
use Rattle.prune.proofs.Filed.{fun_at}
use Rattle.prune.proofs.Takers.{one_zero, kind_one, items_small}
use Rattle.prune.proofs.Raised.{Raised, grown_raised, kinds_raised, groups_by, none_added}
use Rattle.prune.proofs.Linking.{in_all, by_rank, stamps_same, decls_are, def_found, fun_found, kept_facts_are, names_are}

-- the kept facts stand first
front_facts : (a : Ask) (decls : List Summary) (roots : List Root) (reached : List Name)
    → length (kept_facts a (facts decls) reached) ≤ length (kept_followed a decls roots reached)
unfolding kept_followed
front_facts a decls roots reached =
    let ns = kept_names a (facts decls) roots reached in
    let ms = added_for a (definitions decls) ns in
    let fs = kept_facts a (facts decls) reached in
    let ds = (kept_decls ns (definitions decls) ++ of_names ms (definitions decls)) ++ (kept_decls ns (declarations decls) ++ of_names ms (declarations decls)) in
    let q = length-append (map (λ (f : Fact). f.line) fs) (cond (prune_decls a) (map (λ (d : Decl). d.line) ds) []) in
    let m = length-map fs (λ (f : Fact). f.line) in
    omega arith

-- a name is in one of the sets exactly where it has a stamp
concat_stamp : (s : ℕ) → 0 < s → (ls : List (List Name)) (n : Name) → mem n (concat ls) ≡ ltb 0 (name_stamp s ls n)
unfolding concat name_stamp mem any
concat_stamp s p [] n = refl
concat_stamp s p (l ∷ ls) n =
    any_append (same n) l (concat ls) ∙ go (mem n l) (concat_stamp (s + 1) (omega arith) ls n)
  where
    go : (b : Bool) → mem n (concat ls) ≡ ltb 0 (name_stamp (s + 1) ls n) → (b || mem n (concat ls)) ≡ ltb 0 (cond b s (name_stamp (s + 1) ls n))
    go true h = sym (lt-ltb 0 s p)
    go false h = h

module _ {file names recs lists : List ℕ} {k : Counts} (x : Filled file names recs lists k) where
  -- the name of a number, of a rank; the free names of a record; the definitions
  abbrev name : ℕ → Name
  name = name_of file names

  abbrev rank_name : ℕ → Name
  rank_name r = name_of file names (ranked names r)

  abbrev free : ℕ → List Name
  free = free_at (name_of file names) recs lists

  abbrev D : List Decl
  D = definitions (decls_of (name_of file names) recs lists k.records)

  -- ---- the body of a definition

  -- the record of a name's def
  def_record : (n : ℕ) → n < k.names → T (is_def recs (taken_at names n))
      → (taken_at names n - 1 < k.records) × (record_kind recs (taken_at names n - 1) ≡ def_kind) × (record_name recs (taken_at names n - 1) ≡ n)
  def_record n h t =
      let (p, e) = def_is recs (taken_at names n) t in
      let few = x.table.few in
      let low = x.stocked.taken.low n (omega arith) in
      let (c, b) = x.stocked.taken.takes n (taken_at names n - 1) (omega arith) (omega arith) in
      (omega arith, e, b)

  -- a name of its body is free in that of a definition of the name
  body_free : (n m : ℕ) → n < k.names → Memᴰ m (body_at names recs lists n)
      → (d : Decl) × Memᴰ d D × (d.name ≡ name n) × T (mem (name m) d.free_names) × (m < k.names)
  unfolding body_at decl_at free_at
  body_free n m h i = ⊎_elim
      (λ t.
      let (low, e, b) = def_record n h t in
      let j : Memᴰ m (uses_at recs lists (taken_at names n - 1)) = rw (T_true (is_def recs (taken_at names n)) t) at i in (
        def_at name recs lists (taken_at names n - 1),
        defs_intro name recs lists k.records (taken_at names n - 1) low (true_T (eq-eqb (record_kind recs (taken_at names n - 1)) def_kind e)),
        ap name b,
        (mem_from_list (name m) (map name (uses_at recs lists (taken_at names n - 1)))).1 (mem_intro (map_intro name j)),
        uses_low x (taken_at names n - 1) m low j,
      ))
      (λ t. absurd (mathlib.Core.List.Memᴰ.not-nil (rw (T_false (is_def recs (taken_at names n)) t) at i)))
      (T_dec (is_def recs (taken_at names n)))

  -- a name free in a definition is one of the body of its name
  free_body : (d : Decl) → Memᴰ d D → (l : Name) → T (mem l d.free_names)
      → (n : ℕ) × (m : ℕ) × (n < k.names) × (m < k.names) × (d.name ≡ name n) × (l ≡ name m) × Memᴰ m (body_at names recs lists n)
  unfolding body_at decl_at free_at is_def
  free_body d i l t =
      let (j, h, u, e) = defs_elim name recs lists k.records i in
      let kind = eqb→eq (record_kind recs j) def_kind u in
      let n = record_name recs j in
      let low = x.recorded.named_in j h (λ z. omega arith) in
      let took = x.stocked.taken.took j h (omega arith) in
      let z : taken_at names n - 1 ≡ j = omega arith in
      let v : T (mem l (from_list (map name (uses_at recs lists j)))) = rw e at t in
      let (m, o, q) = map_elim name (uses_at recs lists j) (mem_elim ((mem_from_list l (map name (uses_at recs lists j))).0 v)) in (
        n,
        m,
        low,
        uses_low x j m h o,
        ap (λ (d : Decl). d.name) e,
        sym q,
        rw (lt-ltb 0 (taken_at names n) (omega arith), z, eq-eqb (record_kind recs j) def_kind kind) o,
      )

  module _ (is : List ℕ) (small : (i : ℕ) → Memᴰ i is → i < k.records) (few : length is ≤ most_stamps) where
    -- the names free in the items, and the stamps of the items
    abbrev walked : List Name
    walked = concat (map free is)

    abbrev item : ℕ → ℕ
    item n = stamped 1 (map (uses_at recs lists) is) n

    -- a name is walked exactly where it has a stamp
    walked_stamp : (m : ℕ) → m < k.names → mem (name m) walked ≡ ltb 0 (item m)
    walked_stamp m h = concat_stamp 1 (omega arith) (map free is) (name m) ∙ ap (ltb 0) (stamps_same x is small 1 m h)

    item_low : (m : ℕ) → item m ≤ most_stamps
    item_low m =
        let b = stamped_low 1 (map (uses_at recs lists) is) m (omega arith) in
        let c = length-map is (uses_at recs lists) in
        omega arith

    -- a walked name has a number with a stamp
    walked_number : (l : Name) → T (mem l walked) → (m : ℕ) × (m < k.names) × (l ≡ name m) × (0 < item m)
    unfolding free_at
    walked_number l t =
        let (s, i, j) = concat_elim (map free is) (mem_elim t) in
        let (r, o, e) = map_elim free is i in
        let v : T (mem l (free r)) = rw (sym e) at (mem_intro j) in
        let (m, g, q) = map_elim name (uses_at recs lists r) (mem_elim ((mem_from_list l (map name (uses_at recs lists r))).0 v)) in
        let low = uses_low x r m (small r o) g in
        (m, low, sym q, ltb→lt 0 (item m) (rw (walked_stamp m low) at (rw (sym q) at t)))

    -- ---- bodies followed

    module _ {after : ℕ → ℕ} (f : StampsClosed k.names (body_at names recs lists) (λ n. item n) after) where
      -- the names with a stamp then
      abbrev noted_names : List Name
      noted_names = set_of name (λ m. ltb 0 (after m)) k.names

      noted_intro : (m : ℕ) → m < k.names → 0 < after m → T (mem (name m) noted_names)
      noted_intro m h l = set_intro name (λ m. ltb 0 (after m)) h (lt→ltb 0 (after m) l)

      noted_elim : (l : Name) → T (mem l noted_names) → (m : ℕ) × (m < k.names) × (0 < after m) × (l ≡ name m)
      noted_elim l t = let (m, h, u, e) = set_elim name (λ m. ltb 0 (after m)) k.names t in (m, h, ltb→lt 0 (after m) u, e)

      -- they are closed
      noted_closed : (d : Decl) → Memᴰ d D → T (mem d.name noted_names) → Within d.free_names noted_names
      noted_closed d i t l u =
          let (n, m, h, g, e, q, o) = free_body d i l u in
          let (j, b, c, r) = noted_elim d.name t in
          let z : j ≡ n = distinct x.table j n b h (sym r ∙ e) in
          rw q (noted_intro m g (f.closed n m h (rw z at c) o))

      -- and have those walked
      noted_has : Within walked noted_names
      noted_has l t =
          let (m, h, e, p) = walked_number l t in
          let o = f.grown.old m h p in
          rw e (noted_intro m h (omega arith))

      -- and are followed
      noted_least : Within noted_names (all_followed D walked)
      noted_least l t =
          let (m, h, p, e) = noted_elim l t in
          rw e (f.grown.least (λ m. mem (name m) (all_followed D walked))
          (λ n g q. all_has D walked (name n) (rw (walked_stamp n g) (lt→ltb 0 (item n) q)))
          (λ n j g q o.
          let (d, i, r, u, low) = body_free n j g o in
          all_closed D walked d i (rw r q) (name j) u)
          m h p)

      followed_are : all_followed D walked ≡ noted_names
      followed_are =
          ascending_ext (all_set D walked) (set_ascending name (λ m. ltb 0 (after m)) k.names)
          (all_least D walked noted_names noted_closed noted_has) noted_least

      -- the names that bodies add are those with their stamp
      added_test : (m : ℕ) → m < k.names → mem (name m) (added_names D walked) ≡ eqb (after m) followed_stamp
      unfolding added_names
      added_test m h =
          T_ext
          (λ t.
          let (u, v) = (mem_diff (name m) (all_followed D walked) walked).0 t in
          let (j, b, c, r) = noted_elim (name m) (rw followed_are at u) in
          let z : m ≡ j = distinct x.table m j h b r in
          let p : 0 < after m = rw z c in
          let q : item m ≡ 0 = bare (item m) (rw (walked_stamp m h) at v) in
          true_T (eq-eqb (after m) followed_stamp (f.grown.new m h q p)))
          (λ t.
          let e = eqb→eq (after m) followed_stamp t in
          (mem_diff (name m) (all_followed D walked) walked).1 (
            rw followed_are (noted_intro m h (omega arith)),
            not_T (mem (name m) walked) (λ u.
                let p = ltb→lt 0 (item m) (rw (walked_stamp m h) at u) in
                let o = f.grown.old m h p in
                let b = item_low m in
                omega arith),
          ))
        where
          bare : (n : ℕ) → T (not (ltb 0 n)) → n ≡ 0
          bare n t = let b = nltb→le 0 n t in omega arith

      -- by rank
      added_are : added_names D walked ≡ map rank_name (keep (λ r. eqb (after (ranked names r)) followed_stamp) (from 0 k.names))
      added_are =
          by_rank x (added_names D walked) (added_set D walked)
          (λ l t. let (m, h, p, e) = noted_elim l (rw followed_are at (in_followed l t)) in rw e (in_all x m h))
          ∙ ap (map rank_name)
          (keep_cong (λ r. mem (rank_name r) (added_names D walked)) (λ r. eqb (after (ranked names r)) followed_stamp) (from 0 k.names)
          (λ r i. added_test (ranked names r) (x.table.numbers r (from_below k.names i))))
        where
          in_followed : (l : Name) → T (mem l (added_names D walked)) → T (mem l (all_followed D walked))
          in_followed l t = (added_elim D walked (mem_elim t)).0

      -- the definitions, or the declarations, of these names
      pub additions_are : (ds : List Decl) (decl : ℕ → Decl) (kind : ℕ)
          → ((r : ℕ) → r < k.names → keep (λ d. same d.name (rank_name r)) ds ≡ map decl (record_behind (kind_at names recs kind r)))
          → of_names (added_names D walked) ds
          ≡ map decl (of_kind recs kind (added_records names k.names (λ r. after (ranked names r))))
      unfolding of_names picked added_at of_kind keep
      additions_are ds decl kind h =
          ap (collect found) added_are
          ∙ collect_map found rank_name (keep test (from 0 k.names))
          ∙ collect_keep (λ r. found (rank_name r)) test (from 0 k.names)
          ∙ collect_cong (λ r. cond (test r) (found (rank_name r)) []) (λ r. map decl (row r)) (from 0 k.names)
          (λ r m. ap (λ z. cond (test r) z []) (h r (from_below k.names m)) ∙ each r)
          ∙ sym (map_collect decl row (from 0 k.names))
          ∙ ap (map decl)
          (sym (keep_collect (λ i. eqb (record_kind recs i) kind) (λ r. record_behind (cond (test r) (taker names r) 0))
          (from 0 k.names)))
        where
          found : Name → List Decl
          found n = keep (λ d. same d.name n) ds

          test : ℕ → Bool
          test r = eqb (after (ranked names r)) followed_stamp

          row : ℕ → List ℕ
          row r = keep (λ i. eqb (record_kind recs i) kind) (record_behind (cond (test r) (taker names r) 0))

          each : (r : ℕ) → cond (test r) (map decl (record_behind (kind_at names recs kind r))) [] ≡ map decl (row r)
          each r = go (test r)
            where
              go : (b : Bool) → cond b (map decl (record_behind (kind_at names recs kind r))) []
                  ≡ map decl (keep (λ i. eqb (record_kind recs i) kind) (record_behind (cond b (taker names r) 0)))
              go true = ap (map decl) (kind_one names recs kind r)
              go false = ap (map decl) (sym (ap (keep (λ i. eqb (record_kind recs i) kind)) (one_zero 0 refl)))

  -- ---- the kept list

  module _ (a : Asked) (run : List ℕ) (few : length (kept_items names recs run k a) ≤ most_stamps) where
    -- the items are records
    small : (i : ℕ) → Memᴰ i (kept_items names recs run k a) → i < k.records
    small = items_small x a run

    -- the names free in the items, and those that bodies add
    abbrev met : List Name
    met = concat (map free (kept_items names recs run k a))

    abbrev added : List Name
    added = added_for (ask_of recs a) D met

    -- the stamps of the items by rank, and stamps of the ask
    abbrev items_stamp : ℕ → ℕ
    items_stamp r = stamped 1 (map (uses_at recs lists) (kept_items names recs run k a)) (ranked names r)

    module _ (stamp : ℕ → ℕ) (st : Stamps names recs lists run k a stamp) where
      raised : (r : ℕ) → r < k.names → Raised (items_stamp r) (stamp (ranked names r))
      unfolding item_stamp
      raised r h = ⊎_elim
          (λ t. grown_raised (st.followed t).grown (ranked names r) (x.table.numbers r h))
          (λ t. inl (st.noted t (ranked names r) (x.table.numbers r h)))
          (T_dec (follow_bodies (ask_of recs a)))

      module _ (ds : List Decl) (decl : ℕ → Decl) (kind : ℕ)
          (found : (r : ℕ) → r < k.names → keep (λ d. same d.name (rank_name r)) ds ≡ map decl (record_behind (kind_at names recs kind r))) where
        -- those of the names that bodies add
        added_decls : of_names added ds
            ≡ map decl (of_kind recs kind (added_records names k.names (λ r. stamp (ranked names r))))
        unfolding item_stamp added_for of_names collect of_kind keep
        added_decls = ⊎_elim
            (λ t.
            ap (λ l. of_names l ds) (cond_true (follow_bodies (ask_of recs a)) (added_names D met) [] t)
            ∙ additions_are (kept_items names recs run k a) small few (st.followed t) ds decl kind found)
            (λ t.
            ap (λ l. of_names l ds) (cond_false (follow_bodies (ask_of recs a)) (added_names D met) [] t)
            ∙ sym (ap (λ l. map decl (of_kind recs kind l)) (none_added names recs k.names (λ r. stamp (ranked names r))
            (λ r h.
            let e = st.noted t (ranked names r) (x.table.numbers r h) in
            let b = item_low (kept_items names recs run k a) small few (ranked names r) in
            omega arith))))
            (T_dec (follow_bodies (ask_of recs a)))

        -- a group
        group_are : kept_decls met ds ++ of_names added ds
            ≡ map decl (group_records names recs k.names (λ r. stamp (ranked names r))
            (added_records names k.names (λ r. stamp (ranked names r))) (length (kept_items names recs run k a)) kind)
        unfolding group_records
        group_are =
            let s = length (kept_items names recs run k a) in
            ap₂ ◌++◌
            (decls_are x (kept_items names recs run k a) small ds decl kind found ∙ ap (map decl) (sym (kinds_raised k.names raised names recs kind s few)))
            added_decls
            ∙ sym (map-append decl (kind_records names recs k.names (λ r. stamp (ranked names r)) kind s)
            (of_kind recs kind (added_records names k.names (λ r. stamp (ranked names r)))))

      -- the lines of both groups
      group_lines : map (λ d. d.line)
          ((kept_decls met D ++ of_names added D)
          ++ (kept_decls met (declarations (decls_of name recs lists k.records)) ++ of_names added (declarations (decls_of name recs lists k.records))))
          ≡ map (record_line recs)
          (groups_by names recs k.names (λ r. stamp (ranked names r)) (length (kept_items names recs run k a)))
      unfolding groups_records decl_at
      group_lines =
          let funs = declarations (decls_of name recs lists k.records) in
          let s = length (kept_items names recs run k a) in
          let ms = added_records names k.names (λ r. stamp (ranked names r)) in
          let ds = group_records names recs k.names (λ r. stamp (ranked names r)) ms s def_kind in
          let fs = group_records names recs k.names (λ r. stamp (ranked names r)) ms s fun_kind in
          map-append (λ d. d.line) (kept_decls met D ++ of_names added D) (kept_decls met funs ++ of_names added funs)
          ∙ ap₂ ◌++◌
          (ap (map (λ d. d.line)) (group_are D (def_at name recs lists) def_kind (def_found x)) ∙ map-map (λ d. d.line) (def_at name recs lists) ds)
          (ap (map (λ d. d.line)) (group_are funs (fun_at name recs lists) fun_kind (fun_found x)) ∙ map-map (λ d. d.line) (fun_at name recs lists) fs)
          ∙ sym (map-append (record_line recs) ds fs)

    module _ (only_facts : (i : ℕ) → i < k.records → T (is_reached run i) → T (takes_part recs (ask_of recs a) i)) where
      -- the lines of the kept records are the kept lines
      pub kept_lines : (stamp : ℕ → ℕ) → Stamped names recs lists run k a stamp
          → map (record_line recs) (kept_records names recs run k a stamp) ≡ kept_of file names recs lists run k a
      unfolding kept_records kept_of kept_followed fact_at
      kept_lines stamp stamped =
          let funs = declarations (decls_of name recs lists k.records) in
          let fs = fact_records names recs run k a in
          let gs = groups_by names recs k.names (λ r. stamp (ranked names r)) (length (kept_items names recs run k a)) in
          let b = prune_decls (ask_of recs a) in
          rw (background_definitions (ask_of recs a) (decls_of name recs lists k.records), background_declarations (ask_of recs a) (decls_of name recs lists k.records))
          (map-append (record_line recs) fs (cond b gs [])
          ∙ ap₂ ◌++◌
          (sym (ap (map (λ f. f.line)) (kept_facts_are x a run only_facts) ∙ map-map (λ f. f.line) (fact_at name recs lists) fs))
          (cond_ap (map (record_line recs)) b gs []
          ∙ ⊎_elim
          (λ t. cond_true b _ [] t ∙ sym (cond_true b _ [] t ∙ ap
          (λ ns. map (λ d. d.line)
          ((kept_decls ns D ++ of_names (added_for (ask_of recs a) D ns) D) ++ (kept_decls ns funs ++ of_names (added_for (ask_of recs a) D ns) funs)))
          (names_are x a run only_facts) ∙ group_lines stamp (stamped t)))
          (λ t. cond_false b _ [] t ∙ sym (cond_false b _ [] t)) (T_dec b)))

  -- the kept facts are no more than the kept lines
  pub facts_front : (a : Asked) (run : List ℕ) → ((i : ℕ) → i < k.records → T (is_reached run i) → T (takes_part recs (ask_of recs a) i))
      → length (fact_records names recs run k a) ≤ length (kept_of file names recs lists run k a)
  unfolding kept_of
  facts_front a run only_facts =
      let fs = fact_records names recs run k a in
      let e = ap length (kept_facts_are x a run only_facts) in
      let n = length-map fs (fact_at name recs lists) in
      let h = front_facts (ask_of recs a) (background_of name recs lists (ask_of recs a) k.records) (roots_of name recs lists k.records) (reached_of file names recs run k) in
      omega arith
