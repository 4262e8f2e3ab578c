-- The rows on numbers are the rows of `model`, and the number of the names met is that of the marked words.
use Prim.Native.Nat.{ℕ, zero, suc, ◌+◌, ◌-◌, ◌%◌, ◌≤◌, ◌<◌}
use native.Mathlib.Omega.{arith}
use mathlib.Core.Path.{◌≡◌, refl, sym, ◌∙◌, ap, ap₂, subst}
use mathlib.Core.Bool.{Bool, true, false, ◌&&◌}
use mathlib.Core.Logic.{⊎_elim}
use mathlib.Core.List.{List, [], ◌∷◌, ◌++◌, map, map-map, map-append, Memᴰ}
use Rattle.std.specs.Prelude.{Some as some}
use lib.Dec.{T, leb, ltb, eqb, eqb→eq}
use lib.ListN.{length, take, get_or}
use lib.Seq.{take-suc}
use borrow.Author.Tests.{eq-eqb}
use Rattle.model.specs.Lists.{keep, count, concat, collect, to_list}
use Rattle.model.specs.Names.{Name, mem, from_list, name_number}
use Rattle.model.specs.Summaries.{Fact}
use Rattle.model.specs.Reading.{Ask, State}
use Rattle.model.specs.Rounds.{facts, listed, round_met, round_of}
use Rattle.model.specs.Kept.{reached_facts}
use Rattle.model.specs.Reasons.{Item, scanned_items, supplier, rows_of, rows, met_bits, met_number}
use Rattle.model.specs.declared.Asked.{Asked}
use Rattle.model.specs.declared.Counts.{Counts}
use Rattle.model.specs.declared.Row.{Row}
use Rattle.model.proofs.ListLaws.{T_ext, true_T, any_intro, any_elim, keep_elim, keep_cong, keep_all, count_append, count_cong, count_map, collect_elim, collect_cong, collect_map, collect_one, map_cong, map_elim}
use Rattle.model.proofs.SetLaws.{ascending_from_list, mem_intro, mem_elim, mem_from_list}
use Rattle.demands.specs.LinesRead.{LinesRead, records_for}
use Rattle.demands.specs.Demand3.{run_of}
use Rattle.demands.specs.History.{history_for}
use Rattle.demands.proofs.Reasons.{listed_by_rank}
use Rattle.names.specs.Table.{name_of, table_names, ranked}
use Rattle.names.proofs.Laws.{listed as values, names_intro, names_elim, distinct}
use Rattle.triggers.specs.Entries.{disjuncts_of, last_flag, no_name}
use Rattle.records.specs.Columns.{record_line}
use Rattle.records.specs.States.{entries_at, fact_at, background_of, ask_of, state_of}
use Rattle.macros.specs.Macros.{Filled}
use Rattle.firing.specs.Met.{reached_column, run_end, is_met, is_reached}
use Rattle.scan.specs.Runs.{tables_run, tables_history, Ran}
use Rattle.scan.specs.declared.Scan.{Scan}
use Rattle.firing.proofs.Listing.{word_listed, listed_word}
use Rattle.firing.proofs.Joining.{laid}
use Rattle.prune.specs.Listing.{from, record_behind, picked, reached_at, reached_records}
use Rattle.prune.specs.Kept.{reached_of}
use Rattle.prune.proofs.Picking.{reached_same}
use Rattle.prune.proofs.Ranges.{keep_map, from_below, from_snoc}
use Rattle.prune.proofs.Takers.{reached_record}
use Rattle.prune.proofs.Linking.{in_all, number_is, by_rank, reached_are}
use Rattle.reasons.specs.Rows.{lists_name, row_due, row_at, rows_at, rows_in}
use Rattle.reasons.proofs.Listed.{due_met}
use Rattle.explain.proofs.Supplying.{fact_reached}

-- two tests of three parts
and_cong : {a a' b b' c c' : Bool} → a ≡ a' → b ≡ b' → (T b → c ≡ c') → (a && (b && c)) ≡ (a' && (b' && c'))
and_cong {a} {b = true} p q h = rw (← p, ← q, h tt)
and_cong {a} {b = false} p q h = rw (← p, ← q)

-- the first words of a slice of which a test holds, by their numbers
count_words : (test : ℕ → Bool) (v : List ℕ) (n : ℕ) → n ≤ length v → count test (take n v) ≡ count (λ i. test (get_or v i 0)) (from 0 n)
unfolding count from
count_words test v zero h = refl
count_words test v (suc n) h =
    ap (count test) (take-suc v n 0 (omega arith))
    ∙ count_append test (take n v) (get_or v n 0 ∷ [])
    ∙ ap (λ (m : ℕ). m + count test (get_or v n 0 ∷ [])) (count_words test v n (omega arith))
    ∙ sym (ap (count (λ i. test (get_or v i 0))) (from_snoc 0 n ∙ ap (λ i. from 0 n ++ (i ∷ [])) (let e : 0 + n ≡ n = omega arith in e))
    ∙ count_append (λ i. test (get_or v i 0)) (from 0 n) (n ∷ []))

module _ {file names recs lists : List ℕ} {k : Counts} (x : Filled file names recs lists k) where
  abbrev name : ℕ → Name
  name = name_of file names

  abbrev fact : ℕ → Fact
  fact = fact_at (name_of file names) recs lists

  -- ---- names

  -- the names in byte order are those of the ranks
  names_ranked : from_list (table_names file names k.names) ≡ map name (map (ranked names) (from 0 k.names))
  names_ranked =
      let all = from_list (table_names file names k.names) in
      by_rank x all (ascending_from_list (table_names file names k.names))
      (λ n t. let (m, l, e) = names_elim file names k.names n ((mem_from_list n (table_names file names k.names)).0 t) in
      subst (λ n. T (mem n (values (λ r. name (ranked names r)) k.names))) (sym e) (in_all x m l))
      ∙ ap (map (λ r. name (ranked names r)))
      (keep_all (λ r. mem (name (ranked names r)) all) (from 0 k.names)
      (λ r i. (mem_from_list (name (ranked names r)) (table_names file names k.names)).1
      (names_intro file names k.names (ranked names r) (x.table.numbers r (from_below k.names i)))))
      ∙ sym (map-map name (ranked names) (from 0 k.names))

  -- a record lists a name where its fact does
  lists_is : (i n : ℕ) → i < k.records → n < k.names → mem (name n) (listed (fact i)) ≡ lists_name recs lists i n
  unfolding lists_name listed fact_at
  lists_is i n li l =
      let few = x.table.few in
      T_ext
      (λ t. let (y, a, b, c) = listed_word name (entries_at recs lists i) (mem_elim t) in
      let m = ⊎_elim (λ (q : y % last_flag < k.names). q) (λ (q : y % last_flag ≡ no_name). absurd (omega arith)) (((laid x).entry_words i li).small y a) in
      any_intro (λ z. eqb (z % last_flag) n) a (true_T (eq-eqb (y % last_flag) n (sym (distinct x.table n (y % last_flag) l m c)))))
      (λ t. let (y, a, b) = any_elim (λ z. eqb (z % last_flag) n) (entries_at recs lists i) t in
      let e = eqb→eq (y % last_flag) n b in
      mem_intro (subst (λ z. Memᴰ (name z) (concat (disjuncts_of name (entries_at recs lists i)))) e (word_listed name (entries_at recs lists i) a (omega arith))))

  -- the names by rank have numbers
  ranks_small : (n : ℕ) → Memᴰ n (map (ranked names) (from 0 k.names)) → n < k.names
  ranks_small n m =
      let (r, a, e) = map_elim (ranked names) (from 0 k.names) m in
      subst (λ z. z < k.names) e (x.table.numbers r (from_below k.names a))

  -- a record of the list is reached
  listed_reached : (v : List ℕ) {i : ℕ} → Memᴰ i (reached_records names v k.names) → (i < k.records) × T (is_reached v i)
  unfolding picked
  listed_reached v m =
      let (r, a, b) = collect_elim (λ r. record_behind (reached_at names v r)) (from 0 k.names) m in
      reached_record x v r (from_below k.names a) b

  -- ---- the slice after the pass

  -- where the columns of the run and the suppliers are the same the rows are
  pub rows_same : (u v : List ℕ) (noted noted' : ℕ → ℕ) → ((j : ℕ) → j < run_end → get_or u j 0 ≡ get_or v j 0)
      → ((n : ℕ) → n < k.names → noted n ≡ noted' n) → rows_in names recs lists u noted k ≡ rows_in names recs lists v noted' k
  unfolding rows_in rows_at row_due row_at is_met picked
  rows_same u v noted noted' same columns =
      ap (collect (rows_at names recs lists u noted k.names)) picked_same
      ∙ collect_cong (rows_at names recs lists u noted k.names) (rows_at names recs lists v noted' k.names) (reached_records names v k.names)
      (λ i m. each i (listed_reached v m).0)
    where
      picked_same : collect (λ r. record_behind (reached_at names u r)) (from 0 k.names) ≡ collect (λ r. record_behind (reached_at names v r)) (from 0 k.names)
      picked_same =
          collect_cong (λ r. record_behind (reached_at names u r)) (λ r. record_behind (reached_at names v r)) (from 0 k.names)
          (λ r m.
          let l = from_below k.names m in
          let few = x.recorded.few in
          ap record_behind (reached_same names u v r (omega (arith, x.stocked.taken.low (ranked names r) (omega (arith, x.table.numbers r l, x.table.few)))) same))

      each : (i : ℕ) → i < k.records
          → map (row_at recs noted i) (keep (row_due recs lists u i) (map (ranked names) (from 0 k.names)))
          ≡ map (row_at recs noted' i) (keep (row_due recs lists v i) (map (ranked names) (from 0 k.names)))
      each i l =
          let ranks = map (ranked names) (from 0 k.names) in
          let few = x.recorded.few in
          ap (map (row_at recs noted i))
          (keep_cong (row_due recs lists u i) (row_due recs lists v i) ranks
          (λ n m.
          let low = ranks_small n m in
          let few_names = x.table.few in
          ap₂ (λ p r. lists_name recs lists i n && (ltb 0 p && leb p r)) (same n (omega arith)) (same (reached_column + i) (omega arith))))
          ∙ map_cong (row_at recs noted i) (row_at recs noted' i) (keep (row_due recs lists v i) ranks)
          (λ n m.
          ap (λ (word : ℕ). record { line = record_line recs i; number = n; cause = record_line recs (word - 1) })
          (columns n (ranks_small n (keep_elim (row_due recs lists v i) ranks m).0)))

module _ {file names recs lists : List ℕ} {k : Counts} (x : Filled file names recs lists k) (refs table : List ℕ)
    (accepted : LinesRead file (state_of file names refs table recs lists k)) (a : Asked)
    {w v : List ℕ} {sc : Scan} (ran : Ran file names recs lists k a w v sc) where
  abbrev s : State
  s = state_of file names refs table recs lists k

  -- what is asked
  abbrev q : Ask
  q = ask_of recs a

  -- the names in byte order are those of the ranks
  ranked_names : from_list s.names ≡ map (name x) (map (ranked names) (from 0 k.names))
  unfolding state_of
  ranked_names = names_ranked x

  -- ---- one reached record

  -- the test of a row by numbers
  abbrev in_time : Fact → Name → Bool
  in_time f n = mem n (listed f) && (mem n (run_of q s).met && leb (round_met (history_for q s) n) (round_of (history_for q s) f))

  -- the noted records are on the lines of the suppliers
  abbrev pub NotedLines : (ℕ → ℕ) → Type 0
  NotedLines noted = (n : ℕ) → n < k.names → T (is_met v n)
      → (it : Item) × (supplier (scanned_items q (records_for q s) s.roots) (name_of file names n) ≡ some it)
      × (it.line ≡ record_line recs (noted n - 1))

  module _ (i : ℕ) (li : i < k.records) (reached : T (is_reached v i)) where
    due_is : (n : ℕ) → n < k.names → in_time (fact x i) (name x n) ≡ row_due recs lists v i n
    unfolding row_due state_of tables_run tables_history
    due_is n l =
        and_cong (lists_is x i n li l) (sym (ran.met n l))
        (λ t. ap₂ leb (sym (ran.met_round n l (subst (λ b. T b) (sym (ran.met n l)) t))) (sym (ran.reached_round i li reached)))

    module _ (noted : ℕ → ℕ) (lines : NotedLines noted) where
      -- the rows of a fact and a name
      abbrev rows_for : Name → List Row
      rows_for n =
          map (λ (it : Item). record { line = (fact x i).line; number = name_number s.names n; cause = it.line })
          (to_list (supplier (scanned_items q (records_for q s) s.roots) n))

      row_is : (n : ℕ) → n < k.names → T (is_met v n) → rows_for (name x n) ≡ row_at recs noted i n ∷ []
      unfolding row_at fact_at to_list state_of
      row_is n l t = let (it, e, p) = lines n l t in rw (e, number_is x n l, p)

      rows_are_at : rows_of s.names (history_for q s) (scanned_items q (records_for q s) s.roots) (fact x i)
          ≡ rows_at names recs lists v noted k.names i
      unfolding rows_of rows_at
      rows_are_at =
          let ranks = map (ranked names) (from 0 k.names) in
          ap (collect rows_for) (listed_by_rank file s accepted q (fact_reached refs table a ran i li reached) ∙ ap (keep (in_time (fact x i))) ranked_names ∙ keep_map (in_time (fact x i)) (name x) ranks
          ∙ ap (map (name x)) (keep_cong (λ n. in_time (fact x i) (name x n)) (row_due recs lists v i) ranks (λ n m. due_is n (ranks_small x n m))))
          ∙ collect_map rows_for (name x) (keep (row_due recs lists v i) ranks)
          ∙ collect_cong (λ n. rows_for (name x n)) (λ n. row_at recs noted i n ∷ []) (keep (row_due recs lists v i) ranks)
          (λ n m. let (b, t) = keep_elim (row_due recs lists v i) ranks m in row_is n (ranks_small x n b) (due_met recs lists v i n t))
          ∙ collect_one (row_at recs noted i) (keep (row_due recs lists v i) ranks)

  -- ---- all of them

  reached_there : reached_facts (facts (records_for q s)) (run_of q s).reached ≡ map (fact x) (reached_records names v k.names)
  unfolding state_of tables_run reached_of
  reached_there =
      ap (reached_facts (facts (background_of (name x) recs lists q k.records))) (sym ran.reached) ∙ reached_are x a v ran.only_facts

  pub rows_are : (noted : ℕ → ℕ) → NotedLines noted → rows_in names recs lists v noted k ≡ rows q s
  unfolding rows rows_in
  rows_are noted lines =
      let each = rows_of s.names (history_for q s) (scanned_items q (records_for q s) s.roots) in
      sym (ap (collect each) reached_there
      ∙ collect_map each (fact x) (reached_records names v k.names)
      ∙ collect_cong (λ i. each (fact x i)) (rows_at names recs lists v noted k.names) (reached_records names v k.names)
      (λ i m. let (l, t) = listed_reached x v m in rows_are_at i l t noted lines))

  -- ---- the number of names met

  names_are : (n : ℕ) → table_names file names n ≡ map (name x) (from 0 n)
  unfolding table_names from
  names_are zero = refl
  names_are (suc n) =
      ap (◌++ (name x n ∷ [])) (names_are n)
      ∙ sym (map-append (name x) (from 0 n) (n ∷ []))
      ∙ ap (map (name x)) (sym (from_snoc 0 n ∙ ap (λ i. from 0 n ++ (i ∷ [])) (let e : 0 + n ≡ n = omega arith in e)))

  pub met_counted : k.names ≤ length v → count (λ w. ltb 0 w) (take k.names v) ≡ met_number q s
  unfolding met_number met_bits state_of tables_run is_met
  met_counted long =
      let met = (run_of q s).met in
      sym (count_map (λ b. b) (λ n. mem n met) (table_names file names k.names)
      ∙ ap (count (λ n. mem n met)) (names_are k.names)
      ∙ count_map (λ n. mem n met) (name x) (from 0 k.names)
      ∙ count_cong (λ n. mem (name x n) met) (is_met v) (from 0 k.names) (λ n m. sym (ran.met n (from_below k.names m)))
      ∙ sym (count_words (λ w. ltb 0 w) v k.names long))
