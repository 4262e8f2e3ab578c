-- Change 2: the rows are exactly those with a reason, one for each reached fact and listed name met by the end of its round, in
-- order, no more than a table holds; and the chains of suppliers end at roots and ambient roots.
use Prim.Native.Nat.{ℕ, zero, suc, ◌≤◌, ◌<◌, max}
use native.Mathlib.Omega.{arith}
use mathlib.Core.Path.{◌≡◌, refl, sym, ◌∙◌, ap, subst}
use mathlib.Core.Logic.{◌⊎◌, inl, inr, ⊎_elim}
use mathlib.Core.Bool.{Bool, false, ◌&&◌}
use mathlib.Core.List.Memᴰ
use mathlib.Core.List.{List, [], ◌∷◌, ◌++◌, map, Memᴰ}
use Rattle.std.specs.Prelude.{Option, None as none, Some as some}
use lib.Dec.{T, T_not, leb, leb→le, le→leb}
use lib.ListN.{length, length-append, length-map, get_or}
use Rattle.model.specs.Lists.{all, keep, concat, collect, sum, to_list}
use Rattle.model.specs.Names.{Name, mem, from_list, name_number}
use Rattle.model.specs.Summaries.{exclude_names, Fact}
use Rattle.model.specs.Reading.{State, Ask, limits, most_entries}
use Rattle.model.specs.Rounds.{Run, facts, listed, is_ambient, is_ambient_root, end_of, round_of, round_met}
use Rattle.model.specs.Kept.{reached_facts}
use Rattle.model.specs.Reasons.{Item, scanned_items, supplier, met_listed, rows_of, rows, met_bits, met_number}
use Rattle.model.specs.declared.AsumKind.{AsumKind}
use Rattle.model.specs.declared.AsumKind.TheVariants.{Drop, Ambient, Triggers}
use Rattle.model.specs.declared.Row.{Row}
use Rattle.model.proofs.ListLaws.{T_and, all_elim, keep_intro, keep_elim, collect_intro, collect_elim, concat_elim, map_intro, map_elim, count_keep, count_map, getD_mem, getD_map}
use Rattle.model.proofs.SetLaws.{Ascending, ascending_tail, ascending_head, ascending_keep, ascending_from_list, ascending_ext, mem_keep, mem_intro, mem_elim, mem_from_list, order_irrefl}
use Rattle.model.proofs.IndexLaws.{number_in}
use Rattle.laws.proofs.ReadingLaws.{within, kept_by_file, file_within}
use Rattle.laws.proofs.Records.{fact_summary}
use Rattle.laws.proofs.FiringLaws.{first_met}
use Rattle.laws.proofs.HistoryLaws.{history_end}
use Rattle.demands.specs.LinesRead.{LinesRead, records_for, Distinct, none as nothing_twice, one_more as once_more}
use Rattle.demands.specs.WellFormed.{WellFormed}
use Rattle.demands.specs.Demand3.{run_of}
use Rattle.demands.specs.History.{history_for}
use Rattle.demands.specs.Reasons.{at_end, ReachedBy, RoundsOfFacts, Scanned, root, ambient_root, reached_fact, Supplies, Numbers, RowDue, Reason, RowsExact, SupplierLower, RowFor, OneRow}
use Rattle.demands.specs.Reasons.{Precedes, RowsRise, none as no_row, one_more as one_row, RowsInOrder, RowsFit, MetExact, Brought, Grounded, grounded, ChainsEnd, SupplierFound}
use Rattle.demands.proofs.Distinct.{distinct_length}
use Rattle.demands.proofs.Facts.{fact_names}
use Rattle.demands.proofs.Counts.{entries_facts}
use Rattle.demands.proofs.RecordLines.{fact_by_line, fact_or_root}
use Rattle.demands.proofs.ListedLaws.{reached_ascending, reached_no_ambient}
use Rattle.demands.proofs.Background.{admitted_fact, well_for, lines_for}
use Rattle.demands.proofs.StateLaws.{StateLaws, laws_start, laws_line}
use Rattle.demands.proofs.HistoryLaws.{met_later}
use Rattle.demands.proofs.History.{rounds_told}
use Rattle.demands.proofs.Suppliers

-- ---- lists

-- the value of an option is the only one of its list
to_list_elim : {A : Type 0} (o : Option A) {x : A} → Memᴰ x (to_list o) → o ≡ some x
unfolding to_list
to_list_elim none i = absurd (Memᴰ.not-nil i)
to_list_elim (some y) i = ap some (sym (Memᴰ.eq_of_singleton i))

to_list_intro : {A : Type 0} {o : Option A} {x : A} → o ≡ some x → Memᴰ x (to_list o)
unfolding to_list
to_list_intro e = rw e (Memᴰ.head refl)

to_list_few : {A B : Type 0} (f : A → B) (o : Option A) → length (map f (to_list o)) ≤ 1
unfolding to_list
to_list_few f none = omega arith
to_list_few f (some x) = omega arith

-- in a list that holds nothing twice equal elements stand at one place
pub distinct_place : {A : Type 0} {l : List A} → Distinct l → (j k : ℕ) (d : A) → j < length l → k < length l → get_or l j d ≡ get_or l k d → j ≡ k
distinct_place nothing_twice j k d p q e = absurd (omega arith)
distinct_place (once_more {a} {l} new r) zero zero d p q e = refl
distinct_place (once_more {a} {l} new r) zero (suc k) d p q e = absurd (new (Memᴰ.cast e (getD_mem l k d (omega arith))))
distinct_place (once_more {a} {l} new r) (suc j) zero d p q e = absurd (new (Memᴰ.cast (sym e) (getD_mem l j d (omega arith))))
distinct_place (once_more {a} {l} new r) (suc j) (suc k) d p q e = ap suc (distinct_place r j k d (omega arith) (omega arith) e)

-- what is collected is no more than the bounds of what each element gives
collect_few : {A B : Type 0} (f : A → List B) (bound : A → ℕ) (l : List A) → ((x : A) → length (f x) ≤ bound x) → length (collect f l) ≤ sum (map bound l)
unfolding collect sum
collect_few f bound [] h = omega arith
collect_few f bound (x ∷ l) h = omega (arith, length-append (f x) (collect f l), h x, collect_few f bound l h)

-- one of each
sum_ones : {A : Type 0} (l : List A) → sum (map (λ (x : A). 1) l) ≡ length l
unfolding sum
sum_ones [] = refl
sum_ones (x ∷ l) = omega (arith, sum_ones l)

-- a fact has no more listed names than trigger entries
listed_few : (ts : List (List Name)) → length (concat ts) ≤ sum (map (λ (d : List Name). max 1 (length d)) ts)
unfolding concat sum
listed_few [] = omega arith
listed_few (d ∷ ts) = omega (arith, length-append d (concat ts), listed_few ts)

-- ---- rows

-- the row of a fact, a name and its supplier
abbrev row_of : List Name → Fact → Name → Item → Row
row_of names f n i = record { line = f.line; number = name_number names n; cause = i.line }

-- a row by its fields
row_eq : (r : Row) {l n k : ℕ} → r.line ≡ l → r.number ≡ n → r.cause ≡ k → r ≡ record { line = l; number = n; cause = k }
row_eq r x y z = rw (← x, ← y, ← z)

-- the laws of a state hold of that of every accepted file
pub accepted_laws : (file : List ℕ) (s : State) → LinesRead file s → StateLaws s
accepted_laws file s e =
    kept_by_file exclude_names (λ n s. StateLaws s) (λ n s s' line r h. laws_line exclude_names n s s' line r h) file s e laws_start

-- the trigger entries of a state whose counts are within their limits
entries_within : (s : State) → T (all within (limits s)) → s.entries ≤ most_entries
unfolding limits
entries_within s t =
    leb→le s.entries most_entries
    (all_elim within t (Memᴰ.tail (Memᴰ.tail (Memᴰ.tail (Memᴰ.tail (Memᴰ.head refl))))))

-- the trigger entries of an accepted file are within their limit
pub few_entries : (file : List ℕ) (s : State) → LinesRead file s → s.entries ≤ most_entries
few_entries file s e = entries_within s (file_within exclude_names file s e)

module _ (file : List ℕ) (s : State) (accepted : LinesRead file s) (a : Ask) where
  -- what holds of the records of the ask, and of the state
  wf : WellFormed (records_for a s) s.roots
  wf = well_for file s accepted a

  laws : StateLaws s
  laws = accepted_laws file s accepted

  -- the states of the run, the items that it scans, and the facts that it reaches, by name
  abbrev states : List Run
  states = history_for a s

  abbrev scanned : List Item
  scanned = scanned_items a (records_for a s) s.roots

  abbrev facts_reached : List Fact
  facts_reached = reached_facts (facts (records_for a s)) (run_of a s).reached

  -- a fact of the ask is one of the file
  in_file : {f : Fact} → Memᴰ f (facts (records_for a s)) → Memᴰ f (facts s.decls)
  in_file i = admitted_fact a s.decls i

  -- a listed name is numbered
  listed_numbered : {f : Fact} {n : Name} → Memᴰ f (facts (records_for a s)) → Memᴰ n (listed f) → Memᴰ n s.names
  unfolding listed
  listed_numbered {f} {n} i j =
      let (d, k, m) = concat_elim f.triggers j in
      mem_elim ((laws.numbered.records _ (fact_summary s.decls (in_file i))).disjuncts d k n (mem_intro m))

  -- a number is that of the name
  number_only : {k : ℕ} {n : Name} → Numbers s k n → k ≡ name_number s.names n
  number_only {k} {n} (h, e) =
      let (l, d) = number_in s.names (Memᴰ.cast (sym e) (getD_mem s.names k [] h)) in
      distinct_place laws.numbered_once k (name_number s.names n) [] h l (e ∙ sym d)

  -- facts on one line are one fact
  by_line : {f g : Fact} → Memᴰ f (facts (records_for a s)) → Memᴰ g (facts (records_for a s)) → f.line ≡ g.line → f ≡ g
  by_line i j e = fact_by_line (records_for a s) (lines_for file s accepted a) i j e

  -- ---- what is due a row

  -- a listed name that the definition takes is due a row
  listed_due : {f : Fact} {n : Name} → Memᴰ f facts_reached → Memᴰ n (met_listed states f) → RowDue a s f n
  unfolding met_listed
  listed_due {f} {n} i j =
      let r = Suppliers.listed_reached a s wf i in
      let (l, u) = keep_elim (λ n. mem n (end_of states (round_of states f)).met) (from_list (listed f)) j in
      record {
        is_reached = r;
        round = round_of states f;
        is_round = Suppliers.its_round a s wf f r;
        is_listed = mem_elim ((mem_from_list n (listed f)).0 (mem_intro l));
        is_met = u;
      }

  -- and one that is due a row the definition takes
  due_listed : {f : Fact} {n : Name} → RowDue a s f n → Memᴰ f facts_reached × Memᴰ n (met_listed states f)
  unfolding met_listed
  due_listed {f} {n} d = (
    Suppliers.reached_listed a s wf d.is_reached,
    keep_intro (λ n. mem n (end_of states (round_of states f)).met) (mem_elim ((mem_from_list n (listed f)).1 (mem_intro d.is_listed)))
        (subst (λ k. T (mem n (end_of states k).met)) (Suppliers.one_round a s wf f d.is_reached d.is_round) d.is_met),
  )

  -- a name that is due a row has its supplier
  due_supplied : {f : Fact} {n : Name} → RowDue a s f n → (i : Item) × (supplier scanned n ≡ some i) × Supplies a s n i.line i.round
  due_supplied {f} {n} d = Suppliers.met_supplied a s wf d.round d.is_round.in_run n d.is_met

  -- ---- what a loop over the names in byte order takes

  -- whether a fact lists a name, and the name was met no later than the fact's round
  abbrev met_in_time : Fact → Name → Bool
  met_in_time f n = mem n (listed f) && (mem n (run_of a s).met && leb (round_met states n) (round_of states f))

  -- the listed names that have rows are those of all names of the file that pass the test
  pub listed_by_rank : {f : Fact} → ReachedBy a s f → met_listed states f ≡ keep (met_in_time f) (from_list s.names)
  unfolding met_listed
  listed_by_rank {f} r =
      let b = Suppliers.round_in_run a s wf f r in
      ascending_ext
      (ascending_keep (λ n. mem n (end_of states (round_of states f)).met) (ascending_from_list (listed f)))
      (ascending_keep (met_in_time f) (ascending_from_list s.names))
      (λ n u.
      let (x, y) = (mem_keep n (λ n. mem n (end_of states (round_of states f)).met) (from_list (listed f))).0 u in
      let l = (mem_from_list n (listed f)).0 x in
      let m = in_end (round_of states f) b n y in
      (mem_keep n (met_in_time f) (from_list s.names)).1 (
        (mem_from_list n s.names).1 (mem_intro (listed_numbered r.is_fact (mem_elim l))),
        (T_and (mem n (listed f)) (mem n (run_of a s).met && leb (round_met states n) (round_of states f))).1 (
          l,
          (T_and (mem n (run_of a s).met) (leb (round_met states n) (round_of states f))).1
              (m, le→leb (round_met states n) (round_of states f) (((rounds_told file s accepted a (round_of states f) b).met n).0 y)),
        ),
      ))
      (λ n u.
      let (x, y) = (mem_keep n (met_in_time f) (from_list s.names)).0 u in
      let (l, z) = (T_and (mem n (listed f)) (mem n (run_of a s).met && leb (round_met states n) (round_of states f))).0 y in
      let (m, q) = (T_and (mem n (run_of a s).met) (leb (round_met states n) (round_of states f))).0 z in
      (mem_keep n (λ n. mem n (end_of states (round_of states f)).met) (from_list (listed f))).1 (
        (mem_from_list n (listed f)).1 l,
        ((rounds_told file s accepted a (round_of states f) b).met n).1 (leb→le (round_met states n) (round_of states f) q),
      ))
    where
      in_end : (k : ℕ) → k ≤ (run_of a s).rounds → (n : Name) → T (mem n (end_of states k).met) → T (mem n (run_of a s).met)
      in_end k l n t =
          subst (λ (r : Run). T (mem n r.met)) (history_end a (records_for a s) s.roots)
          (met_later a (records_for a s) s.roots wf k (run_of a s).rounds l (omega arith) n t)

  -- ---- the rows, each with its reason

  -- a row of the list, taken apart
  record Made (r : Row) : Type 0 where
    fact : Fact
    name : Name
    item : Item
    due : RowDue a s fact name
    is_supplier : supplier scanned name ≡ some item
    is : row_of s.names fact name item ≡ r

  -- the row of what is due
  due_row : {f : Fact} {n : Name} {i : Item} → RowDue a s f n → supplier scanned n ≡ some i → Memᴰ (row_of s.names f n i) (rows a s)
  unfolding rows rows_of
  due_row {f} {n} {i} d e =
      let (j, k) = due_listed d in
      collect_intro (rows_of s.names states scanned) j
      (collect_intro (λ n. map (row_of s.names f n) (to_list (supplier scanned n))) k (map_intro (row_of s.names f n) (to_list_intro e)))

  row_made : {r : Row} → Memᴰ r (rows a s) → Made r
  unfolding rows rows_of
  row_made {r} m =
      let (f, i, j) = collect_elim (rows_of s.names states scanned) facts_reached m in
      let (n, k, l) = collect_elim (λ n. map (row_of s.names f n) (to_list (supplier scanned n))) (met_listed states f) j in
      let (x, y, e) = map_elim (row_of s.names f n) (to_list (supplier scanned n)) l in
      record { fact = f; name = n; item = x; due = listed_due i k; is_supplier = to_list_elim (supplier scanned n) y; is = e }

  -- the name of a row by its number
  made_number : {r : Row} (m : Made r) → Numbers s r.number m.name
  made_number m = subst (λ k. Numbers s k m.name) (ap (λ (r : Row). r.number) m.is) (number_in s.names (listed_numbered m.due.is_reached.is_fact m.due.is_listed))

  row_reason : {r : Row} → Memᴰ r (rows a s) → Reason a s r
  row_reason {r} i =
      let m = row_made i in
      record {
        fact = m.fact;
        name = m.name;
        due = m.due;
        line = sym (ap (λ (r : Row). r.line) m.is);
        number = made_number m;
        supplier_round = m.item.round;
        supplied = subst (λ k. Supplies a s m.name k m.item.round) (ap (λ (r : Row). r.cause) m.is) (Suppliers.supplier_is a s wf m.name m.is_supplier);
      }

  -- a row with a reason is the row of its fact and its name
  reason_is : {r : Row} (q : Reason a s r) (i : Item) → Supplies a s q.name i.line i.round → r ≡ row_of s.names q.fact q.name i
  reason_is {r} q i x =
      row_eq r q.line (number_only q.number) (Suppliers.one_supplier a s wf q.supplied x).0

  reason_row : {r : Row} → Reason a s r → Memᴰ r (rows a s)
  reason_row {r} q =
      let (i, e, x) = due_supplied q.due in
      Memᴰ.cast (reason_is q i x) (due_row q.due e)

  -- the fact and the name of a row
  reason_fact : {r : Row} {f : Fact} (q : Reason a s r) → Memᴰ f (facts (records_for a s)) → r.line ≡ f.line → q.fact ≡ f
  reason_fact q i e = by_line q.due.is_reached.is_fact i (sym q.line ∙ e)

  reason_name : {r : Row} {n : Name} (q : Reason a s r) → Numbers s r.number n → q.name ≡ n
  reason_name q k = sym q.number.1 ∙ k.1

  -- a supplier's round is lower than its fact's
  supplier_falls : {r : Row} (q : Reason a s r) → q.supplier_round < q.due.round
  supplier_falls q = Suppliers.supplied_before a s wf q.due.round q.due.is_round.in_run q.due.is_met q.supplied

  -- one row for each that is due
  row_for : {f : Fact} {n : Name} → RowDue a s f n → RowFor a s f n
  row_for {f} {n} d =
      let (i, e, x) = due_supplied d in
      record {
        row = row_of s.names f n i;
        is_row = due_row d e;
        of_fact = refl;
        of_name = number_in s.names (listed_numbered d.is_reached.is_fact d.is_listed);
        only = λ r m p k.
            let q = row_reason m in
            let y = subst (λ n. Supplies a s n r.cause q.supplier_round) (reason_name q k) q.supplied in
            row_eq r p (number_only k) (Suppliers.one_supplier a s wf y x).0;
      }

  -- ---- their order

  -- two lists in sequence, each of the first before each of the second
  sequence_append : {l m : List Row} → RowsRise a s l → RowsRise a s m → ((r q : Row) → Memᴰ r l → Memᴰ q m → Precedes a s r q) → RowsRise a s (l ++ m)
  sequence_append no_row y h = y
  sequence_append (one_row {r} {rs} f x) y h =
      one_row (λ q i. ⊎_elim (f q) (h r q (Memᴰ.head refl)) (Memᴰ.append_cases rs i))
      (sequence_append x y (λ p q i. h p q (Memᴰ.tail i)))

  -- the rows of a fact and a name: one at most
  abbrev rows_for : Fact → Name → List Row
  rows_for f n = map (row_of s.names f n) (to_list (supplier scanned n))

  one_sequence : (f : Fact) (n : Name) (o : Option Item) → RowsRise a s (map (row_of s.names f n) (to_list o))
  unfolding to_list
  one_sequence f n none = no_row
  one_sequence f n (some i) = one_row (λ q j. absurd (Memᴰ.not-nil j)) no_row

  -- the fact and the name of a reason for such a row
  for_parts : {f : Fact} {n : Name} {r : Row} → Memᴰ f (facts (records_for a s)) → Memᴰ n s.names → Memᴰ r (rows_for f n)
      → (q : Reason a s r) → (q.fact ≡ f) × (q.name ≡ n)
  for_parts {f} {n} {r} i j m q =
      let (x, y, e) = map_elim (row_of s.names f n) (to_list (supplier scanned n)) m in (
        reason_fact q i (sym (ap (λ (r : Row). r.line) e)),
        reason_name q (subst (λ k. Numbers s k n) (ap (λ (r : Row). r.number) e) (number_in s.names j)),
      )

  names_sequence : (f : Fact) → Memᴰ f (facts (records_for a s)) → (ns : List Name) → Ascending ns → ((n : Name) → Memᴰ n ns → Memᴰ n s.names)
      → RowsRise a s (collect (rows_for f) ns)
  unfolding collect
  names_sequence f i [] asc h = no_row
  names_sequence f i (n ∷ ns) asc h =
      sequence_append (one_sequence f n (supplier scanned n))
      (names_sequence f i ns (ascending_tail asc) (λ m j. h m (Memᴰ.tail j)))
      (λ r r' j k q q'.
      let (m, x, y) = collect_elim (rows_for f) ns k in
      let (c, d) = for_parts i (h n (Memᴰ.head refl)) j q in
      let (c', d') = for_parts i (h m (Memᴰ.tail x)) y q' in
      inr (c ∙ sym c', rw (d, d') (ascending_head asc m (mem_intro x))))

  rows_sequence : (fs : List Fact) → Ascending (fact_names fs) → ((f : Fact) → Memᴰ f fs → Memᴰ f (facts (records_for a s)))
      → RowsRise a s (collect (rows_of s.names states scanned) fs)
  unfolding collect rows_of met_listed
  rows_sequence [] asc h = no_row
  rows_sequence (f ∷ fs) asc h =
      sequence_append
      (names_sequence f (h f (Memᴰ.head refl)) (met_listed states f)
      (ascending_keep (λ n. mem n (end_of states (round_of states f)).met) (ascending_from_list (listed f))) (λ n j. numbered f (h f (Memᴰ.head refl)) n j))
      (rows_sequence fs (ascending_tail asc) (λ g j. h g (Memᴰ.tail j)))
      (λ r r' j k q q'.
      let (g, x, y) = collect_elim (λ f. collect (rows_for f) (met_listed states f)) fs k in
      let (n, u, v) = collect_elim (rows_for f) (met_listed states f) j in
      let (m, w, z) = collect_elim (rows_for g) (met_listed states g) y in
      let c = (for_parts (h f (Memᴰ.head refl)) (numbered f (h f (Memᴰ.head refl)) n u) v q).0 in
      let c' = (for_parts (h g (Memᴰ.tail x)) (numbered g (h g (Memᴰ.tail x)) m w) z q').0 in
      inl (rw (c, c') (ascending_head asc g.name (mem_intro (map_intro (λ (f : Fact). f.name) x)))))
    where
      numbered : (f : Fact) → Memᴰ f (facts (records_for a s)) → (n : Name) → Memᴰ n (keep (λ n. mem n (end_of states (round_of states f)).met) (from_list (listed f))) → Memᴰ n s.names
      numbered f i n j =
          listed_numbered i
          (mem_elim ((mem_from_list n (listed f)).0 (mem_intro (keep_elim (λ n. mem n (end_of states (round_of states f)).met) (from_list (listed f)) j).0)))

  all_sequence : RowsRise a s (rows a s)
  unfolding rows
  all_sequence = rows_sequence facts_reached (reached_ascending a (records_for a s) s.roots wf) (λ f i. (Suppliers.listed_reached a s wf i).is_fact)

  -- rows in sequence, each with a reason, stand once
  sequence_once : {l : List Row} → RowsRise a s l → ((r : Row) → Memᴰ r l → Reason a s r) → Distinct l
  sequence_once no_row h = nothing_twice
  sequence_once (one_row {r} f x) h =
      once_more (λ i. let q = h r (Memᴰ.head refl) in ⊎_elim (λ p. order_irrefl p refl) (λ p. order_irrefl p.1 refl) (f r i q q))
      (sequence_once x (λ q i. h q (Memᴰ.tail i)))

  rows_once : Distinct (rows a s)
  rows_once = sequence_once all_sequence (λ r i. row_reason i)

  -- ---- how many

  -- the rows that there would be if all listed names of all facts had one
  abbrev all_rows : Fact → List Row
  all_rows f = collect (rows_for f) (listed f)

  all_few : (f : Fact) → length (all_rows f) ≤ sum (map (λ (d : List Name). max 1 (length d)) f.triggers)
  unfolding listed
  all_few f =
      omega (arith, collect_few (rows_for f) (λ (n : Name). 1) (listed f) (λ n. to_list_few (row_of s.names f n) (supplier scanned n)), sum_ones (listed f), listed_few f.triggers)

  row_in_all : (r : Row) → Memᴰ r (rows a s) → Memᴰ r (collect all_rows (facts s.decls))
  row_in_all r i =
      let m = row_made i in
      collect_intro all_rows (in_file m.due.is_reached.is_fact)
      (collect_intro (rows_for m.fact) m.due.is_listed
      (Memᴰ.cast (sym m.is) (map_intro (row_of s.names m.fact m.name) (to_list_intro m.is_supplier))))

  -- no more than trigger entries
  rows_entries : length (rows a s) ≤ s.entries
  rows_entries =
      omega (
        arith,
        distinct_length rows_once (collect all_rows (facts s.decls)) row_in_all,
        collect_few all_rows (λ (f : Fact). sum (map (λ (d : List Name). max 1 (length d)) f.triggers)) (facts s.decls) all_few,
        entries_facts s.decls,
        laws.counts.entries,
      )

  -- ---- chains

  ambient_root_ambient : (kind : AsumKind) → T (is_ambient_root kind) → T (is_ambient kind)
  unfolding is_ambient is_ambient_root
  ambient_root_ambient Drop t = t
  ambient_root_ambient (Ambient is_root) t = tt
  ambient_root_ambient (Triggers n) t = t

  -- a reached fact has a row: a listed name of it is first met in its round
  reached_row : {f : Fact} → ReachedBy a s f → (r : Row) × Memᴰ r (rows a s) × (r.line ≡ f.line)
  reached_row {f} x =
      let k = Suppliers.its_round a s wf f x in
      let (n, j, u, v) = first_met (at_end a s k.before).met (at_end a s (suc k.before)).met f k.triggered in
      let d = row_for (record {
        is_reached = x;
        round = round_of states f;
        is_round = k;
        is_listed = j;
        is_met = subst (λ k. T (mem n (end_of states k).met)) (sym k.is) u;
      }) in
      (d.row, d.is_row, d.of_fact)

  -- the supplier of a row is of round 0 or a reached fact
  row_supplier : {f : Fact} (r : Row) → Memᴰ r (rows a s) → r.line ≡ f.line
      → ((free : List Name) × Scanned a s r.cause 0 free) ⊎ ((g : Fact) × Brought a s f g × (r.cause ≡ g.line))
  row_supplier {f} r i e = let q = row_reason i in go q.supplied.is_scanned
    where
      go : {round : ℕ} {free : List Name} → Scanned a s r.cause round free
          → ((free : List Name) × Scanned a s r.cause 0 free) ⊎ ((g : Fact) × Brought a s f g × (r.cause ≡ g.line))
      go (root x j q p k n) = inl (x.free_names, root x j q p refl refl)
      go (ambient_root x j q u p k n) = inl (x.free_names, ambient_root x j q u p refl refl)
      go (reached_fact g x k p n) = inr (g, record { is_reached = x; row = r; is_row = i; of_fact = e; supplied = p }, p)

  -- a fact that supplied a name is of a lower round
  brought_lower : {f g : Fact} → ReachedBy a s f → Brought a s f g → round_of states g < round_of states f
  brought_lower {f} {g} x b =
      let q = row_reason b.is_row in
      let e = reason_fact q x.is_fact b.of_fact in
      let l = supplier_falls q in
      let k = Suppliers.one_round a s wf q.fact q.due.is_reached q.due.is_round in
      let k' : round_of states q.fact ≡ round_of states f = ap (round_of states) e in
      let c = of_round q.supplied.is_scanned in
      omega arith
    where
      of_round : {round : ℕ} {free : List Name} → Scanned a s b.row.cause round free → round_of states g ≡ round
      of_round (root x j q p k n) = absurd (fact_or_root exclude_names file s accepted (in_file b.is_reached.is_fact) j (sym b.supplied ∙ p))
      of_round (ambient_root x j q u p k n) =
          let e = by_line j b.is_reached.is_fact (sym p ∙ b.supplied) in
          absurd (T_not (is_ambient g.kind) (reached_no_ambient a (records_for a s) s.roots wf g b.is_reached.is_fact b.is_reached.is_reached)
          (ambient_root_ambient g.kind (subst (λ (x : Fact). T (is_ambient_root x.kind)) e q)))
      of_round (reached_fact f x k p n) =
          let e = by_line x.is_fact b.is_reached.is_fact (sym p ∙ b.supplied) in
          ap (round_of states) (sym e) ∙ sym (Suppliers.one_round a s wf f x k)

  -- so the chains end
  chains : (bound : ℕ) (f : Fact) → ReachedBy a s f → round_of states f < bound → Grounded a s f
  chains zero f x l = absurd (omega arith)
  chains (suc bound) f x l =
      grounded (reached_row x) (λ r j e. row_supplier r j e)
      (λ g b. chains bound g b.is_reached (omega (arith, brought_lower x b)))

-- ---- the statements

pub rounds_of_facts : RoundsOfFacts
rounds_of_facts file s accepted a f r = Suppliers.round_exact a s (well_for file s accepted a) f r

pub rows_exact : RowsExact
rows_exact file s accepted a r = (λ i. row_reason file s accepted a i, λ q. reason_row file s accepted a q)

pub supplier_lower : SupplierLower
supplier_lower file s accepted a r q = supplier_falls file s accepted a q

pub one_row_each : OneRow
one_row_each file s accepted a f n d = row_for file s accepted a d

pub rows_in_order : RowsInOrder
rows_in_order file s accepted a = (all_sequence file s accepted a, rows_once file s accepted a)

pub rows_fit : RowsFit
rows_fit file s accepted a = omega (arith, rows_entries file s accepted a, few_entries file s accepted)

pub met_exact : MetExact
unfolding met_bits met_number
met_exact file s accepted a =
    let met : Name → Bool = λ n. mem n (run_of a s).met in
    record {
      one_bit_each = length-map s.names met;
      bit = λ k n (h, e). getD_map met s.names k [] false h ∙ ap met e;
      number = count_map (λ b. b) met s.names ∙ count_keep met s.names;
      names_once = (accepted_laws file s accepted).numbered_once;
    }

pub chains_end : ChainsEnd
chains_end file s accepted a f r = chains file s accepted a (suc (round_of (history_for a s) f)) f r (omega arith)

pub supplier_found : SupplierFound
supplier_found file s accepted a n k m line round = Suppliers.supplier_found a s (well_for file s accepted a) m line round
