-- The reasons of an ask over filled tables: what the rows ask after the run and the pass of suppliers, and what is told.
use Prim.Native.Nat.{ℕ, ◌-◌, ◌≤◌, ◌<◌}
use native.Mathlib.Omega.{arith}
use mathlib.Core.Path.{◌≡◌, refl, sym, ◌∙◌, ap, ap₂, subst}
use mathlib.Core.List.{List}
use lib.Dec.{T, ltb}
use lib.ListN.{length, get_or, take}
use lib.Seq.{ext_get_or, get_or-take, length-take-le}
use Rattle.model.specs.Lists.{count}
use Rattle.model.specs.Reading.{Ask, State}
use Rattle.model.specs.Outcome.{working_words}
use Rattle.model.specs.Reasons.{scanned_items, rows, met_bits, met_number}
use Rattle.model.specs.Explaining.{reasons, why}
use Rattle.model.specs.declared.Asked.{Asked}
use Rattle.model.specs.declared.Counts.{Counts}
use Rattle.model.specs.declared.Verdict.TheVariants.{Accepted}
use Rattle.demands.specs.LinesRead.{records_for}
use Rattle.demands.proofs.Background.{well_for}
use Rattle.demands.proofs.Suppliers
use Rattle.demands.proofs.Reasons.{rows_fit}
use Rattle.names.specs.Table.{name_of}
use Rattle.words.proofs.Slices.{same_then, same_wider}
use Rattle.records.specs.Columns.{record_line}
use Rattle.records.specs.States.{ask_of, state_of}
use Rattle.firing.specs.Met.{run_end, is_met}
use Rattle.scan.specs.Runs.{Ran}
use Rattle.scan.specs.declared.Scan.{Scan}
use Rattle.firing.proofs.Joining.{laid}
use Rattle.suppliers.specs.Notes.{SuppliersNoted}
use Rattle.prune.proofs.Linking.{index_filled}
use Rattle.rows.specs.Rows.{words_of}
use Rattle.reasons.specs.Rows.{supplied, rows_in, Supplier, Explainable, RowsPut}
use Rattle.bits.specs.Bits.{Met}
use Rattle.explain.specs.Call.{TellsRows, LentTables}
use Rattle.explain.proofs.SmallLines.{scanned_small}
use Rattle.explain.proofs.Supplying.{SupplierAt, noted_item}
use Rattle.explain.proofs.Rows.{rows_same, rows_are, met_counted}

module _ {file names recs lists refs run v u : List ℕ} {k : Counts} {a : Asked} (lent : LentTables file names refs recs lists run k a)
    {sc : Scan} (ran : Ran file names recs lists k a run v sc) (noted : SuppliersNoted names recs lists k a v u) where
  -- the file as it was read, and what is asked of it
  abbrev s : State
  s = state_of file names refs lent.table recs lists k

  abbrev q : Ask
  q = ask_of recs a

  -- the run's slice keeps its length
  run_long : working_words ≤ length v
  run_long = omega (arith, lent.room, ran.same.same_length)

  noted_long : working_words ≤ length u
  noted_long = omega (arith, run_long, noted.same.same_length)

  -- the pass leaves the columns of the run
  columns_stay : (j : ℕ) → j < run_end → get_or u j 0 ≡ get_or v j 0
  columns_stay j h = noted.same.same_words j (λ low high. omega arith)

  name_stays : (n : ℕ) → n < k.names → is_met u n ≡ is_met v n
  unfolding is_met
  name_stays n h = ap (ltb 0) (columns_stay n (omega (arith, lent.filled.table.few)))

  -- the supplier of a name that is met
  found_item : (n : ℕ) → n < k.names → T (is_met v n)
      → SupplierAt (scanned_items q (records_for q s) s.roots) (name_of file names n) recs k.records (supplied u n)
  found_item n h t =
      noted_item lent.filled refs lent.table a (well_for file s lent.read q) ran n h t run_long noted

  found_supplier : (n : ℕ) → n < k.names → T (is_met u n) → Supplier recs k.records (supplied u n)
  found_supplier n h t =
      let f = found_item n h (subst T (name_stays n h) t) in
      let line : record_line recs (supplied u n - 1) ≡ f.item.line =
      ap (record_line recs) (let e : supplied u n - 1 ≡ f.number = omega (arith, f.word_is) in e) ∙ sym f.line_is in
      record {
        some = omega (arith, f.word_is);
        low = omega (arith, f.word_is, f.low);
        line = omega (
          arith,
          line,
          scanned_small file s lent.read lent.small q
              (Suppliers.supplier_is q s (well_for file s lent.read q) (name_of file names n) f.supplier_is).is_scanned,
        );
      }

  -- the rows on numbers are those of the definitions
  rows_there : rows_in names recs lists u (supplied u) k ≡ rows q s
  rows_there =
      rows_same lent.filled u v (supplied u) (supplied u) columns_stay (λ n h. refl)
      ∙ rows_are lent.filled refs lent.table lent.read a ran (supplied u) (λ n h t.
      let f = found_item n h t in
      (f.item, f.supplier_is, f.line_is ∙ ap (record_line recs) (let e : f.number ≡ supplied u n - 1 = omega (arith, f.word_is) in e)))

  pub explainable : Explainable names refs recs lists u k
  explainable = record {
    laid = laid lent.filled;
    index = index_filled lent.filled;
    took = λ n h. lent.filled.stocked.taken.low n (omega (arith, lent.filled.table.few));
    row_room = lent.row_room;
    run_room = noted_long;
    suppliers = found_supplier;
    fits = rw rows_there (rows_fit file s lent.read q);
  }

  -- the names met
  met_there : {r : ℕ} {u' : List ℕ} → Met k.names u u' r → r ≡ met_number q s
  met_there m =
      m.met ∙ ap (count (λ w. ltb 0 w)) same
      ∙ met_counted lent.filled refs lent.table lent.read a ran (omega (arith, run_long, lent.filled.table.few))
    where
      same : take k.names u ≡ take k.names v
      same = ext_get_or 0 (take k.names u) (take k.names v)
          (length-take-le k.names u (omega (arith, noted_long, lent.filled.table.few))
          ∙ sym (length-take-le k.names v (omega (arith, run_long, lent.filled.table.few))))
          (λ i h.
          let low : i < k.names = omega (arith, length-take-le k.names u (omega (arith, noted_long, lent.filled.table.few))) in
          get_or-take k.names u i 0 low ∙ columns_stay i (omega (arith, lent.filled.table.few)) ∙ sym (get_or-take k.names v i 0 low))

  -- the term lines do not matter to the reasons
  rows_any : (table : List ℕ) → rows q (state_of file names refs table recs lists k) ≡ rows q s
  unfolding rows state_of
  rows_any table = refl

  met_any : (table : List ℕ) → met_number q (state_of file names refs table recs lists k) ≡ met_number q s
  unfolding met_number met_bits state_of
  met_any table = refl

  -- the answer, the rows and the slices
  pub tells_rows : {refs' u' : List ℕ} {r met : ℕ} → RowsPut names recs lists u k refs refs' r → Met k.names u u' met
      → TellsRows file names recs lists k a refs refs' run u' (record { verdict = Accepted; place = 0; met = met; rows = r })
  unfolding why reasons
  tells_rows {refs'} {u'} {r} {met} put m =
      let counted : r ≡ length (rows q s) = put.count ∙ ap length rows_there in
      record {
        answered = λ table.
            ap₂ (λ n j. record { verdict = Accepted; place = 0; met = n; rows = j }) (met_there m ∙ sym (met_any table))
            (counted ∙ ap length (sym (rows_any table)));
        stand = λ table. put.words ∙ ap words_of (rows_there ∙ sym (rows_any table));
        few = omega (arith, counted, rows_fit file s lent.read q);
        row_words = same_wider 0 working_words (omega arith) (omega (arith, counted, rows_fit file s lent.read q)) put.same;
        run_words = same_then (same_wider 0 working_words (omega arith) (omega arith) ran.same)
            (same_then (same_wider 0 working_words (omega arith) (omega arith) noted.same)
            (same_wider 0 working_words (omega arith) (omega arith) m.same));
      }
