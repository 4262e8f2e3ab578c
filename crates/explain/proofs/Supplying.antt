-- The column of suppliers after the pass is that of `model`: the records that were scanned are the scanned items, what they meet
-- is what the items have, and the one on the lowest line that supplies a name is its supplier.
use Prim.Native.Nat.{ℕ, suc, ◌+◌, ◌≤◌, ◌<◌}
use native.Mathlib.Omega.{arith}
use mathlib.Core.Path.{◌≡◌, refl, sym, ◌∙◌, ap, subst}
use mathlib.Core.Logic.{inl, inr, ⊎_elim}
use mathlib.Core.List.Memᴰ
use mathlib.Core.List.{List, [], ◌∷◌, map, Memᴰ}
use Rattle.std.specs.Option as Option
use Rattle.std.specs.Prelude.{Some as some}
use lib.Dec.{T, T_not, ltb, eqb, eqb→eq, eqb_refl, nltb→le}
use lib.ListN.{length, get_or}
use borrow.Author.Tests.{eq-eqb}
use Rattle.model.specs.Names.{Name, mem}
use Rattle.model.specs.Summaries.{Fact}
use Rattle.model.specs.Reading.{Ask, Root, State}
use Rattle.model.specs.Outcome.{working_words}
use Rattle.model.specs.Pruning.{try_find}
use Rattle.model.specs.Rounds.{facts, macros, is_ambient, is_ambient_root, asks_for, round_of}
use Rattle.model.specs.Reasons.{Item, scanned_items, supplier}
use Rattle.model.specs.declared.AsumKind.{AsumKind}
use Rattle.model.specs.declared.AsumKind.TheVariants.{Drop, Ambient, Triggers}
use Rattle.model.specs.declared.Asked.{Asked}
use Rattle.model.specs.declared.Counts.{Counts}
use Rattle.model.proofs.ListLaws.{T_or, T_dec, true_T, any_intro, any_elim, collect_intro, collect_elim, map_intro, map_elim}
use Rattle.demands.specs.LinesRead.{records_for}
use Rattle.demands.specs.WellFormed.{WellFormed}
use Rattle.demands.specs.Demand3.{run_of}
use Rattle.demands.specs.History.{history_for}
use Rattle.demands.specs.Reasons.{ReachedBy, ItsRound, Scanned, root, ambient_root, reached_fact, Has, Supplies, FirstMet}
use Rattle.demands.proofs.ListedLaws.{reached_no_ambient}
use Rattle.demands.proofs.Suppliers
use Rattle.names.specs.Table.{name_of}
use Rattle.records.specs.Columns.{record_kind, record_line, record_name, record_flag, summary_code, root_kind}
use Rattle.records.specs.States.{uses_at, free_at, fact_at, background_of, takes_part, ask_of, state_of}
use Rattle.records.proofs.Taking.{part_kind}
use Rattle.macros.specs.Macros.{Filled}
use Rattle.firing.specs.Held.{Held}
use Rattle.firing.specs.Tables.{held_of, starts_at}
use Rattle.firing.specs.Met.{reached_column, is_met, is_reached}
use Rattle.firing.specs.Firing.{opened_all}
use Rattle.scan.specs.Runs.{tables_run, tables_history, Ran}
use Rattle.scan.specs.declared.Scan.{Scan}
use Rattle.firing.proofs.Numbers.{set_intro, set_elim}
use Rattle.firing.proofs.Background.{facts_elim, facts_intro, root_of, roots_elim, roots_intro}
use Rattle.firing.proofs.Joining.{laid, holds}
use Rattle.firing.proofs.Starting.{root_code, root_starts, fact_starts, starts_elim, free_in, free_out}
use Rattle.suppliers.specs.Notes.{supplier_column, was_scanned, Supplying, NotedSupplier, nobody, lowest, SuppliersNoted}
use Rattle.suppliers.proofs.Passing.{suppliers_found}

-- an ambient root is ambient
root_ambient : (kind : AsumKind) → T (is_ambient_root kind) → T (is_ambient kind)
unfolding is_ambient is_ambient_root
root_ambient Drop t = t
root_ambient (Ambient is_root) t = tt
root_ambient (Triggers n) t = t

-- a query is asked for where it is one of the ask's
asked_in : (a : Ask) (q : ℕ) → T (asks_for a q) → Memᴰ q a.queries
unfolding asks_for
asked_in a q t = let (p, m, e) = any_elim (eqb q) a.queries t in Memᴰ.cast (eqb→eq q p e) m

in_asked : (a : Ask) (q : ℕ) → Memᴰ q a.queries → T (asks_for a q)
unfolding asks_for
in_asked a q m = any_intro (eqb q) m (eqb_refl q)

-- a word of the column has the record, one of so many, that is on the line of the supplier of a name among the items
pub record SupplierAt (is : List Item) (n : Name) (recs : List ℕ) (records word : ℕ) : Type 0 where
  pub number : ℕ
  pub word_is : word ≡ suc number
  pub low : number < records
  pub item : Item
  pub supplier_is : supplier is n ≡ some item
  pub line_is : item.line ≡ record_line recs number

-- the fact of a record that is reached
pub fact_reached : {file names recs lists : List ℕ} {k : Counts} (refs rows : List ℕ) (a : Asked) {w v : List ℕ} {sc : Scan}
    → Ran file names recs lists k a w v sc → (i : ℕ) → i < k.records → T (is_reached v i)
    → ReachedBy (ask_of recs a) (state_of file names refs rows recs lists k) (fact_at (name_of file names) recs lists i)
unfolding state_of fact_at tables_run
fact_reached {file} {names} {recs} {lists} {k} refs rows a {v = v} ran i l t =
    let named : ℕ → Name = λ i. name_of file names (record_name recs i) in
    record {
      is_fact = facts_intro (name_of file names) recs lists (ask_of recs a) k.records i l (ran.only_facts i l t);
      is_reached = subst (λ ns. T (mem (named i) ns)) ran.reached (set_intro named (is_reached v) l t);
    }

module _ {file names recs lists : List ℕ} {k : Counts} (x : Filled file names recs lists k) (refs rows : List ℕ) (a : Asked)
    (wf : WellFormed (records_for (ask_of recs a) (state_of file names refs rows recs lists k)) (state_of file names refs rows recs lists k).roots)
    {w v : List ℕ} {sc : Scan} (ran : Ran file names recs lists k a w v sc) where
  abbrev name : ℕ → Name
  name = name_of file names

  abbrev s : State
  s = state_of file names refs rows recs lists k

  -- what is asked
  abbrev q : Ask
  q = ask_of recs a

  abbrev h : Held
  h = held_of names recs lists k a

  abbrev round_at : ℕ → ℕ
  round_at i = get_or v (reached_column + i) 0

  -- a record that is not reached has round 0
  round_none : (i : ℕ) → (T (is_reached v i) → ⊥) → round_at i ≡ 0
  unfolding is_reached
  round_none i d = ⊎_elim (λ t. absurd (d t)) (λ t. let z = nltb→le 0 (round_at i) t in omega arith) (T_dec (ltb 0 (round_at i)))

  -- the fact of a record that takes part
  fact_here : (i : ℕ) → i < k.records → T (takes_part recs q i) → Memᴰ (fact_at name recs lists i) (facts (records_for q s))
  unfolding state_of
  fact_here i l c = facts_intro name recs lists q k.records i l c

  -- the record of a fact that is reached
  reached_record : (i : ℕ) → i < k.records → T (takes_part recs q i) → ReachedBy q s (fact_at name recs lists i) → T (is_reached v i)
  unfolding state_of fact_at tables_run held_of
  reached_record i l c r =
      let (j, m, u, e) = set_elim (λ i. name (record_name recs i)) (is_reached v) k.records
      (subst (λ ns. T (mem (name (record_name recs i)) ns)) (sym ran.reached) r.is_reached) in
      let d = ran.only_facts j m u in
      let y = (holds x a).rows_apart i j l m c d
      ((holds x a).injective (record_name recs i) (record_name recs j) (((laid x).fits a).row_small i l c) (((laid x).fits a).row_small j m d) e) in
      subst (λ z. T (is_reached v z)) (sym y) u

  -- an ambient root is not reached
  ambient_unreached : (i : ℕ) → i < k.records → T (is_ambient_root (fact_at name recs lists i).kind) → T (is_reached v i) → ⊥
  ambient_unreached i l b t =
      let r = fact_reached refs rows a ran i l t in
      T_not (is_ambient (fact_at name recs lists i).kind)
      (reached_no_ambient q (records_for q s) s.roots wf (fact_at name recs lists i) r.is_fact r.is_reached)
      (root_ambient (fact_at name recs lists i).kind b)

  -- a root is not reached
  root_unreached : (i : ℕ) → i < k.records → record_kind recs i ≡ root_kind → T (is_reached v i) → ⊥
  root_unreached i l c t = let d = part_kind recs q i (ran.only_facts i l t) in omega (arith, c, d)

  -- the round of a record that is reached is that of its fact
  record_round : (i : ℕ) → i < k.records → T (is_reached v i) → round_at i ≡ round_of (history_for q s) (fact_at name recs lists i)
  unfolding tables_history state_of
  record_round i l u = ran.reached_round i l u

  -- ---- the scanned records are the scanned items

  pub record_scanned : (i : ℕ) → i < k.records → T (was_scanned (starts_at recs a) v i)
      → Scanned q s (record_line recs i) (round_at i) (free_at name recs lists i)
  unfolding was_scanned state_of fact_at
  record_scanned i l t = ⊎_elim
      (λ u. ⊎_elim
      (λ (c, y).
      root (root_of name recs lists i) (roots_intro name recs lists k.records i l (true_T (eq-eqb (record_kind recs i) root_kind c)))
      (asked_in q (record_flag recs i) y) refl (round_none i (root_unreached i l c)) refl)
      (λ (c, y, n).
      let b = subst (λ z. T z) (sym (root_code (summary_code recs i))) y in
      ambient_root (fact_at name recs lists i) (fact_here i l c) b n refl (round_none i (ambient_unreached i l b)) refl)
      (starts_elim recs a i u))
      (λ u. let r = fact_reached refs rows a ran i l u in
      reached_fact (fact_at name recs lists i) r
      (subst (ItsRound q s (fact_at name recs lists i)) (sym (record_round i l u)) (Suppliers.its_round q s wf (fact_at name recs lists i) r)) refl refl)
      ((T_or (starts_at recs a i) (is_reached v i)).0 t)

  -- a record with the line, the round and the free names of an item
  pub record OfRecord (line round : ℕ) (free : List Name) : Type 0 where
    pub number : ℕ
    pub low : number < k.records
    pub scanned : T (was_scanned (starts_at recs a) v number)
    pub line_is : line ≡ record_line recs number
    pub round_is : round ≡ round_at number
    pub free_is : free ≡ free_at name recs lists number

  -- a scanned item is that of a scanned record
  pub item_record : {line round : ℕ} {free : List Name} → Scanned q s line round free → OfRecord line round free
  unfolding was_scanned state_of fact_at
  item_record (root r m y p e f) =
      let (i, l, c, d) = roots_elim name recs lists k.records m in
      let g = eqb→eq (record_kind recs i) root_kind c in
      record {
        number = i;
        low = l;
        scanned = (T_or (starts_at recs a i) (is_reached v i)).1
            (inl (root_starts recs a i g (in_asked q (record_flag recs i) (subst (λ (r : Root). Memᴰ r.query q.queries) d y))));
        line_is = p ∙ ap (λ (r : Root). r.line) d;
        round_is = e ∙ sym (round_none i (root_unreached i l g));
        free_is = f ∙ ap (λ (r : Root). r.free_names) d;
      }
  item_record (ambient_root f m t n p e g) =
      let (i, l, c, d) = facts_elim name recs lists q k.records m in
      let b = subst (λ (f : Fact). T (is_ambient_root f.kind)) d t in
      record {
        number = i;
        low = l;
        scanned = (T_or (starts_at recs a i) (is_reached v i)).1 (inl (fact_starts recs a i c (subst (λ z. T z) (root_code (summary_code recs i)) b) n));
        line_is = p ∙ ap (λ (f : Fact). f.line) d;
        round_is = e ∙ sym (round_none i (ambient_unreached i l b));
        free_is = g ∙ ap (λ (f : Fact). f.free_names) d;
      }
  item_record {round} (reached_fact f r y p g) =
      let (i, l, c, d) = facts_elim name recs lists q k.records r.is_fact in
      let r' = subst (λ (f : Fact). ReachedBy q s f) d r in
      let u = reached_record i l c r' in
      record {
        number = i;
        low = l;
        scanned = (T_or (starts_at recs a i) (is_reached v i)).1 (inr u);
        line_is = p ∙ ap (λ (f : Fact). f.line) d;
        round_is = Suppliers.one_round q s wf (fact_at name recs lists i) r' (subst (λ (f : Fact). ItsRound q s f round) d y) ∙ sym (record_round i l u);
        free_is = g ∙ ap (λ (f : Fact). f.free_names) d;
      }

  -- ---- what a record meets is what its item has

  pub meets_has : (i n : ℕ) → i < k.records → n < k.names → Memᴰ n (opened_all h.opens (h.frees i)) → Has q s (free_at name recs lists i) (name n)
  unfolding opened_all held_of state_of
  meets_has i n l ln m =
      let (b, y, z) = collect_elim (λ n. n ∷ h.opens n) (h.frees i) m in
      let lb = ((laid x).fits a).frees_small i b l y in
      ⊎_elim
      (λ (e : n ≡ b). inl (free_out x a i (subst (λ z. Memᴰ (name z) (map name (uses_at recs lists i))) (sym e) (map_intro name y))))
      (λ e. inr (name b, free_out x a i (map_intro name y), ((holds x a).macro b n lb ln).1 e))
      (Memᴰ.cases_cons z)

  pub has_meets : (i n : ℕ) → i < k.records → n < k.names → Has q s (free_at name recs lists i) (name n) → Memᴰ n (opened_all h.opens (h.frees i))
  unfolding opened_all held_of state_of
  has_meets i n l ln (inl m) =
      let (b, y, e) = map_elim name (uses_at recs lists i) (free_in x a i m) in
      let lb = ((laid x).fits a).frees_small i b l y in
      collect_intro (λ n. n ∷ h.opens n) y (Memᴰ.head ((holds x a).injective n b ln lb (sym e)))
  has_meets i n l ln (inr (c, m, y)) =
      let (b, z, e) = map_elim name (uses_at recs lists i) (free_in x a i m) in
      let lb = ((laid x).fits a).frees_small i b l z in
      collect_intro (λ n. n ∷ h.opens n) z
      (Memᴰ.tail (((holds x a).macro b n lb ln).0
      (subst (λ z. Memᴰ (name n) (Option.unwrap_or (try_find (macros (background_of name recs lists q k.records)) z) [])) (sym e) y)))

  -- ---- the supplier

  module _ (n : ℕ) (ln : n < k.names) (met : T (is_met v n)) where
    pub is_met_name : T (mem (name n) (run_of q s).met)
    unfolding state_of tables_run
    is_met_name = subst (λ b. T b) (ran.met n ln) met

    -- the round of its first meeting stands in its word
    first_time : (j : ℕ) × (get_or v n 0 ≡ suc j) × FirstMet q s (name n) j
    unfolding state_of tables_history
    first_time = let (j, e, f) = Suppliers.first_met_in q s wf (name n) is_met_name in (j, ran.met_round n ln met ∙ e, f)

    -- the column has the supplier
    pub column_supplier : {word : ℕ} → NotedSupplier h (record_line recs) (starts_at recs a) v k.records n word
        → (i : ℕ) × (word ≡ suc i) × (i < k.records) × Supplies q s (name n) (record_line recs i) (round_at i)
    column_supplier (nobody e f) =
        let (j, y, m) = first_time in
        let r = m.in_run in
        let (it, d, z) = Suppliers.met_supplied q s wf (suc j) (omega arith) (name n) m.is_met in
        let (c, u) = (Suppliers.supplier_found q s wf m it.line it.round).0 z in
        let o = item_record u.is_scanned in
        absurd (f o.number o.low (record {
          scanned = o.scanned;
          has = has_meets o.number n o.low ln (subst (λ l. Has q s l (name n)) o.free_is u.has);
          in_time = y ∙ ap suc o.round_is;
        }))
    column_supplier (lowest i e l y f) =
        let (j, z, m) = first_time in
        let t = y.in_time in
        let c : round_at i ≡ j = omega arith in (
          i,
          e,
          l,
          (Suppliers.supplier_found q s wf m (record_line recs i) (round_at i)).1 (
            c,
            record {
              free = free_at name recs lists i;
              is_scanned = subst (λ r. Scanned q s (record_line recs i) r (free_at name recs lists i)) c (record_scanned i l y.scanned);
              has = meets_has i n l ln y.has;
              lowest = λ line' free' p b.
                  let o = item_record p in
                  let u : Supplying h (starts_at recs a) v o.number n = record {
                    scanned = o.scanned;
                    has = has_meets o.number n o.low ln (subst (λ l. Has q s l (name n)) o.free_is b);
                    in_time = z ∙ ap suc o.round_is;
                  } in
                  omega (arith, f o.number o.low u, o.line_is);
            },
          ),
        )

    -- the item that the definition gives is on the line of the column's record
    pub column_item : {word : ℕ} → NotedSupplier h (record_line recs) (starts_at recs a) v k.records n word
        → SupplierAt (scanned_items q (records_for q s) s.roots) (name n) recs k.records word
    column_item y =
        let (i, e, l, z) = column_supplier y in
        let (it, d, u) = Suppliers.supplier_exact q s wf (name n) z.is_scanned z.has in
        record { number = i; word_is = e; low = l; item = it; supplier_is = d; line_is = (Suppliers.one_supplier q s wf u z).0 }

    -- the same of the slice after the pass
    pub noted_item : {u : List ℕ} → working_words ≤ length v → SuppliersNoted names recs lists k a v u
        → SupplierAt (scanned_items q (records_for q s) s.roots) (name n) recs k.records (get_or u (supplier_column + n) 0)
    noted_item room y = column_item (suppliers_found (laid x) room y n ln)
