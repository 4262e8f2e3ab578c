-- The records that took the names: that of a name is what `model` finds by the name; all numbers listed are those of records.
use Prim.Native.Nat.{ℕ, zero, suc, ◌+◌, ◌-◌, ◌≤◌, ◌<◌}
use native.Mathlib.Numerals.{add-one}
use native.Mathlib.Omega.{arith}
use mathlib.Core.Path.{◌≡◌, refl, sym, ap, ◌∙◌, subst}
use mathlib.Core.Logic.{⊎_elim}
use mathlib.Core.Bool.{Bool, true, false, cond, not, ◌&&◌}
use mathlib.Core.List.Memᴰ
use mathlib.Core.List.{List, [], ◌∷◌, Memᴰ}
use lib.ListN.{length}
use lib.Dec.{T, eqb, eqb→eq, not_T, T_not}
use borrow.Author.Tests.{eq-eqb, ne_eqb}
use Rattle.model.specs.Lists.{keep}
use Rattle.model.specs.Names.{Name, same, mem}
use Rattle.model.specs.Reading.{prune_decls}
use Rattle.model.specs.declared.Asked.{Asked}
use Rattle.model.specs.declared.Counts.{Counts}
use Rattle.model.proofs.ListLaws.{T_and, T_true, T_false, true_T, T_dec, cond_true, cond_false, cond_case, option_elim, keep_elim, keep_none, collect_elim}
use Rattle.model.proofs.SetLaws.{same_eq, eq_same}
use Rattle.names.specs.Table.{name_of, ranked}
use Rattle.names.proofs.Laws.{distinct}
use Rattle.terms.proofs.Laws.{equal}
use Rattle.records.specs.Columns.{record_kind, record_name, assume_kind, fun_kind, def_kind, retain_kind, taken_at}
use Rattle.records.specs.States.{ask_of}
use Rattle.macros.specs.Macros.{Filled}
use Rattle.firing.specs.Held.{upto}
use Rattle.firing.specs.Met.{is_reached}
use Rattle.firing.proofs.Numbers.{set_intro, set_elim, upto_elim}
use Rattle.prune.specs.Listing.{from, record_behind, taker, reached_at, kind_at, reached_records, fact_records, kept_items, stamp_records, kind_records, added_records, of_kind, group_records, groups_records, kept_records}
use Rattle.prune.specs.Kept.{reached_of}
use Rattle.prune.proofs.Members.{one_elim, picked_elim, reached_small, added_small, ambients_small, goals_small}
use Rattle.prune.proofs.Ranges.{keep_keep, keep_only, from_below}

-- ---- a record listed by its number and one

-- none by 0
pub one_zero : (t : ℕ) → t ≡ 0 → record_behind t ≡ []
unfolding record_behind
one_zero t e = rw (eq-eqb t 0 e)

-- one by another number
pub one_suc : (t i : ℕ) → t ≡ suc i → record_behind t ≡ i ∷ []
unfolding record_behind
one_suc t i e =
    cond_false (eqb t 0) [] ((t - 1) ∷ []) (not_T (eqb t 0) (λ u. omega (arith, eqb→eq t 0 u))) ∙ ap (◌∷ []) (let z : t - 1 ≡ i = omega arith in z)

-- a number after another is not 0
nonzero : (i : ℕ) → eqb (suc i) 0 ≡ false
nonzero i = ne_eqb (suc i) 0 (λ e. omega arith)

-- a number or 0, by a test
cond_suc : (b : Bool) (t : ℕ) {i : ℕ} → cond b t 0 ≡ suc i → t ≡ suc i
cond_suc true t e = e
cond_suc false t e = absurd (omega arith)

-- the same with the branches turned round
cond_zero : (b : Bool) (t : ℕ) {i : ℕ} → cond b 0 t ≡ suc i → t ≡ suc i
cond_zero true t e = absurd (omega arith)
cond_zero false t e = e

-- a record of a kind of a rank is its taker
kind_taker : (names recs : List ℕ) (kind r : ℕ) {i : ℕ} → kind_at names recs kind r ≡ suc i → taker names r ≡ suc i
unfolding kind_at
kind_taker names recs kind r e =
    cond_suc (eqb (record_kind recs (taker names r - 1)) kind) (taker names r) (cond_zero (eqb (taker names r) 0) _ e)

-- a taker listed if it is of a kind is a record of the kind of a rank
pub kind_one : (names recs : List ℕ) (kind r : ℕ)
    → record_behind (kind_at names recs kind r) ≡ keep (λ i. eqb (record_kind recs i) kind) (record_behind (taker names r))
unfolding kind_at record_behind keep
kind_one names recs kind r = go (taker names r)
  where
    go : (t : ℕ) → record_behind (cond (eqb t 0) 0 (cond (eqb (record_kind recs (t - 1)) kind) t 0))
        ≡ keep (λ i. eqb (record_kind recs i) kind) (record_behind t)
    go zero = refl
    go (suc i) = rw (nonzero i) (go_kind (eqb (record_kind recs (suc i - 1)) kind))
      where
        go_kind : (b : Bool) → record_behind (cond b (suc i) 0) ≡ cond b ((suc i - 1) ∷ []) []
        go_kind true = rw (nonzero i)
        go_kind false = refl

module _ {file names recs lists : List ℕ} {k : Counts} (x : Filled file names recs lists k) where
  -- what took a name is a record
  taken_low : (n i : ℕ) → n < k.names → taken_at names n ≡ suc i → i < k.records
  taken_low n i h e = omega (arith, x.stocked.taken.low n (omega (arith, x.table.few)))

  -- the same by rank
  pub taker_low : (r i : ℕ) → r < k.names → taker names r ≡ suc i → i < k.records
  taker_low r i h e = taken_low (ranked names r) i (x.table.numbers r h) e

  -- a record of a kind whose name is that of a number took it
  named_took : (kind n i : ℕ) → kind < retain_kind → n < k.names → i < k.records → record_kind recs i ≡ kind
      → name_of file names (record_name recs i) ≡ name_of file names n → taken_at names n ≡ suc i
  named_took kind n i l h j e q =
      let low = x.recorded.named_in i j (λ z. omega arith) in
      ap (taken_at names) (sym (distinct x.table (record_name recs i) n low h q)) ∙ x.stocked.taken.took i j (omega arith) ∙ add-one i

  -- the record of a kind that is found by a name is the taker of it
  pub by_name : (kind r : ℕ) → kind < retain_kind → r < k.names
      → keep (λ i. same (name_of file names (record_name recs i)) (name_of file names (ranked names r)))
      (keep (λ i. eqb (record_kind recs i) kind) (from 0 k.records))
      ≡ record_behind (kind_at names recs kind r)
  unfolding kind_at
  by_name kind r l h =
      keep_keep found of_kind (from 0 k.records) ∙ go (taker names r) refl
    where
      of_kind : ℕ → Bool
      of_kind i = eqb (record_kind recs i) kind

      found : ℕ → Bool
      found i = same (name_of file names (record_name recs i)) (name_of file names (ranked names r))

      test : ℕ → Bool
      test i = of_kind i && found i

      took : (i : ℕ) → Memᴰ i (from 0 k.records) → T (test i) → (taker names r ≡ suc i) × (record_kind recs i ≡ kind)
      took i m t =
          let (a, b) = (T_and (of_kind i) (found i)).0 t in
          let e = eqb→eq (record_kind recs i) kind a in
          (named_took kind (ranked names r) i l (x.table.numbers r h) (from_below k.records m) e (same_eq b), e)

      none : ((i : ℕ) → Memᴰ i (from 0 k.records) → (taker names r ≡ suc i) × (record_kind recs i ≡ kind) → ⊥)
          → keep test (from 0 k.records) ≡ []
      none never = keep_none test (from 0 k.records) (λ i m. not_T (test i) (λ t. never i m (took i m t)))

      go : (t : ℕ) → taker names r ≡ t
          → keep test (from 0 k.records) ≡ record_behind (cond (eqb t 0) 0 (cond (eqb (record_kind recs (t - 1)) kind) t 0))
      go zero e = none (λ i m p. let q = p.0 in omega arith) ∙ sym (one_zero 0 refl)
      go (suc i) e =
          let z : suc i - 1 ≡ i = omega arith in
          rw (z, nonzero i)
          (⊎_elim
          (λ (q : record_kind recs i ≡ kind).
          let (a, b) = x.stocked.taken.takes (ranked names r) i (omega (arith, x.table.numbers r h, x.table.few)) (e ∙ sym (add-one i)) in
          keep_only test 0 k.records i (omega arith) (let w = taker_low r i h e in omega arith)
          ((T_and (of_kind i) (found i)).1 (true_T (eq-eqb (record_kind recs i) kind q), eq_same (ap (name_of file names) b)))
          (λ j m t. let w = (took j m t).0 in omega arith)
          ∙ sym (ap record_behind (rw (eq-eqb (record_kind recs i) kind q)) ∙ one_suc (suc i) i refl))
          (λ (q : record_kind recs i ≡ kind → ⊥).
          none (λ j m p. let (u, v) = p in let w : j ≡ i = omega arith in q (rw (← w) v))
          ∙ sym (one_zero _ (rw (ne_eqb (record_kind recs i) kind q))))
          (equal (record_kind recs i) kind))

  -- a rank's name is that of a reached record exactly where its taker is one
  pub reached_one : (run : List ℕ) → ((i : ℕ) → i < k.records → T (is_reached run i) → record_kind recs i ≡ assume_kind)
      → (r : ℕ) → r < k.names
      → cond (mem (name_of file names (ranked names r)) (reached_of file names recs run k)) (record_behind (kind_at names recs assume_kind r)) []
      ≡ record_behind (reached_at names run r)
  unfolding kind_at reached_at reached_of
  reached_one run facts r h = go (taker names r) refl
    where
      name : ℕ → Name
      name i = name_of file names (record_name recs i)

      nm : Name
      nm = name_of file names (ranked names r)

      there : Bool
      there = mem nm (reached_of file names recs run k)

      -- a reached record with the name is its taker
      took : T there → (i : ℕ) × T (is_reached run i) × (taker names r ≡ suc i)
      took t =
          let (i, l, u, e) = set_elim name (is_reached run) k.records t in
          (i, u, named_took assume_kind (ranked names r) i (omega arith) (x.table.numbers r h) l (facts i l u) (sym e))

      go : (t : ℕ) → taker names r ≡ t
          → cond there (record_behind (cond (eqb t 0) 0 (cond (eqb (record_kind recs (t - 1)) assume_kind) t 0))) []
          ≡ record_behind (cond (eqb t 0) 0 (cond (is_reached run (t - 1)) t 0))
      go zero e = cond_case (λ l. l ≡ record_behind 0) there refl (sym (one_zero 0 refl))
      go (suc i) e =
          let z : suc i - 1 ≡ i = omega arith in
          rw (z, nonzero i)
          (⊎_elim
          (λ (u : T (is_reached run i)).
          let l = taker_low r i h e in
          let (a, b) = x.stocked.taken.takes (ranked names r) i (omega (arith, x.table.numbers r h, x.table.few)) (e ∙ sym (add-one i)) in
          let t : T there = subst (λ n. T (mem (name_of file names n) (reached_of file names recs run k))) b (set_intro name (is_reached run) l u) in
          cond_true there _ [] t
          ∙ ap record_behind (rw (eq-eqb (record_kind recs i) assume_kind (facts i l u), T_true (is_reached run i) u)))
          (λ (u : T (not (is_reached run i))).
          cond_false there _ [] (not_T there (λ t. let (j, v, w) = took t in let q : j ≡ i = omega arith in
          T_not (is_reached run i) u (rw (← q) v)))
          ∙ sym (one_zero _ (rw (T_false (is_reached run i) u))))
          (T_dec (is_reached run i)))

  -- a record listed as reached is one of the table, and reached
  pub reached_record : (run : List ℕ) (r : ℕ) → r < k.names → {i : ℕ} → Memᴰ i (record_behind (reached_at names run r))
      → (i < k.records) × T (is_reached run i)
  unfolding reached_at
  reached_record run r h {i} m = go (taker names r) refl (one_elim _ m)
    where
      at_record : (j : ℕ) (b : Bool) → is_reached run j ≡ b → cond b (suc j) 0 ≡ suc i → taker names r ≡ suc j → (i < k.records) × T (is_reached run i)
      at_record j true e q t = let w : i ≡ j = omega arith in (rw w (taker_low r j h t), rw w (true_T e))
      at_record j false e q t = absurd (let none : ⊥ = omega arith in none)

      go : (t : ℕ) → taker names r ≡ t → cond (eqb t 0) 0 (cond (is_reached run (t - 1)) t 0) ≡ suc i → (i < k.records) × T (is_reached run i)
      go zero e q = absurd (let none : ⊥ = omega arith in none)
      go (suc j) e q = let z : suc j - 1 ≡ j = omega arith in at_record j (is_reached run j) refl (rw (z, nonzero j) at q) e

  -- ---- all numbers listed are those of records

  -- a rank picks no more than the last record
  low : (r : ℕ) → r < k.names → taker names r ≤ k.records
  low r h = x.stocked.taken.low (ranked names r) (omega (arith, x.table.numbers r h, x.table.few))

  -- the kept facts
  pub facts_small : (a : Asked) (run : List ℕ) (i : ℕ) → Memᴰ i (fact_records names recs run k a) → i < k.records
  unfolding fact_records
  facts_small a run i m =
      ⊎_elim (reached_small names run k.names k.records low) (ambients_small recs k a)
      (Memᴰ.append_cases (reached_records names run k.names) m)

  -- the items
  pub items_small : (a : Asked) (run : List ℕ) (i : ℕ) → Memᴰ i (kept_items names recs run k a) → i < k.records
  unfolding kept_items
  items_small a run i m =
      ⊎_elim (facts_small a run i) (goals_small recs k a)
      (Memᴰ.append_cases (fact_records names recs run k a) m)

  -- the definitions, or the declarations
  kinds_small : (stamp : ℕ → ℕ) (kind s i : ℕ) → Memᴰ i (kind_records names recs k.names stamp kind s) → i < k.records
  unfolding kind_records stamp_records
  kinds_small stamp kind s i m =
      let (j, a, b) = collect_elim (λ j. stamp_records names recs k.names stamp kind (j + 1)) (upto s) m in
      let (r, c, d) = picked_elim (kind_at names recs kind) (keep (λ r. eqb (stamp r) (j + 1)) (upto k.names)) b in
      taker_low r i (upto_elim k.names (keep_elim (λ r. eqb (stamp r) (j + 1)) (upto k.names) c).0) (kind_taker names recs kind r d)

  -- a group
  group_small : (stamp : ℕ → ℕ) (kind s i : ℕ)
      → Memᴰ i (group_records names recs k.names stamp (added_records names k.names stamp) s kind) → i < k.records
  unfolding group_records of_kind
  group_small stamp kind s i m =
      let added = added_records names k.names stamp in
      ⊎_elim (kinds_small stamp kind s i)
      (λ n. added_small names stamp k.names k.records low (keep_elim (λ i. eqb (record_kind recs i) kind) added n).0)
      (Memᴰ.append_cases (kind_records names recs k.names stamp kind s) m)

  -- the kept records
  pub records_small : (a : Asked) (run : List ℕ) (stamp : ℕ → ℕ) (i : ℕ) → Memᴰ i (kept_records names recs run k a stamp) → i < k.records
  unfolding kept_records groups_records
  records_small a run stamp i m =
      let by_rank : ℕ → ℕ = λ r. stamp (ranked names r) in
      let s = length (kept_items names recs run k a) in
      ⊎_elim (facts_small a run i)
      (λ n.
      ⊎_elim (group_small by_rank def_kind s i) (group_small by_rank fun_kind s i)
      (Memᴰ.append_cases (group_records names recs k.names by_rank (added_records names k.names by_rank) s def_kind)
      (option_elim (prune_decls (ask_of recs a)) n)))
      (Memᴰ.append_cases (fact_records names recs run k a) m)
