-- A record line judged on the state that the tables are.
use Prim.Native.Nat.{ℕ, zero, suc, ◌+◌, ◌-◌, ◌≤◌, ◌<◌}
use native.Mathlib.Nat.{not-suc-le-zero}
use native.Mathlib.Omega.{arith}
use mathlib.Core.Path.{◌≡◌, refl, ap, ◌∙◌}
use mathlib.Core.Bool.{Bool, true, false, cond, ◌||◌}
use mathlib.Core.Logic.{⊎_elim}
use mathlib.Core.List.Memᴰ
use mathlib.Core.List.{List, [], ◌∷◌, Memᴰ}
use lib.ListN.{length}
use lib.Dec.{not_T}
use borrow.Author.Tests.{le-leb}
use Rattle.model.specs.Summaries.{exclude_names}
use Rattle.model.specs.Lists.{collect, any}
use Rattle.model.specs.Names.{Name, mem}
use Rattle.model.specs.Reading.{Result, ok, refused, ◌>>=◌, Content, State, taken_by, summarize_decl, limits, under_limits, add_line, repeats, read_line, parse, most_names, most_terms, most_references, most_records, most_entries, most_uses, excluded}
use Rattle.model.specs.Lines.{fields}
use Rattle.model.specs.declared.Counts.{Counts}
use Rattle.model.specs.declared.Refusal.{Refusal}
use Rattle.model.specs.declared.Refusal.TheVariants as refusal
use Rattle.model.proofs.ListLaws.{T_true, T_false, collect_append}
use Rattle.model.proofs.SetLaws.{mem_intro, mem_elim}
use Rattle.laws.proofs.ReadingLaws.{Lowest, under_lowest}
use Rattle.names.specs.Table.{name_of}
use Rattle.names.proofs.Laws.{distinct}
use Rattle.terms.proofs.Laws.{equal}
use Rattle.rules.specs.Views.{terms_in}
use Rattle.records.specs.Columns.{record_kind, record_name, retain_kind, taken_at}
use Rattle.records.specs.States.{decl_at, fact_at, summary_at, decls_of, state_of}
use Rattle.records.specs.Adding.{Standing, judge}

-- ---- the limits

-- every limit is kept
pub record Within (s : State) : Type 0 where
  pub names : length s.names ≤ most_names
  pub terms : length s.terms ≤ most_terms
  pub references : s.references ≤ most_references
  pub records : length s.hidden + (length s.decls + length s.roots) ≤ most_records
  pub entries : s.entries ≤ most_entries
  pub uses : s.uses ≤ most_uses

-- where every limit is kept the state is the value
pub within_limits : (s : State) → Within s → under_limits (limits s) s ≡ ok s
unfolding limits under_limits
within_limits s w =
    rw (le-leb _ _ w.names, le-leb _ _ w.terms, le-leb _ _ w.references, le-leb _ _ w.records, le-leb _ _ w.entries, le-leb _ _ w.uses)

-- ---- a line judged

-- a line whose 0A is there is judged by what its fields say
pub line_judged : (n : ℕ) (s : State) (bytes : List ℕ)
    → read_line exclude_names n s (record { bytes = bytes; ended = true }) ≡ (parse s (fields bytes) >>= judge n s)
unfolding read_line judge
line_judged n s bytes = go (parse s (fields bytes))
  where
    pick : (b : Bool) (c : Content) (f : Content → Result State)
        → (cond b (refused refusal.Repeated) (ok c) >>= f) ≡ cond b (refused refusal.Repeated) (f c)
    pick true c f = refl
    pick false c f = refl

    go : (said : Result Content)
        → (said >>= λ c. cond (repeats exclude_names n s c) (refused refusal.Repeated) (ok c) >>= λ d. under_limits (limits (add_line exclude_names n s d))
        (add_line exclude_names n s d))
        ≡ (said >>= judge n s)
    go (ok c) = pick (repeats exclude_names n s c) c (λ d. under_limits (limits (add_line exclude_names n s d)) (add_line exclude_names n s d))
    go (refused x) = refl

module _ (n : ℕ) (s : State) (c : Content) where
  -- 5
  pub judged_repeated : repeats exclude_names n s c ≡ true → judge n s c ≡ refused refusal.Repeated
  unfolding judge
  judged_repeated e = rw e

  -- the lowest refusal of the limits that it passes
  pub judged_beyond : repeats exclude_names n s c ≡ false → {x : Refusal} → Lowest (add_line exclude_names n s c) x
      → judge n s c ≡ refused x
  unfolding judge
  judged_beyond e l = rw e (under_lowest (add_line exclude_names n s c) l)

  -- the state with the line
  pub judged_within : repeats exclude_names n s c ≡ false → {t : State} → add_line exclude_names n s c ≡ t → Within t → judge n s c ≡ ok t
  unfolding judge
  judged_within e {t} is w = rw (e, is) (within_limits t w)

-- ---- which names are taken

module _ (name : ℕ → Name) (recs lists : List ℕ) where
  -- the name that a record takes
  took_at : (i kind : ℕ) {y : Name} → Memᴰ y (collect taken_by (summary_at name recs lists i kind)) → (kind < retain_kind) × (y ≡ name (record_name recs i))
  unfolding summary_at decl_at fact_at collect taken_by
  took_at i zero m = (omega arith, Memᴰ.eq_of_singleton m)
  took_at i (suc zero) m = (omega arith, Memᴰ.eq_of_singleton m)
  took_at i (suc (suc zero)) m = (omega arith, Memᴰ.eq_of_singleton m)
  took_at i (suc (suc (suc zero))) m = absurd (Memᴰ.not-nil m)
  took_at i (suc (suc (suc (suc k)))) m = absurd (Memᴰ.not-nil m)

  takes_at : (i kind : ℕ) → kind < retain_kind → Memᴰ (name (record_name recs i)) (collect taken_by (summary_at name recs lists i kind))
  unfolding summary_at decl_at fact_at collect taken_by
  takes_at i zero h = Memᴰ.head refl
  takes_at i (suc zero) h = Memᴰ.head refl
  takes_at i (suc (suc zero)) h = Memᴰ.head refl
  takes_at i (suc (suc (suc k))) h = absurd (omega arith)

  -- a name that is taken is that of a record
  pub taken_elim : (n : ℕ) {y : Name} → Memᴰ y (collect taken_by (decls_of name recs lists n))
      → (i : ℕ) × (i < n) × (record_kind recs i < retain_kind) × (y ≡ name (record_name recs i))
  unfolding decls_of collect
  taken_elim zero m = absurd (Memᴰ.not-nil m)
  taken_elim (suc n) m = ⊎_elim
      (λ q. let (i, l, t, e) = taken_elim n q in (i, omega arith, t, e))
      (λ q. let (t, e) = took_at n (record_kind recs n) q in (n, omega arith, t, e))
      (Memᴰ.append_cases (collect taken_by (decls_of name recs lists n))
      (rw (collect_append taken_by (decls_of name recs lists n) (summary_at name recs lists n (record_kind recs n))) at m))

  -- and the name of such a record is taken
  taken_intro : (n i : ℕ) → i < n → record_kind recs i < retain_kind → Memᴰ (name (record_name recs i)) (collect taken_by (decls_of name recs lists n))
  unfolding decls_of
  taken_intro zero i h t = absurd (not-suc-le-zero h)
  taken_intro (suc n) i h t = rw (collect_append taken_by (decls_of name recs lists n) (summary_at name recs lists n (record_kind recs n)))
      (⊎_elim
      (λ (e : i ≡ n). Memᴰ.append_right (collect taken_by (decls_of name recs lists n)) (rw e (takes_at n (record_kind recs n) (rw e at t))))
      (λ (e : i ≡ n → ⊥). Memᴰ.append_left (collect taken_by (summary_at name recs lists n (record_kind recs n))) (taken_intro n i (omega arith) t))
      (equal i n))

module _ (n : ℕ) (s : State) (c : Content) where
  -- a line that takes no name repeats none
  pub repeats_none : collect taken_by (summarize_decl (excluded exclude_names s) s.terms n c) ≡ [] → repeats exclude_names n s c ≡ false
  unfolding repeats any
  repeats_none e = rw e

  -- a line that takes a name
  pub repeats_one : {m : Name} → collect taken_by (summarize_decl (excluded exclude_names s) s.terms n c) ≡ m ∷ []
      → repeats exclude_names n s c ≡ (mem m (collect taken_by s.decls) || false)
  unfolding repeats any
  repeats_one e = rw e

module _ {file names refs rows recs lists : List ℕ} {k : Counts} (st : Standing file names refs rows recs lists k) (line : ℕ) (c : Content) {i : ℕ}
    (known : i < k.names)
    (takes : collect taken_by (summarize_decl (excluded exclude_names (state_of file names refs rows recs lists k))
    (terms_in file names refs rows k.references k.terms) line c) ≡ name_of file names i ∷ []) where
  -- a taken name is repeated
  pub repeats_taken : 0 < taken_at names i → repeats exclude_names line (state_of file names refs rows recs lists k) c ≡ true
  unfolding state_of
  repeats_taken h =
      let few = st.tables.name_table.few in
      let j = taken_at names i - 1 in
      let (kind, is) = st.stocked.taken.takes i j (omega arith) (omega arith) in
      let low = st.stocked.taken.low i (omega arith) in
      repeats_one line (state_of file names refs rows recs lists k) c takes
      ∙ rw (T_true (mem (name_of file names i) (collect taken_by (decls_of (name_of file names) recs lists k.records)))
      (mem_intro (rw (ap (name_of file names) is) at (taken_intro (name_of file names) recs lists k.records j (omega arith) kind))))

  -- a free one is not
  pub repeats_free : taken_at names i ≡ 0 → repeats exclude_names line (state_of file names refs rows recs lists k) c ≡ false
  unfolding state_of
  repeats_free h =
      repeats_one line (state_of file names refs rows recs lists k) c takes
      ∙ rw (T_false (mem (name_of file names i) taken) (not_T (mem (name_of file names i) taken) (λ t. new (mem_elim t))))
    where
      taken : List Name
      taken = collect taken_by (decls_of (name_of file names) recs lists k.records)

      new : Memᴰ (name_of file names i) taken → ⊥
      new m =
          let (j, l, kind, e) = taken_elim (name_of file names) recs lists k.records m in
          let low = st.recorded.named_in j l (λ z. omega arith) in
          let same = distinct st.tables.name_table i (record_name recs j) known low e in
          omega (arith, st.stocked.taken.took j l kind, ap (taken_at names) same)
