-- The tables that the reader filled hold what a run asks for.
use Prim.Native.Nat.{ℕ, ◌+◌, ◌-◌, ◌%◌, ◌≤◌, ◌<◌}
use native.Mathlib.Omega.{arith}
use mathlib.Core.Path.{◌≡◌, refl, sym, ap, ◌∙◌, subst}
use mathlib.Core.Bool.{Bool, true, false, cond, ◌&&◌}
use mathlib.Core.Logic.{◌⊎◌, inl, inr, ⊎_elim}
use mathlib.Core.List.{List, Memᴰ}
use lib.ListN.{length, get_or}
use lib.Seq.{get_or-take, get_or-drop}
use lib.Dec.{T, ltb}
use borrow.Author.Tests.{lt-ltb, le-ltb}
use Rattle.model.specs.Lists.{count}
use Rattle.model.specs.Names.{Name}
use Rattle.model.specs.Rounds.{facts, macros, listed, filed, retainable}
use Rattle.model.specs.declared.Asked.{Asked}
use Rattle.model.specs.declared.Counts.{Counts}
use Rattle.model.proofs.ListLaws.{T_true, count_cong}
use Rattle.model.proofs.PartLaws.{part_elim, part_intro, part_length}
use Rattle.laws.proofs.BackgroundLaws.{background_macros}
use Rattle.names.specs.Table.{name_of}
use Rattle.names.proofs.Laws.{distinct}
use Rattle.triggers.specs.Entries.{Entries, disjuncts_of, last_flag, no_name, entries_base}
use Rattle.records.specs.Columns.{uses_end, entries_start, entries_end, entry_word, entry_name, entry_fact, taken_at, macro_at}
use Rattle.records.specs.States.{uses_at, entries_at, free_at, fact_at, decls_of, background_of, takes_part, ask_of}
use Rattle.records.specs.Filing.{Records, Filing}
use Rattle.macros.specs.Macros.{opened_word, Filled}
use Rattle.firing.specs.Held.{Fits, Holds, upto}
use Rattle.firing.specs.Tables.{retained, waits_on, held_of, Laid}
use Rattle.firing.proofs.Numbers.{upto_elim}
use Rattle.records.proofs.Taking.{part_kind}
use Rattle.firing.proofs.Waiting.{waits_is, waits_part}
use Rattle.firing.proofs.Listing.{word_listed, listed_word, numbers_elim}
use Rattle.firing.proofs.Background.{facts_elim, facts_intro, entry_owner, upto_count}
use Rattle.firing.proofs.Opening.{opens_elim, macro_range, macro_exact}

module _ {file names recs lists : List ℕ} {k : Counts} (x : Filled file names recs lists k) where
  abbrev name : ℕ → Name
  name = name_of file names

  abbrev g : Filing name recs lists k.records k.entries
  g = x.stocked.filing

  abbrev r : Records recs lists k.names k.records k.entries k.uses
  r = x.recorded

  -- ---- ranges

  use_room : (i : ℕ) → i < k.records → uses_end recs i ≤ length lists
  use_room i h = omega (arith, r.uses_in i h, r.few_uses, r.lists_room)

  entry_room : (i : ℕ) → i < k.records → entries_base + entries_end recs i ≤ length lists
  entry_room i h = omega (arith, r.entries_in i h, r.few_entries, r.lists_room)

  -- an entry of a record, by its place
  entry_at : {i w : ℕ} → i < k.records → Memᴰ w (entries_at recs lists i)
      → (e : ℕ) × (entries_start recs i ≤ e) × (e < entries_end recs i) × (e < k.entries) × (entry_word lists e ≡ w)
  entry_at {i} {w} h m =
      let p = part_elim (entry_room i h) m in
      let lo = p.low in
      let hi = p.high in
      let f = r.entries_in i h in
      let z : entries_base + (p.place - entries_base) ≡ p.place = omega arith in
      (p.place - entries_base, omega arith, omega arith, omega arith, ap (λ j. get_or lists j 0) z ∙ p.is)

  -- the entries of a record
  row_entries : (i : ℕ) → i < k.records → Entries k.names (entries_at recs lists i)
  row_entries i h = record {
    small = λ w m.
        let (e, a, b, c, d) = entry_at h m in
        ⊎_elim (λ q. inl (subst (λ w. w % last_flag < k.names) d q)) (λ q. inr (subst (λ w. w % last_flag ≡ no_name) d q)) (r.entry_words e c);
    flagged = λ w m. let (e, a, b, c, d) = entry_at h m in subst (λ w. w < last_flag + last_flag) d (g.flagged e c);
    closed = λ j e.
        let n = part_length lists (entries_base + entries_start recs i) (entries_base + entries_end recs i) (entry_room i h) in
        let z : entries_base + entries_start recs i + j ≡ entries_base + (entries_end recs i - 1) = omega arith in
        let lt : j < entries_base + entries_end recs i - (entries_base + entries_start recs i) = omega arith in
        rw (get_or-take, get_or-drop, z) (g.ended i h (omega arith));
  }

  -- the free names of a record have numbers
  pub uses_low : (i n : ℕ) → i < k.records → Memᴰ n (uses_at recs lists i) → n < k.names
  uses_low i n h m =
      let p = part_elim (use_room i h) m in
      let u = p.high in
      rw p.is at (r.use_words p.place (omega (arith, r.uses_in i h)))

  macro_words : (n : ℕ) → n < k.names → (macro_at names n ≤ k.records) ⊎ ((opened_word ≤ macro_at names n) × (macro_at names n < opened_word + k.names))
  macro_words n h =
      rw (x.macros n h) (macro_range names recs k.names k.records n (x.stocked.taken.low n (omega (arith, x.table.few))))

  opens_low : (n m : ℕ) → n < k.names
      → ((0 < macro_at names n) × (macro_at names n < opened_word) × Memᴰ m (uses_at recs lists (macro_at names n - 1)))
      ⊎ ((opened_word ≤ macro_at names n) × (m ≡ macro_at names n - opened_word)) → m < k.names
  opens_low n m h (inl (a, b, c)) =
      ⊎_elim (λ q. uses_low (macro_at names n - 1) m (omega arith) c) (λ q. absurd (omega arith)) (macro_words n h)
  opens_low n m h (inr (a, b)) = ⊎_elim (λ q. absurd (omega (arith, r.few))) (λ q. omega arith) (macro_words n h)

  fits : (a : Asked) → Fits (held_of names recs lists k a)
  unfolding held_of
  fits a = record {
    few_names = x.table.few;
    few_records = r.few;
    few_entries = r.few_entries;
    frees_small = uses_low;
    opens_small = λ n m h q. opens_low n m h (opens_elim recs lists (macro_at names n) m q);
    disjuncts_small = λ i n d h p q.
        let (w, a, b, c) = numbers_elim (entries_at recs lists i) p q in
        ⊎_elim (λ (y : w % last_flag < k.names). omega arith) (λ (y : w % last_flag ≡ no_name). absurd (omega arith)) ((row_entries i h).small w a);
    fact_small = λ e h. (entry_owner g e h).0;
    fact_is = λ e h l. (waits_part recs lists a e (omega (arith, x.table.few))).0;
    row_small = λ i h q. r.named_in i h (λ z. omega (arith, part_kind recs (ask_of recs a) i q));
  }

  pub laid : Laid names recs lists k
  laid = record {
    fits = fits;
    name_room = x.table.room;
    record_room = r.room;
    list_room = r.lists_room;
    few_names = x.table.few;
    few_records = r.few;
    few_entries = r.few_entries;
    use_place = λ i h. (r.rising i h, omega (arith, r.uses_in i h, r.few_uses));
    use_small = λ i j h a b. r.use_words j (omega (arith, r.uses_in i h));
    entry_place = λ i h. (omega (arith, g.sized i h), omega (arith, r.entries_in i h, r.few_entries));
    entry_words = row_entries;
    entry_facts = λ e h. (entry_owner g e h).0;
    macro_record = λ n h l. ⊎_elim (λ q. q) (λ q. absurd (omega arith)) (macro_words n h);
    macro_name = λ n h l. ⊎_elim (λ q. absurd (omega (arith, r.few))) (λ q. q.1) (macro_words n h);
    first = λ n h. x.stocked.chained.first n (omega (arith, x.table.few));
    next = x.stocked.chained.next;
  }

  -- ---- the facts and the macros

  -- an entry has a name's number or none
  word_small : (e : ℕ) → e < k.entries → ltb (entry_name lists e) no_name ≡ ltb (entry_name lists e) k.names
  word_small e h =
      ⊎_elim
      (λ (q : entry_name lists e < k.names).
      lt-ltb (entry_name lists e) no_name (omega (arith, x.table.few)) ∙ sym (lt-ltb (entry_name lists e) k.names q))
      (λ (q : entry_name lists e ≡ no_name).
      le-ltb (entry_name lists e) no_name (omega arith) ∙ sym (le-ltb (entry_name lists e) k.names (omega (arith, x.table.few))))
      (r.entry_words e h)

  -- the filed names of the facts that an ask admits of which a test holds, counted by entry
  pub count_is : (a : Asked) (p : Name → Bool)
      → count p (filed (facts (background_of name recs lists (ask_of recs a) k.records)))
      ≡ count (λ e. ltb (waits_on recs lists a e) k.names && p (name (waits_on recs lists a e))) (upto k.entries)
  unfolding waits_on
  count_is a p =
      upto_count g r (ask_of recs a) p k.records (omega arith)
      ∙ rw g.whole
      (count_cong _ _ (upto k.entries)
      (λ e i. ap (λ b. takes_part recs (ask_of recs a) (entry_fact lists e) && (b && p (name (entry_name lists e)))) (word_small e (upto_elim k.entries i))
      ∙ go e (takes_part recs (ask_of recs a) (entry_fact lists e))))
    where
      go : (e : ℕ) (b : Bool)
          → (b && (ltb (entry_name lists e) k.names && p (name (entry_name lists e))))
          ≡ (ltb (cond b (entry_name lists e) no_name) k.names && p (name (cond b (entry_name lists e) no_name)))
      go e true = refl
      go e false = rw (le-ltb no_name k.names (omega (arith, x.table.few)))

  listed_at : (e : ℕ) → e < k.entries → entry_name lists e < k.names
      → Memᴰ (name (entry_name lists e)) (listed (fact_at name recs lists (entry_fact lists e)))
  unfolding listed fact_at
  listed_at e h l =
      let (a, b, c, d) = entry_owner g e h in
      let i = entry_fact lists e in
      word_listed name (entries_at recs lists i)
      (part_intro lists (entries_base + entries_start recs i) (entries_base + entries_end recs i) (entries_base + e) (entry_room i a) (omega arith) (omega arith))
      (omega (arith, x.table.few))

  at_listed : (i : ℕ) (y : Name) → i < k.records → Memᴰ y (listed (fact_at name recs lists i))
      → (e : ℕ) × (e < k.entries) × (entry_fact lists e ≡ i) × (entry_name lists e < k.names) × (y ≡ name (entry_name lists e))
  unfolding listed fact_at
  at_listed i y h q =
      let (w, a, b, c) = listed_word name (entries_at recs lists i) q in
      let (e, lo, hi, m, s) = entry_at h a in
      let v : entry_name lists e ≡ w % last_flag = ap (λ o. o % last_flag) s in
      (e, m, g.facts i e h lo hi, ⊎_elim (λ o. o) (λ o. absurd (omega arith)) (r.entry_words e m), c ∙ ap name (sym v))

  -- an entry that waits on a name is listed by its fact
  waits_listed : (a : Asked) (e : ℕ) → e < k.entries → waits_on recs lists a e < k.names
      → Memᴰ (name (waits_on recs lists a e)) (listed (fact_at name recs lists (entry_fact lists e)))
  waits_listed a e h l =
      let (t, is) = waits_part recs lists a e (omega (arith, x.table.few)) in
      subst (λ n. Memᴰ (name n) (listed (fact_at name recs lists (entry_fact lists e)))) is (listed_at e h (omega arith))

  -- a listed name of a fact that takes part is that of an entry that waits on it
  listed_waits : (a : Asked) (i : ℕ) (y : Name) → i < k.records → T (takes_part recs (ask_of recs a) i) → Memᴰ y (listed (fact_at name recs lists i))
      → (e : ℕ) × (e < k.entries) × (entry_fact lists e ≡ i) × (waits_on recs lists a e < k.names) × (y ≡ name (waits_on recs lists a e))
  listed_waits a i y h t q =
      let (e, m, s, l, c) = at_listed i y h q in
      let is = waits_is recs lists a e (rw s (T_true (takes_part recs (ask_of recs a) i) t)) in
      (e, m, s, omega arith, c ∙ ap name (sym is))

  pub holds : (a : Asked) → Holds (held_of names recs lists k a) (name_of file names) (ask_of recs a)
      (macros (background_of (name_of file names) recs lists (ask_of recs a) k.records))
      (facts (background_of (name_of file names) recs lists (ask_of recs a) k.records)) (fact_at (name_of file names) recs lists)
  unfolding held_of retained retainable fact_at free_at disjuncts_of
  holds a = record {
    injective = distinct x.table;
    rows_apart = λ i j h l u v e.
        let p = x.stocked.taken.took i h (omega (arith, part_kind recs (ask_of recs a) i u)) in
        let q = x.stocked.taken.took j l (omega (arith, part_kind recs (ask_of recs a) j v)) in
        let c = ap (taken_at names) e in
        omega arith;
    fact_in = λ i h u. facts_intro name recs lists (ask_of recs a) k.records i h u;
    fact_of = λ f u. facts_elim name recs lists (ask_of recs a) k.records u;
    fact_name = λ i h u. refl;
    fact_retained = λ i h u. refl;
    fact_frees = λ i h u. refl;
    fact_disjuncts = λ i h u. refl;
    entry_listed = waits_listed a;
    listed_entry = λ i y h u q. listed_waits a i y h u q;
    filed_count = count_is a;
    macro = λ n j h l. rw (background_macros (ask_of recs a) (decls_of name recs lists k.records), x.macros n h) (macro_exact x.table r x.stocked.taken n j h l);
  }
