-- A fact added: what its summary and the chaining of its entries promise is a record appended.
use Prim.Native.Nat.{ℕ, ◌+◌, ◌-◌, ◌%◌, ◌≤◌, ◌<◌}
use native.Mathlib.Omega.{arith}
use mathlib.Core.Path.{◌≡◌, refl, sym, ap, ◌∙◌}
use mathlib.Core.Bool.{Bool, true, false, cond}
use mathlib.Core.Logic.{◌⊎◌, inl, inr, ⊎_elim}
use mathlib.Core.List.{List, [], ◌∷◌, ◌++◌, Memᴰ}
use lib.ListN.{length, get_or, length-set}
use lib.Seq.{get_or-set_same, get_or-set_other}
use lib.Dec.{eqb, ltb}
use borrow.Author.Tests.{le-leb, lt-leb, ltb-true, ltb-false}
use Rattle.model.specs.Lists.{any, sum, collect, fold_left, part}
use Rattle.model.specs.Names.{Name, from_list}
use Rattle.model.specs.Reading.{Content, assume, heads, head_asks, is_grouped, hidden_by, nodes, spelled, trimmed, spell, summarize_decl, root_of, taken_by, entries_of, uses_of, excluded, add_line, repeats, most_group, most_names, most_records, most_entries, most_uses}
use Rattle.model.specs.Summaries.{exclude_names, entries, summarize_assumption}
use Rattle.model.specs.declared.Counts.{Counts}
use Rattle.model.specs.declared.Refusal.{Refusal}
use Rattle.model.specs.declared.Refusal.TheVariants as refusal
use Rattle.model.proofs.ListLaws.{map_cong}
use Rattle.model.proofs.PartLaws.{part_agree, part_elim, part_intro, part_length, part_at}
use Rattle.laws.proofs.ReadingLaws.{past_names}
use Rattle.names.specs.Table.{name_of, table_names}
use Rattle.names.proofs.Excluded.{tells_kept, tells_then}
use Rattle.names.proofs.Coded.{Kept, table_kept}
use Rattle.terms.proofs.Laws.{below}
use Rattle.words.proofs.Slices.{same_wider}
use Rattle.rules.specs.Views.{terms_in}
use Rattle.triggers.specs.Entries.{disjuncts_of, Entries, entries_base, last_flag, no_name}
use Rattle.summary.specs.declared.Limit.{Limit}
use Rattle.summary.specs.declared.Limit.TheVariants as limit
use Rattle.summary.specs.declared.Summary.{Summary}
use Rattle.std.specs.Prelude.{Result, Ok, Err}
use Rattle.summary.specs.Facts.{Asked, fact_kind, fact_names, names_then, fact_summary, limited, Lists, Slices}
use Rattle.summary.proofs.Answering.{over_none, limited_done}
use Rattle.model.specs.Steps as step
use Rattle.model.specs.Outcome.{working_words}
use Rattle.records.specs.Columns.{assume_kind, code_of, fact_column, next_column, first_column, taken_column, entry_word, taken_at}
use Rattle.records.specs.States.{free_at, fact_at, summary_at, root_at, hides_at, excluded_of, state_of}
use Rattle.records.specs.Writing.{with_record, Rowed}
use Rattle.records.specs.Adding.{Standing, Adds, Untouched}
use Rattle.records.proofs.Chaining.{chained_kept}
use Rattle.records.proofs.Recording.{disjuncts_stay}
use Rattle.records.proofs.Judging.{repeats_taken, repeats_free}
use Rattle.records.proofs.Appending.{no_hide, Appends, OneRecord, record_added, record_repeated, record_crowded, record_over, record_beyond}
use Rattle.records.proofs.Plain.{spelled_again, is_taken}
use Rattle.records.proofs.Funs.{row_past, taken_put, small_row}
use Rattle.facts.specs.Putting.{Puttable, Puts}
use Rattle.facts.specs.Refusing.{behind_records, over_refusal}
use Rattle.facts.proofs.Coding.{code_kind, code_low}

-- ---- the words of a fact's entries

module _ {named : ℕ} (lists : List ℕ) (a e : ℕ) (room : entries_base + e ≤ length lists) (h : Entries named (part lists (entries_base + a) (entries_base + e))) where
  -- an entry is among them
  among : (j : ℕ) → a ≤ j → j < e → Memᴰ (entry_word lists j) (part lists (entries_base + a) (entries_base + e))
  among j l u = part_intro lists (entries_base + a) (entries_base + e) (entries_base + j) room (omega arith) (omega arith)

  -- the last ends its disjunct
  last_ends : a < e → last_flag ≤ entry_word lists (e - 1)
  last_ends l =
      let size = part_length lists (entries_base + a) (entries_base + e) room in
      let n : e - 1 - a + 1 ≡ length (part lists (entries_base + a) (entries_base + e)) = omega arith in
      let p : entries_base + (e - 1) - (entries_base + a) ≡ e - 1 - a = omega arith in
      let q = part_at lists (entries_base + a) (entries_base + e) (entries_base + (e - 1)) (omega arith) (omega arith) in
      rw (← q, p) (h.closed (e - 1 - a) n)

-- ---- the summary's limits

-- the summary of a fact by its name and its term, were there no limits
abbrev summed : List ℕ → List ℕ → List ℕ → List ℕ → List ℕ → Counts → ℕ → ℕ → Summary
summed file names refs rows recs k i t =
    fact_summary (excluded_of (name_of file names) recs k.records) file names refs rows k.names k.references k.terms i t k.mark k.entries k.uses

-- what its line says
abbrev said : List ℕ → List ℕ → ℕ → ℕ → ℕ → ℕ → Content
said file names i flag group t = assume (name_of file names i) (eqb flag 1) group t

-- a limit that a summary passes, the names being within theirs where it is another
data Passes (x : Summary) : Limit → Type 0 where
  names_passed : most_names < x.named → Passes x limit.Names
  entries_passed : x.named ≤ most_names → most_entries < x.entries → Passes x limit.Entries
  uses_passed : x.named ≤ most_names → most_uses < x.uses → Passes x limit.Uses

-- a summary that is none passes its limit
limited_over : (x : Summary) {l : Limit} → Err l ≡ limited x → Passes x l
unfolding limited
limited_over x {l} e = go (ltb most_names x.named) refl (ltb most_entries x.entries) refl (ltb most_uses x.uses) refl e
  where
    is : {m : Limit} → ◌≡◌ {A = Result Summary Limit} (Err l) (Err m) → l ≡ m
    is p = cc

    go : (a : Bool) → ltb most_names x.named ≡ a → (b : Bool) → ltb most_entries x.entries ≡ b → (c : Bool) → ltb most_uses x.uses ≡ c
        → Err l ≡ cond a (Err limit.Names)
        (cond b (Err limit.Entries) (cond c (Err limit.Uses) (Ok x)))
        → Passes x l
    go true p b q c s e = rw (is e) (names_passed (ltb-true most_names x.named p))
    go false p true q c s e =
        rw (is e) (entries_passed (ltb-false most_names x.named p) (ltb-true most_entries x.entries q))
    go false p false q true s e =
        rw (is e) (uses_passed (ltb-false most_names x.named p) (ltb-true most_uses x.uses s))
    go false p false q false s e = absurd (over_none e)

-- ---- the fact refused

-- spelling a name of the table again, and others behind it
spelled_before : (file names : List ℕ) (named i : ℕ) (ns : List Name) → i < named
    → fold_left spell (table_names file names named) ((name_of file names i ∷ []) ++ ns) ≡ fold_left spell (table_names file names named) ns
unfolding fold_left
spelled_before file names named i ns h = ap (λ l. fold_left spell l ns) (spelled_again file names named i h)

module _ {file names refs rows recs lists : List ℕ} {k : Counts} (st : Standing file names refs rows recs lists k) (line : ℕ) {i : ℕ}
    (known : i < k.names) {w : ℕ} (is : w ≡ taken_at names i) (flag group t : ℕ) where
  fact_new : w ≤ 0 → repeats exclude_names line (state_of file names refs rows recs lists k) (said file names i flag group t) ≡ false
  unfolding summarize_decl summarize_assumption collect taken_by
  fact_new h = repeats_free st line (said file names i flag group t) known refl (omega arith)

  -- the name is taken
  pub fact_repeated : {names' rows' recs' lists' : List ℕ} → 0 < w
      → Adds file names refs rows recs lists names' rows' recs' lists' k line (said file names i flag group t) (step.Refused refusal.Repeated)
  unfolding summarize_decl summarize_assumption collect taken_by
  fact_repeated h =
      record_repeated st line (said file names i flag group t) (repeats_taken st line (said file names i flag group t) known refl (omega arith))

  -- the names with the line are those of the summary
  fact_named : length (fold_left spell (table_names file names k.names) (spelled (said file names i flag group t)
      ++ trimmed (excluded_of (name_of file names) recs k.records) (terms_in file names refs rows k.references k.terms) (said file names i flag group t)))
      ≡ (summed file names refs rows recs k i t).named
  unfolding spelled trimmed fact_summary names_then fact_kind
  fact_named =
      let ns = (fact_kind (excluded_of (name_of file names) recs k.records) file names refs rows k.names k.references k.terms i t).trimmed in
      ap length (spelled_before file names k.names i ns known)

  -- the line is one record
  fact_one : (summed file names refs rows recs k i t).named ≤ most_names → OneRecord file names refs rows (excluded_of (name_of file names) recs k.records) k line (said file names i flag group t)
  unfolding heads hidden_by nodes summarize_decl root_of collect
  fact_one h = record { no_term = refl; one = refl; few_names = omega (arith, fact_named) }

  module _ {names' rows' recs' lists' : List ℕ} (free : w ≤ 0) where
    -- as many records as may be
    pub fact_crowded : {x : Summary} → Ok x ≡ limited (summed file names refs rows recs k i t) → most_records ≤ k.records
        → Adds file names refs rows recs lists names' rows' recs' lists' k line (said file names i flag group t) (step.Refused refusal.FullRecords)
    fact_crowded done =
        let within = limited_done _ done in
        record_crowded st line (said file names i flag group t) (fact_new free)
        (fact_one (omega (arith, within.1, ap (λ y. y.named) within.0)))

    -- more names than may be
    fact_unnamed : most_names < (summed file names refs rows recs k i t).named
        → Adds file names refs rows recs lists names' rows' recs' lists' k line (said file names i flag group t) (step.Refused refusal.FullNames)
    unfolding add_line excluded state_of
    fact_unnamed h = record_beyond st line (said file names i flag group t) (fact_new free) (past_names (omega (arith, fact_named)))

    -- more entries or uses than may be, and the names within their limit
    fact_full : (summed file names refs rows recs k i t).named ≤ most_names
        → (most_entries < (summed file names refs rows recs k i t).entries) ⊎ (most_uses < (summed file names refs rows recs k i t).uses)
        → Adds file names refs rows recs lists names' rows' recs' lists' k line (said file names i flag group t)
        (step.Refused (behind_records k.records))
    unfolding behind_records add_line excluded state_of summarize_decl summarize_assumption root_of entries_of uses_of sum fact_summary fact_kind fact_names entries
    fact_full n h =
        let fact = said file names i flag group t in
        let more : (most_entries < (add_line exclude_names line (state_of file names refs rows recs lists k) fact).entries)
        ⊎ (most_uses < (add_line exclude_names line (state_of file names refs rows recs lists k) fact).uses) =
        ⊎_elim (λ e. inl (omega arith)) (λ u. inr (omega arith)) h in
        ⊎_elim
        (λ (few : k.records < most_records). rw (lt-leb most_records k.records few)
        (record_over st line fact (fact_new free) (fact_one n) few more))
        (λ (room : most_records ≤ k.records). rw (le-leb most_records k.records room)
        (record_crowded st line fact (fact_new free) (fact_one n) room))
        (below k.records most_records)

    -- the summary passes a limit
    pub fact_over : {l : Limit} {r : Refusal} → r ≡ over_refusal l k.records
        → Err l ≡ limited (summed file names refs rows recs k i t)
        → Adds file names refs rows recs lists names' rows' recs' lists' k line (said file names i flag group t) (step.Refused r)
    unfolding over_refusal
    fact_over e o = rw e (go (limited_over _ o))
      where
        go : {l : Limit} → Passes (summed file names refs rows recs k i t) l
            → Adds file names refs rows recs lists names' rows' recs' lists' k line (said file names i flag group t)
            (step.Refused (over_refusal l k.records))
        go (names_passed h) = fact_unnamed h
        go (entries_passed n h) = fact_full n (inl h)
        go (uses_passed n h) = fact_full n (inr h)

-- ---- the fact there

module _ {file names refs rows recs lists names₁ rows' lists₁ names' recs' lists' : List ℕ} {k : Counts} (st : Standing file names refs rows recs lists k)
    (line : ℕ) {i : ℕ} (known : i < k.names) (flag group t : ℕ) (term : t < k.terms) {x : Summary} {next : Counts}
    (few : k.records < most_records) (free : taken_at names i ≡ 0)
    (done : Ok x ≡ limited (summed file names refs rows recs k i t))
    (filed_lists : Lists (excluded_of (name_of file names) recs k.records) file names refs rows k.names k.references k.terms i t names₁ rows' lists₁ k.entries k.uses x)
    (slices : Slices names rows lists names₁ rows' lists₁ k.entries k.uses)
    (puts : Puts names₁ recs lists₁ names' recs' lists' k line i flag group t x next) where
  -- the summary is the definition's, within the limits
  within : (x ≡ summed file names refs rows recs k i t) × (x.named ≤ most_names) × (x.entries ≤ most_entries) × (x.uses ≤ most_uses)
  within = limited_done _ done

  low : i < most_names
  low = omega (arith, known, st.tables.name_table.few)

  entries_are : x.entries ≡ k.entries + entries (fact_kind (excluded_of (name_of file names) recs k.records) file names refs rows k.names k.references k.terms i t).triggers
  unfolding fact_summary
  entries_are = ap (λ y. y.entries) within.0

  uses_are : x.uses ≡ k.uses + length (fact_names (excluded_of (name_of file names) recs k.records) file names refs rows k.names k.references k.terms i t)
  unfolding fact_summary
  uses_are = ap (λ y. y.uses) within.0

  mark_is : x.mark ≡ k.mark + 2 + entries (fact_kind (excluded_of (name_of file names) recs k.records) file names refs rows k.names k.references k.terms i t).triggers
  unfolding fact_summary
  mark_is = ap (λ y. y.mark) within.0

  kind_is : x.kind ≡ (fact_kind (excluded_of (name_of file names) recs k.records) file names refs rows k.names k.references k.terms i t).kind
  unfolding fact_summary
  kind_is = ap (λ y. y.kind) within.0

  -- names are spelled behind those before
  more : k.names ≤ x.named
  more = filed_lists.more

  old : (j : ℕ) → j < k.names → name_of file names₁ j ≡ name_of file names j
  old = filed_lists.same_names

  -- of the names the taken word and the first entries change
  name_words : (j : ℕ) → (j ≡ taken_column + i → ⊥) → (first_column ≤ j → j < first_column + most_names → ⊥) → get_or names' j 0 ≡ get_or names₁ j 0
  name_words j d e = puts.chains.names_same.same_words j e ∙ get_or-set_other names₁ (taken_column + i) j (k.records + 1) 0 d

  still : Kept file names₁ names' x.named
  still = table_kept filed_lists.tables.name_table (puts.chains.names_same.same_length ∙ simp length-set)
      (λ j l. name_words j (λ e. omega arith) (λ a b. omega arith))

  same : (j : ℕ) → j < k.names → name_of file names' j ≡ name_of file names j
  same j l = still.name j (omega (arith, more)) ∙ old j l

  -- the entries and the uses stay when they are chained
  list_words : (j : ℕ) → j < fact_column → get_or lists' j 0 ≡ get_or lists₁ j 0
  list_words j l = puts.chains.lists_words j (λ a b. omega arith) (λ a b. omega arith)

  room : working_words ≤ length lists₁
  room = omega (arith, slices.lists_length, st.recorded.lists_room)

  size : length lists' ≡ length lists₁
  size = puts.chains.lists_length

  sets : disjuncts_of (name_of file names') (part lists' (entries_base + k.entries) (entries_base + x.entries))
      ≡ (fact_kind (excluded_of (name_of file names) recs k.records) file names refs rows k.names k.references k.terms i t).triggers
  sets =
      let a = entries_base + k.entries in
      let e = entries_base + x.entries in
      let high : e ≤ length lists₁ = omega (arith, room, within.2) in
      let word : (w : ℕ) → Memᴰ w (part lists₁ a e) → w % last_flag < no_name → name_of file names' (w % last_flag) ≡ name_of file names₁ (w % last_flag) =
      λ w m s. ⊎_elim (λ (q : w % last_flag < x.named). still.name (w % last_flag) q) (λ (q : w % last_flag ≡ no_name). absurd (omega arith))
      (filed_lists.entry_words.small w m) in
      rw (part_agree lists₁ lists' (e - a) a e refl high (omega (arith, high, size)) (λ j l u. list_words j (omega (arith, within.2))))
      (disjuncts_stay (name_of file names') (name_of file names₁) (part lists₁ a e) word ∙ filed_lists.disjuncts)

  row : Rowed recs recs' k (with_record k x.named x.entries x.uses x.mark) assume_kind line i t flag (code_of x.kind) group
  row = rw puts.counts at puts.row

  -- the record is appended
  appends : Appends file names rows recs lists names' rows' recs' lists' k k.hides x.named x.entries x.uses x.mark assume_kind line i t flag
      (code_of x.kind) group
  appends =
      let high : entries_base + x.entries ≤ length lists₁ = omega (arith, room, within.2) in
      let rise = entries_are in
      let grow = uses_are in
      let here : taken_at names' i ≡ k.records + 1 =
      puts.chains.names_same.same_words (taken_column + i) (λ a b. omega (arith, low))
      ∙ get_or-set_same names₁ (taken_column + i) (k.records + 1) 0 (omega (arith, filed_lists.tables.name_table.room, low)) in
      let others : (n : ℕ) → n < most_names → (n ≡ i → ⊥) → taken_at names' n ≡ taken_at names n =
      λ n l d. name_words (taken_column + n) (λ e. d (omega arith)) (λ a b. omega arith)
      ∙ slices.name_words.same_words (taken_column + n) (λ a b. omega arith) in
      let told = tells_then more (omega arith) still.name filed_lists.told
      (tells_kept filed_lists.tables.name_table.few (λ j l. name_words j (λ e. omega arith) (λ a b. omega arith))) in
      let (hides, excludes) = no_hide st still.table more same told recs' assume_kind (omega arith) in
      record {
        table = still.table;
        more = more;
        same = same;
        row_words = slices.row_words;
        fresh = record {
          row_marks = filed_lists.fresh.row_marks;
          name_marks = λ n l. rw (name_words (8192 + n) (λ e. omega arith) (λ a b. omega arith)) (filed_lists.fresh.name_marks n l);
        };
        few_marks = omega (arith, st.few_marks, mark_is);
        row = row;
        small_kind = omega arith;
        known = λ e. omega (arith, known, more);
        termed = λ e. term;
        lists_length = size ∙ slices.lists_length;
        few_uses = within.3;
        more_uses = omega arith;
        old_uses = λ j l. list_words j (omega (arith, st.recorded.few_uses))
            ∙ slices.lists_words j (λ a b. omega arith) (λ a b. omega (arith, st.recorded.few_uses));
        new_uses = λ j l u. rw (list_words j (omega (arith, within.3))) (omega (arith, filed_lists.use_words j l u, more));
        few_entries = within.2;
        more_entries = omega arith;
        old_entries = λ e l. list_words (entries_base + e) (omega (arith, st.recorded.few_entries))
            ∙ slices.lists_words (entries_base + e) (λ a b. omega arith) (λ a b. omega arith);
        old_facts = λ e l.
            puts.chains.lists_words (fact_column + e) (λ a b. omega arith) (λ a b. omega (arith, st.recorded.few_entries))
            ∙ slices.lists_words (fact_column + e) (λ a b. omega arith) (λ a b. omega arith);
        new_entries = λ e l u. rw (list_words (entries_base + e) (omega (arith, within.2)))
            (filed_lists.entry_words.small (entry_word lists₁ e) (among lists₁ k.entries x.entries high filed_lists.entry_words e l u));
        new_facts = puts.chains.facts;
        flagged = λ e l u. rw (list_words (entries_base + e) (omega (arith, within.2)))
            (filed_lists.entry_words.flagged (entry_word lists₁ e) (among lists₁ k.entries x.entries high filed_lists.entry_words e l u));
        ended = λ l. rw (list_words (entries_base + (x.entries - 1)) (omega (arith, within.2)))
            (last_ends lists₁ k.entries x.entries high filed_lists.entry_words l);
        sized = entries_are ∙ ap (λ s. k.entries + entries s) (sym sets);
        only_facts = λ d. absurd (d refl);
        taken = is_taken st few row low free here others (omega arith);
        chained = puts.chains.chained;
        hides = hides;
        excludes = excludes;
      }

  uses_then : free_at (name_of file names') recs' lists' k.records ≡ fact_names (excluded_of (name_of file names) recs k.records) file names refs rows k.names k.references k.terms i t
  unfolding free_at
  uses_then =
      let high : x.uses ≤ length lists₁ = omega (arith, room, within.3) in
      let name : (m : ℕ) → Memᴰ m (part lists₁ k.uses x.uses) → name_of file names' m ≡ name_of file names₁ m =
      λ m q. let p = part_elim high q in still.name m (rw p.is at (known_use p.place p.low p.high)) in
      rw (
        row.uses_from,
        row.uses_to,
        part_agree lists₁ lists' (x.uses - k.uses) k.uses x.uses refl high (omega (arith, high, size)) (λ j l u. list_words j (omega (arith, within.3))),
      )
      (ap from_list (map_cong (name_of file names') (name_of file names₁) (part lists₁ k.uses x.uses) name) ∙ filed_lists.free_names)
    where
      known_use : (j : ℕ) → k.uses ≤ j → j < x.uses → get_or lists₁ j 0 < x.named
      known_use j l u = omega (arith, filed_lists.use_words j l u, more)

  fact_is : fact_at (name_of file names') recs' lists' k.records
      ≡ summarize_assumption (excluded_of (name_of file names) recs k.records) (terms_in file names refs rows k.references k.terms) line (name_of file names i) (eqb flag 1) group t
  unfolding fact_at summarize_assumption fact_kind fact_names
  fact_is = rw (
    uses_then,
    row.line_is,
    row.name_is,
    row.flag_is,
    row.entries_from,
    row.entries_to,
    row.code_is,
    row.group_is,
    same i known,
    code_kind x.kind,
    kind_is,
    sets,
  )

  -- the record is there
  fact_there : Adds file names refs rows recs lists names' rows' recs' lists' k line (said file names i flag group t) (step.On next)
  unfolding heads head_asks hidden_by any is_grouped hides_at collect nodes spelled trimmed summarize_decl root_of entries_of uses_of sum fold_left summary_at root_at names_then fact_kind fact_names entries summarize_assumption
  fact_there =
      rw puts.counts (record_added st few appends (fact_new st line known {w = 0} (sym free) flag group t (omega arith)) (record {
        no_ask = λ earlier. refl;
        no_form = refl;
        hidden = refl;
        no_term = refl;
        spells = still.names ∙ filed_lists.spelled ∙ sym (spelled_before file names k.names i
            (fact_kind (excluded_of (name_of file names) recs k.records) file names refs rows k.names k.references k.terms i t).trimmed known);
        decls = rw fact_is;
        roots = refl;
        entries = omega (arith, entries_are);
        uses = omega (arith, uses_are);
      }))

-- ---- what the calls ask, and what stays

module _ {file names refs rows recs lists : List ℕ} {k : Counts} (st : Standing file names refs rows recs lists k) {i t : ℕ} (known : i < k.names)
    (term : t < k.terms) where
  -- summarising the fact
  pub fact_asked : Asked file names refs rows lists k.names k.references k.terms i t k.mark k.entries k.uses
  fact_asked = record {
    tables = st.tables;
    fact = known;
    term = term;
    fresh = st.fresh;
    few_marks = omega (arith, st.few_marks, st.recorded.few, st.recorded.few_entries);
    few_entries = st.recorded.few_entries;
    few_uses = st.recorded.few_uses;
    room = st.recorded.lists_room;
  }

  -- putting its summary into the tables
  pub fact_puttable : {names₁ rows₁ lists₁ : List ℕ} {line flag group : ℕ} {x : Summary}
      → Ok x ≡ limited (summed file names refs rows recs k i t)
      → Lists (excluded_of (name_of file names) recs k.records) file names refs rows k.names k.references k.terms i t names₁ rows₁ lists₁ k.entries k.uses x
      → Slices names rows lists names₁ rows₁ lists₁ k.entries k.uses → k.records < most_records → line < 4294967296 → flag < 2 → group ≤ most_group
      → Puttable names₁ recs lists₁ k line i flag group t x
  unfolding fact_summary fact_kind
  fact_puttable {names₁} {lists₁ = lists₁} {line} {flag} {group} {x} done filed_lists slices few Line_small flag_small group_small =
      let (is, few_names, few_entries, few_uses) = limited_done _ done in
      let low : i < most_names = omega (arith, st.tables.name_table.few) in
      let code : code_of x.kind ≤ 3 + x.entries = code_low x.kind x.entries (λ m e. omega (arith, filed_lists.few_sets m e)) in
      record {
        chained = chained_kept st.stocked.chained (λ n l. slices.name_words.same_words (first_column + n) (λ a b. omega arith))
            (λ e l. ap (λ w. w % last_flag) (slices.lists_words (entries_base + e) (λ a b. omega arith) (λ a b. omega arith)))
            (λ e l. slices.lists_words (next_column + e) (λ a b. omega arith) (λ a b. omega arith));
        name_room = omega (arith, slices.name_words.same_length, st.tables.name_table.room);
        record_room = st.recorded.room;
        lists_room = omega (arith, slices.lists_length, st.recorded.lists_room);
        few = few;
        known = low;
        more = omega (arith, ap (λ y. y.entries) is);
        few_entries = few_entries;
        small = small_row k.hides x.named x.entries x.uses x.mark assume_kind line i t flag (code_of x.kind) group st refl few_entries few_uses
            (omega arith) Line_small low (omega (arith, st.tables.term_table.few_rows)) (omega arith) (omega arith) (omega arith);
      }

-- words past the tables stay where a fact is refused
pub over_past : {names rows recs lists names₁ rows₁ lists₁ : List ℕ} {filed uses : ℕ} → Slices names rows lists names₁ rows₁ lists₁ filed uses
    → Untouched names rows recs lists names₁ rows₁ recs lists₁
over_past s = record {
  name_words = same_wider 0 working_words (omega arith) (omega arith) s.name_words;
  row_words = same_wider 0 working_words (omega arith) (omega arith) s.row_words;
  record_words = record { same_length = refl; same_words = λ i h. refl };
  list_words = record {
    same_length = s.lists_length;
    same_words = λ i h. s.lists_words i (λ a b. h (omega arith) (omega arith)) (λ a b. h (omega arith) (omega arith));
  };
}

-- and where it is there
pub fact_past : {names rows recs lists names₁ rows₁ lists₁ names' recs' lists' : List ℕ} {filed uses line i flag group t : ℕ} {k : Counts} {x : Summary} {next : Counts}
    → Slices names rows lists names₁ rows₁ lists₁ filed uses → x.entries ≤ most_entries → i < most_names
    → Puts names₁ recs lists₁ names' recs' lists' k line i flag group t x next
    → Untouched names rows recs lists names' rows₁ recs' lists'
fact_past {names₁ = names₁} {i = i} {k = k} s few low p =
    let put = taken_put {names = names₁} i (k.records + 1) low in
    record {
      name_words = record {
        same_length = p.chains.names_same.same_length ∙ put.same_length ∙ s.name_words.same_length;
        same_words = λ j h.
            p.chains.names_same.same_words j (λ a b. h (omega arith) (omega arith)) ∙ put.same_words j (λ a b. h (omega arith) (omega arith))
            ∙ s.name_words.same_words j (λ a b. h (omega arith) (omega arith));
      };
      row_words = same_wider 0 working_words (omega arith) (omega arith) s.row_words;
      record_words = row_past p.row;
      list_words = record {
        same_length = p.chains.lists_length ∙ s.lists_length;
        same_words = λ j h.
            p.chains.lists_words j (λ a b. h (omega arith) (omega arith)) (λ a b. h (omega arith) (omega arith))
            ∙ s.lists_words j (λ a b. h (omega arith) (omega arith)) (λ a b. h (omega arith) (omega arith));
      };
    }

-- the fact there, by what the code has found
pub fact_added : {file names refs rows recs lists names₁ rows' lists₁ names' recs' lists' : List ℕ} {k : Counts} → Standing file names refs rows recs lists k
    → (line : ℕ) → {i : ℕ} → i < k.names
    → {w : ℕ} → w ≡ taken_at names i → (flag group t : ℕ) → t < k.terms → {x : Summary} {next : Counts} → w ≤ 0 → k.records < most_records
    → Ok x ≡ limited (summed file names refs rows recs k i t)
    → Lists (excluded_of (name_of file names) recs k.records) file names refs rows k.names k.references k.terms i t names₁ rows' lists₁ k.entries k.uses x
    → Slices names rows lists names₁ rows' lists₁ k.entries k.uses → Puts names₁ recs lists₁ names' recs' lists' k line i flag group t x next
    → Adds file names refs rows recs lists names' rows' recs' lists' k line (said file names i flag group t) (step.On next)
fact_added st line known is flag group t term h few done filed_lists slices puts =
    fact_there st line known flag group t term few (omega arith) done filed_lists slices puts
