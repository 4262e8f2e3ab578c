-- One record more: the tables stand, and are the state with the line.
use Prim.Native.Nat.{ℕ, zero, suc, ◌+◌, ◌-◌, ◌*◌, ◌≤◌, ◌<◌}
use native.Mathlib.Numerals.{add-one}
use native.Mathlib.Omega.{arith}
use mathlib.Core.Path.{◌≡◌, refl, sym, ap, ◌∙◌}
use mathlib.Core.Bool.{true, false, or-false}
use mathlib.Core.Logic.{◌⊎◌, inl, inr, ⊎_elim}
use mathlib.Core.List.{List, [], ◌∷◌, ◌++◌, map, map-append, append-nil}
use lib.ListN.{length, get_or, length-append, length-map}
use Rattle.model.specs.Lists.{any, sum, collect, fold_left, part}
use Rattle.model.specs.Names.{Name}
use Rattle.model.specs.Summaries.{exclude_names, entries}
use Rattle.model.specs.Terms.{Node, Term, add_term, unlabeled, free_top_level_names}
use Rattle.model.specs.Reading.{Ask, Content, heads, head_asks, is_grouped, hidden_by, nodes, spelled, trimmed, spell, summarize_decl, root_of, entries_of, uses_of, add_line, repeats, most_names, most_records, most_entries, most_uses, excluded}
use Rattle.model.specs.declared.Counts.{Counts}
use Rattle.model.specs.declared.Refusal.{Refusal}
use Rattle.model.specs.declared.Refusal.TheVariants as refusal
use Rattle.model.proofs.ListLaws.{map_cong}
use Rattle.laws.specs.Limits.{PastNames, PastTerms, PastTriggers}
use Rattle.laws.proofs.ReadingLaws.{Lowest, past_records, past_triggers}
use Rattle.names.specs.Table.{Table, name_of, table_names, Excludes, Tells}
use Rattle.names.proofs.Laws.{names_length}
use Rattle.names.proofs.Excluded.{excludes_more}
use Rattle.terms.specs.Rows.{terms_of, nodes_below, node_of}
use Rattle.terms.proofs.Table.{rows_named, terms_named}
use Rattle.terms.proofs.Laws.{equal, below}
use Rattle.words.specs.Slices.{SameBut}
use Rattle.gather.specs.Sets.{Fresh}
use Rattle.gather.proofs.Walking.{rows_marked}
use Rattle.rules.specs.Views.{terms_in}
use Rattle.triggers.specs.Entries.{disjuncts_of, entries_base, last_flag, no_name}
use Rattle.triggers.proofs.Marked.{terms_marked}
use Rattle.model.specs.Steps as step
use Rattle.records.specs.Columns.{record_kind, assume_kind, retain_kind, root_kind, hide_kind, entry_word, entry_name, entry_fact, ask_query_column, ask_options_column, ask_kind_column, ask_groups_column}
use Rattle.records.specs.States.{summary_at, root_at, hides_at, decls_of, roots_of, hides_of, hidden_of, excluded_of, also_at, ask_at, asks_of, state_of}
use Rattle.records.specs.Filing.{Records, Termed, Chained, Filing, Taken}
use Rattle.records.specs.Writing.{with_line, Rowed, AskStays}
use Rattle.records.specs.Adding.{Standing, Adds, stops, added}
use Rattle.records.proofs.Recording.{Agree, hides_known, hides_stay, decls_stay, roots_stay, records_length}
use Rattle.records.proofs.Keeping.{filing_more}
use Rattle.records.proofs.Judging.{Within, judged_repeated, judged_beyond, judged_within}

-- ---- how many terms there are

folded_length : (ts : List Term) (ns : List Node) → length (fold_left add_term ts ns) ≡ length ts + length ns
unfolding fold_left add_term
folded_length ts [] = omega arith
folded_length ts (n ∷ ns) =
    let t : Term = record { node = n; bare = unlabeled ts n; names = free_top_level_names ts n } in
    omega (arith, folded_length (add_term ts n) ns, length-append ts (t ∷ []))

nodes_length : (name : ℕ → Name) (refs rows : List ℕ) (used many n : ℕ) → length (nodes_below name refs rows used many n) ≡ n
unfolding nodes_below
nodes_length name refs rows used many zero = refl
nodes_length name refs rows used many (suc n) =
    omega (arith, length-append (nodes_below name refs rows used many n) (node_of name refs rows used many n ∷ []), nodes_length name refs rows used many n)

-- the terms of a table are as many as its rows
pub terms_length : (file names refs rows : List ℕ) (used many : ℕ) → length (terms_in file names refs rows used many) ≡ many
unfolding terms_in terms_of
terms_length file names refs rows used many =
    let ns = nodes_below (name_of file names) refs rows used many many in
    omega (arith, folded_length [] ns, nodes_length (name_of file names) refs rows used many many)

-- tables that stand are within the limits
pub standing_within : {file names refs rows recs lists : List ℕ} {k : Counts} → Standing file names refs rows recs lists k
    → Within (state_of file names refs rows recs lists k)
unfolding state_of
standing_within {file} {names} {refs} {rows} {recs} {lists} {k} st = record {
  names = omega (arith, names_length file names k.names, st.tables.name_table.few);
  terms = omega (arith, terms_length file names refs rows k.references k.terms, st.tables.term_table.few_rows);
  references = st.tables.term_table.few_references;
  records = omega (
    arith,
    records_length (name_of file names) recs lists k.records,
    length-map (hides_of recs k.records) (name_of file names),
    st.recorded.few,
  );
  entries = st.recorded.few_entries;
  uses = st.recorded.few_uses;
}

-- what is asked at a position whose words stay, and those of the positions before it
pub ask_stays : (recs recs' : List ℕ) (n : ℕ) → ((i : ℕ) → i ≤ n → AskStays recs recs' i) → ask_at recs' n ≡ ask_at recs n
unfolding ask_at also_at
ask_stays recs recs' zero same = let (q, o, k, g) = same 0 (omega arith) in rw (q, o, g)
ask_stays recs recs' (suc n) same =
    let (q, o, k, g) = same (suc n) (omega arith) in
    rw (ask_stays recs recs' n (λ i l. same i (omega arith)), q, o, k, g)

-- asks whose words stay
pub asks_stay : (recs recs' : List ℕ) (n : ℕ) → ((i : ℕ) → i < n → AskStays recs recs' i) → asks_of recs' n ≡ asks_of recs n
unfolding asks_of
asks_stay recs recs' zero same = refl
asks_stay recs recs' (suc n) same =
    rw (asks_stay recs recs' n (λ i l. same i (omega arith)), ask_stays recs recs' n (λ i l. same i (omega arith)))

-- ---- the excluded names with a record that is no hide line

-- a record of another kind hides no name
hides_none : (recs : List ℕ) (i kind : ℕ) → kind ≤ root_kind → hides_at recs i kind ≡ []
unfolding hides_at
hides_none recs i zero h = refl
hides_none recs i (suc zero) h = refl
hides_none recs i (suc (suc zero)) h = refl
hides_none recs i (suc (suc (suc zero))) h = refl
hides_none recs i (suc (suc (suc (suc zero)))) h = refl
hides_none recs i (suc (suc (suc (suc (suc k))))) h = absurd (omega arith)

-- with such a record they are as the table with more names tells
pub no_hide : {file names refs rows recs lists names' : List ℕ} {k : Counts} {named' : ℕ} → Standing file names refs rows recs lists k
    → Table file names' named' → k.names ≤ named' → ((n : ℕ) → n < k.names → name_of file names' n ≡ name_of file names n)
    → Tells file names names' k.names named' → (recs' : List ℕ) (kind : ℕ) → kind ≤ root_kind
    → (k.hides ≡ k.hides + length (hides_at recs' k.records kind))
    × Excludes (exclude_names ++ map (name_of file names') (hides_of recs k.records ++ hides_at recs' k.records kind)) file names' named'
no_hide {recs = recs} {k = k} st table more same told recs' kind low =
    rw (hides_none recs' k.records kind low, append-nil (hides_of recs k.records)) (
      omega arith,
      excludes_more table more same told (hides_of recs k.records) (hides_known st.recorded k.records (omega arith)) st.hiding.excludes,
    )

-- ---- a record appended

-- the tables with a record after those counted: more names, marks, its row, its free names, its entries, the name that it takes
pub record Appends (file names rows recs lists names' rows' recs' lists' : List ℕ) (k : Counts)
    (hides' named' entries' uses' mark' kind line name term flag code group : ℕ) : Type 0 where
  pub table : Table file names' named'
  pub more : k.names ≤ named'
  pub same : (n : ℕ) → n < k.names → name_of file names' n ≡ name_of file names n
  pub row_words : SameBut 12288 4096 rows rows'
  pub fresh : Fresh names' rows' mark'
  pub few_marks : mark' ≤ 2 * (k.records + 1) + entries' + 1
  pub row : Rowed recs recs' k (with_line k hides' named' entries' uses' mark') kind line name term flag code group
  pub small_kind : kind ≤ hide_kind
  pub known : (kind ≡ retain_kind → ⊥) → name < named'
  pub termed : kind ≡ assume_kind → term < k.terms
  pub lists_length : length lists' ≡ length lists
  pub few_uses : uses' ≤ most_uses
  pub more_uses : k.uses ≤ uses'
  pub old_uses : (j : ℕ) → j < k.uses → get_or lists' j 0 ≡ get_or lists j 0
  pub new_uses : (j : ℕ) → k.uses ≤ j → j < uses' → get_or lists' j 0 < named'
  pub few_entries : entries' ≤ most_entries
  pub more_entries : k.entries ≤ entries'
  pub old_entries : (e : ℕ) → e < k.entries → entry_word lists' e ≡ entry_word lists e
  pub old_facts : (e : ℕ) → e < k.entries → entry_fact lists' e ≡ entry_fact lists e
  pub new_entries : (e : ℕ) → k.entries ≤ e → e < entries' → (entry_name lists' e < named') ⊎ (entry_name lists' e ≡ no_name)
  pub new_facts : (e : ℕ) → k.entries ≤ e → e < entries' → entry_fact lists' e ≡ k.records
  pub flagged : (e : ℕ) → k.entries ≤ e → e < entries' → entry_word lists' e < last_flag + last_flag
  pub ended : k.entries < entries' → last_flag ≤ entry_word lists' (entries' - 1)
  pub sized : entries' ≡ k.entries + entries (disjuncts_of (name_of file names') (part lists' (entries_base + k.entries) (entries_base + entries')))
  pub only_facts : (kind ≡ assume_kind → ⊥) → entries' ≡ k.entries
  pub taken : Taken names' recs' (k.records + 1)
  pub chained : Chained names' lists' entries'
  pub hides : hides' ≡ k.hides + length (hides_at recs' k.records kind)
  pub excludes : Excludes (exclude_names ++ map (name_of file names') (hides_of recs k.records ++ hides_at recs' k.records kind)) file names' named'

-- a line says what the record after those counted is: the names that it hides and spells, what it adds to the background by the
-- excluded names, the roots, the counts
pub record Says (file names names' recs' lists' : List ℕ) (out : List Name) (terms : List Term) (k k' : Counts) (kind line : ℕ) (c : Content) : Type 0 where
  pub no_ask : (earlier : List Ask) → collect (head_asks earlier) (heads c) ≡ []
  pub no_form : any is_grouped (heads c) ≡ false
  pub hidden : map (name_of file names') (hides_at recs' k.records kind) ≡ collect hidden_by (heads c)
  pub no_term : nodes c ≡ []
  pub spells : table_names file names' k'.names ≡ fold_left spell (table_names file names k.names) (spelled c ++ trimmed out terms c)
  pub decls : summary_at (name_of file names') recs' lists' k.records kind ≡ summarize_decl out terms line c
  pub roots : root_at (name_of file names') recs' lists' k.records kind ≡ root_of out terms line c
  pub entries : k'.entries ≡ k.entries + sum (map entries_of (summarize_decl out terms line c))
  pub uses : k'.uses ≡ k.uses + (sum (map uses_of (summarize_decl out terms line c))
      + sum (map (λ r. length r.free_names) (root_of out terms line c)))

module _ {file names refs rows recs lists names' rows' recs' lists' : List ℕ} {k : Counts} {hides' named' entries' uses' mark' kind line name term flag code group : ℕ}
    (st : Standing file names refs rows recs lists k) (few : k.records < most_records)
    (a : Appends file names rows recs lists names' rows' recs' lists' k hides' named' entries' uses' mark' kind line name term flag code group) where
  -- the rows of the records before
  before : (c j : ℕ) → j < k.records → get_or recs' (c * most_records + j) 0 ≡ get_or recs (c * most_records + j) 0
  before c j l = a.row.others c j (omega arith) (λ e. omega arith)

  -- what is there stays
  pub agree : Agree (name_of file names) (name_of file names') recs lists recs' lists' k.names k.records k.entries k.uses
  agree = record { same = a.same; rows = λ c i l h. before c i h; lists_length = a.lists_length; use_words = a.old_uses; entry_words = a.old_entries }

  -- the terms are those before
  pub terms_stay : terms_in file names' refs rows' k.references k.terms ≡ terms_in file names refs rows k.references k.terms
  unfolding terms_in
  terms_stay = terms_marked (name_of file names') a.row_words st.tables.term_table
      ∙ terms_named (name_of file names') (name_of file names) a.same st.tables.term_table

  filing_then : Filing (name_of file names') recs' lists' (k.records + 1) entries'
  filing_then = filing_more agree st.recorded st.stocked.filing a.old_facts a.row.entries_from a.row.entries_to
      (rw (a.row.entries_from, a.row.entries_to) a.sized)
      (λ d. a.only_facts (λ e. d (a.row.kind_is ∙ e)))
      a.new_facts a.flagged a.ended

  records_then : Records recs' lists' named' (k.records + 1) entries' uses'
  records_then =
      let r = st.recorded in
      let row = a.row in
      let x = a.more in
      let y = a.more_uses in
      record {
        room = rw row.same_length r.room;
        lists_room = rw a.lists_length r.lists_room;
        few = omega arith;
        few_entries = a.few_entries;
        few_uses = a.few_uses;
        kinds = λ j l. ⊎_elim
            (λ (e : j ≡ k.records). rw (e, row.kind_is) a.small_kind)
            (λ (e : j ≡ k.records → ⊥). rw (before 0 j (omega arith)) (r.kinds j (omega arith)))
            (equal j k.records);
        named_in = λ j l q. ⊎_elim
            (λ (e : j ≡ k.records). rw (e, row.name_is) (a.known (λ z. q (ap (record_kind recs') e ∙ row.kind_is ∙ z))))
            (λ (e : j ≡ k.records → ⊥).
            let b : j < k.records = omega arith in
            omega (arith, before 2 j b, r.named_in j b (λ z. q (before 0 j b ∙ z))))
            (equal j k.records);
        rising = λ j l. ⊎_elim
            (λ (e : j ≡ k.records). rw (e, row.uses_from, row.uses_to) y)
            (λ (e : j ≡ k.records → ⊥). let b : j < k.records = omega arith in rw (before 5 j b, before 6 j b) (r.rising j b))
            (equal j k.records);
        uses_in = λ j l. ⊎_elim
            (λ (e : j ≡ k.records). rw (e, row.uses_to) (omega arith))
            (λ (e : j ≡ k.records → ⊥). let b : j < k.records = omega arith in omega (arith, before 6 j b, r.uses_in j b))
            (equal j k.records);
        entries_in = λ j l. ⊎_elim
            (λ (e : j ≡ k.records). rw (e, row.entries_to) (omega arith))
            (λ (e : j ≡ k.records → ⊥). let b : j < k.records = omega arith in omega (arith, before 8 j b, r.entries_in j b, a.more_entries))
            (equal j k.records);
        use_words = λ j l. ⊎_elim
            (λ (e : j < k.uses). omega (arith, a.old_uses j e, r.use_words j e))
            (λ (e : k.uses ≤ j). a.new_uses j e l)
            (below j k.uses);
        entry_words = λ e l. ⊎_elim
            (λ (b : e < k.entries). rw (a.old_entries e b) (⊎_elim (λ (q : entry_name lists e < k.names). inl (omega arith)) (λ q. inr q)
            (r.entry_words e b)))
            (λ (b : k.entries ≤ e). a.new_entries e b l)
            (below e k.entries);
      }

  termed_then : Termed recs' (k.records + 1) k.terms
  termed_then j l q = ⊎_elim
      (λ (e : j ≡ k.records). rw (e, a.row.term_is) (a.termed (sym a.row.kind_is ∙ (rw e at q))))
      (λ (e : j ≡ k.records → ⊥).
      let b : j < k.records = omega arith in
      rw (before 3 j b) (st.termed j b (sym (before 0 j b) ∙ q)))
      (equal j k.records)

  -- the hide lines are those before, and the record if it is one
  hides_then : hides_of recs' (k.records + 1) ≡ hides_of recs k.records ++ hides_at recs' k.records kind
  unfolding hides_of
  hides_then = rw (add-one k.records, a.row.kind_is, hides_stay agree st.recorded k.records (omega arith))

  -- the tables stand
  pub standing_then : Standing file names' refs rows' recs' lists' (with_line k hides' named' entries' uses' mark')
  standing_then = record {
    tables = record { name_table = a.table; term_table = rows_named a.more a.table.few (rows_marked a.row_words st.tables.term_table) };
    recorded = records_then;
    termed = termed_then;
    fresh = a.fresh;
    few_marks = a.few_marks;
    stocked = record { filing = filing_then; taken = a.taken; chained = a.chained };
    hiding = record {
      counted = rw hides_then (omega (
        arith,
        length-append (hides_of recs k.records) (hides_at recs' k.records kind),
        st.hiding.counted,
        a.hides,
      ));
      excludes = rw hides_then a.excludes;
    };
  }

  -- the names hidden before
  names_known : map (name_of file names') (hides_of recs k.records) ≡ map (name_of file names) (hides_of recs k.records)
  names_known = map_cong (name_of file names') (name_of file names) (hides_of recs k.records)
      (λ m h. a.same m (hides_known st.recorded k.records (omega arith) m h))

  -- the asks are those before
  asks_there : asks_of recs' k.asks ≡ asks_of recs k.asks
  asks_there = asks_stay recs recs' k.asks (λ i l. (
    a.row.past (ask_query_column + i) (omega arith),
    a.row.past (ask_options_column + i) (omega arith),
    a.row.past (ask_kind_column + i) (omega arith),
    a.row.past (ask_groups_column + i) (omega arith),
  ))

  -- the tables are the state with the line
  state_then : {c : Content} → Says file names names' recs' lists' (excluded_of (name_of file names) recs k.records) (terms_in file names refs rows k.references k.terms) k
      (with_line k hides' named' entries' uses' mark') kind line c
      → add_line exclude_names line (state_of file names refs rows recs lists k) c
      ≡ state_of file names' refs rows' recs' lists' (with_line k hides' named' entries' uses' mark')
  unfolding add_line excluded state_of hides_of decls_of roots_of fold_left collect
  state_then s =
      let zero_more : k.references + 0 ≡ k.references = omega arith in
      rw (
        s.no_ask (asks_of recs k.asks),
        append-nil (asks_of recs k.asks),
        s.no_form,
        or-false k.grouped,
        s.no_term,
        zero_more,
        add-one k.records,
        ← s.spells,
        ← s.entries,
        ← s.uses,
        ← s.decls,
        ← s.roots,
        ← s.hidden,
        a.row.kind_is,
        hides_stay agree st.recorded k.records (omega arith),
        map-append (name_of file names') (hides_of recs k.records) (hides_at recs' k.records kind),
        names_known,
        decls_stay agree st.recorded k.records (omega arith),
        roots_stay agree st.recorded k.records (omega arith),
        terms_stay,
        asks_there,
      )

  -- what adding the record comes to
  pub record_added : {c : Content} → repeats exclude_names line (state_of file names refs rows recs lists k) c ≡ false
      → Says file names names' recs' lists' (excluded_of (name_of file names) recs k.records) (terms_in file names refs rows k.references k.terms) k (with_line k hides' named' entries' uses' mark') kind line c
      → Adds file names refs rows recs lists names' rows' recs' lists' k line c (step.On (with_line k hides' named' entries' uses' mark'))
  record_added {c} new s = added {k' = with_line k hides' named' entries' uses' mark'}
      (judged_within line (state_of file names refs rows recs lists k) c new (state_then s) (standing_within standing_then)) standing_then

-- ---- a record refused

-- a line is one record, and the names that it spells have room
pub record OneRecord (file names refs rows : List ℕ) (out : List Name) (k : Counts) (line : ℕ) (c : Content) : Type 0 where
  pub no_term : nodes c ≡ []
  pub one : length (collect hidden_by (heads c)) + (length (summarize_decl out (terms_in file names refs rows k.references k.terms) line c)
      + length (root_of out (terms_in file names refs rows k.references k.terms) line c)) ≡ 1
  pub few_names : length (fold_left spell (table_names file names k.names)
      (spelled c ++ trimmed out (terms_in file names refs rows k.references k.terms) c)) ≤ most_names

module _ {file names refs rows recs lists : List ℕ} {k : Counts} (st : Standing file names refs rows recs lists k) {line : ℕ}
    {c : Content} (one : OneRecord file names refs rows (excluded_of (name_of file names) recs k.records) k line c) where
  -- the names with the line are within their limit
  names_fit : PastNames (add_line exclude_names line (state_of file names refs rows recs lists k) c) → ⊥
  unfolding add_line excluded state_of
  names_fit h = omega (arith, one.few_names)

  -- the terms and their references are within theirs
  terms_fit : PastTerms (add_line exclude_names line (state_of file names refs rows recs lists k) c) → ⊥
  unfolding add_line excluded state_of fold_left collect
  terms_fit = rw one.no_term (⊎_elim
      (λ h. omega (arith, terms_length file names refs rows k.references k.terms, st.tables.term_table.few_rows))
      (λ h. omega (arith, st.tables.term_table.few_references)))

  -- with the line there is one record more
  records_more : length (add_line exclude_names line (state_of file names refs rows recs lists k) c).hidden
      + (length (add_line exclude_names line (state_of file names refs rows recs lists k) c).decls
      + length (add_line exclude_names line (state_of file names refs rows recs lists k) c).roots) ≡ k.records + 1
  unfolding add_line excluded state_of
  records_more =
      let terms = terms_in file names refs rows k.references k.terms in
      let out = excluded_of (name_of file names) recs k.records in
      omega (
        arith,
        one.one,
        records_length (name_of file names) recs lists k.records,
        length-map (hides_of recs k.records) (name_of file names),
        length-append (hidden_of (name_of file names) recs k.records) (collect hidden_by (heads c)),
        length-append (decls_of (name_of file names) recs lists k.records) (summarize_decl out terms line c),
        length-append (roots_of (name_of file names) recs lists k.records) (root_of out terms line c),
      )

module _ {file names refs rows recs lists names' rows' recs' lists' : List ℕ} {k : Counts} (st : Standing file names refs rows recs lists k) (line : ℕ)
    (c : Content) where
  -- its name is taken
  pub record_repeated : repeats exclude_names line (state_of file names refs rows recs lists k) c ≡ true
      → Adds file names refs rows recs lists names' rows' recs' lists' k line c (step.Refused refusal.Repeated)
  record_repeated e = stops {x = refusal.Repeated} st.tables.name_table.few (judged_repeated line (state_of file names refs rows recs lists k) c e)

  module _ (new : repeats exclude_names line (state_of file names refs rows recs lists k) c ≡ false) where
    -- a limit is passed
    pub record_beyond : {x : Refusal} → Lowest (add_line exclude_names line (state_of file names refs rows recs lists k) c) x
        → Adds file names refs rows recs lists names' rows' recs' lists' k line c (step.Refused x)
    record_beyond {x} l =
        stops {x = x} st.tables.name_table.few (judged_beyond line (state_of file names refs rows recs lists k) c new l)

    module _ (one : OneRecord file names refs rows (excluded_of (name_of file names) recs k.records) k line c) where
      -- there are as many records as may be
      pub record_crowded : most_records ≤ k.records
          → Adds file names refs rows recs lists names' rows' recs' lists' k line c (step.Refused refusal.FullRecords)
      record_crowded h = record_beyond (past_records (names_fit st one) (terms_fit st one) (omega (arith, records_more st one)))

      -- more entries or uses than may be, and room for a record
      pub record_over : k.records < most_records
          → PastTriggers (add_line exclude_names line (state_of file names refs rows recs lists k) c)
          → Adds file names refs rows recs lists names' rows' recs' lists' k line c (step.Refused refusal.FullTriggers)
      record_over few h =
          record_beyond (past_triggers (names_fit st one) (terms_fit st one) (λ p. omega (arith, records_more st one)) h)
