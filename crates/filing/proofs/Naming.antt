-- A line whose name is spelled: the tables under the longer name table, and the line judged there.
use Prim.Native.Nat.{ℕ, ◌+◌, ◌≤◌, ◌<◌}
use native.Mathlib.Omega.{arith}
use mathlib.Core.Path.{◌≡◌, refl, sym, ap, ◌∙◌}
use mathlib.Core.Bool.{Bool, true, false, cond}
use mathlib.Core.List.Memᴰ
use mathlib.Core.List.{List, [], ◌∷◌, ◌++◌, append-nil, Memᴰ}
use lib.ListN.{length, length-append}
use lib.Dec.{T, not_T, leb}
use Rattle.model.specs.Summaries.{exclude_names}
use Rattle.model.specs.Lists.{collect, fold_left}
use Rattle.model.specs.Names.{Name, mem}
use Rattle.model.specs.Reading.{Result, ok, refused, Content, retain, State, spell, spelled, trimmed, heads, nodes, summarize_decl, root_of, add_line, repeats, limits, under_limits, taken_by, most_names, most_terms, excluded}
use Rattle.model.specs.declared.Counts.{Counts}
use Rattle.model.specs.declared.Refusal.{Refusal}
use Rattle.model.specs.declared.Refusal.TheVariants as refusal
use Rattle.model.proofs.ResultLaws.{ok_eq, not_ok}
use Rattle.model.proofs.ListLaws.{T_false, cond_true}
use Rattle.model.proofs.SetLaws.{mem_intro, mem_elim}
use Rattle.laws.proofs.ReadingLaws.{past_names as many_names}
use Rattle.names.specs.Table.{Table, name_of, table_names}
use Rattle.names.proofs.Laws.{names_length, names_intro}
use Rattle.names.proofs.Excluded.{excludes_more}
use Rattle.terms.proofs.Table.{rows_named, terms_named}
use Rattle.rules.specs.Views.{terms_in}
use Rattle.fields.specs.Spelling.{name_columns, Naming, in_table, Longer, SpelledAs}
use Rattle.fields.proofs.Spelling.{begun_table, naming_table, naming_past}
use Rattle.records.specs.Columns.{record_name, taken_column, first_column}
use Rattle.records.specs.States.{state_of, decls_of, hides_of}
use Rattle.records.specs.Adding.{Standing, judge, Adds, Untouched}
use Rattle.records.specs.Adding as adds
use Rattle.records.proofs.Judging.{judged_beyond, repeats_one, taken_elim}
use Rattle.records.proofs.Recording.{Agree, hides_known, hidden_stay, decls_stay, roots_stay}
use Rattle.records.proofs.Keeping.{records_named, filing_kept, taken_kept}
use Rattle.records.proofs.Chaining.{chained_kept}
use Rattle.model.specs.Steps.{Step}
use Rattle.model.specs.Steps as step
use Rattle.model.specs.Outcome.{working_words}
use Rattle.words.specs.Slices.{SameBut}
use Rattle.words.proofs.Slices.{same_self, same_then}
use Rattle.filing.specs.Lines.{with_names, judged, Reads, Past}
use Rattle.filing.specs.Lines as reads

-- ---- spelling a name

-- a name that was spelled is there
spelled_there : (ns : List Name) (m : Name) → T (mem m (spell ns m))
unfolding spell
spelled_there ns m = go (mem m ns) refl
  where
    last : T (mem m (ns ++ (m ∷ [])))
    last = mem_intro (Memᴰ.append_right ns (Memᴰ.head refl))

    go : (b : Bool) → mem m ns ≡ b → T (mem m (cond b ns (ns ++ (m ∷ []))))
    go true e = rw e tt
    go false e = last

-- a name that is there stays as it is
spell_known : (ns : List Name) (m : Name) → T (mem m ns) → spell ns m ≡ ns
unfolding spell
spell_known ns m h = cond_true (mem m ns) ns (ns ++ (m ∷ [])) h

-- a name spelled twice
pub spell_twice : (ns : List Name) (m : Name) → spell (spell ns m) m ≡ spell ns m
spell_twice ns m = spell_known (spell ns m) m (spelled_there ns m)

-- spelling forgets no name
spell_more : (ns : List Name) (m : Name) → length ns ≤ length (spell ns m)
unfolding spell
spell_more ns m = go (mem m ns)
  where
    go : (b : Bool) → length ns ≤ length (cond b ns (ns ++ (m ∷ [])))
    go true = omega arith
    go false = omega (arith, length-append ns (m ∷ []))

-- nor does spelling some
pub fold_more : (ns ms : List Name) → length ns ≤ length (fold_left spell ns ms)
unfolding fold_left
fold_more ns [] = omega arith
fold_more ns (m ∷ ms) = omega (arith, spell_more ns m, fold_more (spell ns m) ms)

-- a name for which there is no room is new
pub new_name : (ns : List Name) (m : Name) → length ns < length (spell ns m) → T (mem m ns) → ⊥
new_name ns m h t = omega (arith, ap length (spell_known ns m t))

-- ---- the tables under a longer name table

module _ {file names refs rows recs lists names' : List ℕ} {k : Counts} {named' : ℕ} (st : Standing file names refs rows recs lists k)
    (longer : Longer file names names' k.names named') where
  -- the records are as before
  pub same_records : Agree (name_of file names) (name_of file names') recs lists recs lists k.names k.records k.entries k.uses
  same_records = record {
    same = longer.same;
    rows = λ c i l h. refl;
    lists_length = refl;
    use_words = λ j h. refl;
    entry_words = λ e h. refl;
  }

  -- the state with the names spelled
  pub state_spelled : {ns : List Name} → table_names file names' named' ≡ ns
      → state_of file names' refs rows recs lists (with_names k named')
      ≡ record {
        asks = (state_of file names refs rows recs lists k).asks;
        grouped = k.grouped;
        hidden = (state_of file names refs rows recs lists k).hidden;
        terms = (state_of file names refs rows recs lists k).terms;
        names = ns;
        decls = (state_of file names refs rows recs lists k).decls;
        roots = (state_of file names refs rows recs lists k).roots;
        references = k.references;
        entries = k.entries;
        uses = k.uses;
      }
  unfolding state_of terms_in
  state_spelled e = rw (
    e,
    terms_named (name_of file names') (name_of file names) longer.same st.tables.term_table,
    hidden_stay same_records st.recorded k.records (omega arith),
    decls_stay same_records st.recorded k.records (omega arith),
    roots_stay same_records st.recorded k.records (omega arith),
  )

  -- the tables stand
  pub standing_spelled : Table file names' named' → Standing file names' refs rows recs lists (with_names k named')
  standing_spelled table = record {
    tables = record { name_table = table; term_table = rows_named longer.more table.few st.tables.term_table };
    recorded = records_named longer.more st.recorded;
    termed = st.termed;
    fresh = record {
      row_marks = st.fresh.row_marks;
      name_marks = λ n h. rw (longer.kept.same_words (8192 + n) (λ a b. omega arith)) (st.fresh.name_marks n h);
    };
    few_marks = st.few_marks;
    stocked = record {
      filing = filing_kept same_records st.recorded st.stocked.filing (λ e h. refl);
      taken = taken_kept (λ c i l h. refl) st.stocked.taken
          (λ i h l. omega (arith, st.recorded.named_in i h (λ z. omega arith), st.tables.name_table.few))
          (λ n h. longer.kept.same_words (taken_column + n) (λ a b. omega arith));
      chained = chained_kept st.stocked.chained (λ n h. longer.kept.same_words (first_column + n) (λ a b. omega arith)) (λ e h. refl) (λ e h. refl);
    };
    hiding = record {
      counted = st.hiding.counted;
      excludes = excludes_more table longer.more longer.same longer.told (hides_of recs k.records)
          (hides_known st.recorded k.records (omega arith)) st.hiding.excludes;
    };
  }

-- ---- a line judged in the state with its name spelled

-- the state with these names
abbrev pub with_spelled : State → List Name → State
with_spelled s ns = record {
  asks = s.asks;
  grouped = s.grouped;
  hidden = s.hidden;
  terms = s.terms;
  names = ns;
  decls = s.decls;
  roots = s.roots;
  references = s.references;
  entries = s.entries;
  uses = s.uses;
}

-- names spelled after one that is spelled already
fold_again : (ns ts : List Name) (m : Name) → fold_left spell ns ((m ∷ []) ++ ts) ≡ fold_left spell (spell ns m) ((m ∷ []) ++ ts)
unfolding fold_left
fold_again ns ts m = ap (λ ls. fold_left spell ls ts) (sym (spell_twice ns m))

-- a line of one name
same_line : (n : ℕ) (s : State) (m : Name) (c : Content) → spelled c ≡ m ∷ []
    → add_line exclude_names n s c ≡ add_line exclude_names n (with_spelled s (spell s.names m)) c
unfolding add_line excluded
same_line n s m c e =
    let out = exclude_names ++ s.hidden in
    let same : fold_left spell s.names (spelled c ++ trimmed out s.terms c)
    ≡ fold_left spell (spell s.names m) (spelled c ++ trimmed out s.terms c)
    = rw e (fold_again s.names (trimmed out s.terms c) m) in
    rw same

-- it is judged the same
respelled : (n : ℕ) (s : State) (m : Name) (c : Content) → spelled c ≡ m ∷ [] → judge n s c ≡ judge n (with_spelled s (spell s.names m)) c
unfolding judge repeats excluded
respelled n s m c e = rw (same_line n s m c e)

-- a `retain`: its names are spelled, and none is left
pub retained : (n : ℕ) (s : State) (ms : List Name) → judge n s (retain ms) ≡ judge n (with_spelled s (fold_left spell s.names ms)) (retain [])
unfolding judge repeats add_line excluded summarize_decl root_of spelled trimmed heads nodes fold_left
retained n s ms = rw (append-nil ms)

-- what is judged well is the state with the line
under_ok : {A : Type 0} (ls : List (ℕ × ℕ × Refusal)) {a b : A} → under_limits ls a ≡ ok b → a ≡ b
unfolding under_limits
under_ok [] e = ok_eq e
under_ok ((counted, limit, x) ∷ ls) {a} {b} e = go (leb counted limit) (λ q. under_ok ls q) e
  where
    go : (t : Bool) → (under_limits ls a ≡ ok b → a ≡ b) → cond t (under_limits ls a) (refused x) ≡ ok b → a ≡ b
    go true on q = on q
    go false on q = absurd (not_ok q)

judge_ok : (n : ℕ) (s t : State) (c : Content) → judge n s c ≡ ok t → add_line exclude_names n s c ≡ t
unfolding judge
judge_ok n s t c e = go (repeats exclude_names n s c) e
  where
    go : (b : Bool) → cond b (refused refusal.Repeated) (under_limits (limits (add_line exclude_names n s c)) (add_line exclude_names n s c)) ≡ ok t
        → add_line exclude_names n s c ≡ t
    go true q = absurd (not_ok q)
    go false q = under_ok (limits (add_line exclude_names n s c)) q

-- a line has no fewer names than before
pub line_names : (n : ℕ) (s : State) (c : Content) → length s.names ≤ length (add_line exclude_names n s c).names
unfolding add_line
line_names n s c = fold_more s.names (spelled c ++ trimmed (excluded exclude_names s) s.terms c)

-- ---- a record added after its name is spelled

module _ {file names refs rows recs lists names' : List ℕ} {k : Counts} {named' i : ℕ} {m : Name} (n : ℕ) (st : Standing file names refs rows recs lists k)
    (sp : SpelledAs file names names' k.names named' i m) (c : Content) (one : spelled c ≡ m ∷ []) where
  -- the names of the tables before, as those of the model
  before : Naming file names k.names (table_names file names k.names)
  before = in_table st.tables.name_table refl

  -- the line is judged in the state with its name spelled
  judged_there : named' ≤ most_names → judge n (state_of file names refs rows recs lists k) c
      ≡ judge n (state_of file names' refs rows recs lists (with_names k named')) c
  unfolding state_of
  judged_there h = respelled n (state_of file names refs rows recs lists k) m c one
      ∙ ap (λ s. judge n s c) (sym (state_spelled st sp.longer (naming_table (sp.naming (table_names file names k.names) before) h).1))

  -- its name has no room
  pub no_room : most_names < named' → most_names < length (spell (table_names file names k.names) m)
  no_room h = naming_past (sp.naming (table_names file names k.names) before) h

  crowded : most_names < named' → repeats exclude_names n (state_of file names refs rows recs lists k) c ≡ false
      → judge n (state_of file names refs rows recs lists k) c ≡ refused refusal.FullNames
  unfolding state_of
  crowded h r =
      let s = state_of file names refs rows recs lists k in
      let then = line_names n (with_spelled s (spell s.names m)) c in
      judged_beyond n s c r (many_names (omega (arith, no_room h, then, ap (λ t. length t.names) (same_line n s m c one))))

  -- a name without room is not taken
  pub not_taken : collect taken_by (summarize_decl (excluded exclude_names (state_of file names refs rows recs lists k))
      (terms_in file names refs rows k.references k.terms) n c) ≡ m ∷ []
      → most_names < named' → repeats exclude_names n (state_of file names refs rows recs lists k) c ≡ false
  unfolding state_of
  not_taken takes h =
      repeats_one n (state_of file names refs rows recs lists k) c takes
      ∙ rw (T_false (mem m taken) (not_T (mem m taken) (λ t. new (mem_elim t))))
    where
      taken : List Name
      taken = collect taken_by (decls_of (name_of file names) recs lists k.records)

      new : Memᴰ m taken → ⊥
      new x =
          let (j, l, kind, e) = taken_elim (name_of file names) recs lists k.records x in
          let low = st.recorded.named_in j l (λ z. omega arith) in
          let there = names_intro file names k.names (record_name recs j) low in
          new_name (table_names file names k.names) m
          (omega (arith, no_room h, names_length file names k.names, st.tables.name_table.few)) (rw e there)

-- a line that is judged well has room for its names
pub few_names : (file names' refs rows recs lists : List ℕ) (k : Counts) (named' n : ℕ) {names'' rows'' recs'' lists'' : List ℕ} {k' : Counts} (c : Content)
    → judge n (state_of file names' refs rows recs lists (with_names k named')) c ≡ ok (state_of file names'' refs rows'' recs'' lists'' k')
    → Standing file names'' refs rows'' recs'' lists'' k' → named' ≤ most_names
unfolding state_of
few_names file names' refs rows recs lists k named' n {names''} {rows''} {recs''} {lists''} {k'} c j s =
    let t = state_of file names' refs rows recs lists (with_names k named') in
    let u = state_of file names'' refs rows'' recs'' lists'' k' in
    omega (
      arith,
      line_names n t c,
      ap (λ x. length x.names) (judge_ok n t u c j),
      names_length file names' named',
      names_length file names'' k'.names,
      s.tables.name_table.few,
    )

module _ {file names refs rows recs lists names' : List ℕ} {k : Counts} {named' i : ℕ} {m : Name} (n : ℕ) (st : Standing file names refs rows recs lists k)
    (sp : SpelledAs file names names' k.names named' i m) where
  -- the tables with the name spelled, and its number
  pub spelled_standing : {next : Counts} → next ≡ with_names k named' → next.names ≤ most_names
      → Standing file names' refs rows recs lists next × (i < next.names)
  spelled_standing q = rw q (λ h. (standing_spelled st sp.longer (begun_table sp.begun h), (sp.number h).0))

  -- what adding a record of the name comes to, as its line has it
  module _ (make : Name → Content) (one : (x : Name) → spelled (make x) ≡ x ∷ []) where
    abbrev s : State
    s = state_of file names refs rows recs lists k

    abbrev s' : State
    s' = state_of file names' refs rows recs lists (with_names k named')

    named_there : named' ≤ most_names → judge n s (make m) ≡ judge n s' (make (name_of file names' i))
    named_there h = judged_there n st sp (make m) (one m) h ∙ ap (λ x. judge n s' (make x)) (sym (sp.number h).1)

    pub record_reads : {names'' rows'' recs'' lists'' : List ℕ} {said : Result Content} {next : Counts} {r : Step}
        → (most_names < named' → repeats exclude_names n s (make m) ≡ false) → said ≡ ok (make m) → next ≡ with_names k named'
        → Adds file names' refs rows recs lists names'' rows'' recs'' lists'' next n (make (name_of file names' i)) r
        → Reads file names'' refs rows'' recs'' lists'' n s said r
    unfolding judged
    record_reads {names''} {rows''} {recs''} {lists''} {said} {next} {r} free e q a = go (rw q at a)
      where
        go : {r : Step} → Adds file names' refs rows recs lists names'' rows'' recs'' lists'' (with_names k named') n (make (name_of file names' i)) r
            → Reads file names'' refs rows'' recs'' lists'' n s said r
        go (adds.full h) = reads.stops {x = refusal.FullNames} (rw e (crowded n st sp (make m) (one m) h (free h)))
        go (adds.stops {x} h j) = reads.stops {x = x} (rw e (named_there h ∙ j))
        go (adds.added {k'} j x) = reads.goes_on {k' = k'} (rw e
            (named_there (few_names file names' refs rows recs lists k named' n (make (name_of file names' i)) j x) ∙ j)) x

-- as many terms as before
pub many_below : (k : Counts) {next : Counts} {named t : ℕ} → next ≡ with_names k named → t < k.terms → t < next.terms
many_below k q h = rw q h

pub many_few : {file names refs rows recs lists : List ℕ} {k next : Counts} {named : ℕ} → Standing file names refs rows recs lists k → next ≡ with_names k named
    → next.terms ≤ most_terms
many_few st q = rw q st.tables.term_table.few_rows

-- a line that is refused by its fields
pub reads_refused : {file names' refs' rows' recs' lists' : List ℕ} {n : ℕ} {s : State} {said : Result Content} (x : Refusal) → said ≡ refused x
    → Reads file names' refs' rows' recs' lists' n s said (step.Refused x)
unfolding judged
reads_refused x e = reads.stops {x = x} (rw e refl)

-- ---- words past those that a call uses

-- the columns of the name table are words that a call uses
pub table_past : {names names' : List ℕ} → SameBut 0 name_columns names names' → SameBut 0 working_words names names'
table_past s = record { same_length = s.same_length; same_words = λ i h. s.same_words i (λ a b. h (omega arith) (omega arith)) }

-- a spelled name changes no others
pub spelled_past : {file names names' : List ℕ} {named named' : ℕ} → Longer file names names' named named' → SameBut 0 working_words names names'
spelled_past l = table_past l.kept

-- nothing is written
pub past_none : (names refs rows recs lists : List ℕ) → Past names refs rows recs lists names refs rows recs lists
past_none names refs rows recs lists = record {
  name_words = same_self 0 working_words names;
  reference_words = same_self 0 working_words refs;
  row_words = same_self 0 working_words rows;
  record_words = same_self 0 working_words recs;
  list_words = same_self 0 working_words lists;
}

-- only records are
pub past_records : {recs recs' : List ℕ} (names refs rows lists : List ℕ) → SameBut 0 working_words recs recs'
    → Past names refs rows recs lists names refs rows recs' lists
past_records names refs rows lists p = record {
  name_words = same_self 0 working_words names;
  reference_words = same_self 0 working_words refs;
  row_words = same_self 0 working_words rows;
  record_words = p;
  list_words = same_self 0 working_words lists;
}

-- only names are
pub past_names : {names names' : List ℕ} (refs rows recs lists : List ℕ) → SameBut 0 working_words names names'
    → Past names refs rows recs lists names' refs rows recs lists
past_names refs rows recs lists p = record {
  name_words = p;
  reference_words = same_self 0 working_words refs;
  row_words = same_self 0 working_words rows;
  record_words = same_self 0 working_words recs;
  list_words = same_self 0 working_words lists;
}

-- nothing is written of a record
pub untouched : {names rows recs lists : List ℕ} → Untouched names rows recs lists names rows recs lists
untouched {names} {rows} {recs} {lists} = record {
  name_words = same_self 0 working_words names;
  row_words = same_self 0 working_words rows;
  record_words = same_self 0 working_words recs;
  list_words = same_self 0 working_words lists;
}

-- names, then a record
pub past_then : {names names' rows recs lists names'' rows'' recs'' lists'' : List ℕ} (refs : List ℕ) → SameBut 0 working_words names names'
    → Untouched names' rows recs lists names'' rows'' recs'' lists'' → Past names refs rows recs lists names'' refs rows'' recs'' lists''
past_then refs p u = record {
  name_words = same_then p u.name_words;
  reference_words = same_self 0 working_words refs;
  row_words = u.row_words;
  record_words = u.record_words;
  list_words = u.list_words;
}
