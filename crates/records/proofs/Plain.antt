-- A record without entries: hide, fun, def, retain and root.
use Prim.Native.Nat.{ℕ, ◌+◌, ◌-◌, ◌*◌, ◌≤◌, ◌<◌}
use native.Mathlib.Omega.{arith}
use mathlib.Core.Path.{◌≡◌, refl}
use mathlib.Core.List.{List, [], ◌∷◌, ◌++◌, map}
use lib.ListN.{length, get_or}
use Rattle.model.specs.Lists.{sum, fold_left, part}
use Rattle.model.specs.Names.{Name, mem}
use Rattle.model.specs.Summaries.{exclude_names, entries}
use Rattle.model.specs.Reading.{spell, most_names, most_records, most_uses}
use Rattle.model.specs.declared.Counts.{Counts}
use Rattle.model.proofs.ListLaws.{cond_true}
use Rattle.model.proofs.PartLaws.{part_nil}
use Rattle.names.specs.Table.{name_of, table_names, Excludes}
use Rattle.names.proofs.Laws.{names_intro, names_length}
use Rattle.names.proofs.Coded.{Kept, table_kept}
use Rattle.names.proofs.Excluded.{tells_kept}
use Rattle.words.specs.Slices.{SameBut}
use Rattle.gather.specs.Sets.{Fresh}
use Rattle.triggers.specs.Entries.{disjuncts_of, disjuncts_of_words, entries_base}
use Rattle.records.specs.Columns.{record_kind, record_name, assume_kind, retain_kind, root_kind, hide_kind, fact_column, next_column, first_column, taken_at, first_entry}
use Rattle.records.specs.States.{hides_at, hides_of}
use Rattle.records.specs.Filing.{Taken}
use Rattle.records.specs.Writing.{with_line, with_record, Rowed}
use Rattle.records.specs.Adding.{Standing}
use Rattle.records.proofs.Chaining.{chained_kept}
use Rattle.records.proofs.Keeping.{taken_none, taken_more}
use Rattle.records.proofs.Appending.{Appends, no_hide}

-- spelling a name of the table again
pub spelled_again : (file names : List ℕ) (named i : ℕ) → i < named → spell (table_names file names named) (name_of file names i) ≡ table_names file names named
unfolding spell
spelled_again file names named i h =
    cond_true (mem (name_of file names i) (table_names file names named)) (table_names file names named) (table_names file names named ++ (name_of file names i ∷ []))
    (names_intro file names named i h)

-- spelling it leaves the names within their limit
pub named_within : {file names refs rows recs lists : List ℕ} {k : Counts} → Standing file names refs rows recs lists k → {i : ℕ}
    → i < k.names → length (fold_left spell (table_names file names k.names) (name_of file names i ∷ [])) ≤ most_names
unfolding fold_left
named_within {file} {names} {k = k} st {i} known =
    rw (spelled_again file names k.names i known)
    (omega (arith, names_length file names k.names, st.tables.name_table.few))

-- no entries take none
no_entries : (name : ℕ → Name) (lists : List ℕ) (a : ℕ) → entries (disjuncts_of name (part lists a a)) ≡ 0
unfolding entries disjuncts_of disjuncts_of_words sum
no_entries name lists a = rw (part_nil lists a a (omega arith))

-- ---- the taken column with the record after those counted

module _ {file names refs rows recs lists recs' : List ℕ} {k k' : Counts} {kind line name term flag code group : ℕ} (st : Standing file names refs rows recs lists k)
    (few : k.records < most_records) (row : Rowed recs recs' k k' kind line name term flag code group) where
  -- the rows before
  before : (c j : ℕ) → j < k.records → get_or recs' (c * most_records + j) 0 ≡ get_or recs (c * most_records + j) 0
  before c j l = row.others c j (omega arith) (λ e. omega arith)

  -- names of records before have room
  small : (i : ℕ) → i < k.records → record_kind recs i < retain_kind → record_name recs i < most_names
  small i l h = omega (arith, st.recorded.named_in i l (λ z. omega arith), st.tables.name_table.few)

  -- a record that takes no name
  pub not_taken : {names' : List ℕ} → ((n : ℕ) → n < most_names → taken_at names' n ≡ taken_at names n) → retain_kind ≤ kind
      → Taken names' recs' (k.records + 1)
  not_taken same h = taken_none (λ c i l h. before c i h) st.stocked.taken small same (λ l. omega (arith, row.kind_is))

  -- a record that takes its name, which was free
  pub is_taken : {names' : List ℕ} → name < most_names → taken_at names name ≡ 0 → taken_at names' name ≡ k.records + 1
      → ((n : ℕ) → n < most_names → (n ≡ name → ⊥) → taken_at names' n ≡ taken_at names n) → kind < retain_kind → Taken names' recs' (k.records + 1)
  is_taken low free new same h = taken_more (λ c i l h. before c i h) st.stocked.taken small name low free new same (rw row.kind_is h) row.name_is

-- ---- the tables with the record

module _ {file names refs rows recs lists names' : List ℕ} {k : Counts} (st : Standing file names refs rows recs lists k)
    (same : Kept file names names' k.names) (first : (n : ℕ) → n < most_names → first_entry names' n ≡ first_entry names n) where
  -- the record is appended
  pub appended : {rows' recs' lists' : List ℕ} {hides' uses' mark' kind line name term flag code group : ℕ}
      → SameBut 12288 4096 rows rows' → Fresh names' rows' mark' → mark' ≤ k.mark + 1
      → Rowed recs recs' k (with_line k hides' k.names k.entries uses' mark') kind line name term flag code group
      → (kind ≡ assume_kind → ⊥) → kind ≤ hide_kind → ((kind ≡ retain_kind → ⊥) → name < k.names)
      → SameBut k.uses (uses' - k.uses) lists lists' → k.uses ≤ uses' → uses' ≤ most_uses → ((j : ℕ) → k.uses ≤ j → j < uses' → get_or lists' j 0 < k.names)
      → Taken names' recs' (k.records + 1)
      → (hides' ≡ k.hides + length (hides_at recs' k.records kind))
      × Excludes (exclude_names ++ map (name_of file names') (hides_of recs k.records ++ hides_at recs' k.records kind)) file names' k.names
      → Appends file names rows recs lists names' rows' recs' lists' k hides' k.names k.entries uses' mark' kind line name term flag code group
  appended {lists' = lists'} row_words fresh mark row other small known lists_words more few_uses new taken (hides, excludes) =
      let lists_same : (j : ℕ) → most_uses ≤ j → get_or lists' j 0 ≡ get_or lists j 0 = λ j l. lists_words.same_words j (λ a b. omega arith) in
      record {
        table = same.table;
        more = omega arith;
        same = same.name;
        row_words = row_words;
        fresh = fresh;
        few_marks = omega (arith, st.few_marks);
        row = row;
        small_kind = small;
        known = known;
        termed = λ e. absurd (other e);
        lists_length = lists_words.same_length;
        few_uses = few_uses;
        more_uses = more;
        old_uses = λ j l. lists_words.same_words j (λ a b. omega arith);
        new_uses = new;
        few_entries = st.recorded.few_entries;
        more_entries = omega arith;
        old_entries = λ e l. lists_same (entries_base + e) (omega arith);
        old_facts = λ e l. lists_same (fact_column + e) (omega arith);
        new_entries = λ e a b. absurd (omega arith);
        new_facts = λ e a b. absurd (omega arith);
        flagged = λ e a b. absurd (omega arith);
        ended = λ l. absurd (omega arith);
        sized = omega (arith, no_entries (name_of file names') lists' (entries_base + k.entries));
        only_facts = λ d. refl;
        taken = taken;
        chained = chained_kept st.stocked.chained first
            (λ e l. rw (lists_same (entries_base + e) (omega arith))) (λ e l. lists_same (next_column + e) (omega arith));
        hides = hides;
        excludes = excludes;
      }

module _ {file names refs rows recs lists names' : List ℕ} {k : Counts} (st : Standing file names refs rows recs lists k)
    (name_words : SameBut 8192 4096 names names') where
  -- the names are those before
  pub kept : Kept file names names' k.names
  kept = table_kept st.tables.name_table name_words.same_length (λ i l. name_words.same_words i (λ a b. omega arith))

  -- a record that is no hide line is appended
  pub plain : {rows' recs' lists' : List ℕ} {uses' mark' kind line name term flag code group : ℕ}
      → SameBut 12288 4096 rows rows' → Fresh names' rows' mark' → mark' ≤ k.mark + 1
      → Rowed recs recs' k (with_record k k.names k.entries uses' mark') kind line name term flag code group
      → (kind ≡ assume_kind → ⊥) → kind ≤ root_kind → ((kind ≡ retain_kind → ⊥) → name < k.names)
      → SameBut k.uses (uses' - k.uses) lists lists' → k.uses ≤ uses' → uses' ≤ most_uses → ((j : ℕ) → k.uses ≤ j → j < uses' → get_or lists' j 0 < k.names)
      → Taken names' recs' (k.records + 1)
      → Appends file names rows recs lists names' rows' recs' lists' k k.hides k.names k.entries uses' mark' kind line name term flag code group
  plain {recs' = recs'} {kind = kind} row_words fresh mark row other small known lists_words more few_uses new taken =
      let told = tells_kept st.tables.name_table.few (λ i l. name_words.same_words i (λ a b. omega arith)) in
      appended st kept (λ n l. name_words.same_words (first_column + n) (λ a b. omega arith)) row_words fresh mark row other (omega arith) known lists_words
      more few_uses new taken (no_hide st kept.table (omega arith) kept.name told recs' kind small)
