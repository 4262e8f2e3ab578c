-- A `retain` and a `fun` added: records without a term.
use Prim.Native.Nat.{ℕ, ◌+◌, ◌*◌, ◌-◌, ◌≤◌, ◌<◌}
use native.Mathlib.Omega.{arith}
use mathlib.Core.Path.{◌≡◌, refl, sym, ◌∙◌}
use mathlib.Core.Bool.{false}
use mathlib.Core.List.{List, []}
use lib.ListN.{set, length-set}
use lib.Seq.{get_or-set_same, get_or-set_other}
use Rattle.model.specs.Summaries.{exclude_names}
use Rattle.model.specs.Lists.{any, sum, collect, fold_left}
use Rattle.model.specs.Reading.{fun, retain, heads, head_asks, is_grouped, hidden_by, nodes, spelled, trimmed, summarize_decl, root_of, taken_by, entries_of, uses_of, repeats, most_names, most_terms, most_records, most_entries, most_uses}
use Rattle.model.specs.declared.Counts.{Counts}
use Rattle.model.specs.declared.Refusal.TheVariants as refusal
use Rattle.names.specs.Table.{name_of}
use Rattle.words.specs.Slices.{SameBut}
use Rattle.words.proofs.Slices.{same_self, same_wider}
use Rattle.gather.specs.Sets.{Fresh}
use Rattle.model.specs.Steps as step
use Rattle.model.specs.Outcome.{working_words}
use Rattle.records.specs.Columns.{fun_kind, retain_kind, hide_kind, taken_column, taken_at}
use Rattle.records.specs.States.{summary_at, root_at, hides_at, decl_at, state_of}
use Rattle.records.specs.Writing.{with_line, with_record, Small, row_columns, Rowed}
use Rattle.records.specs.Adding.{Standing, Adds, Untouched}
use Rattle.records.proofs.Judging.{repeats_none, repeats_taken, repeats_free}
use Rattle.records.proofs.Appending.{standing_within, record_added, record_repeated, record_crowded}
use Rattle.records.proofs.Plain.{spelled_again, named_within, kept, not_taken, is_taken, plain}

-- ---- what stays

-- slices that stay
pub untouched : {names rows recs lists : List ℕ} → Untouched names rows recs lists names rows recs lists
untouched = record {
  name_words = same_self 0 working_words _;
  row_words = same_self 0 working_words _;
  record_words = same_self 0 working_words _;
  list_words = same_self 0 working_words _;
}

-- the words past a row stay
pub row_past : {recs recs' : List ℕ} {k k' : Counts} {kind line name term flag code group : ℕ} → Rowed recs recs' k k' kind line name term flag code group
    → SameBut 0 working_words recs recs'
row_past r = record { same_length = r.same_length; same_words = λ i h. r.past i (past i (λ l. h (omega arith) l)) }
  where
    past : (i : ℕ) → (i < working_words → ⊥) → row_columns * most_records ≤ i
    past i h = omega arith

-- a name taken: of the names slice one word of the taken column changes
pub taken_put : {names : List ℕ} (i v : ℕ) → i < most_names → SameBut taken_column most_names names (set names (taken_column + i) v)
taken_put {names = names} i v h = record {
  same_length = simp length-set;
  same_words = λ j l. get_or-set_other names (taken_column + i) j v 0 (λ e. l (omega arith) (omega arith));
}

-- marks stay where the marks' column does
pub fresh_taken : {names rows names' : List ℕ} {mark : ℕ} → SameBut taken_column most_names names names' → Fresh names rows mark → Fresh names' rows mark
fresh_taken s f = record { row_marks = f.row_marks; name_marks = λ n l. rw (s.same_words (8192 + n) (λ a b. omega arith)) (f.name_marks n l) }

-- a row's words fit
pub small_row : {file names refs rows recs lists : List ℕ} {k next : Counts} (hides named entries uses mark : ℕ) (kind line name term flag code group : ℕ)
    → Standing file names refs rows recs lists k
    → next ≡ with_line k hides named entries uses mark → entries ≤ most_entries → uses ≤ most_uses
    → kind ≤ hide_kind → line < 4294967296 → name < most_names → term < most_terms → flag < 256 → code < 4294967296 → group < 4294967296 → Small k next kind line name term flag code group
small_row {k = k} {next} hides named entries uses mark kind line name term flag code group st e h₁ h₂ h₃ h₄ h₅ h₆ h₇ h₈ h₉ = rw e (record {
  small_kind = omega arith;
  small_line = omega arith;
  small_name = omega arith;
  small_term = omega arith;
  small_flag = omega arith;
  small_uses = omega (arith, st.recorded.few_uses);
  small_uses' = omega arith;
  small_entries = omega (arith, st.recorded.few_entries);
  small_entries' = omega arith;
  small_code = omega arith;
  small_group = omega arith;
})

-- ---- retain

module _ {file names refs rows recs lists : List ℕ} {k : Counts} (st : Standing file names refs rows recs lists k) (line : ℕ) where
  retain_new : repeats exclude_names line (state_of file names refs rows recs lists k) (retain []) ≡ false
  unfolding state_of summarize_decl collect taken_by
  retain_new = repeats_none line (state_of file names refs rows recs lists k) (retain []) refl

  -- as many records as may be
  pub retain_crowded : {recs' : List ℕ} → most_records ≤ k.records
      → Adds file names refs rows recs lists names rows recs' lists k line (retain []) (step.Refused refusal.FullRecords)
  unfolding state_of heads hidden_by nodes spelled trimmed summarize_decl root_of fold_left collect
  retain_crowded h = record_crowded st line (retain []) retain_new
      (record { no_term = refl; one = refl; few_names = (standing_within st).names }) h

  -- the record is there
  pub retain_added : {recs' : List ℕ} {next : Counts} → k.records < most_records → next ≡ with_record k k.names k.entries k.uses k.mark
      → Rowed recs recs' k next retain_kind line 0 0 0 0 0 → Adds file names refs rows recs lists names rows recs' lists k line (retain []) (step.On next)
  unfolding heads head_asks hidden_by any is_grouped hides_at nodes spelled trimmed summarize_decl root_of entries_of uses_of sum fold_left collect summary_at root_at
  retain_added {recs'} {next} few e row =
      let same = same_self 8192 4096 names in
      let row' : Rowed recs recs' k (with_record k k.names k.entries k.uses k.mark) retain_kind line 0 0 0 0 0 = rw e at row in
      let more = plain st same (same_self 12288 4096 rows) st.fresh (omega arith) row' (λ z. omega arith) (omega arith) (λ z. absurd (z refl))
      (same_self k.uses (k.uses - k.uses) lists)
      (omega arith) st.recorded.few_uses (λ j a b. absurd (omega arith)) (not_taken st few row' (λ n l. refl) (omega arith)) in
      rw e (record_added st few more retain_new (record {
        no_ask = λ earlier. refl;
        no_form = refl;
        hidden = refl;
        no_term = refl;
        spells = refl;
        decls = refl;
        roots = refl;
        entries = omega arith;
        uses = omega arith;
      }))

-- ---- fun

module _ {file names refs rows recs lists : List ℕ} {k : Counts} (st : Standing file names refs rows recs lists k) (line : ℕ) {i : ℕ}
    (known : i < k.names) {w : ℕ} (is : w ≡ taken_at names i) where
  fun_new : w ≤ 0 → repeats exclude_names line (state_of file names refs rows recs lists k) (fun (name_of file names i)) ≡ false
  unfolding summarize_decl collect taken_by
  fun_new h = repeats_free st line (fun (name_of file names i)) known refl (omega arith)

  -- the name is taken
  pub fun_repeated : {names' recs' : List ℕ} → 0 < w → Adds file names refs rows recs lists names' rows recs' lists k line (fun (name_of file names i))
      (step.Refused refusal.Repeated)
  unfolding summarize_decl collect taken_by
  fun_repeated h = record_repeated st line (fun (name_of file names i)) (repeats_taken st line (fun (name_of file names i)) known refl (omega arith))

  -- as many records as may be
  pub fun_crowded : {names' recs' : List ℕ} → w ≤ 0 → most_records ≤ k.records
      → Adds file names refs rows recs lists names' rows recs' lists k line (fun (name_of file names i))
      (step.Refused refusal.FullRecords)
  unfolding heads hidden_by nodes spelled trimmed summarize_decl root_of collect
  fun_crowded z h = record_crowded st line (fun (name_of file names i)) (fun_new z)
      (record { no_term = refl; one = refl; few_names = named_within st known }) h

  -- the record is there
  pub fun_added : {recs' : List ℕ} {next : Counts} → w ≤ 0 → k.records < most_records → next ≡ with_record k k.names k.entries k.uses k.mark
      → Rowed recs recs' k next fun_kind line i 0 0 0 0
      → Adds file names refs rows recs lists (set names (taken_column + i) (k.records + 1)) rows recs' lists k line (fun (name_of file names i)) (step.On next)
  unfolding heads head_asks hidden_by any is_grouped hides_at nodes spelled trimmed summarize_decl root_of entries_of uses_of sum fold_left collect summary_at root_at decl_at
  fun_added {recs'} {next} z few e row =
      let low : i < most_names = omega (arith, st.tables.name_table.few) in
      let put = taken_put {names = names} i (k.records + 1) low in
      let words = same_wider 8192 4096 (omega arith) (omega arith) put in
      let row' : Rowed recs recs' k (with_record k k.names k.entries k.uses k.mark) fun_kind line i 0 0 0 0 = rw e at row in
      let taken = is_taken st few row' low (omega arith) (get_or-set_same names (taken_column + i) (k.records + 1) 0
      (omega (arith, st.tables.name_table.room)))
      (λ n l d. get_or-set_other names (taken_column + i) (taken_column + n) (k.records + 1) 0 (λ q. d (omega arith))) (omega arith) in
      let more = plain st words (same_self 12288 4096 rows) (fresh_taken put st.fresh) (omega arith) row' (λ q. omega arith) (omega arith) (λ q. known)
      (same_self k.uses (k.uses - k.uses) lists)
      (omega arith) st.recorded.few_uses (λ j a b. absurd (omega arith)) taken in
      rw e (record_added st few more (fun_new z) (record {
        no_ask = λ earlier. refl;
        no_form = refl;
        hidden = refl;
        no_term = refl;
        spells = (kept st words).names ∙ sym (spelled_again file names k.names i known);
        decls = rw (row'.line_is, row'.name_is, (kept st words).name i known);
        roots = refl;
        entries = omega arith;
        uses = omega arith;
      }))

  -- the words past the tables stay
  pub fun_past : {recs' : List ℕ} {next : Counts} {kind term flag code group : ℕ} (v : ℕ) → Rowed recs recs' k next kind line i term flag code group
      → Untouched names rows recs lists (set names (taken_column + i) v) rows recs' lists
  fun_past v row = record {
    name_words = same_wider 0 working_words (omega arith) (omega arith) (taken_put i v (omega (arith, st.tables.name_table.few)));
    row_words = same_self 0 working_words rows;
    record_words = row_past row;
    list_words = same_self 0 working_words lists;
  }
