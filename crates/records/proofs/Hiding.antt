-- A `hide` added: its name is excluded.
use Prim.Native.Nat.{ℕ, ◌+◌, ◌-◌, ◌≤◌, ◌<◌}
use native.Mathlib.Omega.{arith}
use mathlib.Core.Path.{◌≡◌, refl, sym, ◌∙◌}
use mathlib.Core.Bool.{false}
use mathlib.Core.List.{List}
use Rattle.model.specs.Summaries.{exclude_names}
use Rattle.model.specs.Lists.{any, sum, collect, fold_left}
use Rattle.model.specs.Reading.{head, hide, heads, head_asks, is_grouped, hidden_by, nodes, spelled, trimmed, summarize_decl, root_of, taken_by, repeats, most_names, most_records}
use Rattle.model.specs.declared.Counts.{Counts}
use Rattle.model.specs.declared.Refusal.TheVariants as refusal
use Rattle.model.specs.Steps as step
use Rattle.model.specs.Outcome.{working_words}
use Rattle.names.specs.Table.{name_of, excluded_at}
use Rattle.names.proofs.Excluded.{excluded_but, excluded_table, excludes_one}
use Rattle.words.proofs.Slices.{same_self, same_wider}
use Rattle.gather.specs.Sets.{Fresh}
use Rattle.records.specs.Columns.{hide_kind, taken_column, first_column}
use Rattle.records.specs.States.{summary_at, root_at, hides_at, hides_of, state_of}
use Rattle.records.specs.Writing.{with_hide, Rowed}
use Rattle.records.specs.Adding.{Standing, Adds, Untouched}
use Rattle.records.proofs.Recording.{hides_known, records_length}
use Rattle.records.proofs.Judging.{repeats_none}
use Rattle.records.proofs.Appending.{record_added, record_crowded}
use Rattle.records.proofs.Plain.{spelled_again, named_within, not_taken, appended}
use Rattle.records.proofs.Funs.{row_past}

-- there are no more hide lines than records
pub few_hides : {file names refs rows recs lists : List ℕ} {k : Counts} → Standing file names refs rows recs lists k → k.hides ≤ k.records
few_hides {file} {names} {recs = recs} {lists} {k} st =
    omega (arith, st.hiding.counted, records_length (name_of file names) recs lists k.records)

module _ {file names refs rows recs lists : List ℕ} {k : Counts} (st : Standing file names refs rows recs lists k) (line : ℕ) {i : ℕ}
    (known : i < k.names) where
  hide_new : repeats exclude_names line (state_of file names refs rows recs lists k) (head (hide (name_of file names i))) ≡ false
  unfolding state_of summarize_decl collect taken_by
  hide_new = repeats_none line (state_of file names refs rows recs lists k) (head (hide (name_of file names i))) refl

  -- as many records as may be
  pub hide_crowded : {names' recs' : List ℕ} → most_records ≤ k.records
      → Adds file names refs rows recs lists names' rows recs' lists k line (head (hide (name_of file names i)))
      (step.Refused refusal.FullRecords)
  unfolding heads hidden_by nodes spelled trimmed summarize_decl root_of collect
  hide_crowded h = record_crowded st line (head (hide (name_of file names i))) hide_new
      (record { no_term = refl; one = refl; few_names = named_within st known }) h

  -- the record is there
  pub hide_added : {recs' : List ℕ} {next : Counts} → k.records < most_records → next ≡ with_hide k → Rowed recs recs' k next hide_kind line i 0 0 0 0
      → Adds file names refs rows recs lists (excluded_at names i) rows recs' lists k line (head (hide (name_of file names i))) (step.On next)
  unfolding heads head_asks hidden_by any is_grouped hides_at nodes spelled trimmed summarize_decl root_of sum fold_left collect summary_at root_at
  hide_added {recs'} {next} few e row =
      let low : i < most_names = omega (arith, st.tables.name_table.few) in
      let but = excluded_but names i in
      let same = excluded_table st.tables.name_table i known in
      let row' : Rowed recs recs' k (with_hide k) hide_kind line i 0 0 0 0 = rw e at row in
      let fresh : Fresh (excluded_at names i) rows k.mark = record {
        row_marks = st.fresh.row_marks;
        name_marks = λ n l. rw (but.same_words (8192 + n) (λ a b. omega arith)) (st.fresh.name_marks n l);
      } in
      let excludes = excludes_one st.tables.name_table i known (hides_of recs k.records) (hides_known st.recorded k.records (omega arith))
      st.hiding.excludes in
      let more = appended st same (λ n l. but.same_words (first_column + n) (λ a b. omega arith)) (same_self 12288 4096 rows) fresh (omega arith) row'
      (λ z. omega arith) (omega arith) (λ z. known) (same_self k.uses (k.uses - k.uses) lists)
      (omega arith) st.recorded.few_uses (λ j a b. absurd (omega arith))
      (not_taken st few row' (λ n l. but.same_words (taken_column + n) (λ a b. omega arith)) (omega arith)) (omega arith, rw row'.name_is excludes) in
      rw e (record_added st few more hide_new (record {
        no_ask = λ earlier. refl;
        no_form = refl;
        hidden = rw (row'.name_is, same.name i known);
        no_term = refl;
        spells = same.names ∙ sym (spelled_again file names k.names i known);
        decls = refl;
        roots = refl;
        entries = omega arith;
        uses = omega arith;
      }))

  -- the words past the tables stay
  pub hide_past : {recs' : List ℕ} {next : Counts} → Rowed recs recs' k next hide_kind line i 0 0 0 0
      → Untouched names rows recs lists (excluded_at names i) rows recs' lists
  hide_past row = record {
    name_words = same_wider 0 working_words (omega arith) (omega (arith, st.tables.name_table.few)) (excluded_but names i);
    row_words = same_self 0 working_words rows;
    record_words = row_past row;
    list_words = same_self 0 working_words lists;
  }
