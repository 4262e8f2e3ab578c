-- A `def` and a `root` added: records with the free names of a term.
use Prim.Native.Nat.{ℕ, ◌+◌, ◌-◌, ◌≤◌, ◌<◌}
use native.Mathlib.Omega.{arith}
use mathlib.Core.Path.{◌≡◌, refl, sym, ap, ◌∙◌}
use mathlib.Core.Bool.{false}
use mathlib.Core.Logic.{inr}
use mathlib.Core.List.{List, map, Memᴰ}
use lib.ListN.{length, get_or, set}
use lib.Seq.{get_or-set_same, get_or-set_other}
use Rattle.model.specs.Lists.{any, sum, collect, fold_left, part}
use Rattle.model.specs.Names.{Name, from_list}
use Rattle.model.specs.Reading.{def, root, heads, head_asks, is_grouped, hidden_by, nodes, spelled, trimmed, summarize_decl, root_of, taken_by, entries_of, uses_of, excluded, add_line, repeats, most_names, most_records, most_uses}
use Rattle.model.specs.Summaries.{exclude_names, free_top_level_names}
use Rattle.model.specs.declared.Counts.{Counts}
use Rattle.model.specs.declared.Refusal.TheVariants as refusal
use Rattle.model.proofs.ListLaws.{map_cong}
use Rattle.model.proofs.PartLaws.{part_elim}
use Rattle.names.specs.Table.{name_of}
use Rattle.names.proofs.Laws.{distinct}
use Rattle.terms.specs.Rows.{terms_of}
use Rattle.words.specs.Slices.{SameBut}
use Rattle.words.proofs.Slices.{same_wider}
use Rattle.gather.specs.Sets.{Fresh, Named, Gathers, all_names, no_room, Gathered, ended}
use Rattle.std.specs.Prelude.{Option, None, Some}
use Rattle.rules.specs.Views.{terms_in}
use Rattle.gather.proofs.Fresh.{fresh_next}
use Rattle.model.specs.Steps as step
use Rattle.model.specs.Outcome.{working_words}
use Rattle.records.specs.Columns.{def_kind, root_kind, taken_column, taken_at}
use Rattle.records.specs.States.{free_at, summary_at, root_at, hides_at, decl_at, excluded_of, state_of}
use Rattle.records.specs.Writing.{with_record, Rowed}
use Rattle.records.specs.Adding.{Standing, Adds, Untouched}
use Rattle.records.proofs.Judging.{repeats_none, repeats_taken, repeats_free}
use Rattle.records.proofs.Appending.{OneRecord, record_added, record_repeated, record_crowded, record_over}
use Rattle.records.proofs.Plain.{spelled_again, named_within, kept, not_taken, is_taken, plain}
use Rattle.records.proofs.Funs.{taken_put, fresh_taken}

-- the numbers of a set of names among the uses from those counted on up to n, and the slices then
pub record Uses (file names rows lists names' rows' lists' : List ℕ) (k : Counts) (set : List Name) (n : ℕ) : Type 0 where
  pub is : from_list (map (name_of file names) (part lists' k.uses n)) ≡ set
  pub size : n ≡ k.uses + length set
  pub fits : n ≤ most_uses
  pub words : (j : ℕ) → k.uses ≤ j → j < n → get_or lists' j 0 < k.names
  pub name_words : SameBut 8192 2048 names names'
  pub row_words : SameBut 12288 4096 rows rows'
  pub lists_words : SameBut k.uses (n - k.uses) lists lists'
  pub fresh : Fresh names' rows' (k.mark + 1)

-- the names of the table, and those that it says are excluded
named_here : {file names refs rows recs lists : List ℕ} {k : Counts} → Standing file names refs rows recs lists k
    → Named (excluded_of (name_of file names) recs k.records) (name_of file names) names k.names
named_here st = record { distinct = distinct st.tables.name_table; excluded = st.hiding.excludes }

module _ {file names refs rows recs lists names' rows' lists' : List ℕ} {k : Counts} (st : Standing file names refs rows recs lists k) (t : ℕ) {r : Option ℕ}
    (gathers : (exclude : List Name) (name : ℕ → Name) → Named exclude name names k.names → Gathers name k.names
    (free_top_level_names exclude (terms_of name refs rows k.references k.terms) t) k.uses most_uses lists' r)
    (slices : Gathered names rows lists names' rows' lists' k.mark k.uses most_uses r) where
  -- all the names have room
  pub gathered_uses : {n : ℕ} → r ≡ Some n → Uses file names rows lists names' rows' lists' k
      (free_top_level_names (excluded_of (name_of file names) recs k.records) (terms_in file names refs rows k.references k.terms) t) n
  unfolding terms_in ended
  gathered_uses {n} e = go (rw e at (gathers (excluded_of (name_of file names) recs k.records) (name_of file names) (named_here st))) (rw e at slices)
    where
      go : Gathers (name_of file names) k.names (free_top_level_names (excluded_of (name_of file names) recs k.records) (terms_of (name_of file names) refs rows k.references k.terms) t)
          k.uses most_uses lists' (Some n)
          → Gathered names rows lists names' rows' lists' k.mark k.uses most_uses (Some n)
          → Uses file names rows lists names' rows' lists' k (free_top_level_names (excluded_of (name_of file names) recs k.records) (terms_of (name_of file names) refs rows k.references k.terms) t) n
      go (all_names is count fits small) s = record {
        is = is;
        size = omega arith;
        fits = fits;
        words = small;
        name_words = s.names_same;
        row_words = s.rows_same;
        lists_words = s.lists_same;
        fresh = fresh_next st.fresh s;
      }

  -- some have none
  pub gathered_over : r ≡ None → most_uses < k.uses + length (free_top_level_names (excluded_of (name_of file names) recs k.records) (terms_in file names refs rows k.references k.terms) t)
  unfolding terms_in
  gathered_over e = go (rw e at (gathers (excluded_of (name_of file names) recs k.records) (name_of file names) (named_here st)))
    where
      go : Gathers (name_of file names) k.names (free_top_level_names (excluded_of (name_of file names) recs k.records) (terms_of (name_of file names) refs rows k.references k.terms) t)
          k.uses most_uses lists' None
          → most_uses < k.uses + length (free_top_level_names (excluded_of (name_of file names) recs k.records) (terms_of (name_of file names) refs rows k.references k.terms) t)
      go (no_room h small) = omega arith

  -- the words past the tables stay, also with a row written
  pub gathered_past : {recs' : List ℕ} → SameBut 0 working_words recs recs' → Untouched names rows recs lists names' rows' recs' lists'
  gathered_past same = record {
    name_words = same_wider 0 working_words (omega arith) (omega arith) slices.names_same;
    row_words = same_wider 0 working_words (omega arith) (omega arith) slices.rows_same;
    record_words = same;
    list_words = same_wider 0 working_words (omega arith) (omega (arith, slices.grows, slices.fits)) slices.lists_same;
  }

-- and with a name taken
pub past_taken : {names rows recs lists names' rows' recs' lists' : List ℕ} (i v : ℕ) → i < most_names → Untouched names rows recs lists names' rows' recs' lists'
    → Untouched names rows recs lists (set names' (taken_column + i) v) rows' recs' lists'
past_taken {names' = names'} i v h p =
    let put = taken_put {names = names'} i v h in
    record {
      name_words = record {
        same_length = put.same_length ∙ p.name_words.same_length;
        same_words = λ j l. put.same_words j (λ a b. l (omega arith) (omega arith)) ∙ p.name_words.same_words j l;
      };
      row_words = p.row_words;
      record_words = p.record_words;
      list_words = p.list_words;
    }

-- the free names of the record after those counted
module _ {file names refs rows recs lists names' rows' recs' lists' names'' : List ℕ} {k : Counts} {free : List Name} {n kind line name term flag code group : ℕ}
    (st : Standing file names refs rows recs lists k) (u : Uses file names rows lists names' rows' lists' k free n) (words : SameBut 8192 4096 names names'')
    (row : Rowed recs recs' k (with_record k k.names k.entries n (k.mark + 1)) kind line name term flag code group) where
  pub free_then : free_at (name_of file names'') recs' lists' k.records ≡ free
  unfolding free_at
  free_then =
      let room : n ≤ length lists' = omega (arith, u.fits, u.lists_words.same_length, st.recorded.lists_room) in
      let same : (m : ℕ) → Memᴰ m (part lists' k.uses n) → name_of file names'' m ≡ name_of file names m =
      λ m q. let p = part_elim room q in (kept st words).name m (rw p.is at (u.words p.place p.low p.high)) in
      rw (row.uses_from, row.uses_to) (ap from_list (map_cong (name_of file names'') (name_of file names) (part lists' k.uses n) same) ∙ u.is)

-- ---- def

module _ {file names refs rows recs lists : List ℕ} {k : Counts} (st : Standing file names refs rows recs lists k) (line : ℕ) {i : ℕ}
    (known : i < k.names) {w : ℕ} (is : w ≡ taken_at names i) (t : ℕ) where
  def_new : w ≤ 0 → repeats exclude_names line (state_of file names refs rows recs lists k) (def (name_of file names i) t) ≡ false
  unfolding summarize_decl collect taken_by
  def_new h = repeats_free st line (def (name_of file names i) t) known refl (omega arith)

  -- the line is one record
  def_one : OneRecord file names refs rows (excluded_of (name_of file names) recs k.records) k line (def (name_of file names i) t)
  unfolding heads hidden_by nodes spelled trimmed summarize_decl root_of collect
  def_one = record { no_term = refl; one = refl; few_names = named_within st known }

  -- the name is taken
  pub def_repeated : {names' rows' recs' lists' : List ℕ} → 0 < w
      → Adds file names refs rows recs lists names' rows' recs' lists' k line (def (name_of file names i) t) (step.Refused refusal.Repeated)
  unfolding summarize_decl collect taken_by
  def_repeated h = record_repeated st line (def (name_of file names i) t) (repeats_taken st line (def (name_of file names i) t) known refl (omega arith))

  module _ {names' rows' recs' lists' : List ℕ} (free : w ≤ 0) where
    -- as many records as may be
    pub def_crowded : most_records ≤ k.records → Adds file names refs rows recs lists names' rows' recs' lists' k line (def (name_of file names i) t)
        (step.Refused refusal.FullRecords)
    def_crowded = record_crowded st line (def (name_of file names i) t) (def_new free) def_one

    -- more uses than may be
    pub def_over : k.records < most_records
        → most_uses < k.uses + length (free_top_level_names (excluded_of (name_of file names) recs k.records) (terms_in file names refs rows k.references k.terms) t)
        → Adds file names refs rows recs lists names' rows' recs' lists' k line (def (name_of file names i) t)
        (step.Refused refusal.FullTriggers)
    unfolding add_line excluded state_of summarize_decl root_of uses_of sum
    def_over few h = record_over st line (def (name_of file names i) t) (def_new free) def_one few
        (inr (omega arith))

    -- the record is there
    pub def_added : {next : Counts} {n : ℕ} → k.records < most_records → next ≡ with_record k k.names k.entries n (k.mark + 1)
        → Rowed recs recs' k next def_kind line i t 0 0 0
        → Uses file names rows lists names' rows' lists' k (free_top_level_names (excluded_of (name_of file names) recs k.records) (terms_in file names refs rows k.references k.terms) t) n
        → Adds file names refs rows recs lists (set names' (taken_column + i) (k.records + 1)) rows' recs' lists' k line (def (name_of file names i) t)
        (step.On next)
    unfolding heads head_asks hidden_by any is_grouped hides_at nodes spelled trimmed summarize_decl root_of entries_of uses_of sum fold_left collect summary_at root_at decl_at
    def_added {next} {n} few e row u =
        let low : i < most_names = omega (arith, st.tables.name_table.few) in
        let put = taken_put {names = names'} i (k.records + 1) low in
        let marks = u.name_words in
        let words : SameBut 8192 4096 names (set names' (taken_column + i) (k.records + 1)) = record {
          same_length = put.same_length ∙ marks.same_length;
          same_words = λ j h. put.same_words j (λ a b. h (omega arith) (omega arith)) ∙ marks.same_words j (λ a b. h (omega arith) (omega arith));
        } in
        let row' : Rowed recs recs' k (with_record k k.names k.entries n (k.mark + 1)) def_kind line i t 0 0 0 = rw e at row in
        let taken = is_taken st few row' low (omega arith)
        (get_or-set_same names' (taken_column + i) (k.records + 1) 0 (omega (arith, st.tables.name_table.room, marks.same_length)))
        (λ m l d. get_or-set_other names' (taken_column + i) (taken_column + m) (k.records + 1) 0 (λ q. d (omega arith))
        ∙ marks.same_words (taken_column + m) (λ a b. omega arith))
        (omega arith) in
        let more = plain st words u.row_words (fresh_taken put u.fresh) (omega arith) row' (λ q. omega arith) (omega arith) (λ q. known) u.lists_words
        (omega (arith, u.size)) u.fits u.words taken in
        rw e (record_added st few more (def_new free) (record {
          no_ask = λ earlier. refl;
          no_form = refl;
          hidden = refl;
          no_term = refl;
          spells = (kept st words).names ∙ sym (spelled_again file names k.names i known);
          decls = rw (row'.line_is, row'.name_is, (kept st words).name i known, free_then st u words row');
          roots = refl;
          entries = omega arith;
          uses = omega (arith, u.size);
        }))

-- ---- root

module _ {file names refs rows recs lists : List ℕ} {k : Counts} (st : Standing file names refs rows recs lists k) (line query : ℕ) {i : ℕ} (known : i < k.names)
    (t : ℕ) where
  root_new : repeats exclude_names line (state_of file names refs rows recs lists k) (root query (name_of file names i) t) ≡ false
  unfolding state_of summarize_decl collect taken_by
  root_new = repeats_none line (state_of file names refs rows recs lists k) (root query (name_of file names i) t) refl

  -- the line is one record
  root_one : OneRecord file names refs rows (excluded_of (name_of file names) recs k.records) k line (root query (name_of file names i) t)
  unfolding heads hidden_by nodes spelled trimmed summarize_decl root_of collect
  root_one = record { no_term = refl; one = refl; few_names = named_within st known }

  -- as many records as may be
  pub root_crowded : {names' rows' recs' lists' : List ℕ} → most_records ≤ k.records
      → Adds file names refs rows recs lists names' rows' recs' lists' k line (root query (name_of file names i) t)
      (step.Refused refusal.FullRecords)
  root_crowded = record_crowded st line (root query (name_of file names i) t) root_new root_one

  -- more uses than may be
  pub root_over : {names' rows' recs' lists' : List ℕ} → k.records < most_records → most_uses < k.uses
      + length (free_top_level_names (excluded_of (name_of file names) recs k.records) (terms_in file names refs rows k.references k.terms) t)
      → Adds file names refs rows recs lists names' rows' recs' lists' k line (root query (name_of file names i) t)
      (step.Refused refusal.FullTriggers)
  unfolding add_line excluded state_of summarize_decl root_of uses_of sum
  root_over few h = record_over st line (root query (name_of file names i) t) root_new root_one few
      (inr (omega arith))

  -- the record is there
  pub root_added : {names' rows' recs' lists' : List ℕ} {next : Counts} {n : ℕ} → k.records < most_records
      → next ≡ with_record k k.names k.entries n (k.mark + 1)
      → Rowed recs recs' k next root_kind line i t query 0 0
      → Uses file names rows lists names' rows' lists' k (free_top_level_names (excluded_of (name_of file names) recs k.records) (terms_in file names refs rows k.references k.terms) t) n
      → Adds file names refs rows recs lists names' rows' recs' lists' k line (root query (name_of file names i) t) (step.On next)
  unfolding heads head_asks hidden_by any is_grouped hides_at nodes spelled trimmed summarize_decl root_of entries_of uses_of sum fold_left collect summary_at root_at
  root_added {names'} {recs' = recs'} {next = next} {n} few e row u =
      let words : SameBut 8192 4096 names names' = same_wider 8192 4096 (omega arith) (omega arith) u.name_words in
      let row' : Rowed recs recs' k (with_record k k.names k.entries n (k.mark + 1)) root_kind line i t query 0 0 = rw e at row in
      let taken = not_taken st few row' (λ m l. u.name_words.same_words (taken_column + m) (λ a b. omega arith)) (omega arith) in
      let more = plain st words u.row_words u.fresh (omega arith) row' (λ q. omega arith) (omega arith) (λ q. known) u.lists_words
      (omega (arith, u.size)) u.fits u.words taken in
      rw e (record_added st few more root_new (record {
        no_ask = λ earlier. refl;
        no_form = refl;
        hidden = refl;
        no_term = refl;
        spells = (kept st words).names ∙ sym (spelled_again file names k.names i known);
        decls = refl;
        roots = rw (row'.line_is, row'.name_is, row'.flag_is, (kept st words).name i known, free_then st u words row');
        entries = omega arith;
        uses = omega (arith, u.size);
      }))
