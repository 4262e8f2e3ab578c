-- The form of a line, and the loop over the lines of a file.
use Prim.Native.Nat.{ℕ, suc, ◌+◌, ◌≤◌, ◌<◌}
use native.Mathlib.Omega.{arith}
use mathlib.Core.Path.{◌≡◌, refl, sym, ap, ap₂, ◌∙◌}
use mathlib.Core.Bool.{Bool, true, false, cond, not, ◌&&◌}
use mathlib.Core.Logic.{⊎_elim}
use Rattle.std.specs.Prelude.{Ok, Err}
use mathlib.Core.List.{List, [], ◌∷◌}
use lib.Dec.{T_not, eqb, nleb→lt}
use lib.ListN.{length, drop, length-map}
use borrow.Author.Tests.{eq-eqb, ne_eqb}
use Rattle.model.specs.Summaries.{exclude_names}
use Rattle.model.specs.Lists.{fold_left, is_nil, part}
use Rattle.model.specs.Lines.{lines, Field, fields}
use Rattle.model.specs.Reading.{Result, ok, refused, next, place, in_asks, may_stand, is_position, most_asks, kind_field, content, parse, State, start, read, refused_at, go_on, read_line, read_lines, read_file}
use Rattle.model.specs.Outcome.{most_bytes, working_words}
use Rattle.model.specs.declared.Counts.{Counts}
use Rattle.model.specs.declared.LineKind.{LineKind}
use Rattle.model.specs.declared.LineKind.TheVariants as kind
use Rattle.model.specs.declared.Refusal.{Refusal}
use Rattle.model.specs.declared.Refused.{Refused}
use Rattle.model.specs.declared.Refusal.TheVariants as refusal
use Rattle.model.specs.Steps.{Step}
use Rattle.model.specs.Steps as step
use Rattle.model.proofs.ResultLaws.{ok_eq, not_ok}
use Rattle.model.proofs.ListLaws.{T_and, true_T}
use Rattle.laws.proofs.ReadingLaws.{kind_ok}
use Rattle.text.specs.declared.Cursor.{Cursor}
use Rattle.text.specs.declared.Part.{Part}
use Rattle.text.specs.Parts.{mark_at, Placed, fields_left, field_at, field_result}
use Rattle.text.proofs.Laws.{field_law, field_some, left_some, field_next, line_ended, line_last, line_none, mark_from}
use Rattle.names.specs.Table.{name_of, table_names}
use Rattle.terms.specs.Rows.{terms_of, nodes_below}
use Rattle.rules.specs.Views.{terms_in}
use Rattle.fields.specs.declared.Kind.{Kind}
use Rattle.fields.specs.declared.Kind.TheVariants as kinded
use Rattle.fields.specs.declared.TermKind.{TermKind}
use Rattle.fields.specs.declared.RecordKind.{RecordKind}
use Rattle.fields.specs.Wording.{ask_line_kind, known_kind, kind_result, term_kind, record_line_kind, Placing, well_counted}
use Rattle.fields.proofs.Words.{parse_law, parse_refused}
use Rattle.words.proofs.Slices.{same_then, same_wider}
use Rattle.records.specs.States.{asks_of, decls_of, roots_of, hides_of, hidden_of, state_of}
use Rattle.records.specs.Columns.{taken_column, first_column, ask_room}
use Rattle.macros.specs.Macros.{MacrosOpened}
use Rattle.records.proofs.Standing.{Beside, standing_start, hidden_longer, decls_longer, roots_longer}
use Rattle.macros.proofs.Filling.{standing_filled}
use Rattle.names.proofs.Coded.{table_kept}
use Rattle.terms.proofs.Table.{terms_named}
use Rattle.records.specs.Adding.{Standing}
use Rattle.records.proofs.Judging.{line_judged}
use Rattle.records.proofs.Recording.{records_length}
use Rattle.terms.proofs.Laws.{equal}
use Rattle.records.proofs.Appending.{terms_length}
use Rattle.records.proofs.Asking.{asks_length, asks_none}
use Rattle.records.specs.Writing.{no_counts}
use Rattle.filing.specs.Lines.{judged, Reads, goes_on, stops, Past}
use Rattle.reader.specs.Lines.{kind_content, at_line, FileOutcome, TablesCleared, ReadsFile, all_read, read_stops, TermsStand, FileRead}

-- ---- the form of a line

-- a field that is next is the first
next_first : (fs : List Field) {f : Field} {gs : List Field} → next ok fs ≡ ok (f, gs) → fs ≡ f ∷ gs
unfolding next
next_first [] e = absurd (not_ok e)
next_first (x ∷ xs) e = let q = ok_eq e in ap₂ ◌∷◌ (ap (λ y. y.0) q) (ap (λ y. y.1) q)

module _ (file : List ℕ) (a e : ℕ) (h : a ≤ e) (l : e ≤ length file) (short : length file ≤ most_bytes) where
  -- the cursor at the start of the line
  abbrev at_start : Cursor
  at_start = record { at = a; end = e }

  -- the fields of a line: the first, and those after it
  pub fields_first : {p : Part} {r : Result Part} → r ≡ field_at file at_start → r ≡ ok p
      → fields (part file a e) ≡ part file p.start p.end ∷ fields_left file p.next
  unfolding field_result
  fields_first a b = sym (left_some file at_start h)
      ∙ next_first (fields_left file at_start)
      (sym (field_law file at_start (record { inside = l; short = short })) ∙ ap (field_result file) (sym a ∙ b))

  -- there is one
  pub field_there : {x : Refusal} {r : Result Part} → r ≡ field_at file at_start → r ≡ refused x → ⊥
  field_there p q =
      let w = field_some file at_start (mark_at 0x2c file a e) h refl in
      let z : ◌≡◌ {A = ℕ} 0 1 = cc in omega arith

-- the first field lies in the line, and the next cursor past it
pub field_placed : {file : List ℕ} {a e : ℕ} {p : Part} {r : Result Part} → a ≤ e → e ≤ length file → length file ≤ most_bytes
    → r ≡ field_at file (record { at = a; end = e }) → r ≡ ok p → Placed file p.next × (p.start ≤ p.end) × (p.end ≤ length file)
field_placed {file} {a} {e} {p} h l short d q =
    let x = field_next file (record { at = a; end = e }) (record { inside = l; short = short }) p (sym d ∙ q) in
    (x.onward.placed, x.ordered, x.inside)

-- a kind that is known
pub kind_known : {r : Result Kind} {k : Kind} {v : Result LineKind} → kind_result r ≡ v → r ≡ ok k → ok (known_kind k) ≡ v
unfolding kind_result
kind_known a b = rw b at a

-- and one that is not
pub kind_unknown : {r : Result Kind} {x : Refusal} {v : Result LineKind} → kind_result r ≡ v → r ≡ refused x → refused x ≡ v
unfolding kind_result
kind_unknown a b = rw b at a

-- what a line of a kind says
module _ (grouped : Bool) (count : ℕ) (fs : List Field) {k : Kind} where
  pub kind_ask : {b : Bool} → k ≡ kinded.Ask b → kind_content k grouped count fs ≡ content (ask_line_kind b) grouped count fs
  unfolding kind_content known_kind
  kind_ask e = rw e

  pub kind_also : k ≡ kinded.Also → kind_content k grouped count fs ≡ content kind.Also grouped count fs
  unfolding kind_content known_kind
  kind_also e = rw e

  pub kind_hide : k ≡ kinded.Hide → kind_content k grouped count fs ≡ content kind.Hide grouped count fs
  unfolding kind_content known_kind
  kind_hide e = rw e

  pub kind_term : {t : TermKind} → k ≡ kinded.Term t → kind_content k grouped count fs ≡ content (term_kind t) grouped count fs
  unfolding kind_content known_kind
  kind_term e = rw e

  pub kind_record : {r : RecordKind} → k ≡ kinded.Record r → kind_content k grouped count fs ≡ content (record_line_kind r) grouped count fs
  unfolding kind_content known_kind
  kind_record e = rw e

module _ (s : State) {all : List Field} {f : Field} {fs : List Field} (d : all ≡ f ∷ fs) where
  module _ {grouped : Bool} {count : ℕ} (form : s.grouped ≡ grouped) (terms : length s.terms ≡ count) (k : Kind) (q : ok (known_kind k) ≡ kind_field s f) where
    -- the number of fields is right
    pub parse_on : true ≡ well_counted s (ok k) all → parse s all ≡ kind_content k grouped count fs
    unfolding kind_content
    parse_on c = ap (parse s) d ∙ parse_law s f fs k form terms q
        ∙ ap (λ b. cond b (content (known_kind k) grouped count fs) (refused refusal.Form)) (sym (c ∙ ap (well_counted s (ok k)) d))

    -- it is not
    pub parse_count : false ≡ well_counted s (ok k) all → parse s all ≡ refused refusal.Form
    parse_count c = ap (parse s) d ∙ parse_law s f fs k form terms q
        ∙ ap (λ b. cond b (content (known_kind k) grouped count fs) (refused refusal.Form)) (sym (c ∙ ap (well_counted s (ok k)) d))

  -- the line has no kind
  pub parse_not : {x : Refusal} → refused x ≡ kind_field s f → parse s all ≡ refused x
  parse_not e = ap (parse s) d ∙ parse_refused s f fs e

-- a list is empty where its length is 0
nil_length : {A : Type 0} (l : List A) → is_nil l ≡ eqb (length l) 0
unfolding is_nil
nil_length [] = refl
nil_length (x ∷ l) = sym (ne_eqb (suc (length l)) 0 (λ e. omega arith))

-- and two are where their lengths are 0 together
nil_both : {A B : Type 0} (l : List A) (m : List B) → (is_nil l && is_nil m) ≡ eqb (length l + length m) 0
unfolding is_nil
nil_both [] m =
    let e : length m ≡ 0 + length m = omega arith in
    nil_length m ∙ ap (λ n. eqb n 0) e
nil_both (x ∷ l) m = sym (ne_eqb (suc (length l) + length m) 0 (λ e. omega arith))

-- a part is none where the whole is the other part
rest_none : (a b n : ℕ) → a + b ≡ n → eqb b 0 ≡ eqb n a
rest_none a b n h = ⊎_elim
    (λ (e : b ≡ 0). eq-eqb b 0 e ∙ sym (eq-eqb n a (omega arith)))
    (λ (d : b ≡ 0 → ⊥). ne_eqb b 0 d ∙ sym (ne_eqb n a (λ e. omega arith)))
    (equal b 0)

-- what of the tables decides where a line may stand
pub placing : {file names refs rows recs lists : List ℕ} {k : Counts} → Standing file names refs rows recs lists k
    → Placing (state_of file names refs rows recs lists k) k
unfolding state_of
placing {file} {names} {refs} {rows} {recs} {lists} {k} st =
    let decls = decls_of (name_of file names) recs lists k.records in
    let roots = roots_of (name_of file names) recs lists k.records in
    record {
      asks = asks_length recs k.asks;
      no_asks = asks_none recs k.asks;
      form = refl;
      no_hidden = nil_length (hidden_of (name_of file names) recs k.records)
          ∙ ap (λ n. eqb n 0) (length-map (hides_of recs k.records) (name_of file names) ∙ st.hiding.counted);
      no_terms = nil_length (terms_in file names refs rows k.references k.terms)
          ∙ ap (λ n. eqb n 0) (terms_length file names refs rows k.references k.terms);
      no_records = nil_both decls roots
          ∙ rest_none k.hides (length decls + length roots) k.records
          (omega (arith, st.hiding.counted, records_length (name_of file names) recs lists k.records));
    }

-- the form of the tables
pub form_counted : (file names refs rows recs lists : List ℕ) (k : Counts) → (state_of file names refs rows recs lists k).grouped ≡ k.grouped
unfolding state_of
form_counted file names refs rows recs lists k = refl

-- their terms
pub terms_counted : (file names refs rows recs lists : List ℕ) (k : Counts) → length (state_of file names refs rows recs lists k).terms ≡ k.terms
unfolding state_of
terms_counted file names refs rows recs lists k = terms_length file names refs rows k.references k.terms

module _ (s : State) {k : Counts} (f : Field) where
  -- a line that takes a position and may stand has room
  position_fits : Placing s k → {l : LineKind} → kind_field s f ≡ ok l → is_position (place l) ≡ true → k.asks < ask_room
  position_fits p d t =
      let few = rw t at (kind_ok s f d).2 in
      omega (arith, p.asks, nleb→lt most_asks (length s.asks) few)

  -- an ask line, with groups or without
  pub ask_fits : {r : Kind} → Placing s k → ok (known_kind r) ≡ kind_field s f → (grouped : Bool) → r ≡ kinded.Ask grouped → k.asks < ask_room
  unfolding known_kind place is_position ask_line_kind
  ask_fits p e true a = position_fits p (sym (rw a at e)) refl
  ask_fits p e false a = position_fits p (sym (rw a at e)) refl

  -- an also line, and there is a position before it
  pub also_fits : {r : Kind} → Placing s k → ok (known_kind r) ≡ kind_field s f → r ≡ kinded.Also → (0 < k.asks) × (k.asks < ask_room)
  unfolding known_kind place is_position may_stand
  also_fits p e a =
      let d : kind_field s f ≡ ok kind.Also = sym (rw a at e) in
      let some = ((T_and (in_asks s) (not (is_nil s.asks))).0 (kind_ok s f d).1).1 in (
        ⊎_elim (λ (z : k.asks ≡ 0). absurd (T_not (is_nil s.asks) some (true_T (p.no_asks ∙ eq-eqb k.asks 0 z)))) (λ z. omega arith) (equal k.asks 0),
        position_fits p d refl,
      )

-- ---- the loop over lines

-- the lines of a file that has some
file_lines : (file : List ℕ) → (length file ≡ 0 → ⊥) → read_file exclude_names file ≡ read_lines exclude_names 1 start (lines file)
unfolding read_file
file_lines [] h = absurd (h refl)
file_lines (b ∷ bs) h = refl

-- no line
pub no_lines : (file : List ℕ) → length file ≡ 0 → read_file exclude_names file ≡ refused_at refusal.Form 1
unfolding read_file
no_lines [] h = refl
no_lines (b ∷ bs) h = absurd (omega arith)

-- the state before line 1
start_state : (file names refs rows recs lists : List ℕ) → start ≡ state_of file names refs rows recs lists no_counts
unfolding start state_of asks_of terms_in terms_of nodes_below fold_left table_names decls_of roots_of hides_of
start_state file names refs rows recs lists = refl

-- one line of some
one_line : (file : List ℕ) (from end n : ℕ) (s : State) {s' : State}
    → lines (drop from file) ≡ record { bytes = part file from end; ended = true } ∷ lines (drop (end + 1) file)
    → read_line exclude_names n s (record { bytes = part file from end; ended = true }) ≡ ok s'
    → read_lines exclude_names n s (lines (drop from file)) ≡ read_lines exclude_names (n + 1) s' (lines (drop (end + 1) file))
unfolding read_lines go_on
one_line file from end n s p q = rw (p, q)

-- a line that is refused
one_refused : (file : List ℕ) (from end n : ℕ) (s : State) {x : Refusal}
    → lines (drop from file) ≡ record { bytes = part file from end; ended = true } ∷ lines (drop (end + 1) file)
    → read_line exclude_names n s (record { bytes = part file from end; ended = true }) ≡ refused x
    → read_lines exclude_names n s (lines (drop from file)) ≡ refused_at x n
unfolding read_lines go_on
one_refused file from end n s p q = rw (p, q)

-- the loop's state: what is left to read, from the tables as they are
pub record ReadingOn (file names refs rows recs lists : List ℕ) (k : Counts) (n from : ℕ) : Type 0 where
  pub run : read_file exclude_names file ≡ read_lines exclude_names n (state_of file names refs rows recs lists k) (lines (drop from file))
  pub standing : Standing file names refs rows recs lists k
  pub inside : from ≤ length file
  pub counts : n ≤ from + 1
  pub short : length file ≤ most_bytes

-- before the first line of cleared slices
pub on_first : {file names refs rows recs lists : List ℕ} → TablesCleared file names refs rows recs lists → Standing file names refs rows recs lists no_counts
    → (length file ≡ 0 → ⊥)
    → ReadingOn file names refs rows recs lists no_counts 1 0
on_first {file} {names} {refs} {rows} {recs} {lists} m st h = record {
  run = file_lines file h ∙ ap (λ s. read_lines exclude_names 1 s (lines file)) (start_state file names refs rows recs lists);
  standing = st;
  inside = omega arith;
  counts = omega arith;
  short = m.short;
}

module _ {file names refs rows recs lists : List ℕ} {k : Counts} {n from : ℕ} (o : ReadingOn file names refs rows recs lists k n from) where
  -- no line is left
  pub on_last : length file ≤ from → read_file exclude_names file ≡ read (state_of file names refs rows recs lists k)
  unfolding read_lines
  on_last h = o.run ∙ rw (line_none file from h)

  -- a last line without its 0A
  pub on_open : {end : ℕ} → from < length file → end ≡ mark_at 0x0a file from (length file) → end ≡ length file
      → ReadsFile file names refs rows recs lists (Err (at_line refusal.Form n))
  unfolding read_lines read_line go_on
  on_open {end} h e l = read_stops {x = at_line refusal.Form n} (o.run ∙ rw (line_last file from end h e l))

  module _ {end : ℕ} (h : from < length file) (e : end ≡ mark_at 0x0a file from (length file)) (l : end < length file)
      {names' refs' rows' recs' lists' : List ℕ} {f : Step}
      (r : Reads file names' refs' rows' recs' lists' n (state_of file names refs rows recs lists k) (parse (state_of file names refs rows recs lists k) (fields (part file from end))) f) where
    -- what the line comes to
    line_is : read_line exclude_names n (state_of file names refs rows recs lists k) (record { bytes = part file from end; ended = true })
        ≡ judged n (state_of file names refs rows recs lists k) (parse (state_of file names refs rows recs lists k) (fields (part file from end)))
    unfolding judged
    line_is = line_judged n (state_of file names refs rows recs lists k) (part file from end)

    -- on with the next line
    pub on_next : {k' : Counts} → f ≡ step.On k' → ReadingOn file names' refs' rows' recs' lists' k' (n + 1) (end + 1)
    on_next {k'} q = go (rw q at r)
      where
        go : Reads file names' refs' rows' recs' lists' n (state_of file names refs rows recs lists k) (parse (state_of file names refs rows recs lists k) (fields (part file from end)))
            (step.On k')
            → ReadingOn file names' refs' rows' recs' lists' k' (n + 1) (end + 1)
        go (goes_on d y) = record {
          run = o.run ∙ one_line file from end n (state_of file names refs rows recs lists k) (line_ended file from end h e l) (line_is ∙ d);
          standing = y;
          inside = omega arith;
          counts = omega (arith, o.counts, mark_from end 0x0a file from (length file) e);
          short = o.short;
        }

    -- the line is refused
    pub on_refused : {x : Refusal} → f ≡ step.Refused x → ReadsFile file names' refs' rows' recs' lists' (Err (at_line x n))
    on_refused {x} q = go (rw q at r)
      where
        go : Reads file names' refs' rows' recs' lists' n (state_of file names refs rows recs lists k) (parse (state_of file names refs rows recs lists k) (fields (part file from end)))
            (step.Refused x)
            → ReadsFile file names' refs' rows' recs' lists' (Err (at_line x n))
        go (stops d) = read_stops {x = at_line x n}
            (o.run ∙ one_refused file from end n (state_of file names refs rows recs lists k) (line_ended file from end h e l) (line_is ∙ d))

-- one line after the others
pub past_more : {a b c d e a' b' c' d' e' a'' b'' c'' d'' e'' : List ℕ} → Past a b c d e a' b' c' d' e' → Past a' b' c' d' e' a'' b'' c'' d'' e''
    → Past a b c d e a'' b'' c'' d'' e''
past_more p q = record {
  name_words = same_then p.name_words q.name_words;
  reference_words = same_then p.reference_words q.reference_words;
  row_words = same_then p.row_words q.row_words;
  record_words = same_then p.record_words q.record_words;
  list_words = same_then p.list_words q.list_words;
}

-- at most, and not the same
pub lower : (m n : ℕ) → m ≤ n → (m ≡ n → ⊥) → m < n
lower m n h e = omega arith

-- cleared slices stand
pub cleared_standing : {file names refs rows recs lists : List ℕ} → TablesCleared file names refs rows recs lists → Standing file names refs rows recs lists no_counts
cleared_standing {file} {names} {refs} {rows} {recs} {lists} m =
    standing_start file names refs rows recs lists m.short m.name_room m.reference_room m.row_room m.record_room m.list_room m.name_zero
    m.row_zero

-- the macro column changes no state
opened_state : {file names refs rows recs lists names' : List ℕ} {k : Counts} → Standing file names refs rows recs lists k
    → MacrosOpened names recs names' k.names k.names
    → state_of file names refs rows recs lists k ≡ state_of file names' refs rows recs lists k
unfolding state_of terms_in
opened_state {file} {names} {refs} {rows} {recs} {lists} {names'} {k} st o =
    let kept = table_kept st.tables.name_table o.same.same_length (λ i l. o.same.same_words i (λ a b. omega arith)) in
    let beside : Beside file names names' k.names = record {
      same = kept.name;
      taken = λ n l. o.same.same_words (taken_column + n) (λ a b. omega arith);
      first = λ n l. o.same.same_words (first_column + n) (λ a b. omega arith);
    } in
    rw (
      kept.names,
      hidden_longer st beside,
      decls_longer st beside,
      roots_longer st beside,
      terms_named (name_of file names') (name_of file names) kept.name st.tables.term_table,
    )

-- a file that is refused is not read
pub no_terms : {refs rows recs : List ℕ} {x : Refused} (k : Counts) → ◌≡◌ {A = FileOutcome} (Err x) (Ok k)
    → TermsStand refs rows recs k
no_terms k e = let z : ◌≡◌ {A = ℕ} 0 1 = cc in let n : ⊥ = omega arith in absurd n

-- tables that stand have their terms
terms_there : {file names refs rows recs lists : List ℕ} {k : Counts} → Standing file names refs rows recs lists k
    → (k' : Counts) → ◌≡◌ {A = FileOutcome} (Ok k) (Ok k') → TermsStand refs rows recs k'
terms_there {refs = refs} {rows} {recs} {k = k} st k' e =
    let same : k ≡ k' = cc in
    let stand : TermsStand refs rows recs k = record { term_table = st.tables.term_table; termed = st.termed } in
    rw same at stand

-- all lines are read, and the macro column is filled
pub opened_read : {file names refs rows recs lists names₀ refs₀ rows₀ recs₀ lists₀ names' : List ℕ} {k : Counts} {n from : ℕ}
    → ReadingOn file names refs rows recs lists k n from
    → length file ≤ from → Past names₀ refs₀ rows₀ recs₀ lists₀ names refs rows recs lists → MacrosOpened names recs names' k.names k.names
    → FileRead file names₀ refs₀ rows₀ recs₀ lists₀ names' refs rows recs lists (Ok k)
opened_read {k = k} o h p x = record {
  reads = all_read {k = k} (on_last o h ∙ ap read (opened_state o.standing x)) (standing_filled o.standing x);
  past = record {
    name_words = same_then p.name_words (same_wider 0 working_words (omega arith) (omega arith) x.same);
    reference_words = p.reference_words;
    row_words = p.row_words;
    record_words = p.record_words;
    list_words = p.list_words;
  };
  terms = terms_there o.standing;
}
