-- A position written behind the records: the tables stand, and are the state with its line.
use Prim.Native.Nat.{ℕ, zero, suc, ◌+◌, ◌*◌, ◌≤◌, ◌<◌}
use native.Mathlib.Numerals.{add-one}
use native.Mathlib.Omega.{arith}
use mathlib.Core.Path.{◌≡◌, refl, sym, ◌∙◌, ap}
use mathlib.Core.Bool.{Bool, false, ◌||◌, or-false}
use mathlib.Core.List.{List, [], ◌∷◌, ◌++◌, map, append-nil}
use lib.Dec.{eqb}
use lib.ListN.{length, get_or, set, length-append, length-set}
use lib.Seq.{get_or-set_same, get_or-set_other}
use borrow.Author.Tests.{ne_eqb}
use Rattle.model.specs.Lists.{any, sum, collect, fold_left, is_nil, last}
use Rattle.model.specs.Summaries.{exclude_names}
use Rattle.model.specs.Reading.{Head, head, ask, ask2, also, hide, heads, is_grouped, most_groups, with_query, head_asks, hidden_by, nodes, spelled, trimmed, summarize_decl, root_of, add_line, State, most_records}
use Rattle.model.specs.Outcome.{working_words}
use Rattle.model.specs.declared.Counts.{Counts}
use Rattle.names.specs.Table.{name_of}
use Rattle.words.specs.Slices.{SameBut}
use Rattle.options.specs.OptionsOf.{asks}
use Rattle.records.specs.Columns.{ask_query_column, ask_options_column, ask_kind_column, ask_groups_column, ask_columns, ask_room, ask_query, ask_options, ask_kind, ask_groups, asked_kind, also_kind}
use Rattle.records.specs.States.{also_at, ask_at, asks_of, state_of}
use Rattle.records.specs.Filing.{Records}
use Rattle.records.specs.Writing.{row_columns, with_ask, AskStays, AskedAt, PositionAt}
use Rattle.records.specs.Adding.{Standing}
use Rattle.records.proofs.Recording.{Agree, hides_stay, hidden_stay, decls_stay, roots_stay}
use Rattle.records.proofs.Keeping.{filing_kept, taken_kept}
use Rattle.records.proofs.Appending.{ask_stays, asks_stay}

-- the four words of the ask after those counted
module _ (recs : List ℕ) (k : Counts) (kind query options groups : ℕ) where
  abbrev one : List ℕ
  one = set recs (ask_query_column + k.asks) query

  abbrev two : List ℕ
  two = set one (ask_options_column + k.asks) options

  abbrev three : List ℕ
  three = set two (ask_kind_column + k.asks) kind

  abbrev four : List ℕ
  four = set three (ask_groups_column + k.asks) groups

  -- a word at none of the four places
  elsewhere : (i : ℕ) → (i ≡ ask_query_column + k.asks → ⊥) → (i ≡ ask_options_column + k.asks → ⊥) → (i ≡ ask_kind_column + k.asks → ⊥)
      → (i ≡ ask_groups_column + k.asks → ⊥) → get_or four i 0 ≡ get_or recs i 0
  elsewhere i q o l g =
      get_or-set_other three (ask_groups_column + k.asks) i groups 0 g
      ∙ get_or-set_other two (ask_kind_column + k.asks) i kind 0 l
      ∙ get_or-set_other one (ask_options_column + k.asks) i options 0 o
      ∙ get_or-set_other recs (ask_query_column + k.asks) i query 0 q

  pub ask_put : k.asks < ask_room → working_words ≤ length recs → AskedAt recs four k kind query options groups
  ask_put low room = record {
    inside = low;
    same = record {
      same_length = simp length-set;
      same_words = λ i out.
          elsewhere i (λ e. out (omega arith) (omega arith)) (λ e. out (omega arith) (omega arith)) (λ e. out (omega arith) (omega arith))
          (λ e. out (omega arith) (omega arith));
    };
    others = λ i l other. (
      elsewhere (ask_query_column + i) (λ e. other (omega arith)) (λ e. omega arith) (λ e. omega arith) (λ e. omega arith),
      elsewhere (ask_options_column + i) (λ e. omega arith) (λ e. other (omega arith)) (λ e. omega arith) (λ e. omega arith),
      elsewhere (ask_kind_column + i) (λ e. omega arith) (λ e. omega arith) (λ e. other (omega arith)) (λ e. omega arith),
      elsewhere (ask_groups_column + i) (λ e. omega arith) (λ e. omega arith) (λ e. omega arith) (λ e. other (omega arith)),
    );
    kind_is =
        get_or-set_other three (ask_groups_column + k.asks) (ask_kind_column + k.asks) groups 0 (λ e. omega arith)
        ∙ get_or-set_same two (ask_kind_column + k.asks) kind 0 (simp length-set (omega arith));
    query_is =
        get_or-set_other three (ask_groups_column + k.asks) (ask_query_column + k.asks) groups 0 (λ e. omega arith)
        ∙ get_or-set_other two (ask_kind_column + k.asks) (ask_query_column + k.asks) kind 0 (λ e. omega arith)
        ∙ get_or-set_other one (ask_options_column + k.asks) (ask_query_column + k.asks) options 0 (λ e. omega arith)
        ∙ get_or-set_same recs (ask_query_column + k.asks) query 0 (omega arith);
    options_is =
        get_or-set_other three (ask_groups_column + k.asks) (ask_options_column + k.asks) groups 0 (λ e. omega arith)
        ∙ get_or-set_other two (ask_kind_column + k.asks) (ask_options_column + k.asks) kind 0 (λ e. omega arith)
        ∙ get_or-set_same one (ask_options_column + k.asks) options 0 (simp length-set (omega arith));
    groups_is = get_or-set_same three (ask_groups_column + k.asks) groups 0 (simp length-set (omega arith));
  }

-- a list with one element more has some
not_nil : {A : Type 0} (l : List A) (a : A) → is_nil (l ++ (a ∷ [])) ≡ false
unfolding is_nil
not_nil [] a = refl
not_nil (x ∷ l) a = refl

-- as many asks as are counted
pub asks_length : (recs : List ℕ) (n : ℕ) → length (asks_of recs n) ≡ n
unfolding asks_of
asks_length recs zero = refl
asks_length recs (suc n) = simp length-append (omega (arith, asks_length recs n))

-- there is no ask exactly where none is counted
pub asks_none : (recs : List ℕ) (n : ℕ) → is_nil (asks_of recs n) ≡ eqb n 0
unfolding asks_of is_nil
asks_none recs zero = refl
asks_none recs (suc n) = not_nil (asks_of recs n) _ ∙ sym (ne_eqb (suc n) 0 (λ e. omega arith))

-- the state with a position more
head_line : (n : ℕ) (s : State) (h : Head) → hidden_by h ≡ [] → add_line exclude_names n s (head h) ≡ record {
  asks = s.asks ++ head_asks s.asks h;
  grouped = s.grouped || is_grouped h;
  hidden = s.hidden;
  terms = s.terms;
  names = s.names;
  decls = s.decls;
  roots = s.roots;
  references = s.references;
  entries = s.entries;
  uses = s.uses;
}
unfolding add_line heads nodes spelled trimmed summarize_decl root_of fold_left collect sum any
head_line n s h e =
    let a : s.entries + 0 ≡ s.entries = omega arith in
    let b : s.uses + (0 + 0) ≡ s.uses = omega arith in
    let c : s.references + 0 ≡ s.references = omega arith in
    rw (e, append-nil (head_asks s.asks h), append-nil s.hidden, append-nil s.decls, append-nil s.roots, or-false (is_grouped h), a, b, c)

-- what an ask line asks, at a position that is no also line's
asked_there : (recs : List ℕ) (n : ℕ) → also_at recs n ≡ false → ask_at recs n ≡ asks (ask_query recs n ∷ []) (ask_options recs n) (ask_groups recs n)
unfolding ask_at
asked_there recs zero e = refl
asked_there recs (suc n) e = rw e

-- what an also line asks
also_there : (recs : List ℕ) (n : ℕ) → ask_kind recs (suc n) ≡ also_kind → ask_at recs (suc n) ≡ with_query (ask_query recs (suc n)) (ask_at recs n)
unfolding ask_at also_at
also_there recs n e = rw e

-- the last of the asks
last_ask : {A : Type 0} (l : List A) (a : A) → last (l ++ (a ∷ [])) ≡ a ∷ []
unfolding last
last_ask [] a = refl
last_ask (x ∷ []) a = refl
last_ask (x ∷ y ∷ l) a = last_ask (y ∷ l) a

-- an also line behind the n-th position
also_behind : (recs : List ℕ) (n q : ℕ) → head_asks (asks_of recs (suc n)) (also q) ≡ with_query q (ask_at recs n) ∷ []
unfolding head_asks asks_of
also_behind recs n q = ap (λ l. map (with_query q) l) (last_ask (asks_of recs n) (ask_at recs n))

module _ {file names refs rows recs lists recs' : List ℕ} {k : Counts} {kind q options groups : ℕ} (st : Standing file names refs rows recs lists k)
    (a : AskedAt recs recs' k kind q options groups) where
  -- the rows of the records stay
  row_words : (c i : ℕ) → c < row_columns → i < k.records → get_or recs' (c * most_records + i) 0 ≡ get_or recs (c * most_records + i) 0
  row_words c i l h = a.same.same_words (c * most_records + i) (λ x y. omega (arith, st.recorded.few))

  agree : Agree (name_of file names) (name_of file names) recs lists recs' lists k.names k.records k.entries k.uses
  agree = record { same = λ n h. refl; rows = row_words; lists_length = refl; use_words = λ j h. refl; entry_words = λ e h. refl }

  records_there : Records recs' lists k.names k.records k.entries k.uses
  records_there =
      let r = st.recorded in
      record {
        room = rw a.same.same_length r.room;
        lists_room = r.lists_room;
        few = r.few;
        few_entries = r.few_entries;
        few_uses = r.few_uses;
        kinds = λ i l. rw (row_words 0 i (omega arith) l) (r.kinds i l);
        named_in = λ i l z. rw (row_words 2 i (omega arith) l) (r.named_in i l (λ y. z (row_words 0 i (omega arith) l ∙ y)));
        rising = λ i l. rw (row_words 5 i (omega arith) l, row_words 6 i (omega arith) l) (r.rising i l);
        uses_in = λ i l. rw (row_words 6 i (omega arith) l) (r.uses_in i l);
        entries_in = λ i l. rw (row_words 8 i (omega arith) l) (r.entries_in i l);
        use_words = r.use_words;
        entry_words = r.entry_words;
      }

  -- the tables stand
  pub ask_standing : (grouped : Bool) → Standing file names refs rows recs' lists (with_ask k grouped)
  ask_standing grouped = record {
    tables = st.tables;
    recorded = records_there;
    termed = λ i l q. rw (row_words 3 i (omega arith) l) (st.termed i l (sym (row_words 0 i (omega arith) l) ∙ q));
    fresh = st.fresh;
    few_marks = st.few_marks;
    stocked = record {
      filing = filing_kept agree st.recorded st.stocked.filing (λ e h. refl);
      taken = taken_kept row_words st.stocked.taken
          (λ i h l. omega (arith, st.recorded.named_in i h (λ z. omega arith), st.tables.name_table.few)) (λ n h. refl);
      chained = st.stocked.chained;
    };
    hiding = record {
      counted = rw (hides_stay agree st.recorded k.records (omega arith)) st.hiding.counted;
      excludes = rw (hides_stay agree st.recorded k.records (omega arith)) st.hiding.excludes;
    };
  }

  -- the positions before stay
  earlier : (i : ℕ) → i < k.asks → AskStays recs recs' i
  earlier i l = a.others i (omega (arith, a.inside)) (λ e. omega arith)

  -- they are the state with a line of the head that asks so
  line_state : (n : ℕ) (h : Head) → hidden_by h ≡ [] → head_asks (asks_of recs k.asks) h ≡ ask_at recs' k.asks ∷ []
      → add_line exclude_names n (state_of file names refs rows recs lists k) (head h)
      ≡ state_of file names refs rows recs' lists (with_ask k (k.grouped || is_grouped h))
  unfolding state_of asks_of
  line_state n h e f =
      head_line n (state_of file names refs rows recs lists k) h e
      ∙ rw (
        f,
        add-one k.asks,
        asks_stay recs recs' k.asks earlier,
        hidden_stay agree st.recorded k.records (omega arith),
        decls_stay agree st.recorded k.records (omega arith),
        roots_stay agree st.recorded k.records (omega arith),
      )

-- a position of an ask line is no also line's
no_also : (recs : List ℕ) (n : ℕ) → ask_kind recs n ≡ asked_kind → also_at recs n ≡ false
unfolding also_at
no_also recs zero e = refl
no_also recs (suc n) e = rw e

module _ {recs recs' : List ℕ} {k : Counts} where
  -- an ask line asks its own query
  ask_asks : {q options : ℕ} → AskedAt recs recs' k asked_kind q options most_groups
      → head_asks (asks_of recs k.asks) (ask q options) ≡ ask_at recs' k.asks ∷ []
  unfolding head_asks
  ask_asks a = rw (asked_there recs' k.asks (no_also recs' k.asks a.kind_is), a.query_is, a.options_is, a.groups_is)

  -- with its groups
  ask2_asks : {q options groups : ℕ} → AskedAt recs recs' k asked_kind q options groups
      → head_asks (asks_of recs k.asks) (ask2 q options groups) ≡ ask_at recs' k.asks ∷ []
  unfolding head_asks
  ask2_asks a = rw (asked_there recs' k.asks (no_also recs' k.asks a.kind_is), a.query_is, a.options_is, a.groups_is)

  -- an also line one query more than the position before
  also_asks : {q : ℕ} → 0 < k.asks → AskedAt recs recs' k also_kind q 0 0
      → head_asks (asks_of recs k.asks) (also q) ≡ ask_at recs' k.asks ∷ []
  also_asks {q} some a = go k.asks some (λ i l. a.others i (omega (arith, a.inside)) (λ e. omega arith)) a.kind_is a.query_is
    where
      go : (n : ℕ) → 0 < n → ((i : ℕ) → i < n → AskStays recs recs' i) → ask_kind recs' n ≡ also_kind → ask_query recs' n ≡ q
          → head_asks (asks_of recs n) (also q) ≡ ask_at recs' n ∷ []
      go zero l same kind query = absurd (omega arith)
      go (suc n) l same kind query =
          also_behind recs n q
          ∙ ap (λ x. x ∷ []) (rw (sym (ask_stays recs recs' n (λ i h. same i (omega arith))), sym query) (sym (also_there recs' n kind)))

module _ {file names refs rows recs lists : List ℕ} {k : Counts} (st : Standing file names refs rows recs lists k) (recs' : List ℕ) where
  -- the tables stand with the position of a line of the head
  pub head_standing : (h : Head) → PositionAt recs recs' k h → (grouped : Bool) → Standing file names refs rows recs' lists (with_ask k grouped)
  unfolding PositionAt
  head_standing (ask q options) a = ask_standing st a
  head_standing (ask2 q options groups) a = ask_standing st a
  head_standing (also q) a = ask_standing st a.1
  head_standing (hide name) a = absurd a

  -- they are the state with the line
  pub head_state : (n : ℕ) (h : Head) → PositionAt recs recs' k h
      → add_line exclude_names n (state_of file names refs rows recs lists k) (head h)
      ≡ state_of file names refs rows recs' lists (with_ask k (k.grouped || is_grouped h))
  unfolding PositionAt hidden_by
  head_state n (ask q options) a = line_state st a n (ask q options) refl (ask_asks a)
  head_state n (ask2 q options groups) a = line_state st a n (ask2 q options groups) refl (ask2_asks a)
  head_state n (also q) a = line_state st a.1 n (also q) refl (also_asks a.0 a.1)
  head_state n (hide name) a = absurd a

-- no word but those of the positions is written
pub head_same : (recs recs' : List ℕ) (k : Counts) (h : Head) → PositionAt recs recs' k h → SameBut ask_query_column ask_columns recs recs'
unfolding PositionAt
head_same recs recs' k (ask q options) a = a.same
head_same recs recs' k (ask2 q options groups) a = a.same
head_same recs recs' k (also q) a = a.1.same
head_same recs recs' k (hide name) a = absurd a
