-- A term line's references and its row: what each kind asks, and what it adds.
use Prim.Native.Nat.{ℕ, ◌+◌, ◌*◌, ◌%◌, ◌≤◌, ◌<◌}
use native.Mathlib.Omega.{arith}
use mathlib.Core.Path.{◌≡◌, refl, ap, ◌∙◌}
use mathlib.Core.Logic.{⊎_elim}
use mathlib.Core.List.{List}
use lib.ListN.{length, get_or}
use lib.Seq.{get_or-set_same}
use lib.Dec.{T, eqb, eqb→eq, ltb→lt}
use Rattle.model.specs.Lists.{part}
use Rattle.model.specs.Names.{Name}
use Rattle.model.specs.Terms.{Node, free_v, leaf, call, app, forall, exists, let_in, labeled, add_term}
use Rattle.model.proofs.ListLaws.{T_or}
use Rattle.model.proofs.PartLaws.{part_cons, part_drop}
use Rattle.terms.specs.Rows.{row_start, row_end, terms_of_words, groups_of_words, op_of_code, make_node, terms_of, has_head, has_body, has_groups, bare_of, Rows}
use Rattle.additions.specs.Additions.{Addition, row_word, with_row, added, rows_after, references_pushed, Pushed, Patterns, AddsTerm}
use Rattle.terms.proofs.Laws.{equal}
use Rattle.additions.proofs.Laws.{pushed_in, added_in}
use Rattle.terms.proofs.Table.{bare_low}
use Rattle.terms.proofs.Groups.{groups_bodied}
use Rattle.additions.proofs.Adding.{push_agrees, push_length, NewRow, row_added, terms_added}

-- ---- references pushed one by one

-- a table holds with other references behind its own
rows_agree : {refs refs' rows : List ℕ} {used many named : ℕ} → Rows refs rows used many named → length refs' ≡ length refs → ((i : ℕ) → i < used → get_or refs' i 0 ≡ get_or refs i 0) → Rows refs' rows used many named
rows_agree {refs} {refs'} {rows} {used} {many} r long agrees = record {
  ref_room = omega (arith, r.ref_room);
  row_room = r.row_room;
  few_references = r.few_references;
  few_rows = r.few_rows;
  few_names = r.few_names;
  in_order = r.in_order;
  in_use = r.in_use;
  lower = λ t i l a b. rw (agree t i l b) (r.lower t i l a b);
  headed = r.headed;
  bodied = r.bodied;
  labelled = λ t l h. rw (agree t (row_start rows t) l (omega (arith, r.single t l h))) (r.labelled t l h);
  childless = r.childless;
  single = r.single;
  grouped = λ t i l h a b. rw (agree t i l b) (r.grouped t i l h a b);
  rising = λ t i l h a b. rw (agree t i l (omega arith), agree t (i + 1) l b) (r.rising t i l h a b);
}
  where
    agree : (t i : ℕ) → t < many → i < row_end rows used many t → get_or refs' i 0 ≡ get_or refs i 0
    agree t i l b = agrees i (omega (arith, r.in_use t l))

-- behind a table no reference is pushed
pub pushed_none : {refs rows : List ℕ} {start many named : ℕ} → Rows refs rows start many named → Pushed refs rows start start many named
pushed_none r = record { table = r; in_order = omega arith; few_references = r.few_references; in_table = λ i a b. absurd (omega arith) }

-- a pushed reference is the last one
pub push_last : (refs : List ℕ) (used word : ℕ) → 16384 ≤ length refs → used < 16384 → get_or (references_pushed refs used word) used 0 ≡ word
push_last refs used word r l = rw (pushed_in refs used word l) (get_or-set_same refs used word 0 (omega arith))

-- one reference more, to a term of the table
pub pushed_one : {refs rows : List ℕ} {start used many named : ℕ} (t g : ℕ) → Pushed refs rows start used many named → t < many → used < 16384 → Pushed (references_pushed refs used (t + 4096 * g)) rows start (used + 1) many named
pushed_one {refs} {rows} {start} {used} {many} t g p h l = record {
  table = rows_agree p.table (push_length refs used (t + 4096 * g)) (λ i a. push_agrees refs used (t + 4096 * g) i (omega (arith, p.in_order)));
  in_order = omega (arith, p.in_order);
  few_references = omega arith;
  in_table = λ i a b. ⊎_elim
      (λ (e : i ≡ used). rw (e, push_last refs used (t + 4096 * g) p.table.ref_room l) (omega (arith, p.table.few_rows)))
      (λ (e : i ≡ used → ⊥). rw (push_agrees refs used (t + 4096 * g) i (omega arith)) (p.in_table i a (omega arith)))
      (equal i used);
}

-- ---- the row of each kind

-- what `add_row` comes to
abbrev pub RowWritten : List ℕ → List ℕ → ℕ → ℕ → ℕ → ℕ → Addition → Type 0
RowWritten rows rows' many word start extra r = (r ≡ added many) × (rows' ≡ rows_after rows many word start extra)

-- a row that is right for its kind adds its node
adds_row : {refs rows rows' : List ℕ} {start used many named kind op head extra : ℕ} {node : (ℕ → Name) → Node} {r : Addition}
    → (many < 4096 → NewRow refs rows start used many named kind op head extra)
    → ((name : ℕ → Name) → make_node kind (op_of_code op) (name head) (part refs start used) extra ≡ node name)
    → RowWritten rows rows' many (row_word kind op head) start extra r → AddsTerm refs rows rows' start used many named (row_word kind op head) extra node r
adds_row {refs} {rows} {rows'} {start} {used} {many} {named} {kind} {op} {head} {extra} new is (a, b) = record {
  answer = a;
  row_words = b;
  table = λ l. rw (written l) (row_added (new l));
  terms = λ l name. rw (written l) (terms_added (new l) name ∙ ap (add_term (terms_of name refs rows start many)) (is name));
}
  where
    written : many < 4096 → rows' ≡ with_row rows many (row_word kind op head) start extra
    written l = b ∙ (added_in rows many (row_word kind op head) start extra l).1

-- a kind with a body is above the ops
body_above : (kind : ℕ) → T (has_body kind) → 3 < kind
unfolding has_body
body_above kind h = ltb→lt 3 kind h

-- a kind with a head is below
head_below : (kind : ℕ) → T (has_head kind) → kind < 3
unfolding has_head
head_below kind h = ⊎_elim (λ e. omega (arith, eqb→eq kind 0 e)) (λ e. omega (arith, eqb→eq kind 2 e)) ((T_or (eqb kind 0) (eqb kind 2)).0 h)

module _ {refs rows : List ℕ} {start used many named kind : ℕ} (p : Pushed refs rows start used many named) where
  -- a row without a body: a free name, a leaf, a call, an op
  no_body : {op head : ℕ} → kind < 4 → op < 8 → (T (has_head kind) → head < named) → (kind < 2 → used ≡ start) → many < 4096 → NewRow refs rows start used many named kind op head 0
  no_body few small headed childless l = record {
    behind = p;
    row_left = l;
    kind_small = omega arith;
    op_small = small;
    headed = headed;
    bodied = λ h. absurd (omega (arith, body_above kind h));
    labelled = λ h. absurd (omega arith);
    childless = childless;
    single = λ h. absurd (omega arith);
    patterns = λ h. absurd (omega (arith, body_above kind (groups_bodied kind h)));
  }

  -- a row with a body: an all, a some, a let, a label
  with_body : {extra : ℕ} → 3 < kind → kind < 8 → start < used → (kind ≡ 7 → (used ≡ start + 1) × (extra ≡ bare_of rows (get_or refs start 0 % 4096))) → (T (has_groups kind) → Patterns refs start used extra) → many < 4096
      → NewRow refs rows start used many named kind 4 0 extra
  with_body more small bodied labelled patterns l = record {
    behind = p;
    row_left = l;
    kind_small = small;
    op_small = omega arith;
    headed = λ h. absurd (omega (arith, head_below kind h));
    bodied = λ h. bodied;
    labelled = λ h. (labelled h).1;
    childless = λ h. absurd (omega arith);
    single = λ h. (labelled h).0;
    patterns = patterns;
  }

-- the first reference
first : {refs rows : List ℕ} {start used many named : ℕ} → Pushed refs rows start used many named → start < used → get_or (part refs start used) 0 0 ≡ get_or refs start 0
first {refs} {start = start} {used} p h = ap (λ l. get_or l 0 0) (part_cons refs start used h (omega (arith, p.table.ref_room, p.few_references)))

-- a `free`
pub adds_free : {refs rows rows' : List ℕ} {used many named : ℕ} {r : Addition} (head : ℕ) → Rows refs rows used many named → head < named
    → RowWritten rows rows' many (row_word 0 4 head) used 0 r → AddsTerm refs rows rows' used used many named (row_word 0 4 head) 0 (λ name. free_v (name head)) r
unfolding make_node
adds_free head t h = adds_row (no_body (pushed_none t) (omega arith) (omega arith) (λ k. h) (λ k. refl)) (λ name. refl)

-- a `leaf`
pub adds_leaf : {refs rows rows' : List ℕ} {used many named : ℕ} {r : Addition} → Rows refs rows used many named
    → RowWritten rows rows' many (row_word 1 4 0) used 0 r → AddsTerm refs rows rows' used used many named (row_word 1 4 0) 0 (λ name. leaf) r
unfolding make_node has_head
adds_leaf t = adds_row (no_body (pushed_none t) (omega arith) (omega arith) (λ k. absurd k) (λ k. refl)) (λ name. refl)

module _ {refs rows rows' : List ℕ} {start used many named : ℕ} {r : Addition} (p : Pushed refs rows start used many named) where
  -- a `call`
  pub adds_call : (head : ℕ) → head < named → RowWritten rows rows' many (row_word 2 4 head) start 0 r
      → AddsTerm refs rows rows' start used many named (row_word 2 4 head) 0 (λ name. call (name head) (terms_of_words (part refs start used))) r
  unfolding make_node
  adds_call head h = adds_row (no_body p (omega arith) (omega arith) (λ k. h) (λ k. absurd (omega arith))) (λ name. refl)

  -- an `op`
  pub adds_op : (op : ℕ) → op < 5 → RowWritten rows rows' many (row_word 3 op 0) start 0 r
      → AddsTerm refs rows rows' start used many named (row_word 3 op 0) 0 (λ name. app (op_of_code op) (terms_of_words (part refs start used))) r
  unfolding make_node has_head
  adds_op op h = adds_row (no_body p (omega arith) (omega arith) (λ k. absurd k) (λ k. absurd (omega arith))) (λ name. refl)

  -- an `all`
  pub adds_all : {groups : ℕ} → Patterns refs start used groups → RowWritten rows rows' many (row_word 4 4 0) start groups r
      → AddsTerm refs rows rows' start used many named (row_word 4 4 0) groups (λ name. forall (get_or refs start 0 % 4096) (groups_of_words (part refs (start + 1) used) groups)) r
  unfolding make_node
  adds_all q = adds_row (with_body p (omega arith) (omega arith) q.bodied (λ k. absurd (omega arith)) (λ k. q)) (λ name. rw (first p q.bodied, part_drop))

  -- a `some`
  pub adds_some : {groups : ℕ} → Patterns refs start used groups → RowWritten rows rows' many (row_word 5 4 0) start groups r
      → AddsTerm refs rows rows' start used many named (row_word 5 4 0) groups (λ name. exists (get_or refs start 0 % 4096) (groups_of_words (part refs (start + 1) used) groups)) r
  unfolding make_node
  adds_some q = adds_row (with_body p (omega arith) (omega arith) q.bodied (λ k. absurd (omega arith)) (λ k. q)) (λ name. rw (first p q.bodied, part_drop))

  -- a `let`
  pub adds_let : start < used → RowWritten rows rows' many (row_word 6 4 0) start 0 r
      → AddsTerm refs rows rows' start used many named (row_word 6 4 0) 0 (λ name. let_in (get_or refs start 0 % 4096) (terms_of_words (part refs (start + 1) used))) r
  unfolding make_node has_groups
  adds_let q = adds_row (with_body p (omega arith) (omega arith) q (λ k. absurd (omega arith)) (λ k. absurd k)) (λ name. rw (first p q, part_drop))

module _ {refs rows : List ℕ} {start many named t under : ℕ} (p : Pushed refs rows start (start + 1) many named) (a : t ≡ get_or refs start 0 % 4096) (b : under ≡ bare_of rows t) where
  -- what a `label` has under its run of labels is a term of the table
  pub under_low : under < many
  under_low =
      let l : t < many = omega (arith, p.in_table start (omega arith) (omega arith)) in
      omega (arith, bare_low p.table t l)

  -- a `label`
  pub adds_label : {rows' : List ℕ} {r : Addition} → RowWritten rows rows' many (row_word 7 4 0) start under r
      → AddsTerm refs rows rows' start (start + 1) many named (row_word 7 4 0) (bare_of rows (get_or refs start 0 % 4096)) (λ name. labeled (get_or refs start 0 % 4096)) r
  unfolding make_node has_groups
  adds_label w =
      adds_row (with_body p (omega arith) (omega arith) (omega arith) (λ k. (refl, refl)) (λ k. absurd k)) (λ name. rw (first p (omega arith)))
      (rw (b, a) at w)
