-- A table grows by one row.
use Prim.Native.Nat.{ℕ, zero, suc, ◌+◌, ◌/◌, ◌%◌, ◌≤◌, ◌<◌}
use native.Mathlib.Numerals.{add-one}
use native.Mathlib.Omega.{arith}
use mathlib.Core.Path.{◌≡◌, refl, sym, ap, ap₂, ◌∙◌}
use mathlib.Core.Logic.{◌⊎◌, inl, inr, ⊎_elim}
use mathlib.Core.List.{List, [], ◌∷◌, ◌++◌}
use lib.ListN.{length, get_or, set, length-set}
use lib.Seq.{get_or-set_same, get_or-set_other}
use lib.Dec.{T}
use Rattle.model.specs.Lists.{fold_left, part}
use Rattle.model.specs.Names.{Name}
use Rattle.model.specs.Terms.{add_term}
use Rattle.model.proofs.ListLaws.{fold_left_append}
use Rattle.terms.specs.Rows.{row_kind, row_op, row_head, row_start, row_extra, row_end, op_of_code, make_node, node_of, nodes_below, terms_of, has_head, has_body, has_groups, bare_of, Rows}
use Rattle.additions.specs.Additions.{row_word, with_row, references_pushed, Pushed, Patterns}
use Rattle.terms.proofs.Laws.{end_next, end_last, equal, below}
use Rattle.additions.proofs.Laws.{pushed_in, pushed_full}

-- ---- one row more

-- pushing a reference leaves those before it
pub push_agrees : (refs : List ℕ) (used word i : ℕ) → i < used → get_or (references_pushed refs used word) i 0 ≡ get_or refs i 0
push_agrees refs used word i h = ⊎_elim
    (λ l. rw (pushed_in refs used word l) (get_or-set_other refs used i word 0 (λ e. omega arith)))
    (λ l. rw (pushed_full refs used word l))
    (below used 16384)

-- and leaves the slice as long as it was
pub push_length : (refs : List ℕ) (used word : ℕ) → length (references_pushed refs used word) ≡ length refs
push_length refs used word = ⊎_elim (λ l. rw (pushed_in refs used word l) (length-set refs used word)) (λ l. rw (pushed_full refs used word l)) (below used 16384)

-- what a new row asks: its references are pushed, there is a row left, and they are right for its kind
pub record NewRow (refs rows : List ℕ) (start used many named kind op head extra : ℕ) : Type 0 where
  pub behind : Pushed refs rows start used many named
  pub row_left : many < 4096
  pub kind_small : kind < 8
  pub op_small : op < 8
  pub headed : T (has_head kind) → head < named
  pub bodied : T (has_body kind) → start < used
  pub labelled : kind ≡ 7 → extra ≡ bare_of rows (get_or refs start 0 % 4096)
  pub childless : kind < 2 → used ≡ start
  pub single : kind ≡ 7 → used ≡ start + 1
  pub patterns : T (has_groups kind) → Patterns refs start used extra

module _ {refs rows : List ℕ} {start used many named kind op head extra : ℕ} (n : NewRow refs rows start used many named kind op head extra) where
  -- the rows then
  rows' : List ℕ
  rows' = with_row rows many (row_word kind op head) start extra

  -- the words beside the new row's stay
  word_other : (i : ℕ) → (i ≡ many → ⊥) → (i ≡ 4096 + many → ⊥) → (i ≡ 8192 + many → ⊥) → get_or rows' i 0 ≡ get_or rows i 0
  unfolding rows' with_row
  word_other i a b c =
      get_or-set_other (set (set rows many (row_word kind op head)) (4096 + many) start) (8192 + many) i extra 0 c
      ∙ get_or-set_other (set rows many (row_word kind op head)) (4096 + many) i start 0 b
      ∙ get_or-set_other rows many i (row_word kind op head) 0 a

  -- the slice is as long as it was
  rows'_length : length rows' ≡ length rows
  unfolding rows' with_row
  rows'_length = simp length-set

  -- the new row's word
  word_new : get_or rows' many 0 ≡ row_word kind op head
  unfolding rows' with_row
  word_new =
      let h = n.row_left in
      let r = n.behind.table.row_room in
      get_or-set_other (set (set rows many (row_word kind op head)) (4096 + many) start) (8192 + many) many extra 0 (λ e. omega arith)
      ∙ get_or-set_other (set rows many (row_word kind op head)) (4096 + many) many start 0 (λ e. omega arith)
      ∙ get_or-set_same rows many (row_word kind op head) 0 (omega arith)

  -- where the new row's references start
  start_new : row_start rows' many ≡ start
  unfolding rows' with_row
  start_new =
      let h = n.row_left in
      let r = n.behind.table.row_room in
      get_or-set_other (set (set rows many (row_word kind op head)) (4096 + many) start) (8192 + many) (4096 + many) extra 0 (λ e. omega arith)
      ∙ get_or-set_same (set rows many (row_word kind op head)) (4096 + many) start 0 (rw (length-set rows many (row_word kind op head)) (omega arith))

  -- the new row's groups or the term under its labels
  extra_new : row_extra rows' many ≡ extra
  unfolding rows' with_row
  extra_new =
      let h = n.row_left in
      let r = n.behind.table.row_room in
      get_or-set_same (set (set rows many (row_word kind op head)) (4096 + many) start) (8192 + many) extra 0
      (rw (length-set (set rows many (row_word kind op head)) (4096 + many) start, length-set rows many (row_word kind op head)) (omega arith))

  -- the new row's kind
  kind_new : row_kind rows' many ≡ kind
  unfolding row_kind row_word
  kind_new = ap (◌% 8) word_new ∙ (let h = n.kind_small in omega arith)

  -- the new row's op word
  op_new : row_op rows' many ≡ op
  unfolding row_op row_word
  op_new = ap (λ w. w / 8 % 8) word_new ∙ (let h = n.kind_small in let k = n.op_small in omega arith)

  -- the new row's head
  head_new : row_head rows' many ≡ head
  unfolding row_head row_word
  head_new = ap (◌/ 64) word_new ∙ (let h = n.kind_small in let k = n.op_small in omega arith)

  -- where the new row's references end
  end_new : row_end rows' used (many + 1) many ≡ used
  end_new = end_last rows' used (many + 1) many (omega arith)

  module _ (t : ℕ) (l : t < many) where
    -- an old row's word
    word_old : get_or rows' t 0 ≡ get_or rows t 0
    word_old = let h = n.row_left in word_other t (λ e. omega arith) (λ e. omega arith) (λ e. omega arith)

    -- where an old row's references start
    start_old : row_start rows' t ≡ row_start rows t
    start_old = let h = n.row_left in word_other (4096 + t) (λ e. omega arith) (λ e. omega arith) (λ e. omega arith)

    -- an old row's groups or the term under its labels
    extra_old : row_extra rows' t ≡ row_extra rows t
    extra_old = let h = n.row_left in word_other (8192 + t) (λ e. omega arith) (λ e. omega arith) (λ e. omega arith)

    -- an old row's kind
    kind_old : row_kind rows' t ≡ row_kind rows t
    unfolding row_kind
    kind_old = ap (◌% 8) word_old

    -- an old row's op word
    op_old : row_op rows' t ≡ row_op rows t
    unfolding row_op
    op_old = ap (λ w. w / 8 % 8) word_old

    -- an old row's head
    head_old : row_head rows' t ≡ row_head rows t
    unfolding row_head
    head_old = ap (◌/ 64) word_old

    -- the term under an old row's labels
    bare_old : bare_of rows' t ≡ bare_of rows t
    unfolding bare_of
    bare_old = rw (kind_old, extra_old)

  -- where an old row's references end
  end_old : (t : ℕ) → t < many → row_end rows' used (many + 1) t ≡ row_end rows start many t
  end_old t l = end_next rows' used (many + 1) t (omega arith) ∙ ⊎_elim
      (λ (e : t + 1 ≡ many). ap (row_start rows') e ∙ start_new ∙ sym (end_last rows start many t (omega arith)))
      (λ (e : t + 1 ≡ many → ⊥).
      let k : t + 1 < many = omega arith in
      start_old (t + 1) k ∙ sym (end_next rows start many t k))
      (equal (t + 1) many)

  -- a row of the table is an old one or the new one
  old_or_new : (t : ℕ) → t < many + 1 → (t < many) ⊎ (t ≡ many)
  old_or_new t l = ⊎_elim inr (λ (e : t ≡ many → ⊥). inl (omega arith)) (equal t many)

  -- the table with one row more
  row_added_here : Rows refs rows' used (many + 1) named
  row_added_here =
      let r = n.behind.table in
      let few = n.row_left in
      let more = n.behind.in_order in
      record {
        ref_room = r.ref_room;
        row_room = rw rows'_length r.row_room;
        few_references = n.behind.few_references;
        few_rows = omega arith;
        few_names = r.few_names;
        in_order = λ t l. ⊎_elim
            (λ k. rw (start_old t k, end_old t k) (r.in_order t k))
            (λ (e : t ≡ many). rw (e, start_new, end_new) more)
            (old_or_new t l);
        in_use = λ t l. ⊎_elim
            (λ (k : t < many). rw (end_old t k) (omega (arith, r.in_use t k)))
            (λ (e : t ≡ many). rw (e, end_new) (omega arith))
            (old_or_new t l);
        lower = λ t i l a b. ⊎_elim
            (λ k. r.lower t i k (rw (start_old t k) at a) (rw (end_old t k) at b))
            (λ (e : t ≡ many). rw e (n.behind.in_table i (rw (e, start_new) at a) (rw (e, end_new) at b)))
            (old_or_new t l);
        headed = λ t l h. ⊎_elim
            (λ k. rw (head_old t k) (r.headed t k (rw (kind_old t k) at h)))
            (λ (e : t ≡ many). rw (e, head_new) (n.headed (rw (e, kind_new) at h)))
            (old_or_new t l);
        bodied = λ t l h. ⊎_elim
            (λ k. rw (start_old t k, end_old t k) (r.bodied t k (rw (kind_old t k) at h)))
            (λ (e : t ≡ many). rw (e, start_new, end_new) (n.bodied (rw (e, kind_new) at h)))
            (old_or_new t l);
        labelled = λ t l h. ⊎_elim (λ k. labelled_old t k (sym (kind_old t k) ∙ h)) (λ e. rw e (labelled_new (sym kind_new ∙ sym (ap (row_kind rows') e) ∙ h))) (old_or_new t l);
        childless = λ t l h. ⊎_elim
            (λ k. rw (start_old t k, end_old t k) (r.childless t k (rw (kind_old t k) at h)))
            (λ (e : t ≡ many). rw (e, start_new, end_new) (n.childless (rw (e, kind_new) at h)))
            (old_or_new t l);
        single = λ t l h. ⊎_elim
            (λ k. rw (start_old t k, end_old t k) (r.single t k (rw (kind_old t k) at h)))
            (λ (e : t ≡ many). rw (e, start_new, end_new) (n.single (rw (e, kind_new) at h)))
            (old_or_new t l);
        grouped = λ t i l h a b. ⊎_elim
            (λ k. rw (extra_old t k) (r.grouped t i k (rw (kind_old t k) at h) (rw (start_old t k) at a) (rw (end_old t k) at b)))
            (λ (e : t ≡ many). rw (e, extra_new) ((n.patterns (rw (e, kind_new) at h)).grouped i (rw (e, start_new) at a) (rw (e, end_new) at b)))
            (old_or_new t l);
        rising = λ t i l h a b. ⊎_elim
            (λ k. r.rising t i k (rw (kind_old t k) at h) (rw (start_old t k) at a) (rw (end_old t k) at b))
            (λ (e : t ≡ many). (n.patterns (rw (e, kind_new) at h)).rising i (rw (e, start_new) at a) (rw (e, end_new) at b))
            (old_or_new t l);
      }
    where
      labelled_old : (t : ℕ) → t < many → row_kind rows t ≡ 7 → row_extra rows' t ≡ bare_of rows' (get_or refs (row_start rows' t) 0 % 4096)
      labelled_old t k h =
          let b : row_start rows t < row_end rows start many t = omega (arith, n.behind.table.single t k h) in
          let d = n.behind.table.lower t (row_start rows t) k (omega arith) b in
          extra_old t k ∙ n.behind.table.labelled t k h ∙ sym (ap (λ i. bare_of rows' (get_or refs i 0 % 4096)) (start_old t k) ∙ bare_old (get_or refs (row_start rows t) 0 % 4096) (omega arith))

      labelled_new : kind ≡ 7 → row_extra rows' many ≡ bare_of rows' (get_or refs (row_start rows' many) 0 % 4096)
      labelled_new h =
          let d = n.behind.in_table start (omega arith) (omega (arith, n.single h)) in
          extra_new ∙ n.labelled h ∙ sym (ap (λ i. bare_of rows' (get_or refs i 0 % 4096)) start_new ∙ bare_old (get_or refs start 0 % 4096) d)

  module _ (name : ℕ → Name) where
    -- an old row's node
    node_old : (t : ℕ) → t < many → node_of name refs rows' used (many + 1) t ≡ node_of name refs rows start many t
    unfolding node_of
    node_old t l = rw (kind_old t l, op_old t l, head_old t l, start_old t l, end_old t l, extra_old t l)

    -- the new row's node
    node_new : node_of name refs rows' used (many + 1) many ≡ make_node kind (op_of_code op) (name head) (part refs start used) extra
    unfolding node_of
    node_new = rw (kind_new, op_new, head_new, start_new, end_new, extra_new)

    -- the old rows' nodes
    nodes_old : (t : ℕ) → t ≤ many → nodes_below name refs rows' used (many + 1) t ≡ nodes_below name refs rows start many t
    unfolding nodes_below
    nodes_old zero l = refl
    nodes_old (suc t) l = ap₂ (λ ns m. ns ++ (m ∷ [])) (nodes_old t (omega arith)) (node_old t (omega arith))

    -- the last node stands at the end
    nodes_last : (m : ℕ) → nodes_below name refs rows' used m (suc many) ≡ nodes_below name refs rows' used m many ++ (node_of name refs rows' used m many ∷ [])
    unfolding nodes_below
    nodes_last m = refl

    -- its nodes are the old ones and the new one
    nodes_added_here : nodes_below name refs rows' used (many + 1) (many + 1) ≡ nodes_below name refs rows start many many ++ (make_node kind (op_of_code op) (name head) (part refs start used) extra ∷ [])
    nodes_added_here = ap (nodes_below name refs rows' used (many + 1)) (add-one many) ∙ nodes_last (many + 1) ∙ ap₂ (λ ns m. ns ++ (m ∷ [])) (nodes_old many (omega arith)) node_new

  -- the table with one row more is a table
  pub row_added : Rows refs (with_row rows many (row_word kind op head) start extra) used (many + 1) named
  unfolding rows'
  row_added = row_added_here

  -- its nodes are the old ones and the new one
  pub nodes_added : (name : ℕ → Name) → nodes_below name refs (with_row rows many (row_word kind op head) start extra) used (many + 1) (many + 1) ≡ nodes_below name refs rows start many many ++ (make_node kind (op_of_code op) (name head) (part refs start used) extra ∷ [])
  unfolding rows'
  nodes_added = nodes_added_here

  -- its terms are the old ones with the new node's
  pub terms_added : (name : ℕ → Name) → terms_of name refs (with_row rows many (row_word kind op head) start extra) used (many + 1) ≡ add_term (terms_of name refs rows start many) (make_node kind (op_of_code op) (name head) (part refs start used) extra)
  unfolding terms_of fold_left
  terms_added name = ap (fold_left add_term []) (nodes_added name) ∙ fold_left_append add_term [] (nodes_below name refs rows start many many) (make_node kind (op_of_code op) (name head) (part refs start used) extra ∷ [])
