-- The terms of a table, as `model` has them: what stands in a term, and which names are free in it.
use Prim.Native.Nat.{ℕ, zero, suc, ◌+◌, ◌-◌, ◌/◌, ◌%◌, ◌≤◌, ◌<◌}
use native.Mathlib.Nat.{not-suc-le-zero}
use native.Mathlib.Omega.{arith}
use mathlib.Core.Path.{◌≡◌, refl, sym, ap, ap₂, ◌∙◌}
use mathlib.Core.Logic.{◌⊎◌, inl, inr, ⊎_elim}
use mathlib.Core.List.Memᴰ
use mathlib.Core.List.{List, [], ◌∷◌, ◌++◌, Memᴰ, append-nil}
use lib.ListN.{length, drop, get_or, length-append, get_or-append, get_or-eq_default}
use lib.Seq.{get_or_at}
use lib.Dec.{T, eqb, eqb→eq, eqb_refl, lt→ltb}
use Rattle.model.specs.Lists.{any, keep, concat, fold_left, part}
use Rattle.model.specs.Names.{Name, mem, union}
use Rattle.model.specs.Terms.{Node, free_v, leaf, call, app, forall, exists, let_in, labeled, Term, term, names_of, free_top_level_names, unlabeled, add_term, references}
use Rattle.model.specs.declared.Op.{Op}
use Rattle.model.proofs.ListLaws.{T_or, keep_intro, keep_elim, map_intro, map_elim, concat_append, fold_left_append}
use Rattle.model.proofs.SetLaws.{mem_add, mem_union, Ascending, empty, ascending_add, ascending_union}
use Rattle.model.proofs.PartLaws.{part_cons, part_drop, part_elim, part_length, part_nil}
use Rattle.terms.specs.Rows.{row_kind, row_op, row_head, row_start, row_extra, row_end, terms_of_words, group_of_words, groups_of_words, op_of_code, make_node, node_of, nodes_below, terms_of, has_head, has_body, has_groups, bare_of, Rows}
use Rattle.terms.proofs.Laws.{bare_label, bare_own, equal, below}

-- ---- groups

-- a word of the groups that names a term
pub record Grouped (ws : List ℕ) (g t : ℕ) : Type 0 where
  pub word : ℕ
  pub among : Memᴰ word ws
  pub group : word / 4096 < g
  pub is : t ≡ word % 4096

-- a term of the groups has such a word
pub groups_elim : (ws : List ℕ) (g : ℕ) {t : ℕ} → Memᴰ t (concat (groups_of_words ws g)) → Grouped ws g t
unfolding groups_of_words concat group_of_words terms_of_words
groups_elim ws zero m = absurd (Memᴰ.not-nil m)
groups_elim ws (suc g) m = ⊎_elim
    (λ n. let p = groups_elim ws g n in let x = p.group in record { word = p.word; among = p.among; group = omega arith; is = p.is })
    (λ n. let (w, k, e) = map_elim (λ w. w % 4096) (keep (λ w. eqb (w / 4096) g) ws) (rw append-nil at n) in let (o, q) = keep_elim (λ w. eqb (w / 4096) g) ws k in record { word = w; among = o; group = omega (arith, eqb→eq (w / 4096) g q); is = sym e })
    (Memᴰ.append_cases (concat (groups_of_words ws g)) (rw concat_append at m))

-- the term of a word of a group is one of the groups'
pub groups_intro : (ws : List ℕ) (g : ℕ) {w : ℕ} → Memᴰ w ws → w / 4096 < g → Memᴰ (w % 4096) (concat (groups_of_words ws g))
unfolding groups_of_words concat group_of_words terms_of_words
groups_intro ws zero {w} m h = absurd (not-suc-le-zero h)
groups_intro ws (suc g) {w} m h = rw concat_append (⊎_elim
    (λ e. Memᴰ.append_right (concat (groups_of_words ws g)) (rw append-nil (map_intro (λ w. w % 4096) (keep_intro (λ w. eqb (w / 4096) g) m (rw e (eqb_refl g))))))
    (λ e. Memᴰ.append_left _ (groups_intro ws g m (omega arith)))
    (equal (w / 4096) g))

-- ---- nodes

-- a name is free in one of the terms
pub record Inside (terms : List Term) (ts : List ℕ) (n : Name) : Type 0 where
  pub which : ℕ
  pub among : Memᴰ which ts
  pub free : T (mem n (term terms which).names)

-- a name of some terms is one of these and another
inside_more : {terms : List Term} {t : ℕ} {ts : List ℕ} {n : Name} → Inside terms ts n → Inside terms (t ∷ ts) n
inside_more p = record { which = p.which; among = Memᴰ.tail p.among; free = p.free }

-- a name of the first term
inside_first : {terms : List Term} {t : ℕ} (ts : List ℕ) {n : Name} → T (mem n (term terms t).names) → Inside terms (t ∷ ts) n
inside_first {t} ts h = record { which = t; among = Memᴰ.head refl; free = h }

-- a name of the first term or of the others
inside_split : {terms : List Term} {t : ℕ} {ts : List ℕ} {n : Name} → Inside terms (t ∷ ts) n → T (mem n (term terms t).names) ⊎ Inside terms ts n
inside_split p = ⊎_elim (λ e. inl (rw e at p.free)) (λ m. inr (record { which = p.which; among = m; free = p.free })) (Memᴰ.cases_cons p.among)

-- a name of some terms is free in one of them
pub names_elim : (terms : List Term) (ts : List ℕ) {n : Name} → T (mem n (names_of terms ts)) → Inside terms ts n
unfolding names_of mem any
names_elim terms [] h = absurd h
names_elim terms (t ∷ ts) {n} h = ⊎_elim (inside_first ts) (λ k. inside_more (names_elim terms ts k)) ((mem_union n (term terms t).names (names_of terms ts)).0 h)

-- and back
pub names_intro : (terms : List Term) (ts : List ℕ) {n : Name} → Inside terms ts n → T (mem n (names_of terms ts))
unfolding names_of
names_intro terms [] p = absurd (Memᴰ.not-nil p.among)
names_intro terms (t ∷ ts) {n} p = (mem_union n (term terms t).names (names_of terms ts)).1 (⊎_elim inl (λ q. inr (names_intro terms ts q)) (inside_split p))

-- the name that stands in a node itself
unfoldable pub own_names : Node → List Name
own_names (free_v name) = name ∷ []
own_names leaf = []
own_names (call name ts) = name ∷ []
own_names (app word ts) = []
own_names (forall body groups) = []
own_names (exists body groups) = []
own_names (let_in body ts) = []
own_names (labeled t) = []

-- a name of a body and other terms
body_elim : (terms : List Term) (b : ℕ) (ts : List ℕ) {n : Name} → T (mem n (union (names_of terms ts) (term terms b).names)) → Inside terms (b ∷ ts) n
body_elim terms b ts {n} h = ⊎_elim (λ k. inside_more (names_elim terms ts k)) (inside_first ts) ((mem_union n (names_of terms ts) (term terms b).names).0 h)

-- and back
body_intro : (terms : List Term) (b : ℕ) (ts : List ℕ) {n : Name} → Inside terms (b ∷ ts) n → T (mem n (union (names_of terms ts) (term terms b).names))
body_intro terms b ts {n} p = (mem_union n (names_of terms ts) (term terms b).names).1 (⊎_elim inr (λ q. inl (names_intro terms ts q)) (inside_split p))

-- a name is free in a node if it stands there or is free in a term that the node names
pub node_elim : (terms : List Term) (node : Node) {n : Name} → T (mem n (free_top_level_names terms node)) → Memᴰ n (own_names node) ⊎ Inside terms (references node) n
unfolding free_top_level_names own_names references mem any
node_elim terms (free_v name) {n} h = ⊎_elim (λ e. inl (Memᴰ.head e)) (λ k. absurd k) ((mem_add n name []).0 h)
node_elim terms leaf h = absurd h
node_elim terms (call name ts) {n} h = ⊎_elim (λ e. inl (Memᴰ.head e)) (λ k. inr (names_elim terms ts k)) ((mem_add n name (names_of terms ts)).0 h)
node_elim terms (app word ts) h = inr (names_elim terms ts h)
node_elim terms (forall body groups) h = inr (body_elim terms body (concat groups) h)
node_elim terms (exists body groups) h = inr (body_elim terms body (concat groups) h)
node_elim terms (let_in body ts) h = inr (body_elim terms body ts h)
node_elim terms (labeled t) h = inr (inside_first [] h)

-- no name is free in none of the terms
none_inside : {A : Type 0} {terms : List Term} {n : Name} → Inside terms [] n → A
none_inside p = absurd (Memᴰ.not-nil p.among)

-- and back
pub node_intro : (terms : List Term) (node : Node) {n : Name} → Memᴰ n (own_names node) ⊎ Inside terms (references node) n → T (mem n (free_top_level_names terms node))
unfolding free_top_level_names own_names references mem any
node_intro terms (free_v name) {n} h = (mem_add n name []).1 (⊎_elim (λ m. ⊎_elim inl (λ k. absurd (Memᴰ.not-nil k)) (Memᴰ.cases_cons m)) none_inside h)
node_intro terms leaf h = ⊎_elim (λ m. absurd (Memᴰ.not-nil m)) none_inside h
node_intro terms (call name ts) {n} h = (mem_add n name (names_of terms ts)).1 (⊎_elim (λ m. ⊎_elim inl (λ k. absurd (Memᴰ.not-nil k)) (Memᴰ.cases_cons m)) (λ p. inr (names_intro terms ts p)) h)
node_intro terms (app word ts) h = ⊎_elim (λ m. absurd (Memᴰ.not-nil m)) (names_intro terms ts) h
node_intro terms (forall body groups) h = ⊎_elim (λ m. absurd (Memᴰ.not-nil m)) (body_intro terms body (concat groups)) h
node_intro terms (exists body groups) h = ⊎_elim (λ m. absurd (Memᴰ.not-nil m)) (body_intro terms body (concat groups)) h
node_intro terms (let_in body ts) h = ⊎_elim (λ m. absurd (Memᴰ.not-nil m)) (body_intro terms body ts) h
node_intro terms (labeled t) h = ⊎_elim (λ m. absurd (Memᴰ.not-nil m)) (λ p. ⊎_elim (λ k. k) none_inside (inside_split p)) h

-- the free names of some terms are a set
names_ascending : (terms : List Term) (ts : List ℕ) → Ascending (names_of terms ts)
unfolding names_of
names_ascending terms [] = empty
names_ascending terms (t ∷ ts) = ascending_union (term terms t).names (names_ascending terms ts)

-- the free names of a node are a set
pub node_ascending : (terms : List Term) (node : Node) → ((t : ℕ) → Ascending (term terms t).names) → Ascending (free_top_level_names terms node)
unfolding free_top_level_names
node_ascending terms (free_v name) h = ascending_add name empty
node_ascending terms leaf h = empty
node_ascending terms (call name ts) h = ascending_add name (names_ascending terms ts)
node_ascending terms (app word ts) h = names_ascending terms ts
node_ascending terms (forall body groups) h = ascending_union (names_of terms (concat groups)) (h body)
node_ascending terms (exists body groups) h = ascending_union (names_of terms (concat groups)) (h body)
node_ascending terms (let_in body ts) h = ascending_union (names_of terms ts) (h body)
node_ascending terms (labeled t) h = h t

-- ---- the node of a row

-- what a row's kind asks of its reference words and its groups
pub record Right (kind : ℕ) (ws : List ℕ) (g : ℕ) : Type 0 where
  pub small : kind < 8
  pub childless : kind < 2 → ws ≡ []
  pub bodied : T (has_body kind) → (w : ℕ) × (rest : List ℕ) × (ws ≡ w ∷ rest)
  pub single : kind ≡ 7 → length ws ≡ 1
  pub grouped : T (has_groups kind) → (w : ℕ) → Memᴰ w (drop 1 ws) → w / 4096 < g

-- the head stands in the node
pub own_elim : (kind : ℕ) (op : Op) (name : Name) (ws : List ℕ) (g : ℕ) → kind < 8 → {n : Name} → Memᴰ n (own_names (make_node kind op name ws g)) → T (has_head kind) × (n ≡ name)
unfolding own_names make_node has_head
own_elim zero op name ws g l m = (tt, ⊎_elim (λ e. e) (λ k. absurd (Memᴰ.not-nil k)) (Memᴰ.cases_cons m))
own_elim (suc zero) op name ws g l m = absurd (Memᴰ.not-nil m)
own_elim (suc (suc zero)) op name ws g l m = (tt, ⊎_elim (λ e. e) (λ k. absurd (Memᴰ.not-nil k)) (Memᴰ.cases_cons m))
own_elim (suc (suc (suc zero))) op name ws g l m = absurd (Memᴰ.not-nil m)
own_elim (suc (suc (suc (suc zero)))) op name ws g l m = absurd (Memᴰ.not-nil m)
own_elim (suc (suc (suc (suc (suc zero))))) op name ws g l m = absurd (Memᴰ.not-nil m)
own_elim (suc (suc (suc (suc (suc (suc zero)))))) op name ws g l m = absurd (Memᴰ.not-nil m)
own_elim (suc (suc (suc (suc (suc (suc (suc k))))))) op name ws g l m = absurd (Memᴰ.not-nil m)

-- a kind after a call's has no head
no_head : (k : ℕ) → T (has_head (suc (suc (suc k)))) → ⊥
unfolding has_head
no_head k h = ⊎_elim (λ e. let f = eqb→eq (suc (suc (suc k))) 0 e in let z : ⊥ = omega arith in z) (λ e. let f = eqb→eq (suc (suc (suc k))) 2 e in let z : ⊥ = omega arith in z) ((T_or (eqb (suc (suc (suc k))) 0) (eqb (suc (suc (suc k))) 2)).0 h)

-- a kind from a label's on has a body
seven : (k : ℕ) → suc (suc (suc (suc (suc (suc (suc k)))))) < 8 → T (has_body (suc (suc (suc (suc (suc (suc (suc k))))))))
unfolding has_body
seven k h = lt→ltb 3 (suc (suc (suc (suc (suc (suc (suc k))))))) (omega arith)

-- and no other name
pub own_intro : (kind : ℕ) (op : Op) (name : Name) (ws : List ℕ) (g : ℕ) → T (has_head kind) → Memᴰ name (own_names (make_node kind op name ws g))
unfolding own_names make_node has_head
own_intro zero op name ws g h = Memᴰ.head refl
own_intro (suc zero) op name ws g h = absurd h
own_intro (suc (suc zero)) op name ws g h = Memᴰ.head refl
own_intro (suc (suc (suc k))) op name ws g h = absurd (no_head k h)

-- the first word of words that are not empty
first_in : {ws : List ℕ} → (w : ℕ) × (rest : List ℕ) × (ws ≡ w ∷ rest) → Memᴰ (get_or ws 0 0) ws
first_in (w, rest, e) = rw e (Memᴰ.head refl)

-- the words after the first are words
rest_in : (ws : List ℕ) {w : ℕ} → Memᴰ w (drop 1 ws) → Memᴰ w ws
rest_in [] m = m
rest_in (v ∷ ws) m = Memᴰ.tail m

-- a word is the first or one after it
first_or : (ws : List ℕ) {w : ℕ} → Memᴰ w ws → (w ≡ get_or ws 0 0) ⊎ Memᴰ w (drop 1 ws)
first_or [] m = inr m
first_or (v ∷ ws) m = Memᴰ.cases_cons m

-- of a single word none is after the first
single_drop : (ws : List ℕ) → length ws ≡ 1 → drop 1 ws ≡ []
single_drop [] h = refl
single_drop (v ∷ []) h = refl
single_drop (v ∷ w ∷ ws) h = let z : ⊥ = omega arith in absurd z

-- a term that the words name
pub record NamedBy (ws : List ℕ) (t : ℕ) : Type 0 where
  pub word : ℕ
  pub among : Memᴰ word ws
  pub is : t ≡ word % 4096

-- a term of words is that of one of them
words_named : (ws : List ℕ) {t : ℕ} → Memᴰ t (terms_of_words ws) → NamedBy ws t
unfolding terms_of_words
words_named ws m = let (w, k, e) = map_elim (λ w. w % 4096) ws m in record { word = w; among = k; is = sym e }

-- and back
words_name : (ws : List ℕ) {w : ℕ} → Memᴰ w ws → Memᴰ (w % 4096) (terms_of_words ws)
unfolding terms_of_words
words_name ws m = map_intro (λ w. w % 4096) m

-- a term of the words after the first
named_rest : (ws : List ℕ) {t : ℕ} → NamedBy (drop 1 ws) t → NamedBy ws t
named_rest ws p = record { word = p.word; among = rest_in ws p.among; is = p.is }

-- a body and the terms of groups are named by words
quantifier_elim : (ws : List ℕ) (g : ℕ) → ((w : ℕ) × (rest : List ℕ) × (ws ≡ w ∷ rest)) → {t : ℕ} → Memᴰ t (get_or ws 0 0 % 4096 ∷ concat (groups_of_words (drop 1 ws) g)) → NamedBy ws t
quantifier_elim ws g b m = ⊎_elim
    (λ e. record { word = get_or ws 0 0; among = first_in b; is = e })
    (λ n. let p = groups_elim (drop 1 ws) g n in record { word = p.word; among = rest_in ws p.among; is = p.is })
    (Memᴰ.cases_cons m)

-- and back
quantifier_intro : (ws : List ℕ) (g : ℕ) → ((w : ℕ) → Memᴰ w (drop 1 ws) → w / 4096 < g) → {w : ℕ} → Memᴰ w ws → Memᴰ (w % 4096) (get_or ws 0 0 % 4096 ∷ concat (groups_of_words (drop 1 ws) g))
quantifier_intro ws g h {w} m = ⊎_elim (λ e. Memᴰ.head (ap (◌% 4096) e)) (λ n. Memᴰ.tail (groups_intro (drop 1 ws) g n (h w n))) (first_or ws m)

-- the node of a row names the terms that its words name
pub refs_elim : (kind : ℕ) (op : Op) (name : Name) (ws : List ℕ) (g : ℕ) → Right kind ws g → {t : ℕ} → Memᴰ t (references (make_node kind op name ws g)) → NamedBy ws t
unfolding references make_node has_body
refs_elim zero op name ws g r m = absurd (Memᴰ.not-nil m)
refs_elim (suc zero) op name ws g r m = absurd (Memᴰ.not-nil m)
refs_elim (suc (suc zero)) op name ws g r m = words_named ws m
refs_elim (suc (suc (suc zero))) op name ws g r m = words_named ws m
refs_elim (suc (suc (suc (suc zero)))) op name ws g r m = quantifier_elim ws g (r.bodied tt) m
refs_elim (suc (suc (suc (suc (suc zero))))) op name ws g r m = quantifier_elim ws g (r.bodied tt) m
refs_elim (suc (suc (suc (suc (suc (suc zero)))))) op name ws g r m = ⊎_elim
    (λ e. record { word = get_or ws 0 0; among = first_in (r.bodied tt); is = e })
    (λ n. named_rest ws (words_named (drop 1 ws) n))
    (Memᴰ.cases_cons m)
refs_elim (suc (suc (suc (suc (suc (suc (suc k))))))) op name ws g r m = record { word = get_or ws 0 0; among = first_in (r.bodied (seven k r.small)); is = Memᴰ.eq_of_singleton m }

-- and back
pub refs_intro : (kind : ℕ) (op : Op) (name : Name) (ws : List ℕ) (g : ℕ) → Right kind ws g → {w : ℕ} → Memᴰ w ws → Memᴰ (w % 4096) (references (make_node kind op name ws g))
unfolding references make_node has_groups
refs_intro zero op name ws g r m = absurd (Memᴰ.not-nil (rw (r.childless (omega arith)) at m))
refs_intro (suc zero) op name ws g r m = absurd (Memᴰ.not-nil (rw (r.childless (omega arith)) at m))
refs_intro (suc (suc zero)) op name ws g r m = words_name ws m
refs_intro (suc (suc (suc zero))) op name ws g r m = words_name ws m
refs_intro (suc (suc (suc (suc zero)))) op name ws g r m = quantifier_intro ws g (r.grouped tt) m
refs_intro (suc (suc (suc (suc (suc zero))))) op name ws g r m = quantifier_intro ws g (r.grouped tt) m
refs_intro (suc (suc (suc (suc (suc (suc zero)))))) op name ws g r m = ⊎_elim (λ e. Memᴰ.head (ap (◌% 4096) e)) (λ n. Memᴰ.tail (words_name (drop 1 ws) n)) (first_or ws m)
refs_intro (suc (suc (suc (suc (suc (suc (suc k))))))) op name ws g r m = ⊎_elim
    (λ e. Memᴰ.head (ap (◌% 4096) e))
    (λ n. absurd (Memᴰ.not-nil (rw (single_drop ws (r.single (omega (arith, r.small)))) at n)))
    (first_or ws m)

-- a kind is below 8
pub kind_small : (rows : List ℕ) (t : ℕ) → row_kind rows t < 8
unfolding row_kind
kind_small rows t = omega arith

-- one place is between a start and the next
single_length : (a e : ℕ) → e ≡ a + 1 → e - a ≡ 1
single_length a e h = omega arith

-- the node under a label
unlabeled_label : (terms : List Term) (kind : ℕ) (op : Op) (name : Name) (ws : List ℕ) (g : ℕ) → kind ≡ 7 → unlabeled terms (make_node kind op name ws g) ≡ (term terms (get_or ws 0 0 % 4096)).bare
unfolding unlabeled make_node
unlabeled_label terms kind op name ws g e = rw e

-- any other node is its own
unlabeled_own : (terms : List Term) (kind : ℕ) (op : Op) (name : Name) (ws : List ℕ) (g : ℕ) → kind < 8 → (kind ≡ 7 → ⊥) → unlabeled terms (make_node kind op name ws g) ≡ make_node kind op name ws g
unfolding unlabeled make_node
unlabeled_own terms zero op name ws g l e = refl
unlabeled_own terms (suc zero) op name ws g l e = refl
unlabeled_own terms (suc (suc zero)) op name ws g l e = refl
unlabeled_own terms (suc (suc (suc zero))) op name ws g l e = refl
unlabeled_own terms (suc (suc (suc (suc zero)))) op name ws g l e = refl
unlabeled_own terms (suc (suc (suc (suc (suc zero))))) op name ws g l e = refl
unlabeled_own terms (suc (suc (suc (suc (suc (suc zero)))))) op name ws g l e = refl
unlabeled_own terms (suc (suc (suc (suc (suc (suc (suc k))))))) op name ws g l e = absurd (e (omega arith))

-- ---- the table

module _ (name : ℕ → Name) (refs rows : List ℕ) (used many : ℕ) where
  -- the terms before the n-th
  unfoldable pub table : ℕ → List Term
  table n = fold_left add_term [] (nodes_below name refs rows used many n)

  -- a term of the table
  unfoldable pub entry : ℕ → Term
  entry t = record {
    node = node_of name refs rows used many t;
    bare = unlabeled (table t) (node_of name refs rows used many t);
    names = free_top_level_names (table t) (node_of name refs rows used many t);
  }

  -- the terms of the table are those before the last
  pub table_all : terms_of name refs rows used many ≡ table many
  unfolding terms_of table
  table_all = refl

  -- one term more
  table_suc : (n : ℕ) → table (suc n) ≡ table n ++ (entry n ∷ [])
  unfolding table entry nodes_below fold_left add_term
  table_suc n = fold_left_append add_term [] (nodes_below name refs rows used many n) (node_of name refs rows used many n ∷ [])

  -- how many terms there are
  table_length : (n : ℕ) → length (table n) ≡ n
  unfolding table nodes_below fold_left
  table_length zero = refl
  table_length (suc n) = rw (table_suc n, length-append, table_length n) (omega arith)

  -- the last term
  table_last : (n : ℕ) → term (table (suc n)) n ≡ entry n
  unfolding term
  table_last n = rw (table_suc n) (get_or_at (table n) (entry n) [] (record { node = leaf; bare = leaf; names = [] }) n (table_length n))

  -- a term of the table is that of its row
  pub table_term : (n t : ℕ) → t < n → term (table n) t ≡ entry t
  unfolding term
  table_term zero t h = absurd (not-suc-le-zero h)
  table_term (suc n) t h = ⊎_elim
      (λ e. ap (term (table (suc n))) e ∙ table_last n ∙ ap entry (sym e))
      (λ (e : t ≡ n → ⊥).
      let l : t < n = omega arith in
      rw (table_suc n) (get_or-append (table n) (entry n ∷ []) (record { node = leaf; bare = leaf; names = [] }) t (rw (table_length n) l) ∙ table_term n t l))
      (equal t n)

  -- no term is past the table's end
  table_past : (n t : ℕ) → n ≤ t → (term (table n) t).names ≡ []
  unfolding term
  table_past n t h = ap (λ x. x.names) (get_or-eq_default (table n) (record { node = leaf; bare = leaf; names = [] }) (rw (table_length n) h))

  -- the names of a row are a set where those before it are
  entry_ascending : (t : ℕ) → ((u : ℕ) → Ascending (term (table t) u).names) → Ascending (entry t).names
  unfolding entry
  entry_ascending t h = node_ascending (table t) (node_of name refs rows used many t) h

  -- the free names of a term are a set
  pub table_ascending : (n t : ℕ) → Ascending (term (table n) t).names
  table_ascending n t = go n n t (omega arith)
    where
      go : (m n t : ℕ) → n ≤ m → Ascending (term (table n) t).names
      go zero n t h = rw (table_past n t (omega arith)) empty
      go (suc m) n t h = ⊎_elim
          (λ l. rw (table_term n t l) (entry_ascending t (λ u. go m t u (omega arith))))
          (λ l. rw (table_past n t l) empty)
          (below t n)

  -- a row has a node of its kind's form
  pub row_right : {named : ℕ} → Rows refs rows used many named → (t : ℕ) → t < many → Right (row_kind rows t) (part refs (row_start rows t) (row_end rows used many t)) (row_extra rows t)
  row_right r t l =
      let room = r.ref_room in
      let few = r.few_references in
      let most = r.in_use t l in
      let fits : row_end rows used many t ≤ length refs = omega arith in
      record {
        small = kind_small rows t;
        childless = λ h. part_nil refs (row_start rows t) (row_end rows used many t) (omega (arith, r.childless t l h));
        bodied = λ h. (get_or refs (row_start rows t) 0, part refs (row_start rows t + 1) (row_end rows used many t), part_cons refs (row_start rows t) (row_end rows used many t) (r.bodied t l h) fits);
        single = λ h. part_length refs (row_start rows t) (row_end rows used many t) fits ∙ single_length (row_start rows t) (row_end rows used many t) (r.single t l h);
        grouped = λ h w m.
            let p = part_elim fits (rw (part_drop refs (row_start rows t) (row_end rows used many t) 1) at m) in
            let low = p.low in
            rw (← p.is) (r.grouped t p.place l h (omega arith) p.high);
      }

  -- the first reference word of a row with a body
  pub first_word : {named : ℕ} → Rows refs rows used many named → (t : ℕ) → t < many → row_start rows t < row_end rows used many t → get_or (part refs (row_start rows t) (row_end rows used many t)) 0 0 ≡ get_or refs (row_start rows t) 0
  first_word r t l h =
      let room = r.ref_room in
      let few = r.few_references in
      let most = r.in_use t l in
      rw (part_cons refs (row_start rows t) (row_end rows used many t) h (omega arith))

  -- the node of a term of the table is that of its row
  pub term_node : (t : ℕ) → t < many → (term (terms_of name refs rows used many) t).node ≡ node_of name refs rows used many t
  unfolding entry
  term_node t l = rw (table_all, table_term many t l)

  -- the node under the labels of a term of the table
  bare_table : {named : ℕ} → Rows refs rows used many named → (m n t : ℕ) → t < m → t < n → n ≤ many → (term (table n) t).bare ≡ node_of name refs rows used many (bare_of rows t)
  unfolding entry node_of
  bare_table r zero n t h l k = absurd (not-suc-le-zero h)
  bare_table r (suc m) n t h l k = rw (table_term n t l) (⊎_elim (label (λ u d. bare_table r m t u (omega arith) d (omega arith))) other (equal (row_kind rows t) 7))
    where
      label : ((u : ℕ) → u < t → (term (table t) u).bare ≡ node_of name refs rows used many (bare_of rows u)) → row_kind rows t ≡ 7 → (entry t).bare ≡ node_of name refs rows used many (bare_of rows t)
      label go e =
          let b : row_start rows t < row_end rows used many t = omega (arith, r.single t (omega arith) e) in
          let d : get_or refs (row_start rows t) 0 % 4096 < t = r.lower t (row_start rows t) (omega arith) (omega arith) b in
          unlabeled_label (table t) (row_kind rows t) _ _ _ _ e
          ∙ ap (λ w. (term (table t) (w % 4096)).bare) (first_word r t (omega arith) b)
          ∙ go (get_or refs (row_start rows t) 0 % 4096) d
          ∙ ap (node_of name refs rows used many) (sym (bare_label rows t e ∙ r.labelled t (omega arith) e))

      other : (row_kind rows t ≡ 7 → ⊥) → (entry t).bare ≡ node_of name refs rows used many (bare_of rows t)
      other e = unlabeled_own (table t) (row_kind rows t) _ _ _ _ (kind_small rows t) e ∙ ap (node_of name refs rows used many) (sym (bare_own rows t e))

  -- the node under a run of labels is that of the row that `bare_of` gives
  pub bare_law : {named : ℕ} → Rows refs rows used many named → (t : ℕ) → t < many → (term (terms_of name refs rows used many) t).bare ≡ node_of name refs rows used many (bare_of rows t)
  bare_law r t l = rw table_all (bare_table r (suc t) many t (omega arith) l (omega arith))

-- a table stays one where there are more names
pub rows_named : {refs rows : List ℕ} {used many named named' : ℕ} → named ≤ named' → named' ≤ 2048 → Rows refs rows used many named → Rows refs rows used many named'
rows_named h l r = record {
  ref_room = r.ref_room;
  row_room = r.row_room;
  few_references = r.few_references;
  few_rows = r.few_rows;
  few_names = l;
  in_order = r.in_order;
  in_use = r.in_use;
  lower = r.lower;
  headed = λ t k p. let d = r.headed t k p in omega arith;
  bodied = r.bodied;
  labelled = r.labelled;
  childless = r.childless;
  single = r.single;
  grouped = r.grouped;
  rising = r.rising;
}

-- the term under a run of labels is not above the row
pub bare_low : {refs rows : List ℕ} {used many named : ℕ} → Rows refs rows used many named → (t : ℕ) → t < many → bare_of rows t ≤ t
bare_low {refs} {rows} {used} {many} r t l = go (suc t) t (omega arith) l
  where
    go : (m t : ℕ) → t < m → t < many → bare_of rows t ≤ t
    go zero t h l = absurd (not-suc-le-zero h)
    go (suc m) t h l = ⊎_elim
        (λ (e : row_kind rows t ≡ 7).
        let d = r.lower t (row_start rows t) l (omega arith) (omega (arith, r.single t l e)) in
        omega (arith, bare_label rows t e, r.labelled t l e, go m (get_or refs (row_start rows t) 0 % 4096) (omega arith) (omega arith)))
        (λ (e : row_kind rows t ≡ 7 → ⊥). omega (arith, bare_own rows t e))
        (equal (row_kind rows t) 7)

-- lent slices are a table of no rows
pub empty_rows : (refs rows : List ℕ) (named : ℕ) → 16384 ≤ length refs → 16384 ≤ length rows → named ≤ 2048 → Rows refs rows 0 0 named
empty_rows refs rows named a b c = record {
  ref_room = a;
  row_room = b;
  few_references = omega arith;
  few_rows = omega arith;
  few_names = c;
  in_order = λ t l. absurd (not-suc-le-zero l);
  in_use = λ t l. absurd (not-suc-le-zero l);
  lower = λ t i l. absurd (not-suc-le-zero l);
  headed = λ t l. absurd (not-suc-le-zero l);
  bodied = λ t l. absurd (not-suc-le-zero l);
  labelled = λ t l. absurd (not-suc-le-zero l);
  childless = λ t l. absurd (not-suc-le-zero l);
  single = λ t l. absurd (not-suc-le-zero l);
  grouped = λ t i l. absurd (not-suc-le-zero l);
  rising = λ t i l. absurd (not-suc-le-zero l);
}

-- a node without a head has no name
node_name : (kind : ℕ) (op : Op) (n m : Name) (ws : List ℕ) (g : ℕ) → (T (has_head kind) → n ≡ m) → make_node kind op n ws g ≡ make_node kind op m ws g
unfolding make_node has_head
node_name zero op n m ws g h = rw (h tt)
node_name (suc zero) op n m ws g h = refl
node_name (suc (suc zero)) op n m ws g h = rw (h tt)
node_name (suc (suc (suc zero))) op n m ws g h = refl
node_name (suc (suc (suc (suc zero)))) op n m ws g h = refl
node_name (suc (suc (suc (suc (suc zero))))) op n m ws g h = refl
node_name (suc (suc (suc (suc (suc (suc zero)))))) op n m ws g h = refl
node_name (suc (suc (suc (suc (suc (suc (suc k))))))) op n m ws g h = refl

-- the terms of a table do not change with names that it has not
pub terms_named : {refs rows : List ℕ} {used many named : ℕ} (name name' : ℕ → Name) → ((k : ℕ) → k < named → name k ≡ name' k) → Rows refs rows used many named
    → terms_of name refs rows used many ≡ terms_of name' refs rows used many
unfolding terms_of nodes_below node_of
terms_named {refs} {rows} {used} {many} name name' same r = ap (fold_left add_term []) (go many (omega arith))
  where
    go : (n : ℕ) → n ≤ many → nodes_below name refs rows used many n ≡ nodes_below name' refs rows used many n
    go zero l = refl
    go (suc n) l = ap₂ (λ ns m. ns ++ (m ∷ [])) (go n (omega arith))
        (node_name (row_kind rows n) (op_of_code (row_op rows n)) (name (row_head rows n)) (name' (row_head rows n)) (part refs (row_start rows n) (row_end rows used many n)) (row_extra rows n) (λ h. same (row_head rows n) (r.headed n (omega arith) h)))
