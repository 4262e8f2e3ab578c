-- The free names of the terms before a line, and the lines under their labels, are those that the term lines have.
use Prim.Native.Nat.{ℕ, zero, suc, ◌<◌}
use native.Mathlib.Omega.{arith}
use mathlib.Core.Path.{◌≡◌, refl, sym, ◌∙◌, ap, subst}
use mathlib.Core.Logic.{◌↔◌, ◌≢◌, ◌⊎◌, inl, inr, ⊎_elim}
use mathlib.Core.Bool.{Bool, true, false, not}
use mathlib.Core.List.Memᴰ
use mathlib.Core.List.{List, [], ◌∷◌, ◌++◌, map, map-append, map-map, append-nil, Memᴰ}
use lib.Dec.{T, T_not, not_T, leb}
use lib.ListN.{length, get_or-eq_default, get_or-append}
use borrow.Author.Tests.{leb-true, leb-false}
use Rattle.model.specs.Lists.{concat, fold_left}
use Rattle.model.specs.Names.{Name, bytes, mem, union}
use Rattle.model.specs.Lines.{Line, lines}
use Rattle.model.specs.Terms.{Node, free_v, leaf, call, app, forall, exists, let_in, labeled, Term, term as term_of, names_of, free_top_level_names as node_names, unlabeled, add_term, references}
use Rattle.model.specs.Summaries.{common_names, exclude_names, free_top_level_names, group_names}
use Rattle.model.specs.Reading.{Content, head, term, assume, fun, def, retain, root, ok, State, start, nodes, excluded, add_line, read_line}
use Rattle.model.proofs.ListLaws.{getD_one_more, concat_intro, concat_elim}
use Rattle.model.proofs.SetLaws.{mem_intro, mem_elim, mem_add, mem_union, mem_diff, mem_from_list, mem_append}
use Rattle.demands.specs.FileOrder.{Said}
use Rattle.demands.specs.FreeNames.{TermLines, OwnName, of_free, of_call, NamedTerm, call_argument, op_argument, all_body, all_pattern, some_body, some_pattern, let_body, let_term, labelled, FreeIn, own, within, CountedFree, UnderLabels, no_label, label, FreeNamesExact}
use Rattle.laws.proofs.ReadingLaws.{line_read, file_read, kept_by_lines}
use Rattle.demands.proofs.SaidLines.{reached}
use Rattle.demands.proofs.FileOrder.{told, told_places, as_said, said_part}
use Rattle.demands.proofs.TermNames.{group_law}
use Rattle.demands.proofs.TermNumbers.{Below, terms_named, named_below}
use Rattle.demands.proofs.StateLaws.{Lower, StateLaws, laws_start, laws_line}
use Rattle.demands.proofs.WellFormed.{TermSets, set_law, free_set, sets_after}

-- ---- the term lines

-- a line adds to the terms what it says
terms_added : (terms : List Term) (c : Content)
    → map (λ (t : Term). t.node) (fold_left add_term terms (nodes c)) ≡ map (λ (t : Term). t.node) terms ++ nodes c
unfolding nodes fold_left add_term
terms_added terms (head h) = sym (append-nil _)
terms_added terms (term node) = map-append (λ (t : Term). t.node) terms _
terms_added terms (assume name flag group t) = sym (append-nil _)
terms_added terms (fun name) = sym (append-nil _)
terms_added terms (def name t) = sym (append-nil _)
terms_added terms (retain names) = sym (append-nil _)
terms_added terms (root q name t) = sym (append-nil _)

-- the terms of an accepted file are what its term lines say, in their order
pub term_lines : TermLines
unfolding as_said reached start add_line
term_lines file s e =
    let reading = file_read exclude_names file s e in
    record {
      said = map as_said (told (lines file) 1 start s reading);
      every_line =
          map-map (λ (l : Said file). l.place) as_said (told (lines file) 1 start s reading)
          ∙ told_places (lines file) 1 start s reading;
      terms_said =
          said_part file (λ s. map (λ (t : Term). t.node) s.terms) (λ exclude terms n c. nodes c) refl
          (record { adds = λ n s c. terms_added s.terms c; none = λ exclude terms n h. unfold nodes in refl }) s reading;
    }

-- ---- what a line names

-- the terms that a line names are its references
named_reference : {t : ℕ} {node : Node} → NamedTerm t node → Memᴰ t (references node)
unfolding references
named_reference (call_argument i) = i
named_reference (op_argument i) = i
named_reference all_body = Memᴰ.head refl
named_reference (all_pattern i j) = Memᴰ.tail (concat_intro i j)
named_reference some_body = Memᴰ.head refl
named_reference (some_pattern i j) = Memᴰ.tail (concat_intro i j)
named_reference let_body = Memᴰ.head refl
named_reference (let_term i) = Memᴰ.tail i
named_reference labelled = Memᴰ.head refl

-- a name that a line has: its own, or one of those of a term that it names
abbrev Has : List Term → Name → Node → Type 0
Has terms name node = OwnName name node ⊎ ((u : ℕ) × NamedTerm u node × T (mem name (term_of terms u).names))

module _ (terms : List Term) (name : Name) where
  -- no name is in no names
  none_in : T (mem name []) → ⊥
  none_in t = Memᴰ.not-nil (mem_elim t)

  -- the names of some terms are those of each
  names_of_exact : (ts : List ℕ) → T (mem name (names_of terms ts)) ↔ ((u : ℕ) × Memᴰ u ts × T (mem name (term_of terms u).names))
  unfolding names_of
  names_of_exact [] = (λ t. absurd (none_in t), λ (u, i, t). absurd (Memᴰ.not-nil i))
  names_of_exact (x ∷ ts) = (
    λ t. ⊎_elim (λ here. (x, Memᴰ.head refl, here)) (λ later. let (u, i, h) = (names_of_exact ts).0 later in (u, Memᴰ.tail i, h))
        ((mem_union name (term_of terms x).names (names_of terms ts)).0 t),
    λ (u, i, h). (mem_union name (term_of terms x).names (names_of terms ts)).1
        (⊎_elim (λ e. inl (subst (λ v. T (mem name (term_of terms v).names)) e h)) (λ j. inr ((names_of_exact ts).1 (u, j, h)))
        (Memᴰ.cases_cons i)),
  )

  -- the names of the patterns and the body of a quantifier
  quantified : (body : ℕ) (groups : List (List ℕ)) (node : Node)
      → NamedTerm body node → ((g : List ℕ) (u : ℕ) → Memᴰ g groups → Memᴰ u g → NamedTerm u node)
      → T (mem name (names_of terms (concat groups))) ⊎ T (mem name (term_of terms body).names) → Has terms name node
  quantified body groups node b p =
      ⊎_elim
      (λ t. let (u, i, h) = (names_of_exact (concat groups)).0 t in let (g, j, k) = concat_elim groups i in inr (u, p g u j k, h))
      (λ t. inr (body, b, t))

  -- what is gathered of a line it has
  node_has : (node : Node) → T (mem name (node_names terms node)) → Has terms name node
  unfolding node_names
  node_has (free_v own_name) t = ⊎_elim (λ e. inl (rw e of_free)) (λ h. absurd (none_in h)) ((mem_add name own_name []).0 t)
  node_has leaf t = absurd (none_in t)
  node_has (call symbol ts) t =
      ⊎_elim (λ e. inl (rw e of_call)) (λ h. let (u, i, k) = (names_of_exact ts).0 h in inr (u, call_argument i, k))
      ((mem_add name symbol (names_of terms ts)).0 t)
  node_has (app word ts) t = let (u, i, k) = (names_of_exact ts).0 t in inr (u, op_argument i, k)
  node_has (forall body groups) t =
      quantified body groups (forall body groups) all_body (λ g u i j. all_pattern i j)
      ((mem_union name (names_of terms (concat groups)) (term_of terms body).names).0 t)
  node_has (exists body groups) t =
      quantified body groups (exists body groups) some_body (λ g u i j. some_pattern i j)
      ((mem_union name (names_of terms (concat groups)) (term_of terms body).names).0 t)
  node_has (let_in body ts) t =
      ⊎_elim (λ h. let (u, i, k) = (names_of_exact ts).0 h in inr (u, let_term i, k)) (λ h. inr (body, let_body, h))
      ((mem_union name (names_of terms ts) (term_of terms body).names).0 t)
  node_has (labeled u) t = inr (u, labelled, t)

  -- its own name is gathered
  own_gathered : {node : Node} → OwnName name node → T (mem name (node_names terms node))
  unfolding node_names
  own_gathered of_free = (mem_add name name []).1 (inl refl)
  own_gathered (of_call {ts}) = (mem_add name name (names_of terms ts)).1 (inl refl)

  -- a name of a term that it names is gathered
  named_gathered : {u : ℕ} {node : Node} → NamedTerm u node → T (mem name (term_of terms u).names) → T (mem name (node_names terms node))
  unfolding node_names
  named_gathered {u} (call_argument {name = symbol} {ts} i) h = (mem_add name symbol (names_of terms ts)).1 (inr ((names_of_exact ts).1 (u, i, h)))
  named_gathered {u} (op_argument {ts = ts} i) h = (names_of_exact ts).1 (u, i, h)
  named_gathered {u} (all_body {groups}) h = (mem_union name (names_of terms (concat groups)) (term_of terms u).names).1 (inr h)
  named_gathered {u} (all_pattern {body} {groups} i j) h =
      (mem_union name (names_of terms (concat groups)) (term_of terms body).names).1 (inl ((names_of_exact (concat groups)).1 (u, concat_intro i j, h)))
  named_gathered {u} (some_body {groups}) h = (mem_union name (names_of terms (concat groups)) (term_of terms u).names).1 (inr h)
  named_gathered {u} (some_pattern {body} {groups} i j) h =
      (mem_union name (names_of terms (concat groups)) (term_of terms body).names).1 (inl ((names_of_exact (concat groups)).1 (u, concat_intro i j, h)))
  named_gathered {u} (let_body {ts}) h = (mem_union name (names_of terms ts) (term_of terms u).names).1 (inr h)
  named_gathered {u} (let_term {body} {ts} i) h = (mem_union name (names_of terms ts) (term_of terms body).names).1 (inl ((names_of_exact ts).1 (u, i, h)))
  named_gathered labelled h = h

-- ---- a table in which each term is gathered from those that it names

-- the names of a term and the line under its labels are those gathered of its line from the table
pub record SolvedTerm (terms : List Term) (x : Term) : Type 0 where
  pub names : x.names ≡ node_names terms x.node
  pub bare : x.bare ≡ unlabeled terms x.node

-- so for each term of the table
abbrev pub Solved : List Term → Type 0
Solved terms = (t : ℕ) → SolvedTerm terms (term_of terms t)

module _ (terms more : List Term) where
  -- the tables have the same terms there
  abbrev SameTerms : List ℕ → Type 0
  SameTerms ts = (u : ℕ) → Memᴰ u ts → term_of terms u ≡ term_of more u

  -- the names of the same terms are the same
  names_same : (ts : List ℕ) → SameTerms ts → names_of terms ts ≡ names_of more ts
  unfolding names_of
  names_same [] h = refl
  names_same (t ∷ ts) h = rw (h t (Memᴰ.head refl), names_same ts (λ u i. h u (Memᴰ.tail i)))

  -- what is gathered of a line is the same where the terms that it names are
  node_same : (node : Node) → SameTerms (references node) → node_names terms node ≡ node_names more node
  unfolding node_names references
  node_same (free_v name) h = refl
  node_same leaf h = refl
  node_same (call name ts) h = rw (names_same ts h)
  node_same (app word ts) h = names_same ts h
  node_same (forall body groups) h = rw (h body (Memᴰ.head refl), names_same (concat groups) (λ u i. h u (Memᴰ.tail i)))
  node_same (exists body groups) h = rw (h body (Memᴰ.head refl), names_same (concat groups) (λ u i. h u (Memᴰ.tail i)))
  node_same (let_in body ts) h = rw (h body (Memᴰ.head refl), names_same ts (λ u i. h u (Memᴰ.tail i)))
  node_same (labeled t) h = ap (λ x. x.names) (h t (Memᴰ.head refl))

  -- and so is the line under its labels
  bare_same : (node : Node) → SameTerms (references node) → unlabeled terms node ≡ unlabeled more node
  unfolding unlabeled references
  bare_same (free_v name) h = refl
  bare_same leaf h = refl
  bare_same (call name ts) h = refl
  bare_same (app word ts) h = refl
  bare_same (forall body groups) h = refl
  bare_same (exists body groups) h = refl
  bare_same (let_in body ts) h = refl
  bare_same (labeled t) h = ap (λ x. x.bare) (h t (Memᴰ.head refl))

  -- a term that was gathered from one table is so from the other
  solved_same : (x : Term) → SameTerms (references x.node) → SolvedTerm terms x → SolvedTerm more x
  solved_same x h s = record { names = s.names ∙ node_same x.node h; bare = s.bare ∙ bare_same x.node h }

-- the terms of the table are the same with one more
term_kept : (terms : List Term) (node : Node) (u : ℕ) → u < length terms → term_of terms u ≡ term_of (add_term terms node) u
unfolding term_of add_term
term_kept terms node u h = sym (get_or-append terms _ _ u h)

-- each term of the table names terms of it
in_table : (terms : List Term) → Lower terms → (t : ℕ) → Below (length terms) (references (term_of terms t).node)
unfolding term_of references
in_table terms lower t = go (leb (length terms) t) refl
  where
    go : (b : Bool) → leb (length terms) t ≡ b → Below (length terms) (references (term_of terms t).node)
    go true e u i =
        let none : references (term_of terms t).node ≡ [] =
        ap (λ x. references x.node) (get_or-eq_default terms _ (leb-true (length terms) t e)) in
        absurd (Memᴰ.not-nil (rw none at i))
    go false e u i = omega (arith, (lower t).node u i, leb-false (length terms) t e)

-- one term line more that names terms of the table
solved_more : (terms : List Term) (node : Node) → Below (length terms) (references node) → Lower terms → Solved terms → Solved (add_term terms node)
unfolding term_of add_term references node_names unlabeled
solved_more terms node below lower s =
    getD_one_more (λ i x. SolvedTerm (add_term terms node) x) terms _ _
    (λ i. solved_same terms (add_term terms node) (term_of terms i) (λ u j. term_kept terms node u (in_table terms lower i u j)) (s i))
    (record {
      names = node_same terms (add_term terms node) node (λ u j. term_kept terms node u (below u j));
      bare = bare_same terms (add_term terms node) node (λ u j. term_kept terms node u (below u j));
    })
    (λ i. record { names = refl; bare = refl })

-- a line that names terms of the table
solved_line : (terms : List Term) (c : Content) → Below (length terms) (terms_named c) → Lower terms → Solved terms
    → Solved (fold_left add_term terms (nodes c))
unfolding nodes fold_left terms_named
solved_line terms (head h) w lower s = s
solved_line terms (term node) w lower s = solved_more terms node w lower s
solved_line terms (assume name flag group t) w lower s = s
solved_line terms (fun name) w lower s = s
solved_line terms (def name t) w lower s = s
solved_line terms (retain ns) w lower s = s
solved_line terms (root q name t) w lower s = s

-- a line that is no label is the one under its labels
unlabeled_self : (terms : List Term) (node : Node) → ((u : ℕ) → node ≢ labeled u) → unlabeled terms node ≡ node
unfolding unlabeled
unlabeled_self terms (free_v name) h = refl
unlabeled_self terms leaf h = refl
unlabeled_self terms (call name ts) h = refl
unlabeled_self terms (app word ts) h = refl
unlabeled_self terms (forall body groups) h = refl
unlabeled_self terms (exists body groups) h = refl
unlabeled_self terms (let_in body ts) h = refl
unlabeled_self terms (labeled t) h = absurd (h t refl)

-- ---- of such a table

module _ (terms : List Term) (lower : Lower terms) (solved : Solved terms) where
  module _ (name : Name) where
    -- a name that is gathered of a term below n is free in it
    gathered_free : (n t : ℕ) → t < n → T (mem name (term_of terms t).names) → FreeIn terms name t
    gathered_free zero t h m = absurd (omega arith)
    gathered_free (suc n) t h m =
        ⊎_elim own (λ (u, i, k). within i (gathered_free n u (omega (arith, (lower t).node u (named_reference i))) k))
        (node_has terms name (term_of terms t).node (rw (solved t).names at m))

    -- a name that is free in a term is gathered of it
    free_gathered : (t : ℕ) → FreeIn terms name t → T (mem name (term_of terms t).names)
    free_gathered t (own o) = rw (solved t).names (own_gathered terms name o)
    free_gathered t (within {u} i f) = rw (solved t).names (named_gathered terms name i (free_gathered u f))

  module _ (node : Node) where
    -- the line under the labels of a term below n
    bare_under : (n t : ℕ) → t < n → (term_of terms t).bare ≡ node → UnderLabels terms node t
    unfolding unlabeled references
    bare_under zero t h e = absurd (omega arith)
    bare_under (suc n) t h e = go (term_of terms t).node refl (sym (solved t).bare ∙ e) (λ u k. bare_under n u (omega (arith, k)))
      where
        go : (x : Node) → (term_of terms t).node ≡ x → unlabeled terms x ≡ node
            → ((u : ℕ) → u < t → (term_of terms u).bare ≡ node → UnderLabels terms node u) → UnderLabels terms node t
        go (free_v name) p q below = no_label (p ∙ q) (λ u r. let z : ◌≡◌ {A = ℕ} 0 1 = cc in omega arith)
        go leaf p q below = no_label (p ∙ q) (λ u r. let z : ◌≡◌ {A = ℕ} 0 1 = cc in omega arith)
        go (call name ts) p q below = no_label (p ∙ q) (λ u r. let z : ◌≡◌ {A = ℕ} 0 1 = cc in omega arith)
        go (app word ts) p q below = no_label (p ∙ q) (λ u r. let z : ◌≡◌ {A = ℕ} 0 1 = cc in omega arith)
        go (forall body groups) p q below = no_label (p ∙ q) (λ u r. let z : ◌≡◌ {A = ℕ} 0 1 = cc in omega arith)
        go (exists body groups) p q below = no_label (p ∙ q) (λ u r. let z : ◌≡◌ {A = ℕ} 0 1 = cc in omega arith)
        go (let_in body ts) p q below = no_label (p ∙ q) (λ u r. let z : ◌≡◌ {A = ℕ} 0 1 = cc in omega arith)
        go (labeled u) p q below = label p (below u ((lower t).node u (rw p (Memᴰ.head refl))) q)

    -- what is under the labels is the line that the table has
    under_bare : (t : ℕ) → UnderLabels terms node t → (term_of terms t).bare ≡ node
    unfolding unlabeled
    under_bare t (no_label p other) = (solved t).bare ∙ ap (unlabeled terms) p ∙ unlabeled_self terms node other
    under_bare t (label {u} p below) = (solved t).bare ∙ ap (unlabeled terms) p ∙ under_bare u below

-- ---- the free names that count

-- the names that are left out are the common ones and the hidden ones
left_out : (hidden : List Name) (name : Name)
    → T (not (mem name (exclude_names ++ hidden))) ↔ ((Memᴰ name (map bytes common_names) → ⊥) × (Memᴰ name hidden → ⊥))
unfolding exclude_names
left_out hidden name = (
  λ t. (
    λ i. T_not (mem name (exclude_names ++ hidden)) t
        ((mem_append name exclude_names hidden).1 (inl ((mem_from_list name (map bytes common_names)).1 (mem_intro i)))),
    λ i. T_not (mem name (exclude_names ++ hidden)) t ((mem_append name exclude_names hidden).1 (inr (mem_intro i))),
  ),
  λ (f, g). not_T (mem name (exclude_names ++ hidden)) (λ t.
      ⊎_elim (λ u. f (mem_elim ((mem_from_list name (map bytes common_names)).0 u))) (λ u. g (mem_elim u)) ((mem_append name exclude_names hidden).0 t)),
)

module _ (s : State) (lower : Lower s.terms) (solved : Solved s.terms) (name : Name) where
  -- those of a term
  counted_free : (t : ℕ) → Memᴰ name (free_top_level_names (excluded exclude_names s) s.terms t) ↔ CountedFree s name t
  unfolding free_top_level_names excluded
  counted_free t =
      let gathered = mem_diff name (term_of s.terms t).names (excluded exclude_names s) in
      let out = left_out s.hidden name in (
        λ i. let (m, o) = gathered.0 (mem_intro i) in
            record {
              free = gathered_free s.terms lower solved name (suc t) t (omega arith) m;
              not_common = (out.0 o).0;
              not_hidden = (out.0 o).1;
            },
        λ f. mem_elim (gathered.1 (free_gathered s.terms lower solved name t f.free, out.1 (f.not_common, f.not_hidden))),
      )

  -- those of the terms of a group, after those that are there
  folded : (ts : List ℕ) (out : List Name)
      → T (mem name (fold_left (λ out t. union out (free_top_level_names (excluded exclude_names s) s.terms t)) out ts))
      ↔ (T (mem name out) ⊎ ((t : ℕ) × Memᴰ t ts × CountedFree s name t))
  unfolding fold_left
  folded [] out = (inl, λ e. ⊎_elim (λ t. t) (λ (t, i, f). absurd (Memᴰ.not-nil i)) e)
  folded (x ∷ ts) out =
      let free = free_top_level_names (excluded exclude_names s) s.terms x in
      let more = folded ts (union out free) in (
        λ t. ⊎_elim
            (λ here. ⊎_elim inl (λ h. inr (x, Memᴰ.head refl, (counted_free x).0 (mem_elim h))) ((mem_union name out free).0 here))
            (λ (u, i, f). inr (u, Memᴰ.tail i, f)) (more.0 t),
        λ e. more.1 (⊎_elim (λ t. inl ((mem_union name out free).1 (inl t)))
            (λ (u, i, f). ⊎_elim (λ q. inl ((mem_union name out free).1 (inr (mem_intro ((counted_free x).1 (subst (CountedFree s name) q f))))))
            (λ j. inr (u, j, f)) (Memᴰ.cases_cons i)) e),
      )

  -- those of a pattern group
  counted_group : (ts : List ℕ)
      → Memᴰ name (group_names (excluded exclude_names s) s.terms ts) ↔ ((t : ℕ) × Memᴰ t ts × CountedFree s name t)
  unfolding group_names
  counted_group ts = (
    λ i. ⊎_elim (λ t. absurd (none_in s.terms name t)) (λ h. h) ((folded ts []).0 (mem_intro i)),
    λ h. mem_elim ((folded ts []).1 (inr h)),
  )

-- ---- of every table that reading comes to

-- what reading keeps of the terms
pub record Gathering (s : State) : Type 0 where
  pub laws : StateLaws s
  pub sets : TermSets s.terms
  pub solved : Solved s.terms

-- it holds before line 1
gathering_start : Gathering start
unfolding start term_of node_names unlabeled
gathering_start =
    record { laws = laws_start; sets = record { of_term = λ t i. absurd (Memᴰ.not-nil i) }; solved = λ t. record { names = refl; bare = refl } }

-- every accepted line keeps it
gathering_line : (n : ℕ) (s s' : State) (line : Line) → read_line exclude_names n s line ≡ ok s' → Gathering s → Gathering s'
unfolding add_line
gathering_line n s s' line e h =
    let l = line_read exclude_names n s line s' e in
    let below = named_below s _ l.parsed in
    record {
      laws = laws_line exclude_names n s s' line e h.laws;
      sets = rw l.after (sets_after h.sets l.content);
      solved = rw l.after (solved_line s.terms l.content below h.laws.lower h.solved);
    }

-- the free names of the terms before every line that is reached, and what is under their labels
pub free_names_exact : FreeNamesExact
free_names_exact file n l =
    let h = kept_by_lines exclude_names (λ n s. Gathering s) gathering_line l.before 1 start l.state l.reading gathering_start in
    let s = l.state in
    record {
      free = λ t name. counted_free s h.laws.lower h.solved name t;
      free_set = free_set h.sets (excluded exclude_names s);
      group = λ ts name. counted_group s h.laws.lower h.solved name ts;
      group_set = group_law set_law s.terms h.sets.of_term (excluded exclude_names s);
      bare = λ t node. (
        bare_under s.terms h.laws.lower h.solved node (suc t) t (omega arith),
        under_bare s.terms h.laws.lower h.solved node t,
      );
    }
