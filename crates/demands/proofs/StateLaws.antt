-- Laws of the state that reading carries from line to line: how names are numbered, which terms a term names, what is counted.
use Prim.Native.Nat.{ℕ, ◌+◌}
use native.Mathlib.Omega.{arith}
use mathlib.Core.Path.{◌≡◌, refl, sym, ◌∙◌, ap, subst}
use mathlib.Core.Logic.{◌⊎◌, inl, inr, ⊎_elim}
use mathlib.Core.Bool.{not, ◌||◌}
use mathlib.Core.List.Memᴰ
use mathlib.Core.List.{List, [], ◌∷◌, ◌++◌, map, append-nil, Memᴰ}
use Rattle.std.specs.Prelude.{Some as some}
use Rattle.std.proofs.lemmas.Option.{none-some as none-ne-some, same_Some as some-injective}
use lib.Dec.{T, T_not}
use lib.ListN.{length}
use Rattle.model.specs.Lists.{fold_left, sum, when, or_else, is_nil, ◌>>=◌}
use Rattle.model.specs.Names.{Name, same, mem}
use Rattle.model.specs.Lines.{Line}
use Rattle.model.specs.Terms.{Node, free_v, leaf, call, app, forall, exists, let_in, labeled, Term, add_term, references, unlabeled, free_top_level_names as node_names, term as term_of}
use Rattle.model.specs.Summaries.{Fact, free_of, call_of, free_top_level_names, group_names, at, token, summarize_kind, summarize_assumption}
use Rattle.model.specs.Reading.{ok, Content, head, term, assume, fun, def, retain, root, Summary, sum_assume, sum_definefun, sum_declfun, sum_retain, Decl, Root, State, start, nodes, spelled_by, spelled, spell, entries_of, uses_of, summarize_decl, trimmed, root_of, excluded, add_line, read_line}
use Rattle.model.proofs.ListLaws.{T_dec, T_ext, any_append, cond_true, cond_false, getD_case, getD_one_more, fold_left_case, sum_map_append}
use Rattle.model.proofs.SetLaws.{Within, within_nil, within_left, within_right, within_add, within_union, mem_intro, mem_cons, mem_first, mem_append, mem_diff}
use Rattle.demands.specs.LinesRead.{Distinct, none, one_more}
use Rattle.demands.proofs.Distinct.{distinct_append}
use Rattle.laws.proofs.ReadingLaws.{line_read}
use Rattle.demands.proofs.TermNames.{NameLaw, node_law, free_law, group_law}
use Rattle.demands.proofs.Disjuncts.{Parts, lawful_kind}
use Rattle.demands.proofs.TermNumbers.{Below, terms_named, named_below}

-- a name that is there leaves the names as they are, a new one stands at their end
pub spell_cases : (names : List Name) (n : Name) → (T (mem n names) × (spell names n ≡ names)) ⊎ (T (not (mem n names)) × (spell names n ≡ names ++ (n ∷ [])))
unfolding spell
spell_cases names n = ⊎_elim (λ t. inl (t, cond_true (mem n names) names (names ++ (n ∷ [])) t)) (λ t. inr (t, cond_false (mem n names) names (names ++ (n ∷ [])) t)) (T_dec (mem n names))

-- names without repeats, with one more, are without repeats
spell_distinct : (names : List Name) (n : Name) → Distinct names → Distinct (spell names n)
spell_distinct names n d = ⊎_elim (λ p. rw p.1 d)
    (λ p. rw p.1 (distinct_append d (one_more Memᴰ.not-nil none) (λ m i j. T_not (mem n names) p.0 (subst (λ k. T (mem k names)) (Memᴰ.eq_of_singleton j) (mem_intro i)))))
    (spell_cases names n)

-- the names that were there are there with one more
spell_keeps : (names : List Name) (n : Name) → Within names (spell names n)
spell_keeps names n k t = ⊎_elim (λ p. rw p.1 t) (λ p. rw p.1 ((mem_append k names (n ∷ [])).1 (inl t))) (spell_cases names n)

-- and so is the new one
spell_has : (names : List Name) (n : Name) → T (mem n (spell names n))
spell_has names n = ⊎_elim (λ p. rw p.1 p.0) (λ p. rw p.1 ((mem_append n names (n ∷ [])).1 (inr (mem_first n [])))) (spell_cases names n)

-- after some names are spelled they are there, beside those that were
spelled_within : (names l : List Name) → Within (names ++ l) (fold_left spell names l)
unfolding fold_left
spelled_within names [] k t = rw append-nil at t
spelled_within names (n ∷ l) k t =
    spelled_within (spell names n) l k
    ((mem_append k (spell names n) l).1
    (⊎_elim (λ u. inl (spell_keeps names n k u)) (λ u. ⊎_elim (λ e. inl (rw e (spell_has names n))) inr ((mem_cons k n l).0 u))
    ((mem_append k names (n ∷ l)).0 t)))

-- names that are among others are so with one more that is among those
spell_within : (names m : List Name) (n : Name) → T (mem n m) → Within names m → Within (spell names n) m
spell_within names m n t w k u =
    ⊎_elim (λ p. w k (rw p.1 at u))
    (λ p. ⊎_elim (w k) (λ v. ⊎_elim (λ e. rw e t) (within_nil m k) ((mem_cons k n []).0 v)) ((mem_append k names (n ∷ [])).0 (rw p.1 at u)))
    (spell_cases names n)

-- after some names are spelled there are those that were and these, and no others
pub spelled_exact : (names l : List Name) (k : Name) → mem k (fold_left spell names l) ≡ (mem k names || mem k l)
unfolding mem
spelled_exact names l k =
    let both = fold_left_case (λ after. Within after (names ++ l)) spell l
    (λ after n i w. spell_within after (names ++ l) n ((mem_append n names l).1 (inr (mem_intro i))) w)
    (λ n t. (mem_append n names l).1 (inl t)) in
    T_ext (both k) (spelled_within names l k) ∙ any_append (same k) names l

-- every name of a term is numbered: the one that its line spells, and its free names
pub record TermNumbered (names : List Name) (t : Term) : Type 0 where
  pub spells : Within (spelled_by t.node) names
  pub free : Within t.names names

-- every name of a fact is numbered
pub record FactNumbered (names : List Name) (f : Fact) : Type 0 where
  pub name : T (mem f.name names)
  pub free : Within f.free_names names
  pub disjuncts : (d : List Name) → Memᴰ d f.triggers → Within d names

-- every name of a definition or a declaration is numbered
pub record DeclNumbered (names : List Name) (d : Decl) : Type 0 where
  pub name : T (mem d.name names)
  pub free : Within d.free_names names

-- every name of a root is numbered
pub record RootNumbered (names : List Name) (r : Root) : Type 0 where
  pub name : T (mem r.name names)
  pub free : Within r.free_names names

-- every name of a record is numbered
abbrev pub SummaryNumbered : List Name → Summary → Type 0
SummaryNumbered names (sum_assume f) = FactNumbered names f
SummaryNumbered names (sum_definefun d) = DeclNumbered names d
SummaryNumbered names (sum_declfun d) = DeclNumbered names d
SummaryNumbered names sum_retain = Unit {0}

-- every name of the table and of the records is numbered
pub record Numbered (s : State) : Type 0 where
  pub terms : (t : Term) → Memᴰ t s.terms → TermNumbered s.names t
  pub records : (x : Summary) → Memᴰ x s.decls → SummaryNumbered s.names x
  pub roots : (r : Root) → Memᴰ r s.roots → RootNumbered s.names r

-- a token is the name that its line spells
token_spelled : (n : Name) (node : Node) → or_else (free_of node) (call_of node >>= λ (name, ts). when (is_nil ts) name) ≡ some n → T (mem n (spelled_by node))
unfolding or_else free_of call_of when is_nil spelled_by
token_spelled n (free_v name) e = rw (some-injective name n e) (mem_first n [])
token_spelled n leaf e = absurd (none-ne-some n e)
token_spelled n (call name []) e = rw (some-injective name n e) (mem_first n [])
token_spelled n (call name (t ∷ ts)) e = absurd (none-ne-some n e)
token_spelled n (app word ts) e = absurd (none-ne-some n e)
token_spelled n (forall body groups) e = absurd (none-ne-some n e)
token_spelled n (exists body groups) e = absurd (none-ne-some n e)
token_spelled n (let_in body ts) e = absurd (none-ne-some n e)
token_spelled n (labeled t) e = absurd (none-ne-some n e)

module _ (names names' : List Name) (w : Within names names') where
  -- what is numbered stays so with more names
  grown : (x : Summary) → SummaryNumbered names x → SummaryNumbered names' x
  grown (sum_assume f) h = record { name = w f.name h.name; free = λ k t. w k (h.free k t); disjuncts = λ d i k t. w k (h.disjuncts d i k t) }
  grown (sum_definefun d) h = record { name = w d.name h.name; free = λ k t. w k (h.free k t) }
  grown (sum_declfun d) h = record { name = w d.name h.name; free = λ k t. w k (h.free k t) }
  grown sum_retain h = tt

-- among the names are the unions and the parts of what is among them
within_law : (names : List Name) → NameLaw (λ l. Within l names)
within_law names =
    record {
      of_none = within_nil names;
      of_union = λ l m. within_union l m names;
      of_diff = λ l m w k u. w k ((mem_diff k l m).0 u).0;
    }

module _ {names : List Name} {terms : List Term} (numbered : (t : Term) → Memᴰ t terms → TermNumbered names t) where
  -- the free names of a term line whose own name is numbered are numbered
  node_within : (node : Node) → Within (spelled_by node) names → Within (node_names terms node) names
  node_within node w = node_law (within_law names) terms (λ t i. (numbered t i).free) node (λ n l i v. within_add n l names (w n (mem_intro i)) v)

  module _ (exclude : List Name) where
    -- the counted free names of a term are numbered
    free_within : (t : ℕ) → Within (free_top_level_names exclude terms t) names
    free_within = free_law (within_law names) terms (λ t i. (numbered t i).free) exclude

    -- those of a pattern group are numbered
    group_within : (ts : List ℕ) → Within (group_names exclude terms ts) names
    group_within = group_law (within_law names) terms (λ t i. (numbered t i).free) exclude

    -- the token of a partial application is numbered
    token_within : (t : ℕ) (n : Name) → token terms t ≡ some n → T (mem n names)
    unfolding token at term_of spelled_by
    token_within t n e = getD_case (λ x. Within (spelled_by x.node) names) terms t _ (λ x i. (numbered x i).spells) (within_nil names) n (token_spelled n (at terms t) e)

    -- what disjuncts are made of is numbered, or trimmed off a token
    parts_within : Parts (λ trimmed d. Within d (names ++ trimmed)) exclude terms
    parts_within =
        record {
          of_term = λ t k u. (mem_append k names []).1 (inl (free_within t k u));
          of_group = λ ts k u. (mem_append k names []).1 (inl (group_within ts k u));
          of_token = λ t n e trimmed k u. (mem_append k names trimmed).1 (inl (⊎_elim (λ i. rw i (token_within t n e)) (within_nil names k) ((mem_cons k n []).0 u)));
          of_trimmed = λ n k u. (mem_append k names (n ∷ [])).1 (inr u);
        }

    module _ (names' : List Name) (n : ℕ) where
      -- every name of the record that a line adds is numbered after it
      records_line : (c : Content) → Within names names' → Within (spelled c) names' → Within (trimmed exclude terms c) names'
          → (x : Summary) → Memᴰ x (summarize_decl exclude terms n c) → SummaryNumbered names' x
      unfolding spelled trimmed summarize_decl summarize_assumption
      records_line (head h) old new short x i = absurd (Memᴰ.not-nil i)
      records_line (term node) old new short x i = absurd (Memᴰ.not-nil i)
      records_line (assume name flag group t) old new short x i =
          subst (SummaryNumbered names') (sym (Memᴰ.eq_of_singleton i))
          (record {
            name = new name (mem_first name []);
            free = λ k u. old k (free_within t k u);
            disjuncts = λ d j k u. ⊎_elim (old k) (short k) ((mem_append k names (summarize_kind exclude terms name t).trimmed).0
                ((lawful_kind (λ trimmed d. Within d (names ++ trimmed)) exclude terms parts_within name t).disjuncts d j k u));
          })
      records_line (fun name) old new short x i =
          subst (SummaryNumbered names') (sym (Memᴰ.eq_of_singleton i)) (record { name = new name (mem_first name []); free = within_nil names' })
      records_line (def name t) old new short x i =
          subst (SummaryNumbered names') (sym (Memᴰ.eq_of_singleton i))
          (record { name = new name (mem_first name []); free = λ k u. old k (free_within t k u) })
      records_line (retain ns) old new short x i = subst (SummaryNumbered names') (sym (Memᴰ.eq_of_singleton i)) tt
      records_line (root q name t) old new short x i = absurd (Memᴰ.not-nil i)

      -- every name of the root that a line is is numbered after it
      roots_line : (c : Content) → Within names names' → Within (spelled c) names'
          → (r : Root) → Memᴰ r (root_of exclude terms n c) → RootNumbered names' r
      unfolding spelled root_of
      roots_line (head h) old new r i = absurd (Memᴰ.not-nil i)
      roots_line (term node) old new r i = absurd (Memᴰ.not-nil i)
      roots_line (assume name flag group t) old new r i = absurd (Memᴰ.not-nil i)
      roots_line (fun name) old new r i = absurd (Memᴰ.not-nil i)
      roots_line (def name t) old new r i = absurd (Memᴰ.not-nil i)
      roots_line (retain ns) old new r i = absurd (Memᴰ.not-nil i)
      roots_line (root q name t) old new r i =
          subst (RootNumbered names') (sym (Memᴰ.eq_of_singleton i))
          (record { name = new name (mem_first name []); free = λ k u. old k (free_within t k u) })

-- the name that a term line spells is spelled by the line
node_spelled : (c : Content) (node : Node) → Memᴰ node (nodes c) → spelled_by node ≡ spelled c
unfolding nodes spelled
node_spelled (head h) node i = absurd (Memᴰ.not-nil i)
node_spelled (term node) m i = ap spelled_by (Memᴰ.eq_of_singleton i)
node_spelled (assume name flag group t) node i = absurd (Memᴰ.not-nil i)
node_spelled (fun name) node i = absurd (Memᴰ.not-nil i)
node_spelled (def name t) node i = absurd (Memᴰ.not-nil i)
node_spelled (retain ns) node i = absurd (Memᴰ.not-nil i)
node_spelled (root q name t) node i = absurd (Memᴰ.not-nil i)

-- every name of the table is numbered with one term line more whose own name is
terms_more : {names : List Name} {terms : List Term} → ((t : Term) → Memᴰ t terms → TermNumbered names t)
    → (node : Node) → Within (spelled_by node) names → (t : Term) → Memᴰ t (add_term terms node) → TermNumbered names t
unfolding add_term
terms_more {names} {terms} h node w t i =
    ⊎_elim (h t) (λ j. subst (TermNumbered names) (sym (Memᴰ.eq_of_singleton j)) (record { spells = w; free = node_within h node w }))
    (Memᴰ.append_cases terms i)

-- a line leaves every name numbered
numbered_line : (exclude : List Name) (n : ℕ) (s : State) (c : Content) → Numbered s → Numbered (add_line exclude n s c)
unfolding add_line
numbered_line exclude n s c h =
    let out = excluded exclude s in
    let added = spelled c ++ trimmed out s.terms c in
    let names' = fold_left spell s.names added in
    let within = spelled_within s.names added in
    let old = within_left s.names added names' within in
    let both = within_right s.names added names' within in
    let new = within_left (spelled c) (trimmed out s.terms c) names' both in
    let short = within_right (spelled c) (trimmed out s.terms c) names' both in
    record {
      terms =
          fold_left_case (λ terms. (t : Term) → Memᴰ t terms → TermNumbered names' t) add_term (nodes c)
          (λ terms node i below. terms_more below node (rw (node_spelled c node i) new))
          (λ t i. record { spells = λ k u. old k ((h.terms t i).spells k u); free = λ k u. old k ((h.terms t i).free k u) });
      records = λ x i. ⊎_elim (λ j. grown s.names names' old x (h.records x j)) (records_line h.terms out names' n c old new short x) (Memᴰ.append_cases s.decls i);
      roots = λ r i. ⊎_elim (λ j. record { name = old r.name (h.roots r j).name; free = λ k u. old k ((h.roots r j).free k u) })
          (roots_line h.terms out names' n c old new r) (Memᴰ.append_cases s.roots i);
    }

-- the terms that the t-th term names, on its line and under its labels, are below t
pub record NamesLower (t : ℕ) (x : Term) : Type 0 where
  pub node : Below t (references x.node)
  pub bare : Below t (references x.bare)

-- each term of the table names lower ones
abbrev pub Lower : List Term → Type 0
Lower terms = (t : ℕ) → NamesLower t (term_of terms t)

-- the line under the labels of a line names only lower terms where that line does
bare_below : (terms : List Term) {count : ℕ} → Lower terms → (node : Node) → Below count (references node) → Below count (references (unlabeled terms node))
unfolding unlabeled references
bare_below terms h (free_v name) w = w
bare_below terms h leaf w = w
bare_below terms h (call name ts) w = w
bare_below terms h (app word ts) w = w
bare_below terms h (forall body groups) w = w
bare_below terms h (exists body groups) w = w
bare_below terms h (let_in body ts) w = w
bare_below terms h (labeled t) w = λ u i. omega (arith, (h t).bare u i, w t (Memᴰ.head refl))

-- where each term names lower ones it does so with one term line more that names terms of the table
lower_more : (terms : List Term) (node : Node) → Below (length terms) (references node) → Lower terms → Lower (add_term terms node)
unfolding add_term term_of references
lower_more terms node w h =
    getD_one_more NamesLower terms _ _ h (record { node = w; bare = bare_below terms h node w })
    (λ t. record { node = λ u i. absurd (Memᴰ.not-nil i); bare = λ u i. absurd (Memᴰ.not-nil i) })

-- where each term names lower ones it does so after a line that names terms of the table
lower_line : (terms : List Term) (c : Content) → Below (length terms) (terms_named c) → Lower terms → Lower (fold_left add_term terms (nodes c))
unfolding nodes fold_left terms_named
lower_line terms (head line) w h = h
lower_line terms (term node) w h = lower_more terms node w h
lower_line terms (assume name flag group t) w h = h
lower_line terms (fun name) w h = h
lower_line terms (def name t) w h = h
lower_line terms (retain ns) w h = h
lower_line terms (root q name t) w h = h

-- what is counted towards the limits is what the records hold
pub record Counts (s : State) : Type 0 where
  pub entries : s.entries ≡ sum (map entries_of s.decls)
  pub uses : s.uses ≡ sum (map uses_of s.decls) + sum (map (λ (r : Root). length r.free_names) s.roots)

-- the counts are those of the records after a line, if before
counts_line : (exclude : List Name) (n : ℕ) (s : State) (c : Content) → Counts s → Counts (add_line exclude n s c)
unfolding add_line
counts_line exclude n s c h =
    let decls = summarize_decl (excluded exclude s) s.terms n c in
    let roots = root_of (excluded exclude s) s.terms n c in
    record {
      entries = omega (arith, h.entries, sum_map_append entries_of s.decls decls);
      uses = omega (arith, h.uses, sum_map_append uses_of s.decls decls, sum_map_append (λ (r : Root). length r.free_names) s.roots roots);
    }

-- the laws of a state that reading comes to
pub record StateLaws (s : State) : Type 0 where
  -- names are numbered without repeats
  pub numbered_once : Distinct s.names
  pub numbered : Numbered s
  pub lower : Lower s.terms
  pub counts : Counts s

-- the laws hold before line 1
pub laws_start : StateLaws start
unfolding start term_of references sum
laws_start =
    record {
      numbered_once = none;
      numbered = record { terms = λ t i. absurd (Memᴰ.not-nil i); records = λ x i. absurd (Memᴰ.not-nil i); roots = λ r i. absurd (Memᴰ.not-nil i) };
      lower = λ t. record { node = λ u i. absurd (Memᴰ.not-nil i); bare = λ u i. absurd (Memᴰ.not-nil i) };
      counts = record { entries = refl; uses = omega arith };
    }

-- every line that names terms of the table keeps the laws, whether it passes 5 and the limits or not
pub laws_added : (exclude : List Name) (n : ℕ) (s : State) (c : Content) → Below (length s.terms) (terms_named c) → StateLaws s → StateLaws (add_line exclude n s c)
unfolding add_line
laws_added exclude n s c below h =
    record {
      numbered_once = fold_left_case Distinct spell (spelled c ++ trimmed (excluded exclude s) s.terms c) (λ names name i d. spell_distinct names name d) h.numbered_once;
      numbered = numbered_line exclude n s c h.numbered;
      lower = lower_line s.terms c below h.lower;
      counts = counts_line exclude n s c h.counts;
    }

-- every accepted line keeps the laws
pub laws_line : (exclude : List Name) (n : ℕ) (s s' : State) (line : Line) → read_line exclude n s line ≡ ok s' → StateLaws s → StateLaws s'
laws_line exclude n s s' line e h =
    let l = line_read exclude n s line s' e in
    rw l.after (laws_added exclude n s l.content (named_below s _ l.parsed) h)
