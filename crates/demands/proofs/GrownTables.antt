-- Over a term table that has grown the fields of a line say what they said, and a record is summarized as it was.
use Prim.Native.Nat.{ℕ, zero, suc, ◌≤◌, ◌<◌}
use native.Mathlib.Omega.{arith}
use mathlib.Core.Path.{◌≡◌, refl, sym, ◌∙◌, ap}
use mathlib.Core.Bool.{Bool}
use mathlib.Core.List.Memᴰ
use mathlib.Core.List.{List, [], ◌∷◌, ◌++◌, append_assoc, append-nil}
use Rattle.std.specs.Prelude.{Some as some}
use lib.Dec.{ltb, ltb→lt, lt→ltb}
use lib.ListN.{length, length-append, get_or-append}
use Rattle.model.specs.Lists.{fold_left}
use Rattle.model.specs.Names.{Name}
use Rattle.model.specs.Lines.{Field}
use Rattle.model.specs.Terms.{Node, Term, term as term_of, add_term}
use Rattle.model.specs.Summaries.{summarize_assumption}
use Rattle.model.specs.Reading.{Result, ok, refused, ◌>>=◌, need, name_field, number_field, term_field, op_words, word, kinds, next, many, rest, groups, quantifier, group_field, most_query, content, parse}
use Rattle.model.specs.Reading.{Content, head, term, assume, fun, def, retain, root, State, summarize_decl, root_of}
use Rattle.model.specs.declared.LineKind.{LineKind}
use Rattle.model.specs.declared.LineKind.TheVariants as kind
use Rattle.model.specs.declared.Refusal.TheVariants as refusal
use Rattle.model.proofs.ListLaws.{cond_true}
use Rattle.model.proofs.ResultLaws.{bind_ok, cond_ok}
use Rattle.laws.proofs.ReadingLaws.{parse_ok}
use Rattle.demands.proofs.TermNumbers.{Below, terms_named}
use Rattle.demands.proofs.StateLaws.{Lower}
use Rattle.demands.proofs.TermRenaming.{Carried, carried_below}
use Rattle.demands.proofs.SummaryRenaming.{free_same, kind_carried}

-- what the one result gives the other gives
abbrev More : {A : Type 0} → Result A → Result A → Type 0
More {A} r r' = (a : A) → r ≡ ok a → r' ≡ ok a

as_it_is : {A : Type 0} (r : Result A) → More r r
as_it_is r a e = e

-- a step from a value that both give
more_bind : {A B : Type 0} (r r' : Result A) (f g : A → Result B) → More r r' → ((a : A) → More (f a) (g a)) → More (r >>= f) (r' >>= g)
more_bind r r' f g h k b e = let (a, p, q) = bind_ok r e in ap (◌>>= g) (h a p) ∙ k a b q

module _ {A : Type 0} (judge judge' : Field → Result A) (h : (f : Field) → More (judge f) (judge' f)) where
  more_next : (fs : List Field) → More (next judge fs) (next judge' fs)
  unfolding next
  more_next [] = as_it_is _
  more_next (f ∷ fs) = more_bind (judge f) (judge' f) _ _ (h f) (λ a. as_it_is _)

  more_many : (n : ℕ) (fs : List Field) → More (many n judge fs) (many n judge' fs)
  unfolding many
  more_many zero fs = as_it_is _
  more_many (suc n) fs = more_bind (next judge fs) (next judge' fs) _ _ (more_next fs) (λ p. more_bind (many n judge p.1) _ _ _ (more_many n p.1) (λ q. as_it_is _))

  more_rest : (fs : List Field) → More (rest judge fs) (rest judge' fs)
  unfolding rest
  more_rest [] = as_it_is _
  more_rest (f ∷ fs) = more_bind (judge f) (judge' f) _ _ (h f) (λ a. more_bind (rest judge fs) _ _ _ (more_rest fs) (λ q. as_it_is _))

module _ (count count' : ℕ) (grows : count ≤ count') where
  -- a term of fewer is one of more
  more_term : (f : Field) → More (term_field count f) (term_field count' f)
  unfolding term_field
  more_term f = more_bind (number_field 65535 f) (number_field 65535 f) _ _ (as_it_is _)
      (λ n a e. let (t, h) = cond_ok (ltb n count) (ok n) refusal.Term e in
      cond_true (ltb n count') (ok n) (refused refusal.Term) (lt→ltb n count' (omega (arith, ltb→lt n count t))) ∙ h)

  next_term : (fs : List Field) → More (next (term_field count) fs) (next (term_field count') fs)
  next_term fs = more_next (term_field count) (term_field count') more_term fs

  rest_terms : (fs : List Field) → More (rest (term_field count) fs) (rest (term_field count') fs)
  rest_terms fs = more_rest (term_field count) (term_field count') more_term fs

  more_groups : (g : ℕ) (fs : List Field) → More (groups count g fs) (groups count' g fs)
  unfolding groups
  more_groups zero fs = as_it_is _
  more_groups (suc g) fs =
      more_bind (next (number_field 65535) fs) _ _ _ (as_it_is _) (λ n.
      more_bind (many n.0 (term_field count) n.1) _ _ _ (more_many (term_field count) (term_field count') more_term n.0 n.1) (λ ts.
      more_bind (groups count g ts.1) _ _ _ (more_groups g ts.1) (λ gs. as_it_is _)))

  more_quantifier : (make : ℕ → List (List ℕ) → Node) (fs : List Field) → More (quantifier make count fs) (quantifier make count' fs)
  unfolding quantifier
  more_quantifier make fs =
      more_bind (next (term_field count) fs) _ _ _ (next_term fs) (λ body.
      more_bind (next (number_field 65535) body.1) _ _ _ (as_it_is _) (λ g.
      more_bind (groups count g.0 g.1) _ _ _ (more_groups g.0 g.1) (λ gs. as_it_is _)))

  -- the fields after the kind
  more_content : (k : LineKind) (g : Bool) (fs : List Field) → More (content k g count fs) (content k g count' fs)
  unfolding content
  more_content kind.Ask g fs = as_it_is _
  more_content kind.Ask2 g fs = as_it_is _
  more_content kind.Also g fs = as_it_is _
  more_content kind.Hide g fs = as_it_is _
  more_content kind.Free g fs = as_it_is _
  more_content kind.Leaf g fs = as_it_is _
  more_content kind.Call g fs = more_bind (next name_field fs) _ _ _ (as_it_is _) (λ n. more_bind (rest (term_field count) n.1) _ _ _ (rest_terms n.1) (λ ts. as_it_is _))
  more_content kind.Op g fs =
      more_bind (next (λ f. need refusal.Form (word op_words f)) fs) _ _ _ (as_it_is _) (λ w. more_bind (rest (term_field count) w.1) _ _ _ (rest_terms w.1) (λ ts. as_it_is _))
  more_content kind.All g fs = more_quantifier _ fs
  more_content kind.Some g fs = more_quantifier _ fs
  more_content kind.Let g fs = more_bind (next (term_field count) fs) _ _ _ (next_term fs) (λ body. more_bind (rest (term_field count) body.1) _ _ _ (rest_terms body.1) (λ ts. as_it_is _))
  more_content kind.Label g fs = more_bind (next (term_field count) fs) _ _ _ (next_term fs) (λ t. as_it_is _)
  more_content kind.Assume g fs =
      more_bind (next name_field fs) _ _ _ (as_it_is _) (λ n. more_bind (next (number_field 1) n.1) _ _ _ (as_it_is _) (λ flag.
      more_bind (group_field g flag.1) _ _ _ (as_it_is _) (λ group. more_bind (next (term_field count) group.1) _ _ _ (next_term group.1) (λ t. as_it_is _))))
  more_content kind.Fun g fs = as_it_is _
  more_content kind.Def g fs = more_bind (next name_field fs) _ _ _ (as_it_is _) (λ n. more_bind (next (term_field count) n.1) _ _ _ (next_term n.1) (λ t. as_it_is _))
  more_content kind.Retain g fs = as_it_is _
  more_content kind.Root g fs =
      more_bind (next (number_field most_query) fs) _ _ _ (as_it_is _) (λ q. more_bind (next name_field q.1) _ _ _ (as_it_is _) (λ n.
      more_bind (next (term_field count) n.1) _ _ _ (next_term n.1) (λ t. as_it_is _)))

-- what the fields of a line say, wherever the line stands in a file of this form, after so many term lines
unfoldable pub bare_parse : Bool → ℕ → List Field → Result Content
bare_parse g count all = do
  (k, fs) ← next (λ f. need refusal.Form (word kinds f)) all
  content k g count fs

-- they say the same after more term lines
pub bare_more : (g : Bool) (count count' : ℕ) → count ≤ count' → (fs : List Field) → More (bare_parse g count fs) (bare_parse g count' fs)
unfolding bare_parse
bare_more g count count' h fs = more_bind (next (λ f. need refusal.Form (word kinds f)) fs) _ _ _ (as_it_is _) (λ p. more_content count count' h p.0 g p.1)

-- a line that is read says it
pub bare_of : (s : State) (fs : List Field) {c : Content} → parse s fs ≡ ok c → bare_parse s.grouped (length s.terms) fs ≡ ok c
bare_of s fs {c} e = let p = parse_ok s fs e in of_kind s.grouped (length s.terms) p.kind_word p.others fs p.split p.known p.says
  where
    of_kind : (g : Bool) (count : ℕ) (f : Field) (others all : List Field) {k : LineKind} → all ≡ f ∷ others → word kinds f ≡ some k
        → content k g count others ≡ ok c → bare_parse g count all ≡ ok c
    of_kind g count f others all split known says = unfold bare_parse next need in (rw (split, known) says)

-- the other table has these terms, and others after them
pub record Grown (terms terms' : List Term) : Type 0 where
  pub others : List Term
  pub is : terms' ≡ terms ++ others

pub grown_length : {terms terms' : List Term} → Grown terms terms' → length terms ≤ length terms'
grown_length {terms} {terms'} g = omega (arith, ap length g.is, length-append terms g.others)

pub grown_self : (terms : List Term) → Grown terms terms
grown_self terms = record { others = []; is = sym (append-nil terms) }

pub grown_trans : {k l m : List Term} → Grown k l → Grown l m → Grown k m
grown_trans {k} g h = record { others = g.others ++ h.others; is = h.is ∙ ap (◌++ h.others) g.is ∙ append_assoc k g.others h.others }

-- with term lines more
pub grown_nodes : (terms : List Term) (ns : List Node) → Grown terms (fold_left add_term terms ns)
unfolding fold_left add_term
grown_nodes terms [] = grown_self terms
grown_nodes terms (node ∷ ns) = grown_trans (record { others = _; is = refl }) (grown_nodes (add_term terms node) ns)

module _ (terms terms' : List Term) (lower : Lower terms) (g : Grown terms terms') where
  -- its terms stand there under their numbers
  grown_carried : Carried (λ t. t) (◌< length terms) terms terms'
  grown_carried = carried_below (length terms) terms terms' lower same_term
    where
      same_term : (t : ℕ) → t < length terms → term_of terms' t ≡ term_of terms t
      same_term t h = unfold term_of in (rw g.is (get_or-append terms g.others _ t h))

  -- a record that names terms of the table is summarized as it was
  module _ (out : List Name) (n : ℕ) where
    pub decls_grown : (c : Content) → Below (length terms) (terms_named c) → summarize_decl out terms n c ≡ summarize_decl out terms' n c
    unfolding summarize_decl summarize_assumption terms_named
    decls_grown (head h) b = refl
    decls_grown (term node) b = refl
    decls_grown (assume name flag group t) b =
        let free = free_same (λ t. t) (◌< length terms) grown_carried out in
        let h = b t (Memᴰ.head refl) in
        rw (kind_carried (λ t. t) (◌< length terms) grown_carried out out free name t h, free t h)
    decls_grown (fun name) b = refl
    decls_grown (def name t) b = rw (free_same (λ t. t) (◌< length terms) grown_carried out t (b t (Memᴰ.head refl)))
    decls_grown (retain names) b = refl
    decls_grown (root q name t) b = refl

    pub roots_grown : (c : Content) → Below (length terms) (terms_named c) → root_of out terms n c ≡ root_of out terms' n c
    unfolding root_of terms_named
    roots_grown (head h) b = refl
    roots_grown (term node) b = refl
    roots_grown (assume name flag group t) b = refl
    roots_grown (fun name) b = refl
    roots_grown (def name t) b = refl
    roots_grown (retain names) b = refl
    roots_grown (root q name t) b = rw (free_same (λ t. t) (◌< length terms) grown_carried out t (b t (Memᴰ.head refl)))
