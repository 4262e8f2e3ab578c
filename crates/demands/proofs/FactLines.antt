-- The facts of a file are those of its assume lines: the flag and the group of each are those of its line.
use Prim.Native.Nat.{ℕ, ◌+◌}
use mathlib.Core.Path.{◌≡◌, refl, sym, ◌∙◌, ap, subst}
use mathlib.Core.Bool.{Bool, true, false, cond, not, ◌||◌, beq, or-false}
use mathlib.Core.List.{List, [], ◌∷◌, ◌++◌, map, map-map, map-append, append-nil, append_assoc}
use lib.Dec.{T, eqb}
use lib.ListN.{length, get_or}
use Rattle.model.specs.Lists.{any, keep, is_nil}
use Rattle.model.specs.Names.{Name, bytes, by_byte, order, is_same, same}
use Rattle.model.specs.Lines.{Line, Field, fields}
use Rattle.model.specs.Terms.{Node, Term}
use Rattle.model.specs.Summaries.{exclude_names, Fact, summarize_assumption}
use Rattle.model.specs.Reading.{ok, need, name_field, number_field, term_field, op_words, word, next, rest, groups, quantifier, Head, Content, head, term, assume, fun, def, retain, root}
use Rattle.model.specs.Reading.{most_query, most_options, most_group, most_groups, group_field, content, State, start, read, in_asks, of_form, may_stand, parse, summarize_decl, excluded, add_line, read_line, read_lines}
use Rattle.model.specs.Rounds.{facts}
use Rattle.model.specs.declared.LineKind.{LineKind}
use Rattle.model.specs.declared.LineKind.TheVariants as kind
use Rattle.model.specs.declared.Refusal.TheVariants as refusal
use Rattle.model.proofs.ListLaws.{T_and}
use Rattle.laws.proofs.Records.{facts_append}
use Rattle.laws.proofs.ReadingLaws.{parse_ok, line_read, lines_read, none_read}
use Rattle.demands.specs.LineForm.{value}
use Rattle.demands.specs.Counts.{ask_words, grouped_words, also_words, hide_words, is_word, begins}
use Rattle.demands.specs.Groups.{assume_words, flag_on, group_on, FlagsExact, GroupsExact}
use Rattle.demands.proofs.TermNumbers.{Gives, value as gives_value, any_value, given, gives_bind, gives_end}
use Rattle.demands.proofs.LineFields.{gives_field, gives_ended, gives_number, kind_word, word_exact, place_by, place_of, line_stands, HeadBy, one_ask, one_ask2, one_also, one_hide, no_head}
use Rattle.demands.proofs.Heads.{Headed, headed_line}
use Rattle.demands.proofs.Asks.{asked_now, one_word}

-- ---- what a line says of a fact

-- the flag and the group that it says
unfoldable assumed : Content → List (Bool × ℕ)
assumed (head h) = []
assumed (term node) = []
assumed (assume name flag group t) = (flag, group) ∷ []
assumed (fun name) = []
assumed (def name t) = []
assumed (retain names) = []
assumed (root q name t) = []

-- those of its fields, by whether it is an assume line and by the form of the file
unfoldable assumed_by : Bool → Bool → Field → Field → List (Bool × ℕ)
assumed_by true form second third = (eqb (value second) 1, cond form (value third) 0) ∷ []
assumed_by false form second third = []

-- an assume line, of either form
assume_says : (form : Bool) (count : ℕ) (fs : List Field) → Gives (λ c. assumed c ≡ assumed_by true form (get_or fs 1 []) (get_or fs 2 [])) (content kind.Assume form count fs)
unfolding content group_field assumed assumed_by
assume_says false count =
    gives_field (λ fs c. assumed c ≡ assumed_by true false (get_or fs 1 []) (get_or fs 2 [])) (λ f. any_value (name_field f)) _ (λ f name u.
    gives_field (λ fs c. assumed c ≡ assumed_by true false (get_or fs 0 []) (get_or fs 1 [])) (gives_number 1) _ (λ g flag v.
    gives_field (λ fs c. assumed c ≡ assumed_by true false g (get_or fs 0 [])) (λ h. any_value (term_field count h)) _ (λ h t w.
    gives_ended (λ fs c. assumed c ≡ assumed_by true false g h) (assume name (eqb flag 1) 0 t) (rw v))))
assume_says true count =
    gives_field (λ fs c. assumed c ≡ assumed_by true true (get_or fs 1 []) (get_or fs 2 [])) (λ f. any_value (name_field f)) _ (λ f name u.
    gives_field (λ fs c. assumed c ≡ assumed_by true true (get_or fs 0 []) (get_or fs 1 [])) (gives_number 1) _ (λ g flag v.
    gives_field (λ fs c. assumed c ≡ assumed_by true true g (get_or fs 0 [])) (gives_number most_group) _ (λ h group w.
    gives_field (λ fs c. assumed c ≡ assumed_by true true g h) (λ k. any_value (term_field count k)) _ (λ k t x.
    gives_ended (λ fs c. assumed c ≡ assumed_by true true g h) (assume name (eqb flag 1) group t) (rw (v, w))))))

-- an `all` or a `some`
quantifier_says : (make : ℕ → List (List ℕ) → Node) (count : ℕ) (fs : List Field) → Gives (λ c. assumed c ≡ []) (quantifier make count fs)
unfolding quantifier assumed
quantifier_says make count fs =
    gives_bind (any_value (next (term_field count) fs)) (λ body u. gives_bind (any_value (next (number_field 65535) body.1)) (λ g v.
    gives_bind (any_value (groups count g.0 g.1)) (λ gs w. gives_end _ refl gs.1)))

-- a line of each kind
kind_says : (k : LineKind) (form : Bool) (count : ℕ) (fs : List Field)
    → Gives (λ c. assumed c ≡ assumed_by (is_word assume_words (bytes (kind_word k))) form (get_or fs 1 []) (get_or fs 2 [])) (content k form count fs)
unfolding kind_word is_word assume_words any same order by_byte is_same bytes content assumed assumed_by
kind_says kind.Ask form count fs =
    gives_bind (any_value (next (number_field most_query) fs)) (λ q u. gives_bind (any_value (next (number_field most_options) q.1)) (λ o v. gives_end _ refl o.1))
kind_says kind.Ask2 form count fs =
    gives_bind (any_value (next (number_field most_query) fs)) (λ q u. gives_bind (any_value (next (number_field most_options) q.1)) (λ o v.
    gives_bind (any_value (next (number_field most_groups) o.1)) (λ g w. gives_end _ refl g.1)))
kind_says kind.Also form count fs = gives_bind (any_value (next (number_field most_query) fs)) (λ q u. gives_end _ refl q.1)
kind_says kind.Hide form count fs = gives_bind (any_value (next name_field fs)) (λ n u. gives_end _ refl n.1)
kind_says kind.Free form count fs = gives_bind (any_value (next name_field fs)) (λ n u. gives_end _ refl n.1)
kind_says kind.Leaf form count fs = gives_end _ refl fs
kind_says kind.Call form count fs =
    gives_bind (any_value (next name_field fs)) (λ n u. gives_bind (any_value (rest (term_field count) n.1)) (λ ts v. gives_value refl))
kind_says kind.Op form count fs =
    gives_bind (any_value (next (λ f. need refusal.Form (word op_words f)) fs)) (λ w u. gives_bind (any_value (rest (term_field count) w.1)) (λ ts v. gives_value refl))
kind_says kind.All form count fs = quantifier_says _ count fs
kind_says kind.Some form count fs = quantifier_says _ count fs
kind_says kind.Let form count fs =
    gives_bind (any_value (next (term_field count) fs)) (λ body u. gives_bind (any_value (rest (term_field count) body.1)) (λ ts v. gives_value refl))
kind_says kind.Label form count fs = gives_bind (any_value (next (term_field count) fs)) (λ u v. gives_end _ refl u.1)
kind_says kind.Assume form count fs = assume_says form count fs
kind_says kind.Fun form count fs = gives_bind (any_value (next name_field fs)) (λ n u. gives_end _ refl n.1)
kind_says kind.Def form count fs =
    gives_bind (any_value (next name_field fs)) (λ n u. gives_bind (any_value (next (term_field count) n.1)) (λ v w. gives_end _ refl v.1))
kind_says kind.Retain form count fs = gives_bind (any_value (rest name_field fs)) (λ ns u. gives_value refl)
kind_says kind.Root form count fs =
    gives_bind (any_value (next (number_field most_query) fs)) (λ q u.
    gives_bind (any_value (next name_field q.1)) (λ n v. gives_bind (any_value (next (term_field count) n.1)) (λ x y. gives_end _ refl x.1)))

-- an accepted line
line_says : (s : State) (fs : List Field) {c : Content} → parse s fs ≡ ok c
    → assumed c ≡ assumed_by (is_word assume_words (get_or fs 0 [])) s.grouped (get_or fs 2 []) (get_or fs 3 [])
line_says s fs e =
    let p = parse_ok s fs e in
    let is = word_exact p.kind_word p.known in
    rw (p.split, is) (given (kind_says p.kind s.grouped (length s.terms) p.others) p.says)

-- ---- the form of a file

-- behind an ask the form stays
form_stays : {b d g c : Bool} {first second third : Field} {s s' : State} → Headed b d g c first second third s s' → T (not (is_nil s.asks)) → s'.grouped ≡ s.grouped
form_stays {first} {second} {third} {s} h behind = h.form ∙ go h.headed h.stands
  where
    already : (none form : Bool) → T (not none) → T (none || beq true form) → (form || true) ≡ form
    already true form t u = absurd t
    already false true t u = refl
    already false false t u = absurd u

    go : {b d g c : Bool} {l : List Head} → HeadBy first second third b d g c l → T (may_stand s (place_by b d g c)) → (s.grouped || g) ≡ s.grouped
    go (one_ask low few) t = or-false s.grouped
    go (one_ask2 low few all) t = already (is_nil s.asks) s.grouped behind ((T_and (in_asks s) (is_nil s.asks || beq true s.grouped)).0 (unfold may_stand place_by of_form in t)).1
    go (one_also low) t = or-false s.grouped
    go one_hide t = or-false s.grouped
    go no_head t = or-false s.grouped

-- so it does over lines
form_kept : (exclude : List Name) (ls : List Line) (n : ℕ) (s t : State) → read_lines exclude n s ls ≡ read t → T (not (is_nil s.asks)) → t.grouped ≡ s.grouped
form_kept exclude [] n s t e behind = ap (λ (x : State). x.grouped) (sym (none_read exclude n s t e))
form_kept exclude (line ∷ ls) n s t e behind =
    let (u, r, others) = lines_read exclude n s line ls t e in
    let h = headed_line exclude n s u line r in
    form_kept exclude ls (n + 1) u t others (asked_now h) ∙ form_stays h behind

-- an assume line stands behind an ask
assume_behind : (s : State) (f : Field) → T (is_word assume_words f) → T (may_stand s (place_of f)) → T (not (is_nil s.asks))
unfolding assume_words is_word ask_words also_words grouped_words hide_words any same order by_byte is_same bytes place_by may_stand
assume_behind s f t u = subst (λ w. T (may_stand s (place_of w))) ((one_word "assume" f).0 t) u

-- ---- the facts of lines

-- the flag and the group of a fact, and of an assume line
abbrev marks : Fact → Bool × ℕ
marks f = (f.pretyping, f.group)

abbrev marks_on : Bool → Line → Bool × ℕ
marks_on grouped line = (flag_on line, group_on grouped line)

-- those of the facts of a line are those that it says
facts_marked : (out : List Name) (terms : List Term) (n : ℕ) (c : Content) → map marks (facts (summarize_decl out terms n c)) ≡ assumed c
unfolding facts summarize_decl summarize_assumption assumed
facts_marked out terms n (head h) = refl
facts_marked out terms n (term node) = refl
facts_marked out terms n (assume name flag group t) = refl
facts_marked out terms n (fun name) = refl
facts_marked out terms n (def name t) = refl
facts_marked out terms n (retain names) = refl
facts_marked out terms n (root q name t) = refl

module _ (exclude : List Name) where
  -- the facts that a line adds
  facts_now : (n : ℕ) (s u : State) (line : Line) → read_line exclude n s line ≡ ok u
      → map marks (facts u.decls)
      ≡ map marks (facts s.decls) ++ assumed_by (begins assume_words line) s.grouped (get_or (fields line.bytes) 2 []) (get_or (fields line.bytes) 3 [])
  unfolding add_line begins
  facts_now n s u line r =
      let l = line_read exclude n s line u r in
      let more = summarize_decl (excluded exclude s) s.terms n l.content in
      ap (λ (x : State). map marks (facts x.decls)) l.after
      ∙ ap (map marks) (facts_append s.decls more)
      ∙ map-append marks (facts s.decls) (facts more)
      ∙ ap (map marks (facts s.decls) ++◌) (facts_marked (excluded exclude s) s.terms n l.content ∙ line_says s (fields line.bytes) l.parsed)

  -- the form at an assume line is that of the file
  form_at : (line : Line) (ls : List Line) (n : ℕ) (s t : State) → read_lines exclude n s (line ∷ ls) ≡ read t → T (begins assume_words line) → t.grouped ≡ s.grouped
  unfolding begins
  form_at line ls n s t e is =
      let (u, r, others) = lines_read exclude n s line ls t e in
      form_kept exclude (line ∷ ls) n s t e (assume_behind s (get_or (fields line.bytes) 0 []) is (line_stands s (fields line.bytes) (line_read exclude n s line u r).parsed))

  -- the facts that lines add are those of the assume lines among them
  facts_of_lines : (ls : List Line) (n : ℕ) (s t : State) → read_lines exclude n s ls ≡ read t
      → map marks (facts t.decls) ≡ map marks (facts s.decls) ++ map (marks_on t.grouped) (keep (begins assume_words) ls)
  unfolding keep
  facts_of_lines [] n s t e = ap (λ (x : State). map marks (facts x.decls)) (sym (none_read exclude n s t e)) ∙ sym (append-nil (map marks (facts s.decls)))
  facts_of_lines (line ∷ ls) n s t e =
      let (u, r, others) = lines_read exclude n s line ls t e in
      facts_of_lines ls (n + 1) u t others ∙ ap (◌++ later) (facts_now n s u line r)
      ∙ append_assoc (map marks (facts s.decls)) _ later ∙ ap (map marks (facts s.decls) ++◌) (go (begins assume_words line) (form_at line ls n s t e))
    where
      later : List (Bool × ℕ)
      later = map (marks_on t.grouped) (keep (begins assume_words) ls)

      go : (b : Bool) → (T b → t.grouped ≡ s.grouped)
          → assumed_by b s.grouped (get_or (fields line.bytes) 2 []) (get_or (fields line.bytes) 3 []) ++ later
          ≡ map (marks_on t.grouped) (cond b (line ∷ keep (begins assume_words) ls) (keep (begins assume_words) ls))
      go true same = unfold assumed_by flag_on group_on in
          ap (λ form. (eqb (value (get_or (fields line.bytes) 2 [])) 1, cond form (value (get_or (fields line.bytes) 3 [])) 0) ∷ later) (sym (same tt))
      go false same = unfold assumed_by in refl

-- the facts of lines that are read
marks_exact : (ls : List Line) (s : State) → read_lines exclude_names 1 start ls ≡ read s
    → map marks (facts s.decls) ≡ map (marks_on s.grouped) (keep (begins assume_words) ls)
unfolding start facts
marks_exact ls s e = facts_of_lines exclude_names ls 1 start s e

-- one of the two
pub groups_exact : GroupsExact
groups_exact ls s e =
    let assumes = keep (begins assume_words) ls in
    sym (map-map (λ (p : Bool × ℕ). p.1) marks (facts s.decls)) ∙ ap (map (λ (p : Bool × ℕ). p.1)) (marks_exact ls s e)
    ∙ map-map (λ (p : Bool × ℕ). p.1) (marks_on s.grouped) assumes

pub flags_exact : FlagsExact
flags_exact ls s e =
    let assumes = keep (begins assume_words) ls in
    sym (map-map (λ (p : Bool × ℕ). p.0) marks (facts s.decls)) ∙ ap (map (λ (p : Bool × ℕ). p.0)) (marks_exact ls s e)
    ∙ map-map (λ (p : Bool × ℕ). p.0) (marks_on s.grouped) assumes
