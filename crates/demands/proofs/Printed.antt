-- The name that is printed of a line is that of its record.
use Prim.Native.Nat.{ℕ, suc}
use native.Mathlib.Numerals.{add-one}
use mathlib.Core.Path.{◌≡◌, refl, sym, ◌∙◌, ap}
use mathlib.Core.Bool.{Bool, true, false, cond}
use mathlib.Core.List.Memᴰ
use mathlib.Core.List.{List, [], ◌∷◌, Memᴰ}
use lib.ListN.{length, drop, get_or}
use lib.Seq.{drop_at}
use Rattle.model.specs.Lists.{collect}
use Rattle.model.specs.Names.{Name}
use Rattle.model.specs.Lines.{lines, Field, fields, is_name}
use Rattle.model.specs.Terms.{Term}
use Rattle.model.specs.Summaries.{exclude_names, Fact, summarize_assumption}
use Rattle.model.specs.Reading.{ok, refused, name_field, number_field, term_field, op_words, word, need, next, rest, groups, Content, head, term, assume, fun, def, retain, root, quantifier, group_field, content, Decl, excluded}
use Rattle.model.specs.Text.{first_bytes, second, name_on}
use Rattle.model.specs.declared.LineKind.{LineKind}
use Rattle.model.specs.declared.LineKind.TheVariants as kind
use Rattle.model.specs.declared.Refusal.TheVariants as refusal
use Rattle.model.proofs.ListLaws.{collect_elim}
use Rattle.demands.specs.FileOrder.{Said, of_record, from_line, fact_said, definition_said, declaration_said}
use Rattle.demands.specs.Printed.{PrintedNames}
use Rattle.laws.proofs.ReadingLaws.{parse_ok}
use Rattle.demands.proofs.TermNumbers.{Gives, value, no_value, any_value, given, gives_bind, gives_end}
use Rattle.demands.proofs.FileOrder.{file_order}

-- the name of the assume, fun or def that a line is
abbrev named : Content → List Name
named = of_record (λ name flag group t. name ∷ []) (λ name. name ∷ []) (λ name t. name ∷ []) (λ q name t. [])

-- such a name is the first of these fields
abbrev NamedFirst : List Field → Content → Type 0
NamedFirst fs c = (name : Name) → Memᴰ name (named c) → get_or fs 0 [] ≡ name

-- a line that is none of the three has none
no_name : {field : Field} (name : Name) → Memᴰ name [] → field ≡ name
no_name name i = absurd (Memᴰ.not-nil i)

-- a field that is a name is the name
own_name : (f : Field) → Gives (f ≡◌) (name_field f)
unfolding name_field
own_name f = go (is_name f)
  where
    go : (b : Bool) → Gives (f ≡◌) (cond b (ok f) (refused refusal.Name))
    go true = value refl
    go false = no_value

-- the next field, if it is a name, is the first
first_name : (fs : List Field) → Gives (λ p. get_or fs 0 [] ≡ p.0) (next name_field fs)
unfolding next
first_name [] = no_value
first_name (f ∷ fs) = gives_bind (own_name f) (λ a h. value h)

-- an `all` or a `some`
no_name_quantified : (make : ℕ → List (List ℕ) → _) (count : ℕ) (fs : List Field) → Gives (NamedFirst fs) (quantifier make count fs)
unfolding quantifier
no_name_quantified make count fs =
    gives_bind (any_value (next (term_field count) fs)) (λ body u.
    gives_bind (any_value (next (number_field 65535) body.1)) (λ g v.
    gives_bind (any_value (groups count g.0 g.1)) (λ gs w. gives_end _ no_name gs.1)))

-- the fields after a line's kind begin with its name
name_first : (k : LineKind) (grouped : Bool) (count : ℕ) (fs : List Field) → Gives (NamedFirst fs) (content k grouped count fs)
unfolding content
name_first kind.Ask grouped count fs =
    gives_bind (any_value (next (number_field 255) fs)) (λ q u.
    gives_bind (any_value (next (number_field 15) q.1)) (λ o v. gives_end _ no_name o.1))
name_first kind.Ask2 grouped count fs =
    gives_bind (any_value (next (number_field 255) fs)) (λ q u.
    gives_bind (any_value (next (number_field 15) q.1)) (λ o v.
    gives_bind (any_value (next (number_field 65535) o.1)) (λ a w. gives_end _ no_name a.1)))
name_first kind.Also grouped count fs = gives_bind (any_value (next (number_field 255) fs)) (λ q u. gives_end _ no_name q.1)
name_first kind.Hide grouped count fs = gives_bind (any_value (next name_field fs)) (λ n u. gives_end _ no_name n.1)
name_first kind.Free grouped count fs = gives_bind (any_value (next name_field fs)) (λ n u. gives_end _ no_name n.1)
name_first kind.Leaf grouped count fs = gives_end _ no_name fs
name_first kind.Call grouped count fs =
    gives_bind (any_value (next name_field fs)) (λ n u. gives_bind (any_value (rest (term_field count) n.1)) (λ ts v. value no_name))
name_first kind.Op grouped count fs =
    gives_bind (any_value (next (λ f. need refusal.Form (word op_words f)) fs)) (λ w u.
    gives_bind (any_value (rest (term_field count) w.1)) (λ ts v. value no_name))
name_first kind.All grouped count fs = no_name_quantified _ count fs
name_first kind.Some grouped count fs = no_name_quantified _ count fs
name_first kind.Let grouped count fs =
    gives_bind (any_value (next (term_field count) fs)) (λ body u.
    gives_bind (any_value (rest (term_field count) body.1)) (λ ts v. value no_name))
name_first kind.Label grouped count fs = gives_bind (any_value (next (term_field count) fs)) (λ t u. gives_end _ no_name t.1)
name_first kind.Assume grouped count fs =
    gives_bind (first_name fs) (λ n h.
    gives_bind (any_value (next (number_field 1) n.1)) (λ flag u.
    gives_bind (any_value (group_field grouped flag.1)) (λ g v.
    gives_bind (any_value (next (term_field count) g.1)) (λ t w. gives_end _ (λ name i. h ∙ sym (Memᴰ.eq_of_singleton i)) t.1))))
name_first kind.Fun grouped count fs = gives_bind (first_name fs) (λ n h. gives_end _ (λ name i. h ∙ sym (Memᴰ.eq_of_singleton i)) n.1)
name_first kind.Def grouped count fs =
    gives_bind (first_name fs) (λ n h.
    gives_bind (any_value (next (term_field count) n.1)) (λ t u. gives_end _ (λ name i. h ∙ sym (Memᴰ.eq_of_singleton i)) t.1))
name_first kind.Retain grouped count fs = gives_bind (any_value (rest name_field fs)) (λ ns u. value no_name)
name_first kind.Root grouped count fs =
    gives_bind (any_value (next (number_field 255) fs)) (λ q u.
    gives_bind (any_value (next name_field q.1)) (λ n v.
    gives_bind (any_value (next (term_field count) n.1)) (λ t w. gives_end _ no_name t.1)))

-- the second of some fields is the first after the first
second_first : (f : Field) (fs : List Field) → second (f ∷ fs) ≡ get_or fs 0 []
unfolding second
second_first f [] = refl
second_first f (g ∷ gs) = refl

-- the name on a line of a file that says something is the name of its record
said_name : {file : List ℕ} (l : Said file) (name : Name) → Memᴰ name (named l.content) → name_on file l.place ≡ name
unfolding name_on first_bytes
said_name {file} l name i =
    let r = l.line in
    let p = parse_ok r.state (fields r.line.bytes) l.says.parsed in
    let place : l.place ≡ suc (length r.before) = r.place ∙ add-one (length r.before) in
    let here : drop (length r.before) (lines file) ≡ r.line ∷ r.after =
    ap (drop (length r.before)) r.is_line ∙ drop_at r.before (r.line ∷ r.after) (length r.before) refl in
    rw (place, here, p.split, second_first p.kind_word p.others)
    (given (name_first p.kind r.state.grouped (length r.state.terms) p.others) p.says name i)

-- an assume, fun or def line of a file that gives a record: its name is the one on its line
module _ {X : Type 0} (Line_of : X → ℕ) (name_of : X → Name) (said : List Name → List Term → ℕ → Content → List X)
    (gives : (exclude : List Name) (terms : List Term) (n : ℕ) (c : Content) (x : X) → Memᴰ x (said exclude terms n c)
    → (Line_of x ≡ n) × Memᴰ (name_of x) (named c)) where
  records_named : {file : List ℕ} (exclude : List Name) (ls : List (Said file)) (x : X) → Memᴰ x (collect (from_line exclude said) ls)
      → name_on file (Line_of x) ≡ name_of x
  records_named exclude ls x i =
      let (l, j, k) = collect_elim (from_line exclude said) ls i in
      let (line, name) = gives exclude l.line.state.terms l.place l.content x k in
      rw line (said_name l (name_of x) name)

-- the fact of an assume line
fact_named : (exclude : List Name) (terms : List Term) (n : ℕ) (c : Content) (f : Fact) → Memᴰ f (fact_said exclude terms n c)
    → (f.line ≡ n) × Memᴰ f.name (named c)
unfolding summarize_assumption
fact_named exclude terms n (head h) f i = absurd (Memᴰ.not-nil i)
fact_named exclude terms n (term node) f i = absurd (Memᴰ.not-nil i)
fact_named exclude terms n (assume name flag group t) f i =
    (ap (λ x. x.line) (Memᴰ.eq_of_singleton i), Memᴰ.head (ap (λ x. x.name) (Memᴰ.eq_of_singleton i)))
fact_named exclude terms n (fun name) f i = absurd (Memᴰ.not-nil i)
fact_named exclude terms n (def name t) f i = absurd (Memᴰ.not-nil i)
fact_named exclude terms n (retain names) f i = absurd (Memᴰ.not-nil i)
fact_named exclude terms n (root q name t) f i = absurd (Memᴰ.not-nil i)

-- the definition of a def line
definition_named : (exclude : List Name) (terms : List Term) (n : ℕ) (c : Content) (d : Decl) → Memᴰ d (definition_said exclude terms n c)
    → (d.line ≡ n) × Memᴰ d.name (named c)
definition_named exclude terms n (head h) d i = absurd (Memᴰ.not-nil i)
definition_named exclude terms n (term node) d i = absurd (Memᴰ.not-nil i)
definition_named exclude terms n (assume name flag group t) d i = absurd (Memᴰ.not-nil i)
definition_named exclude terms n (fun name) d i = absurd (Memᴰ.not-nil i)
definition_named exclude terms n (def name t) d i =
    (ap (λ x. x.line) (Memᴰ.eq_of_singleton i), Memᴰ.head (ap (λ x. x.name) (Memᴰ.eq_of_singleton i)))
definition_named exclude terms n (retain names) d i = absurd (Memᴰ.not-nil i)
definition_named exclude terms n (root q name t) d i = absurd (Memᴰ.not-nil i)

-- the declaration of a fun line
declaration_named : (exclude : List Name) (terms : List Term) (n : ℕ) (c : Content) (d : Decl) → Memᴰ d (declaration_said exclude terms n c)
    → (d.line ≡ n) × Memᴰ d.name (named c)
declaration_named exclude terms n (head h) d i = absurd (Memᴰ.not-nil i)
declaration_named exclude terms n (term node) d i = absurd (Memᴰ.not-nil i)
declaration_named exclude terms n (assume name flag group t) d i = absurd (Memᴰ.not-nil i)
declaration_named exclude terms n (fun name) d i =
    (ap (λ x. x.line) (Memᴰ.eq_of_singleton i), Memᴰ.head (ap (λ x. x.name) (Memᴰ.eq_of_singleton i)))
declaration_named exclude terms n (def name t) d i = absurd (Memᴰ.not-nil i)
declaration_named exclude terms n (retain names) d i = absurd (Memᴰ.not-nil i)
declaration_named exclude terms n (root q name t) d i = absurd (Memᴰ.not-nil i)

-- the name that is printed of a line is that of its record
pub printed_names : PrintedNames
printed_names file s e =
    let o = file_order file s e in
    record {
      of_fact = λ f i.
          records_named (λ f. f.line) (λ f. f.name) fact_said fact_named (excluded exclude_names s) o.said f (rw o.facts_said at i);
      of_definition = λ d i.
          records_named (λ d. d.line) (λ d. d.name) definition_said definition_named (excluded exclude_names s) o.said d (rw o.definitions_said at i);
      of_declaration = λ d i.
          records_named (λ d. d.line) (λ d. d.name) declaration_said declaration_named (excluded exclude_names s) o.said d (rw o.declarations_said at i);
    }
