-- Laws of each kind of term line but the quantifiers: what its fields say, its name and its references.
use Prim.Native.Nat.{ℕ, suc, ◌+◌, ◌%◌, ◌≤◌, ◌<◌}
use native.Mathlib.Omega.{arith}
use Rattle.std.specs.Prelude.{⊤}
use mathlib.Core.Path.{◌≡◌, refl, sym, ap, ap₂, ◌∙◌}
use mathlib.Core.Bool.{Bool}
use mathlib.Core.List.{List, [], ◌∷◌, Memᴰ}
use lib.ListN.{length, drop, get_or, length-map}
use Rattle.model.specs.Lists.{fold_left, part}
use Rattle.model.specs.Names.{Name}
use Rattle.model.specs.Lines.{Field}
use Rattle.model.specs.Summaries.{op_number}
use Rattle.model.specs.Terms.{Node, free_v, leaf, call, app, let_in, labeled, references}
use Rattle.model.specs.Reading.{Result, ok, refused, ◌>>=◌, need, word, op_words, next, rest, end, name_field, term_field, term, content, spelled_by}
use Rattle.model.specs.declared.Counts.{Counts}
use Rattle.model.specs.declared.LineKind.{LineKind}
use Rattle.model.specs.declared.LineKind.TheVariants as kind
use Rattle.model.specs.declared.Op.{Op}
use Rattle.model.specs.declared.Op.TheVariants as op
use Rattle.model.specs.declared.Refusal.{Refusal}
use Rattle.model.specs.declared.Refusal.TheVariants as refusal
use Rattle.model.proofs.PartLaws.{part_cons, part_drop}
use Rattle.text.specs.declared.Cursor.{Cursor}
use Rattle.text.specs.Parts.{fields_left}
use Rattle.text.proofs.Laws.{left_none}
use Rattle.names.specs.Table.{table_names}
use Rattle.terms.specs.Rows.{terms_of_words, op_of_code}
use Rattle.fields.specs.Wording.{op_field}
use Rattle.fields.specs.Pushing.{reference}
use Rattle.fields.specs.Spelling.{in_table, SpelledAs}
use Rattle.nodes.specs.Growing.{WithinLimits, Stands}
use Rattle.fields.proofs.Pushing.{left_cons}
use Rattle.fields.proofs.Spelling.{NameRead, longer_same}
use Rattle.fields.proofs.Runs.{in_group, Ran, ran_none, ran_then, TermRan, RestRan}
use Rattle.nodes.proofs.Terms.{LineRead, line_words, line_long}

-- ---- words and their terms

-- the terms of the words of terms
pub terms_back : {count : ℕ} (ts : List ℕ) → ((t : ℕ) → Memᴰ t ts → t < count) → count ≤ 4096 → terms_of_words (in_group 0 ts) ≡ ts
unfolding terms_of_words
terms_back [] s h = refl
terms_back (t ∷ ts) s h =
    let l = s t (Memᴰ.head refl) in
    let m : (reference t 0) % 4096 ≡ t = omega arith in
    ap₂ ◌∷◌ m (terms_back ts (λ u k. s u (Memᴰ.tail k)) h)

-- ---- op words

-- an op word from its number
op_back : (w : Op) → op_of_code (op_number w) ≡ w
unfolding op_of_code op_number
op_back op.TrueOp = refl
op_back op.Iff = refl
op_back op.Eq = refl
op_back op.And = refl
op_back op.Other = refl

-- its number is a code
op_small : (w : Op) → op_number w < 5
unfolding op_number
op_small op.TrueOp = omega arith
op_small op.Iff = omega arith
op_small op.Eq = omega arith
op_small op.And = omega arith
op_small op.Other = omega arith

-- the number of an op word is a code of it
pub op_code : {n : ℕ} (w : Op) → n ≡ op_number w → (n < 5) × (op_of_code n ≡ w)
op_code w e = (rw e (op_small w), rw e (op_back w))

-- ---- what the fields of each kind say

-- no field may be left over
pub end_none : {A : Type 0} (a : A) (file : List ℕ) (c : Cursor) → c.end < c.at → end a (fields_left file c) ≡ ok a
unfolding end
end_none a file c h = rw (left_none file c h)

-- one is
pub end_more : {A : Type 0} (a : A) (file : List ℕ) (c : Cursor) → c.at ≤ c.end → end a (fields_left file c) ≡ refused refusal.Form
unfolding end
end_more a file c h = let (f, fs, e) = left_cons file c h in rw e

module _ (grouped : Bool) (count : ℕ) (fs : List Field) where
  -- a `free`, after its name
  pub free_said : {m : Name} {gs : List Field} → next name_field fs ≡ ok (m, gs) → content kind.Free grouped count fs ≡ end (term (free_v m)) gs
  unfolding content
  free_said e = rw e

  -- a `leaf`
  pub leaf_said : content kind.Leaf grouped count fs ≡ end (term leaf) fs
  unfolding content
  leaf_said = refl

  -- a `call`, after its name
  pub call_said : {m : Name} {gs : List Field} → next name_field fs ≡ ok (m, gs)
      → content kind.Call grouped count fs ≡ (rest (term_field count) gs >>= λ ts. ok (term (call m ts)))
  unfolding content
  call_said e = rw e

  -- an `op`, after its word
  pub op_said : {w : Op} {gs : List Field} → next op_field fs ≡ ok (w, gs)
      → content kind.Op grouped count fs ≡ (rest (term_field count) gs >>= λ ts. ok (term (app w ts)))
  unfolding content op_field
  op_said {w} {gs} e = let d : next (λ f. need refusal.Form (word op_words f)) fs ≡ ok (w, gs) = e in rw d

  -- a `let`, after its body
  pub let_said : {b : ℕ} {gs : List Field} → next (term_field count) fs ≡ ok (b, gs)
      → content kind.Let grouped count fs ≡ (rest (term_field count) gs >>= λ ts. ok (term (let_in b ts)))
  unfolding content
  let_said e = rw e

  -- a `label`, after its term
  pub label_said : {b : ℕ} {gs : List Field} → next (term_field count) fs ≡ ok (b, gs) → content kind.Label grouped count fs ≡ end (term (labeled b)) gs
  unfolding content
  label_said e = rw e

  module _ {x : Refusal} where
    -- a `free` or a `call` whose name is refused
    pub name_refused : next name_field fs ≡ refused x → (content kind.Free grouped count fs ≡ refused x) × (content kind.Call grouped count fs ≡ refused x)
    unfolding content
    name_refused e = (rw e, rw e)

    -- an `op` whose word is refused
    pub word_refused : next op_field fs ≡ refused x → content kind.Op grouped count fs ≡ refused x
    unfolding content op_field
    word_refused e = let d : next (λ f. need refusal.Form (word op_words f)) fs ≡ refused x = e in rw d

    -- a `let` or a `label` whose first term is refused
    pub body_refused : next (term_field count) fs ≡ refused x → (content kind.Let grouped count fs ≡ refused x) × (content kind.Label grouped count fs ≡ refused x)
    unfolding content
    body_refused e = (rw e, rw e)

-- ---- each kind, read

module _ {file names refs rows refs' : List ℕ} {k : Counts} {end : ℕ} {words : List ℕ} {kind : LineKind} {c : Cursor} {node : Node}
    (t : Stands file names refs rows k) (says : content kind k.grouped k.terms (fields_left file c) ≡ ok (term node))
    (ran : Ran k.terms refs refs' k.references end words) (count : length words ≡ length (references node)) where
  -- a line that spells no name
  pub plain_line : spelled_by node ≡ [] → LineRead file names refs names refs' k kind c k.names end node words
  unfolding fold_left
  plain_line e = record { says = says; naming = in_table t.name_table (rw e); longer = longer_same; ran = ran; count = count }

  -- a line that spells a name
  pub named_line : {names' : List ℕ} {named' n : ℕ} {m : Name} → SpelledAs file names names' k.names named' n m → spelled_by node ≡ m ∷ []
      → LineRead file names refs names' refs' k kind c named' end node words
  unfolding fold_left
  named_line s e = record {
    says = says;
    naming = rw e (s.naming (table_names file names k.names) (in_table t.name_table refl));
    longer = s.longer;
    ran = ran;
    count = count;
  }

module _ {file names refs rows : List ℕ} (k : Counts) (t : Stands file names refs rows k) (c : Cursor) where
  -- a `leaf`
  pub leaf_read : c.end < c.at → LineRead file names refs names refs k kind.Leaf c k.names k.references leaf []
  unfolding spelled_by references
  leaf_read h = plain_line t (leaf_said k.grouped k.terms (fields_left file c) ∙ end_none (term leaf) file c h) ran_none refl refl

  module _ {names' : List ℕ} {named' n : ℕ} {after : Cursor} (r : NameRead file names names' k.names named' n c after) where
    -- a `free`
    pub free_read : after.end < after.at → LineRead file names refs names' refs k kind.Free c named' k.references (free_v r.name) []
    unfolding spelled_by references
    free_read h = named_line t (free_said k.grouped k.terms (fields_left file c) r.said ∙ end_none (term (free_v r.name)) file after h) ran_none refl
        r.spelled refl

    -- a `call`
    pub call_read : {refs' : List ℕ} {end : ℕ} (b : RestRan k.terms refs refs' k.references end (fields_left file after))
        → LineRead file names refs names' refs' k kind.Call c named' end (call r.name b.terms) (in_group 0 b.terms)
    unfolding spelled_by references
    call_read b = named_line t (call_said k.grouped k.terms (fields_left file c) r.said ∙ rw b.said) b.ran (length-map b.terms (λ t. reference t 0))
        r.spelled refl

  -- an `op`
  pub op_line : {refs' : List ℕ} {end : ℕ} {w : Op} {gs : List Field} → next op_field (fields_left file c) ≡ ok (w, gs)
      → (b : RestRan k.terms refs refs' k.references end gs)
      → LineRead file names refs names refs' k kind.Op c k.names end (app w b.terms) (in_group 0 b.terms)
  unfolding spelled_by references
  op_line e b = plain_line t (op_said k.grouped k.terms (fields_left file c) e ∙ rw b.said) b.ran (length-map b.terms (λ t. reference t 0)) refl

  -- a `let`
  pub let_read : {refs₁ refs' : List ℕ} {one end : ℕ} {gs : List Field} (a : TermRan k.terms refs refs₁ k.references one (fields_left file c) gs)
      (b : RestRan k.terms refs₁ refs' one end gs)
      → LineRead file names refs names refs' k kind.Let c k.names end (let_in a.term b.terms) (reference a.term 0 ∷ in_group 0 b.terms)
  unfolding spelled_by references
  let_read a b =
      plain_line t (let_said k.grouped k.terms (fields_left file c) a.said ∙ rw b.said) (ran_then a.ran b.ran)
      (ap suc (length-map b.terms (λ t. reference t 0))) refl

  -- a `label`
  pub label_read : {refs' : List ℕ} {one : ℕ} {after : Cursor} (a : TermRan k.terms refs refs' k.references one (fields_left file c) (fields_left file after))
      → after.end < after.at
      → LineRead file names refs names refs' k kind.Label c k.names (k.references + 1) (labeled a.term) (reference a.term 0 ∷ [])
  unfolding spelled_by references
  label_read {after = after} a h =
      plain_line t (label_said k.grouped k.terms (fields_left file c) a.said ∙ end_none (term (labeled a.term)) file after h)
      (record { is = a.ran.is; ends = omega arith; small = a.ran.small }) refl refl

-- ---- its words behind the table

module _ {file names refs rows names' refs' : List ℕ} {k : Counts} {kind : LineKind} {c : Cursor} {named' end : ℕ} {node : Node}
    (t : Stands file names refs rows k) {r : Result ⊤} (d : WithinLimits named' end r) (e : r ≡ ok tt) where
  -- the terms of a line whose words are those of terms
  pub line_terms : {ts : List ℕ} → LineRead file names refs names' refs' k kind c named' end node (in_group 0 ts)
      → ((u : ℕ) → Memᴰ u ts → u < k.terms)
      → terms_of_words (part refs' k.references end) ≡ ts
  line_terms {ts} b s = ap terms_of_words (line_words t b d e) ∙ terms_back ts s t.term_table.few_rows

  module _ (body : ℕ) {words : List ℕ} (b : LineRead file names refs names' refs' k kind c named' end node (reference body 0 ∷ words)) where
    -- a line with a body
    pub line_bodied : k.references < end
    line_bodied = omega (arith, b.ran.ends)

    -- its body
    pub line_body : body < k.terms → get_or refs' k.references 0 % 4096 ≡ body
    line_body low =
        let few = t.term_table.few_rows in
        let q = ap (λ ws. get_or ws 0 0) (sym (part_cons refs' k.references end line_bodied (line_long t b d e)) ∙ line_words t b d e) in
        omega arith

    -- its words after the body
    pub line_after : part refs' (k.references + 1) end ≡ words
    line_after = sym (part_drop refs' k.references end 1) ∙ ap (drop 1) (line_words t b d e)

    -- and their terms
    pub line_rest : {ts : List ℕ} → words ≡ in_group 0 ts → ((u : ℕ) → Memᴰ u ts → u < k.terms)
        → terms_of_words (part refs' (k.references + 1) end) ≡ ts
    line_rest {ts} q s = ap terms_of_words (line_after ∙ q) ∙ terms_back ts s t.term_table.few_rows
