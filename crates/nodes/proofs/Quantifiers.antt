-- Laws of an `all` and a `some`: their body and groups read, and their words behind the table.
use Prim.Native.Nat.{ℕ, suc, ◌+◌, ◌-◌, ◌%◌, ◌≤◌, ◌<◌}
use native.Mathlib.Omega.{arith}
use Rattle.std.specs.Prelude.{⊤}
use mathlib.Core.Path.{◌≡◌, refl, sym, ap, ap₂, ◌∙◌}
use mathlib.Core.Bool.{Bool, true, false}
use mathlib.Core.List.{List, [], ◌∷◌, map, Memᴰ}
use lib.ListN.{length, get_or, length-append, length-map}
use Rattle.model.specs.Lists.{concat, part}
use Rattle.model.specs.Lines.{Field}
use Rattle.model.specs.Terms.{Node, forall, exists, references}
use Rattle.model.specs.Reading.{Result, ok, refused, ◌>>=◌, next, groups, end, number_field, term_field, term, content, quantifier, spelled_by, most_references}
use Rattle.model.specs.declared.Counts.{Counts}
use Rattle.model.specs.declared.Refusal.{Refusal}
use Rattle.model.proofs.PartLaws.{part_at, part_intro, part_length}
use Rattle.model.proofs.ResultLaws.{bind_ok, ok_eq, not_ok}
use Rattle.text.specs.declared.Cursor.{Cursor}
use Rattle.text.specs.Parts.{fields_left}
use Rattle.terms.specs.Rows.{groups_of_words}
use Rattle.terms.proofs.Groups.{group_words, groups_law, group_words_rise}
use Rattle.additions.specs.Additions.{Patterns}
use Rattle.words.specs.Slices.{SameBut}
use Rattle.fields.specs.Pushing.{reference, most_number, ReferencesRead, push_one, push_groups}
use Rattle.nodes.specs.Growing.{quantifier_kind, push_quantifier, quantifier_result, Quantifies, WithinLimits, Stands}
use Rattle.fields.proofs.Runs.{Ran, ran_then, word_small, term_ran, groups_ran, term_refused, groups_refused}
use Rattle.nodes.proofs.Terms.{LineRead, line_long}
use Rattle.nodes.proofs.Lines.{plain_line, line_bodied, line_body, line_after}

-- ---- its fields, pushed

module _ (count : ℕ) (refs : List ℕ) (used : ℕ) (fs : List Field) where
  -- a body that is refused
  pub no_body : {x : Refusal} → push_one count 0 refs used fs ≡ refused x → push_quantifier count refs used fs ≡ refused x
  unfolding push_quantifier
  no_body a = rw a

  module _ {refs₁ : List ℕ} {used₁ : ℕ} {fs₁ : List Field} (a : push_one count 0 refs used fs ≡ ok (refs₁, used₁, fs₁)) where
    -- a number of groups that is refused
    pub no_number : {x : Refusal} → next (number_field most_number) fs₁ ≡ refused x → push_quantifier count refs used fs ≡ refused x
    unfolding push_quantifier
    no_number b = rw (a, b)

    module _ {g : ℕ} {fs₂ : List Field} (b : next (number_field most_number) fs₁ ≡ ok (g, fs₂)) where
      -- groups that are refused
      pub no_groups : {x : Refusal} → push_groups count 0 g refs₁ used₁ fs₂ ≡ refused x → push_quantifier count refs used fs ≡ refused x
      unfolding push_quantifier
      no_groups d = rw (a, b, d)

      -- groups that were pushed
      pub groups_there : {refs₂ : List ℕ} {used₂ : ℕ} {fs₃ : List Field} → push_groups count 0 g refs₁ used₁ fs₂ ≡ ok (refs₂, used₂, fs₃)
          → push_quantifier count refs used fs ≡ end (refs₂, used₂, g) fs₃
      unfolding push_quantifier
      groups_there d = rw (a, b, d)

module _ {file refs refs' : List ℕ} {from many : ℕ} {c : Cursor} where
  -- a refusal
  pub quantifies_not : {x : Refusal} → push_quantifier many refs from (fields_left file c) ≡ refused x → SameBut 0 most_references refs refs'
      → Quantifies file refs refs' from many c (refused x)
  unfolding quantifier_result
  quantifies_not e s = record { answer = sym e; groups = λ used g d. absurd (not_ok d); kept = s }

  -- a quantifier that was pushed
  pub quantifies_at : {used g : ℕ} → push_quantifier many refs from (fields_left file c) ≡ ok (refs', used, g) → g ≤ most_number
      → SameBut 0 most_references refs refs'
      → Quantifies file refs refs' from many c (ok (used, g))
  unfolding quantifier_result
  quantifies_at {used} {g} e l s = record { answer = sym e; groups = λ used' g' d. let z : g ≡ g' = ap (λ q. q.1) (ok_eq d) in rw (← z) l; kept = s }

-- a body and groups that were read and pushed
pub record Quantified (count : ℕ) (refs refs' : List ℕ) (from stop g : ℕ) (fs : List Field) : Type 0 where
  pub body : ℕ
  pub gs : List (List ℕ)
  pub said : (make : ℕ → List (List ℕ) → Node) → quantifier make count fs ≡ ok (term (make body gs))
  pub low : body < count
  pub small : (t : ℕ) → Memᴰ t (concat gs) → t < count
  pub size : length gs ≡ g
  pub ran : Ran count refs refs' from stop (reference body 0 ∷ group_words 0 gs)

-- a value that no field is left after
end_ok : {A : Type 0} (a : A) (fs : List Field) {b : A} → end a fs ≡ ok b → (fs ≡ []) × (a ≡ b)
unfolding end
end_ok a [] e = (refl, ok_eq e)
end_ok a (f ∷ fs) e = absurd (not_ok e)

-- one that is refused is so whatever it is
end_refused : {A B : Type 0} (a : A) (b : B) (fs : List Field) {x : Refusal} → end a fs ≡ refused x → end b fs ≡ refused x
unfolding end
end_refused a b [] e = absurd (not_ok (sym e))
end_refused a b (f ∷ fs) e = cc

-- what a quantifier says, from its parts
quantifier_said : (make : ℕ → List (List ℕ) → Node) (count : ℕ) (fs : List Field) {body g : ℕ} {gs : List (List ℕ)} {fs₁ fs₂ fs₃ : List Field}
    → next (term_field count) fs ≡ ok (body, fs₁) → next (number_field most_number) fs₁ ≡ ok (g, fs₂) → groups count g fs₂ ≡ ok (gs, fs₃)
    → quantifier make count fs ≡ end (term (make body gs)) fs₃
unfolding quantifier
quantifier_said make count fs a b d = rw (a, b, d)

-- a number, and the fields after it
abbrev and_after : ℕ → List Field → Result (ℕ × List Field)
and_after g fs = ok (g, fs)

-- the references of a run, how many they are, and the fields after
abbrev run_to : List ℕ → ℕ → List Field → ReferencesRead
run_to refs used fs = ok (refs, used, fs)

-- the references of a quantifier, how many they are, and how many groups
abbrev all_to : ℕ → List ℕ → ℕ → List Field → Result (List ℕ × ℕ × ℕ)
all_to g refs used fs = end (refs, used, g) fs

module _ (count : ℕ) (few : count ≤ 4096) (refs : List ℕ) (from : ℕ) (fs : List Field) where
  module _ {refs₁ : List ℕ} {one : ℕ} {fs₁ : List Field} (a : push_one count 0 refs from fs ≡ ok (refs₁, one, fs₁)) where
    module _ {g : ℕ} {fs₂ : List Field} (b : next (number_field most_number) fs₁ ≡ ok (g, fs₂)) where
      -- a quantifier whose groups were read
      quantified_by : {refs' : List ℕ} {stop : ℕ} → push_groups count 0 g refs₁ one fs₂ ≡ ok (refs', stop, [])
          → Quantified count refs refs' from stop g fs
      unfolding end
      quantified_by d =
          let body = term_ran count few refs from fs a in
          let rest = groups_ran count few refs₁ one fs₂ g d in
          record {
            body = body.term;
            gs = rest.terms;
            said = λ make. quantifier_said make count fs body.said b rest.said;
            low = body.small;
            small = rest.small;
            size = rest.size;
            ran = ran_then body.ran rest.ran;
          }

      -- or not
      groups_not : (make : ℕ → List (List ℕ) → Node) {x : Refusal} (r : ReferencesRead) → push_groups count 0 g refs₁ one fs₂ ≡ r
          → (r >>= λ (refs₂, used₂, fs₃). all_to g refs₂ used₂ fs₃) ≡ refused x
          → quantifier make count fs ≡ refused x
      unfolding quantifier
      groups_not make (refused y) d e = rw ((term_ran count few refs from fs a).said, b, groups_refused count refs₁ one fs₂ g d) (cc)
      groups_not make (ok (refs₂, used₂, fs₃)) d e =
          let body = term_ran count few refs from fs a in
          let rest = groups_ran count few refs₁ one fs₂ g d in
          quantifier_said make count fs body.said b rest.said ∙ end_refused (refs₂, used₂, g) (term (make body.term rest.terms)) fs₃ e

    -- a number of groups that was read, or not
    number_not : (make : ℕ → List (List ℕ) → Node) {x : Refusal} (r : Result (ℕ × List Field)) → next (number_field most_number) fs₁ ≡ r
        → (r >>= λ (g, fs₂). push_groups count 0 g refs₁ one fs₂ >>= λ (refs₂, used₂, fs₃). all_to g refs₂ used₂ fs₃) ≡ refused x
        → quantifier make count fs ≡ refused x
    unfolding quantifier
    number_not make (refused y) b e = rw ((term_ran count few refs from fs a).said, b) (cc)
    number_not make (ok (g, fs₂)) b e = groups_not b make (push_groups count 0 g refs₁ one fs₂) refl e

  -- a body that was read, or not
  body_not : (make : ℕ → List (List ℕ) → Node) {x : Refusal} (r : ReferencesRead) → push_one count 0 refs from fs ≡ r
      → (r >>= λ (refs₁, one, fs₁). next (number_field most_number) fs₁ >>= λ (g, fs₂). push_groups count 0 g refs₁ one fs₂ >>= λ (refs₂, used₂, fs₃). all_to g refs₂ used₂ fs₃) ≡ refused x
      → quantifier make count fs ≡ refused x
  unfolding quantifier
  body_not make (refused y) a e = rw (term_refused count refs from fs a) (cc)
  body_not make (ok (refs₁, one, fs₁)) a e = number_not a make (next (number_field most_number) fs₁) refl e

  -- what was read, where it was not refused
  pub quantified_at : {refs' : List ℕ} {stop g : ℕ} → push_quantifier count refs from fs ≡ ok (refs', stop, g)
      → Quantified count refs refs' from stop g fs
  unfolding push_quantifier
  quantified_at {refs'} {stop} {g} e =
      let ((refs₁, one, fs₁), a, e₁) = bind_ok (push_one count 0 refs from fs) e in
      let ((g₂, fs₂), b, e₂) = bind_ok (next (number_field most_number) fs₁) e₁ in
      let ((refs₃, used₃, fs₃), d, e₃) = bind_ok (push_groups count 0 g₂ refs₁ one fs₂) e₂ in
      let (nil, same) = end_ok (refs₃, used₃, g₂) fs₃ e₃ in
      let q : g₂ ≡ g = ap (λ x. x.2) same in
      quantified_by a (b ∙ ap (λ z. and_after z fs₂) q)
      (ap (λ z. push_groups count 0 z refs₁ one fs₂) (sym q)
      ∙ d
      ∙ ap (λ z. run_to z used₃ fs₃) (ap (λ x. x.0) same)
      ∙ ap (λ z. run_to refs' z fs₃) (ap (λ x. x.1) same)
      ∙ ap (run_to refs' stop) nil)

  -- and where it was
  pub quantified_not : (make : ℕ → List (List ℕ) → Node) {x : Refusal} → push_quantifier count refs from fs ≡ refused x
      → quantifier make count fs ≡ refused x
  unfolding push_quantifier
  quantified_not make e = body_not make (push_one count 0 refs from fs) refl e

-- ---- an `all`, or else a `some`

-- the node of a quantifier: an `all`, or else a `some`
unfoldable pub quantifier_node : Bool → ℕ → List (List ℕ) → Node
quantifier_node true = forall
quantifier_node false = exists

-- what its fields say
quantifier_content : (all grouped : Bool) (count : ℕ) (fs : List Field) → content (quantifier_kind all) grouped count fs ≡ quantifier (quantifier_node all) count fs
unfolding content quantifier_kind quantifier_node
quantifier_content true grouped count fs = refl
quantifier_content false grouped count fs = refl

-- the terms that it names, and that it spells no name
quantifier_plain : (all : Bool) (body : ℕ) (gs : List (List ℕ))
    → (references (quantifier_node all body gs) ≡ body ∷ concat gs) × (spelled_by (quantifier_node all body gs) ≡ [])
unfolding references spelled_by quantifier_node
quantifier_plain true body gs = (refl, refl)
quantifier_plain false body gs = (refl, refl)

-- ---- the answer of `push_quantifier`

module _ {file refs refs' : List ℕ} {from many : ℕ} {c : Cursor} {r : Result (ℕ × ℕ)} (p : Quantifies file refs refs' from many c r) (few : many ≤ 4096) where
  -- a quantifier that was pushed
  pub quantifier_read : {used g : ℕ} → r ≡ ok (used, g) → Quantified many refs refs' from used g (fields_left file c)
  unfolding quantifier_result
  quantifier_read e = quantified_at many few refs from (fields_left file c) (sym p.answer ∙ ap (quantifier_result refs') e)

  -- a field that is refused
  pub quantifier_not : (all grouped : Bool) {x : Refusal} → r ≡ refused x → content (quantifier_kind all) grouped many (fields_left file c) ≡ refused x
  unfolding quantifier_result
  quantifier_not all grouped e =
      quantifier_content all grouped many (fields_left file c)
      ∙ quantified_not many few refs from (fields_left file c) (quantifier_node all) (sym p.answer ∙ ap (quantifier_result refs') e)

-- ---- its words behind the table

-- as many words as terms
group_length : (g : ℕ) (gs : List (List ℕ)) → length (group_words g gs) ≡ length (concat gs)
unfolding group_words concat
group_length g [] = refl
group_length g (ts ∷ gs) =
    omega (
      arith,
      length-append (map (λ t. reference t g) ts) (group_words (suc g) gs),
      length-append ts (concat gs),
      length-map ts (λ t. reference t g),
      group_length (suc g) gs,
    )

module _ {file names refs rows refs' : List ℕ} (k : Counts) {stop g : ℕ} (c : Cursor) (t : Stands file names refs rows k)
    (b : Quantified k.terms refs refs' k.references stop g (fields_left file c)) (all : Bool) where
  -- the line of a quantifier
  pub quantifier_line :
      LineRead file names refs names refs' k (quantifier_kind all) c k.names stop (quantifier_node all b.body b.gs)
      (reference b.body 0 ∷ group_words 0 b.gs)
  quantifier_line =
      let (refers, plain) = quantifier_plain all b.body b.gs in
      plain_line t (quantifier_content all k.grouped k.terms (fields_left file c) ∙ b.said (quantifier_node all)) b.ran
      (rw refers (ap suc (group_length 0 b.gs))) plain

  module _ {r : Result ⊤} (d : WithinLimits k.names stop r) (e : r ≡ ok tt) where
    -- the words after the body
    after_body : part refs' (k.references + 1) stop ≡ group_words 0 b.gs
    after_body = line_after t d e b.body quantifier_line

    -- the patterns stand in the order of their groups
    pub quantifier_patterns : Patterns refs' k.references stop g
    quantifier_patterns =
        let long = line_long t quantifier_line d e in
        let few = t.term_table.few_rows in
        record {
          bodied = line_bodied t d e b.body quantifier_line;
          grouped = λ i low high.
              let w = rw after_body at (part_intro refs' (k.references + 1) stop i long (omega arith) high) in
              omega (arith, b.size, (word_small k.terms b.gs 0 few b.small (get_or refs' i 0) w).1);
          rising = λ i low high.
              let p = i - (k.references + 1) in
              let x = part_at refs' (k.references + 1) stop i (omega arith) (omega arith) in
              let y = part_at refs' (k.references + 1) stop (i + 1) (omega arith) high in
              let z : i + 1 - (k.references + 1) ≡ p + 1 = omega arith in
              let l : p + 1 < length (group_words 0 b.gs) = omega (arith, ap length after_body, part_length refs' (k.references + 1) stop long) in
              rw (← x, ← y, z, after_body) (group_words_rise b.gs 0 (λ u m. omega (arith, b.small u m)) p l);
        }

    -- its node, as its row has it
    pub quantifier_row : {all' : Bool} → all ≡ all'
        → quantifier_node all' (get_or refs' k.references 0 % 4096) (groups_of_words (part refs' (k.references + 1) stop) g) ≡ quantifier_node all b.body b.gs
    quantifier_row q =
        let few = t.term_table.few_rows in
        rw q
        (ap₂ (quantifier_node _)
        (line_body t d e b.body quantifier_line b.low)
        (rw (after_body, ← b.size) (groups_law b.gs (λ u m. omega (arith, b.small u m)))))
