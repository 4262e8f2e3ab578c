-- Laws of op words: a field read as one.
use Prim.Native.Nat.{ℕ}
use native.Mathlib.Omega.{arith}
use mathlib.Core.Path.{◌≡◌, refl, sym, ap, ◌∙◌}
use Rattle.std.specs.Prelude.{Option, None as none, Some as some}
use mathlib.Core.List.{List, [], ◌∷◌}
use Rattle.std.specs.Option.{ok_or}
use Rattle.model.specs.Lists.{part}
use Rattle.model.specs.Lines.{Field}
use Rattle.model.specs.Reading.{Result, ok, refused, ◌>>=◌, need, word, op_words, next}
use Rattle.model.specs.declared.Op.{Op}
use Rattle.model.specs.declared.Refusal.{Refusal}
use Rattle.model.specs.declared.Refusal.TheVariants as refusal
use Rattle.model.proofs.ResultLaws.{ok_eq, not_ok}
use Rattle.text.specs.declared.Cursor.{Cursor}
use Rattle.text.specs.declared.Part.{Part}
use Rattle.text.specs.Parts.{Placed, fields_left, field_at, field_result}
use Rattle.text.proofs.Laws.{Onward, field_law}
use Rattle.fields.specs.Wording.{op_field, ReadsOp, op_read, op_not}

-- a value, and the fields after it
abbrev and_after : {A : Type 0} → A → List Field → Result (A × List Field)
and_after a gs = ok (a, gs)

-- a value that lacks is refused for that
pub lacked : {A : Type 0} {o : Option A} {r : Result A} (x : Refusal) {y : Refusal} → r ≡ ok_or o x → r ≡ refused y → (o ≡ none) × (y ≡ x)
lacked {A} {o = none} x {y} a b =
    let e : ◌≡◌ {A = Result A} (refused y) (refused x) = sym b ∙ a in
    (refl, cc)
lacked {o = some v} x a b = absurd (not_ok (sym b ∙ a))

-- what the next field says, where it was read
next_said : {A : Type 0} (judge : Field → Result A) (fs : List Field) {f : Field} {gs : List Field} → next ok fs ≡ ok (f, gs)
    → next judge fs ≡ (judge f >>= λ a. ok (a, gs))
unfolding next
next_said judge [] e = absurd (not_ok e)
next_said judge (x ∷ xs) e = let q = ok_eq e in rw (← ap (λ y. y.0) q, ← ap (λ y. y.1) q)

-- no field is left to judge
next_lacks : {A : Type 0} (judge : Field → Result A) (fs : List Field) {x : Refusal} → next ok fs ≡ refused x → next judge fs ≡ refused x
unfolding next
next_lacks judge [] e = cc
next_lacks judge (y ∷ ys) e = absurd (not_ok (sym e))

module _ {file : List ℕ} {c : Cursor} (p : Placed file c) {r : Result Part} (d : r ≡ field_at file c) where
  -- the next field
  field_read : {f : Part} → r ≡ ok f → next ok (fields_left file c) ≡ ok (part file f.start f.end, fields_left file f.next)
  unfolding field_result
  field_read k = sym (field_law file c p) ∙ ap (field_result file) (sym d ∙ k)

  module _ {f : Part} (k : r ≡ ok f) {o : Option Op} (q : o ≡ word op_words (part file f.start f.end)) where
    -- it is an op word
    pub op_there : {w : Op} → o ≡ some w → Onward file c f.next → ReadsOp file c (ok (w, f.next))
    unfolding op_field need
    op_there {w} s on = op_read {w = w} (next_said op_field (fields_left file c) (field_read k) ∙ go (word op_words (part file f.start f.end)) (sym q ∙ s)) on
      where
        go : (o : Option Op) → o ≡ some w → (need refusal.Form o >>= λ v. and_after v (fields_left file f.next)) ≡ ok (w, fields_left file f.next)
        go none s = let z : ◌≡◌ {A = ℕ} 0 1 = cc in absurd (omega arith)
        go (some v) s = let e : v ≡ w = cc in rw e

    -- it is none
    pub op_lacks : o ≡ none → ReadsOp file c (refused refusal.Form)
    unfolding op_field need
    op_lacks s = op_not {x = refusal.Form} (next_said op_field (fields_left file c) (field_read k) ∙ go (word op_words (part file f.start f.end)) (sym q ∙ s))
      where
        go : (o : Option Op) → o ≡ none → (need refusal.Form o >>= λ v. and_after v (fields_left file f.next)) ≡ refused refusal.Form
        go none s = refl
        go (some v) s = let z : ◌≡◌ {A = ℕ} 0 1 = cc in absurd (omega arith)

  -- there is none
  pub field_lacks : {x : Refusal} → r ≡ refused x → ReadsOp file c (refused x)
  unfolding field_result
  field_lacks {x} k = op_not {x = x} (next_lacks op_field (fields_left file c) (sym (field_law file c p) ∙ ap (field_result file) (sym d ∙ k)))

-- an op word that was read
pub record OpRead (file : List ℕ) (w : Op) (c after : Cursor) : Type 0 where
  pub said : next op_field (fields_left file c) ≡ ok (w, fields_left file after)
  pub onward : Onward file c after

module _ {file : List ℕ} {c : Cursor} {r : Result (Op × Cursor)} (s : ReadsOp file c r) where
  -- what was read, where it was not refused
  pub reads_op : {w : Op} {after : Cursor} → r ≡ ok (w, after) → OpRead file w c after
  reads_op {w} {after} p = go (rw p at s)
    where
      go : ReadsOp file c (ok (w, after)) → OpRead file w c after
      go (op_read d o) = record { said = d; onward = o }

  -- and where it was
  pub reads_op_not : {x : Refusal} → r ≡ refused x → next op_field (fields_left file c) ≡ refused x
  reads_op_not {x} p = go (rw p at s)
    where
      go : ReadsOp file c (refused x) → next op_field (fields_left file c) ≡ refused x
      go (op_not d) = d
