-- Laws of pushing references field by field: what a step of a cursor says of the fields left, and the turns of the loops.
use Prim.Native.Nat.{ℕ, suc, ◌+◌, ◌-◌, ◌≤◌, ◌<◌}
use native.Mathlib.Omega.{arith}
use mathlib.Core.Path.{◌≡◌, refl, sym, ap, subst, ◌∙◌}
use mathlib.Core.Logic.{⊎_elim}
use mathlib.Core.Bool.{Bool, true, false, cond}
use mathlib.Core.List.{List, [], ◌∷◌}
use lib.Dec.{eqb}
use Rattle.model.specs.Lists.{part}
use Rattle.model.specs.Lines.{Field, fields, field_cons}
use Rattle.model.specs.Reading.{Result, ok, refused, ◌>>=◌, next, number_field, term_field, most_references}
use Rattle.model.specs.declared.Refusal.{Refusal}
use Rattle.model.proofs.ResultLaws.{bind_ok, ok_eq}
use Rattle.text.specs.declared.Cursor.{Cursor}
use Rattle.text.specs.Parts.{Placed, fields_left, number_result, term_at, number_at}
use Rattle.text.proofs.Laws.{Onward, term_law, term_next, number_law, left_none, left_some}
use Rattle.terms.proofs.Laws.{below}
use Rattle.additions.specs.Additions.{references_pushed}
use Rattle.additions.proofs.Laws.{pushed_in, pushed_full}
use Rattle.words.specs.Slices.{SameBut}
use Rattle.words.proofs.Slices.{same_self, same_set}
use Rattle.fields.specs.Pushing.{reference, most_number, ReferencesRead, push_one, push_many, push_rest, push_groups, upto_result, Ahead, Pushes, Pushable}

-- ---- a field read

module _ {file : List ℕ} {c : Cursor} (p : Placed file c) (limit : ℕ) {r : Result (ℕ × Cursor)} where
  -- the next field is a term
  pub term_read : {t : ℕ} {n : Cursor} → r ≡ term_at limit file c → r ≡ ok (t, n)
      → next (term_field limit) (fields_left file c) ≡ ok (t, fields_left file n)
  unfolding number_result
  term_read a b = sym (term_law file c p limit) ∙ ap (number_result file) (sym a ∙ b)

  -- it is refused
  pub term_not : {x : Refusal} → r ≡ term_at limit file c → r ≡ refused x → next (term_field limit) (fields_left file c) ≡ refused x
  unfolding number_result
  term_not a b = sym (term_law file c p limit) ∙ ap (number_result file) (sym a ∙ b)

  -- the next field is a number
  pub number_read : {t : ℕ} {n : Cursor} → r ≡ number_at limit file c → r ≡ ok (t, n)
      → next (number_field limit) (fields_left file c) ≡ ok (t, fields_left file n)
  unfolding number_result
  number_read a b = sym (number_law file c p limit) ∙ ap (number_result file) (sym a ∙ b)

  -- it is refused
  pub number_not : {x : Refusal} → r ≡ number_at limit file c → r ≡ refused x
      → next (number_field limit) (fields_left file c) ≡ refused x
  unfolding number_result
  number_not a b = sym (number_law file c p limit) ∙ ap (number_result file) (sym a ∙ b)

-- fields are one or more
fields_some : (bs : List ℕ) → (f : Field) × (fs : List Field) × (fields bs ≡ f ∷ fs)
unfolding fields field_cons
fields_some [] = ([], [], refl)
fields_some (b ∷ bs) = go (eqb b 0x2c) (fields_some bs)
  where
    go : (t : Bool) → ((f : Field) × (fs : List Field) × (fields bs ≡ f ∷ fs))
        → (f : Field) × (fs : List Field) × (cond t ([] ∷ fields bs) (field_cons b (fields bs)) ≡ f ∷ fs)
    go true (f, fs, e) = ([], fields bs, refl)
    go false (f, fs, e) = (b ∷ f, fs, rw e)

-- a cursor that stands before its end has a field
pub left_cons : (file : List ℕ) (c : Cursor) → c.at ≤ c.end → (f : Field) × (fs : List Field) × (fields_left file c ≡ f ∷ fs)
left_cons file c h =
    let (f, fs, e) = fields_some (part file c.at c.end) in
    (f, fs, left_some file c h ∙ e)

-- ---- answers

module _ {file refs refs' : List ℕ} {run : ReferencesRead} {from : ℕ} {c : Cursor} {r : Result (ℕ × Cursor)} (p : Pushes file refs refs' run from c r) where
  -- what a run that is done comes to
  pub run_at : {end : ℕ} {next : Cursor} → r ≡ ok (end, next) → run ≡ ok (refs', end, fields_left file next)
  unfolding upto_result
  run_at e = sym p.answer ∙ ap (upto_result file refs') e

  -- what a run that is refused comes to
  pub run_not : {x : Refusal} → r ≡ refused x → run ≡ refused x
  unfolding upto_result
  run_not e = sym p.answer ∙ ap (upto_result file refs') e

module _ {file refs refs' : List ℕ} {run : ReferencesRead} {from : ℕ} {c : Cursor} (k : SameBut 0 most_references refs refs') where
  -- a run that is refused
  pub pushes_not : (x : Refusal) → run ≡ refused x → Pushes file refs refs' run from c (refused x)
  unfolding upto_result
  pushes_not x e = record { answer = sym e; ahead = λ end next h. let z : ◌≡◌ {A = ℕ} 0 1 = cc in absurd (omega arith); kept = k }

  -- a run that is done
  pub pushes_at : (end : ℕ) (n : Cursor) → run ≡ ok (refs', end, fields_left file n) → Ahead file from c end n
      → Pushes file refs refs' run from c (ok (end, n))
  unfolding upto_result
  pushes_at end n e a = record {
    answer = sym e;
    ahead = λ end' n' h.
        let pair : ◌≡◌ {A = ℕ × Cursor} (end, n) (end', n') = cc in
        subst (λ (q : ℕ × Cursor). Ahead file from c q.0 q.1) pair a;
    kept = k;
  }

-- ---- how far the cursor is

-- nothing is pushed yet
pub ahead_none : {file refs : List ℕ} {from many : ℕ} {c : Cursor} → Pushable file refs from many c → Ahead file from c from c
ahead_none p = record { further = omega arith; stays = refl; placed = p.placed }

-- further on from further on
pub ahead_then : {file : List ℕ} {a b e : ℕ} {c d n : Cursor} → Ahead file a c b d → Ahead file b d e n → Ahead file a c e n
ahead_then p q = record {
  further = omega (arith, p.further, q.further);
  stays = q.stays ∙ p.stays;
  placed = q.placed;
}

-- after a field that was read
pub ahead_field : {file : List ℕ} {a e : ℕ} {c d n : Cursor} → Onward file c d → Ahead file a d e n → Ahead file a c e n
ahead_field p q = record { further = omega (arith, p.further, q.further); stays = q.stays ∙ p.stays; placed = q.placed }

module _ {file refs : List ℕ} {from many : ℕ} {c : Cursor} (p : Pushable file refs from many c) where
  -- pushing goes on after references that were pushed
  pub pushable_then : {refs' : List ℕ} {used : ℕ} {n : Cursor} → Ahead file from c used n → SameBut 0 most_references refs refs'
      → Pushable file refs' used many n
  pushable_then a k = record {
    room = omega (arith, p.room, k.same_length);
    few = p.few;
    bounded = omega (arith, p.bounded, a.further);
    placed = a.placed;
  }

  -- and after a field that was read
  pub pushable_field : {n : Cursor} → Onward file c n → Pushable file refs from many n
  pushable_field o = record { room = p.room; few = p.few; bounded = omega (arith, p.bounded, o.further); placed = o.placed }

-- ---- one reference

-- a reference is written within the limit
pub pushed_kept : (refs : List ℕ) (used word : ℕ) → SameBut 0 most_references refs (references_pushed refs used word)
pushed_kept refs used word = ⊎_elim
    (λ (l : used < most_references). rw (pushed_in refs used word l) (same_set 0 most_references refs used word (omega arith) (omega arith)))
    (λ (l : most_references ≤ used). rw (pushed_full refs used word l) (same_self 0 most_references refs))
    (below used most_references)

module _ {file refs : List ℕ} {used many : ℕ} {c : Cursor} (p : Pushable file refs used many c) (group : ℕ) where
  -- a term that was read is pushed
  pub one_pushed : {refs' : List ℕ} {t : ℕ} {n : Cursor} {r : Result (ℕ × Cursor)} → r ≡ term_at many file c → r ≡ ok (t, n)
      → refs' ≡ references_pushed refs used (reference t group)
      → Pushes file refs refs' (push_one many group refs used (fields_left file c)) used c (ok (used + 1, n))
  unfolding push_one
  one_pushed {t = t} {n} a b e =
      let on = (term_next file c p.placed many t n (sym a ∙ b)).0 in
      pushes_at (rw e (pushed_kept refs used (reference t group))) (used + 1) n (rw (term_read p.placed many a b, e))
      (record { further = omega (arith, on.further); stays = on.stays; placed = on.placed })

  -- a field that is refused
  pub one_not : {x : Refusal} {r : Result (ℕ × Cursor)} → r ≡ term_at many file c → r ≡ refused x
      → Pushes file refs refs (push_one many group refs used (fields_left file c)) used c (refused x)
  unfolding push_one
  one_not {x} a b = pushes_not (same_self 0 most_references refs) x (rw (term_not p.placed many a b))

-- one reference more
pub one_end : (count group : ℕ) (refs : List ℕ) (used : ℕ) (fs : List Field) {refs' : List ℕ} {end : ℕ} {fs' : List Field}
    → push_one count group refs used fs ≡ ok (refs', end, fs') → end ≡ used + 1
unfolding push_one
one_end count group refs used fs e =
    let (a, d, k) = bind_ok (next (term_field count) fs) e in
    ap (λ x. x.1) (sym (ok_eq k))

-- ---- the turns of the loops

module _ (count group : ℕ) (refs : List ℕ) (used : ℕ) (fs : List Field) where
  -- all from the first on
  pub many_first : (n : ℕ) → push_many count group n refs used fs ≡ push_many count group (n - 0) refs used fs
  many_first n = let e : n - 0 ≡ n = omega arith in rw e

  -- one of many
  pub many_turn : (i n : ℕ) → i < n
      → push_many count group (n - i) refs used fs ≡ (push_one count group refs used fs >>= λ (refs₁, used₁, fs₁). push_many count group
      (n - (i + 1)) refs₁ used₁ fs₁)
  unfolding push_many
  many_turn i n h = let e : n - i ≡ suc (n - (i + 1)) = omega arith in rw e

  -- none left
  pub many_over : (i n : ℕ) → n ≤ i → push_many count group (n - i) refs used fs ≡ ok (refs, used, fs)
  unfolding push_many
  many_over i n h = let e : n - i ≡ 0 = omega arith in rw e

module _ (count : ℕ) (refs : List ℕ) (used : ℕ) (fs : List Field) where
  -- all groups from the first on
  pub groups_first : (groups : ℕ) → push_groups count 0 groups refs used fs ≡ push_groups count 0 (groups - 0) refs used fs
  groups_first groups = let e : groups - 0 ≡ groups = omega arith in rw e

  module _ (g groups : ℕ) where
    -- one group of some
    pub groups_on : g < groups → push_groups count g (groups - g) refs used fs
        ≡ (next (number_field most_number) fs >>= λ (size, fs₁). push_many count g size refs used fs₁ >>= λ (refs₂, used₂, fs₂). push_groups count (g + 1)
        (groups - (g + 1)) refs₂ used₂ fs₂)
    unfolding push_groups
    groups_on h = let e : groups - g ≡ suc (groups - (g + 1)) = omega arith in rw e

    -- no group left
    pub groups_none : groups ≤ g → push_groups count g (groups - g) refs used fs ≡ ok (refs, used, fs)
    unfolding push_groups
    groups_none h = let e : groups - g ≡ 0 = omega arith in rw e

-- all that are left are one and then all that are left
rest_on : (count : ℕ) (refs : List ℕ) (used : ℕ) (f : Field) (gs : List Field)
    → push_rest count refs used (f ∷ gs) ≡ (push_one count 0 refs used (f ∷ gs) >>= λ (refs₁, used₁, fs₁). push_rest count refs₁ used₁ fs₁)
unfolding push_rest push_one next
rest_on count refs used f gs = go (term_field count f)
  where
    go : (r : Result ℕ) → (r >>= λ t. push_rest count (references_pushed refs used (reference t 0)) (used + 1) gs)
        ≡ (r >>= (λ a. ok (a, gs)) >>= (λ (t, fs₁). ok (
          references_pushed refs used (reference t 0),
          used
              + 1,
          fs₁,
        )) >>= λ (refs₁, used₁, fs₁). push_rest count refs₁ used₁ fs₁)
    go (ok t) = refl
    go (refused x) = refl

module _ (count : ℕ) (refs : List ℕ) (used : ℕ) (file : List ℕ) (c : Cursor) where
  -- one of all that are left
  pub rest_next : c.at ≤ c.end
      → push_rest count refs used (fields_left file c) ≡ (push_one count 0 refs used
      (fields_left file c) >>= λ (refs₁, used₁, fs₁). push_rest count refs₁ used₁ fs₁)
  rest_next h =
      let (f, fs, e) = left_cons file c h in
      rw e (rest_on count refs used f fs)

  -- none is left
  pub rest_none : c.end < c.at → push_rest count refs used (fields_left file c) ≡ ok (refs, used, fields_left file c)
  unfolding push_rest
  rest_none h = rw (left_none file c h)
