-- What the fields of a record line say.
use Prim.Native.Nat.{ℕ, ◌+◌, ◌≤◌, ◌<◌}
use mathlib.Core.Path.{◌≡◌, refl, sym, ap, ◌∙◌}
use native.Mathlib.Omega.{arith}
use mathlib.Core.Bool.{Bool, true, false, cond}
use mathlib.Core.List.{List, [], ◌∷◌}
use lib.Dec.{eqb, ltb}
use borrow.Author.Tests.{ltb-true}
use Rattle.model.specs.Names.{Name}
use Rattle.model.specs.Lines.{Field}
use Rattle.model.specs.Reading.{Result, ok, refused, ◌>>=◌, next, end, name_field, number_field, term_field, group_field, most_group, Content, head, hide, assume, fun, def, root, content}
use Rattle.model.specs.declared.LineKind.TheVariants as kind
use Rattle.model.specs.declared.Refusal.{Refusal}
use Rattle.model.specs.declared.Refusal.TheVariants as refusal
use Rattle.model.proofs.ResultLaws.{ok_eq, not_ok}
use Rattle.text.specs.declared.Cursor.{Cursor}
use Rattle.text.specs.Parts.{Placed, fields_left, term_at, number_at, number_result}
use Rattle.text.proofs.Laws.{left_none, number_next}
use Rattle.fields.specs.Wording.{number_or}
use Rattle.fields.proofs.Numbers.{number_or_field, number_or_placed, number_or_most}
use Rattle.fields.proofs.Pushing.{left_cons, term_read, term_not}
use Rattle.filing.specs.Lines.{last_field, rest_of_assume, rest_of_root}

-- a term and the fields after it
abbrev and_after : List Field → ℕ → Result (ℕ × List Field)
and_after fs a = ok (a, fs)

-- ---- the end of a line

-- no field is left over
pub end_none : {A : Type 0} (a : A) (file : List ℕ) (c : Cursor) → c.end < c.at → end a (fields_left file c) ≡ ok a
unfolding end
end_none a file c h = rw (left_none file c h)

-- one is
pub end_more : {A : Type 0} (a : A) (file : List ℕ) (c : Cursor) → c.at ≤ c.end → end a (fields_left file c) ≡ refused refusal.Form
unfolding end
end_more a file c h = let (f, fs, e) = left_cons file c h in rw e

-- what is made of the value at the end
end_then : {A B : Type 0} (f : A → B) (a : A) (fs : List Field) → end (f a) fs ≡ (end a fs >>= λ x. ok (f x))
unfolding end
end_then f a [] = refl
end_then f a (g ∷ gs) = refl

-- what is made of the last field
last_then : {A : Type 0} (f : ℕ → A) (r : Result (ℕ × List Field)) → (r >>= λ (t, fs). end (f t) fs) ≡ (r >>= (λ (t, fs). end t fs) >>= λ t. ok (f t))
last_then f (ok (t, fs)) = end_then f t fs
last_then f (refused x) = refl

module _ {A : Type 0} (f : ℕ → A) (count : ℕ) (fs : List Field) where
  -- a last field that is a term
  pub last_said : {t : ℕ} → last_field count fs ≡ ok t → (next (term_field count) fs >>= λ (t, gs). end (f t) gs) ≡ ok (f t)
  unfolding last_field
  last_said e = last_then f (next (term_field count) fs) ∙ rw e

  -- one that is refused
  pub last_not : {x : Refusal} → last_field count fs ≡ refused x → (next (term_field count) fs >>= λ (t, gs). end (f t) gs) ≡ refused x
  unfolding last_field
  last_not e = last_then f (next (term_field count) fs) ∙ rw e

-- a field that is one of so many terms is below them
term_below : (count : ℕ) (f : Field) {t : ℕ} → term_field count f ≡ ok t → t < count
unfolding term_field
term_below count f {t} e = go (number_field 65535 f) e
  where
    pick : (n : ℕ) (b : Bool) → ltb n count ≡ b → cond b (ok n) (refused refusal.Term) ≡ ok t → t < count
    pick n true q x = let z = ok_eq x in let l = ltb-true n count q in omega arith
    pick n false q x = absurd (not_ok x)

    go : (r : Result ℕ) → (r >>= λ n. cond (ltb n count) (ok n) (refused refusal.Term)) ≡ ok t → t < count
    go (ok n) x = pick n (ltb n count) refl x
    go (refused y) x = absurd (not_ok x)

-- and so is the last
pub last_below : (count : ℕ) (fs : List Field) {t : ℕ} → last_field count fs ≡ ok t → t < count
unfolding last_field next end
last_below count [] e = absurd (not_ok e)
last_below count (f ∷ fs) {t} e = go (term_field count f) refl e
  where
    alone : (u : ℕ) (gs : List Field) → end u gs ≡ ok t → u ≡ t
    alone u [] x = ok_eq x
    alone u (g ∷ gs) x = absurd (not_ok x)

    go : (r : Result ℕ) → term_field count f ≡ r → (r >>= (λ a. and_after fs a) >>= λ (u, gs). end u gs) ≡ ok t → t < count
    go (ok u) q x = let z = alone u fs x in let l = term_below count f q in omega arith
    go (refused y) q x = absurd (not_ok x)

-- ---- each kind of record

-- a line of one name, a `fun` or a `hide`
module _ (fs : List Field) (make : Name → Content) {said : Result Content} (is : said ≡ (next name_field fs >>= λ (m, gs). end (make m) gs)) where
  -- what it says
  pub one_said : {m : Name} {gs : List Field} → next name_field fs ≡ ok (m, gs) → end (make m) gs ≡ ok (make m) → said ≡ ok (make m)
  one_said a e = is ∙ rw (a, e)

  -- a field is left over
  pub one_more : {m : Name} {gs : List Field} → next name_field fs ≡ ok (m, gs) → end (make m) gs ≡ refused refusal.Form → said ≡ refused refusal.Form
  one_more a e = is ∙ rw (a, e)

  -- its name is refused
  pub one_not : {x : Refusal} → next name_field fs ≡ refused x → said ≡ refused x
  one_not a = is ∙ rw a

module _ (grouped : Bool) (count : ℕ) (fs : List Field) where
  -- a `fun`
  pub fun_is : content kind.Fun grouped count fs ≡ (next name_field fs >>= λ (m, gs). end (fun m) gs)
  unfolding content
  fun_is = refl

  -- a `hide`
  pub hide_is : content kind.Hide grouped count fs ≡ (next name_field fs >>= λ (m, gs). end (head (hide m)) gs)
  unfolding content
  hide_is = refl

  -- a `def`
  pub def_said : {m : Name} {gs : List Field} {t : ℕ} → next name_field fs ≡ ok (m, gs) → last_field count gs ≡ ok t → content kind.Def grouped count fs ≡ ok (def m t)
  unfolding content
  def_said {m} {gs} a e = rw a (last_said (def m) count gs e)

  -- its term is refused
  pub def_term_not : {m : Name} {gs : List Field} {x : Refusal} → next name_field fs ≡ ok (m, gs) → last_field count gs ≡ refused x
      → content kind.Def grouped count fs ≡ refused x
  unfolding content
  def_term_not {m} {gs} a e = rw a (last_not (def m) count gs e)

  -- its name is refused
  pub def_not : {x : Refusal} → next name_field fs ≡ refused x → content kind.Def grouped count fs ≡ refused x
  unfolding content
  def_not a = rw a

  -- an `assume`, by what it says after its name
  pub assume_said : {m : Name} {gs : List Field} → next name_field fs ≡ ok (m, gs)
      → content kind.Assume grouped count fs ≡ rest_of_assume grouped count m gs
  unfolding content rest_of_assume last_field
  assume_said {m} {gs} a = rw a (go (next (number_field 1) gs))
    where
      by_group : (flag : ℕ) (r : Result (ℕ × List Field))
          → (r >>= λ (group, is). next (term_field count) is >>= λ (t, js). end (assume m (eqb flag 1) group t) js)
          ≡ (r >>= λ (group, is). last_field count is >>= λ t. ok (assume m (eqb flag 1) group t))
      by_group flag (ok (group, is)) = last_then (assume m (eqb flag 1) group) (next (term_field count) is)
      by_group flag (refused x) = refl

      go : (r : Result (ℕ × List Field))
          → (r >>= λ (flag, hs). group_field grouped hs
          >>= λ (group, is). next (term_field count) is >>= λ (t, js). end (assume m (eqb flag 1) group t) js)
          ≡ (r >>= λ (flag, hs). group_field grouped hs
          >>= λ (group, is). last_field count is >>= λ t. ok (assume m (eqb flag 1) group t))
      go (ok (flag, hs)) = by_group flag (group_field grouped hs)
      go (refused x) = refl

  -- its name is refused
  pub assume_not : {x : Refusal} → next name_field fs ≡ refused x → content kind.Assume grouped count fs ≡ refused x
  unfolding content
  assume_not a = rw a

  -- a `root`, by what it says after its query
  pub root_then : {q : ℕ} {gs : List Field} → next (number_field 255) fs ≡ ok (q, gs) → content kind.Root grouped count fs ≡ rest_of_root count q gs
  unfolding content rest_of_root last_field
  root_then {q} {gs} a = rw a (go (next name_field gs))
    where
      go : (r : Result (Name × List Field)) → (r >>= λ (m, hs). next (term_field count) hs >>= λ (t, is). end (root q m t) is)
          ≡ (r >>= λ (m, hs). last_field count hs >>= λ t. ok (root q m t))
      go (ok (m, hs)) = last_then (root q m) (next (term_field count) hs)
      go (refused x) = refl

  -- its query is refused
  pub root_not : {x : Refusal} → next (number_field 255) fs ≡ refused x → content kind.Root grouped count fs ≡ refused x
  unfolding content
  root_not a = rw a

module _ (grouped : Bool) (count : ℕ) (m : Name) (fs : List Field) where
  -- the flag, the group and the term of a fact
  pub fact_is : {flag group t : ℕ} {gs hs : List Field} → next (number_field 1) fs ≡ ok (flag, gs) → group_field grouped gs ≡ ok (group, hs)
      → last_field count hs ≡ ok t
      → rest_of_assume grouped count m fs ≡ ok (assume m (eqb flag 1) group t)
  unfolding rest_of_assume
  fact_is a b e = rw (a, b, e)

  pub fact_term_not : {flag group : ℕ} {gs hs : List Field} {x : Refusal} → next (number_field 1) fs ≡ ok (flag, gs)
      → group_field grouped gs ≡ ok (group, hs) → last_field count hs ≡ refused x
      → rest_of_assume grouped count m fs ≡ refused x
  unfolding rest_of_assume
  fact_term_not a b e = rw (a, b, e)

  pub fact_group_not : {flag : ℕ} {gs : List Field} {x : Refusal} → next (number_field 1) fs ≡ ok (flag, gs) → group_field grouped gs ≡ refused x
      → rest_of_assume grouped count m fs ≡ refused x
  unfolding rest_of_assume
  fact_group_not a b = rw (a, b)

  pub fact_not : {x : Refusal} → next (number_field 1) fs ≡ refused x → rest_of_assume grouped count m fs ≡ refused x
  unfolding rest_of_assume
  fact_not a = rw a

module _ (count q : ℕ) (fs : List Field) where
  -- the name and the term of a root
  pub root_is : {m : Name} {t : ℕ} {gs : List Field} → next name_field fs ≡ ok (m, gs) → last_field count gs ≡ ok t → rest_of_root count q fs ≡ ok (root q m t)
  unfolding rest_of_root
  root_is a e = rw (a, e)

  pub root_term_not : {m : Name} {gs : List Field} {x : Refusal} → next name_field fs ≡ ok (m, gs) → last_field count gs ≡ refused x
      → rest_of_root count q fs ≡ refused x
  unfolding rest_of_root
  root_term_not a e = rw (a, e)

  pub root_name_not : {x : Refusal} → next name_field fs ≡ refused x → rest_of_root count q fs ≡ refused x
  unfolding rest_of_root
  root_name_not a = rw a

-- ---- the steps of the cursor

module _ {file : List ℕ} {c : Cursor} (p : Placed file c) (count : ℕ) {r : Result (ℕ × Cursor)} (a : r ≡ term_at count file c) where
  -- the last field is a term
  pub last_is : {t : ℕ} {n : Cursor} → r ≡ ok (t, n) → n.end < n.at → ok t ≡ last_field count (fields_left file c)
  unfolding last_field
  last_is {t} {n} b h = rw (term_read p count a b, end_none t file n h)

  -- a field is left over
  pub last_more : {t : ℕ} {n : Cursor} → r ≡ ok (t, n) → n.at ≤ n.end → refused refusal.Form ≡ last_field count (fields_left file c)
  unfolding last_field
  last_more {t} {n} b h = rw (term_read p count a b, end_more t file n h)

  -- the field is refused
  pub last_refused : {x : Refusal} → r ≡ refused x → refused x ≡ last_field count (fields_left file c)
  unfolding last_field
  last_refused b = rw (term_not p count a b)

-- the cursor after a number
pub number_placed : {file : List ℕ} {c n : Cursor} {r : Result (ℕ × Cursor)} {v : ℕ} (limit : ℕ) → Placed file c → r ≡ number_at limit file c → r ≡ ok (v, n)
    → Placed file n
number_placed {file} {c} {n} {v = v} limit p a b = (number_next file c p limit v n (sym a ∙ b)).0.placed

-- a number is at most its limit
pub number_below : {file : List ℕ} {c n : Cursor} {r : Result (ℕ × Cursor)} {v : ℕ} (limit : ℕ) → Placed file c → r ≡ number_at limit file c → r ≡ ok (v, n)
    → v < limit + 1
number_below {file} {c} {n} {v = v} limit p a b = omega (arith, (number_next file c p limit v n (sym a ∙ b)).1)

-- the group of a fact
module _ {file : List ℕ} {c : Cursor} (p : Placed file c) (grouped : Bool) {r : Result (ℕ × Cursor)} (a : r ≡ number_or grouped most_group 0 file c) where
  -- its field, where the form has one
  group_law : number_result file r ≡ group_field grouped (fields_left file c)
  unfolding group_field
  group_law = ap (number_result file) a ∙ number_or_field p most_group 0 grouped ∙ go grouped
    where
      go : (b : Bool) → cond b (next (number_field most_group) (fields_left file c)) (and_after (fields_left file c) 0) ≡ group_field b (fields_left file c)
      go true = refl
      go false = refl

  pub group_read : {v : ℕ} {n : Cursor} → r ≡ ok (v, n) → group_field grouped (fields_left file c) ≡ ok (v, fields_left file n)
  unfolding number_result
  group_read e = sym group_law ∙ ap (number_result file) e

  pub group_not : {x : Refusal} → r ≡ refused x → group_field grouped (fields_left file c) ≡ refused x
  unfolding number_result
  group_not e = sym group_law ∙ ap (number_result file) e

  -- the cursor after it
  pub group_placed : {v : ℕ} {n : Cursor} → r ≡ ok (v, n) → Placed file n
  group_placed e = number_or_placed p most_group 0 grouped (sym a ∙ e)

  -- it is at most its limit
  pub group_most : {v : ℕ} {n : Cursor} → r ≡ ok (v, n) → v ≤ most_group
  group_most e = number_or_most p most_group 0 grouped (sym a ∙ e) (omega arith)
