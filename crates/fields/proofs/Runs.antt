-- What the runs of references come to: the fields as `model` reads them, and the words of their terms behind the table.
use Prim.Native.Nat.{ℕ, zero, suc, ◌+◌, ◌/◌, ◌%◌, ◌≤◌, ◌<◌}
use native.Mathlib.Numerals.{add-one}
use native.Mathlib.Omega.{arith}
use mathlib.Core.Path.{◌≡◌, refl, sym, ap, ap₂, ◌∙◌}
use mathlib.Core.Logic.{⊎_elim}
use mathlib.Core.List.Memᴰ
use mathlib.Core.List.{List, [], ◌∷◌, ◌++◌, map, Memᴰ}
use lib.ListN.{length, get_or, length-append}
use lib.Dec.{ltb}
use borrow.Author.Tests.{ltb-true}
use Rattle.model.specs.Lists.{concat, part}
use Rattle.model.specs.Lines.{Field}
use Rattle.model.specs.Reading.{Result, ok, refused, ◌>>=◌, next, many, rest, groups, number_field, term_field, most_references}
use Rattle.model.specs.declared.Refusal.{Refusal}
use Rattle.model.specs.declared.Refusal.TheVariants.{Term}
use Rattle.model.proofs.ListLaws.{T_true, map_elim}
use Rattle.model.proofs.PartLaws.{part_nil, part_cons}
use Rattle.model.proofs.ResultLaws.{bind_ok, ok_eq, not_ok, cond_ok}
use Rattle.terms.proofs.Groups.{group_words}
use Rattle.additions.specs.Additions.{references_pushed}
use Rattle.additions.proofs.Adding.{push_agrees, push_length}
use Rattle.additions.proofs.Lines.{push_last}
use Rattle.words.specs.Slices.{SameBut}
use Rattle.words.proofs.Slices.{same_self, same_then}
use Rattle.fields.specs.Pushing.{reference, most_number, ReferencesRead, push_one, push_many, push_rest, push_groups, push_all}
use Rattle.fields.proofs.Pushing.{pushed_kept}

-- ---- runs are the fields of `model`, pushed

-- the words of the terms of a group
abbrev pub in_group : ℕ → List ℕ → List ℕ
in_group g ts = map (λ t. reference t g) ts

-- two lists of words
push_append : (refs : List ℕ) (used : ℕ) (v w : List ℕ) → push_all refs used (v ++ w) ≡ push_all (push_all refs used v) (used + length v) w
unfolding push_all
push_append refs used [] w = let e : used + 0 ≡ used = omega arith in rw e
push_append refs used (x ∷ v) w =
    let e : used + suc (length v) ≡ used + 1 + length v = omega arith in
    rw e (push_append (references_pushed refs used x) (used + 1) v w)

-- a run that pushes words and leaves fields
abbrev done : List ℕ → ℕ → List ℕ → List Field → ReferencesRead
done refs used ws fs = ok (push_all refs used ws, used + length ws, fs)

-- no word
done_nil : (refs : List ℕ) (used : ℕ) (fs : List Field) → ok (refs, used, fs) ≡ done refs used [] fs
unfolding push_all
done_nil refs used fs = let e : used + 0 ≡ used = omega arith in rw e

-- one word and then words
done_cons : (refs : List ℕ) (used w : ℕ) (ws : List ℕ) (fs : List Field) → done (references_pushed refs used w) (used + 1) ws fs ≡ done refs used (w ∷ ws) fs
unfolding push_all
done_cons refs used w ws fs = let e : used + suc (length ws) ≡ used + 1 + length ws = omega arith in rw e

-- words and then words
done_append : (refs : List ℕ) (used : ℕ) (v w : List ℕ) (fs : List Field)
    → done (push_all refs used v) (used + length v) w fs ≡ done refs used (v ++ w) fs
done_append refs used v w fs =
    let e : used + length (v ++ w) ≡ used + length v + length w = omega (arith, length-append v w) in
    rw (e, push_append refs used v w)

-- a term pushed
abbrev one : ℕ → List ℕ → ℕ → ℕ → List Field → ReferencesRead
one g refs used t fs₁ = ok (references_pushed refs used (reference t g), used + 1, fs₁)

-- a value before others
abbrev with : {A : Type 0} → A → List A → List Field → Result (List A × List Field)
with a more fs₂ = ok (a ∷ more, fs₂)

module _ (count : ℕ) where
  -- all fields that are left
  pub rest_law : (refs : List ℕ) (used : ℕ) (fs : List Field)
      → push_rest count refs used fs ≡ (rest (term_field count) fs >>= λ ts. done refs used (in_group 0 ts) [])
  unfolding push_rest rest
  rest_law refs used [] = done_nil refs used []
  rest_law refs used (f ∷ fs) = go (λ t. rest_law (references_pushed refs used (reference t 0)) (used + 1) fs) (term_field count f)
    where
      Later : Type 0
      Later = (t : ℕ) → push_rest count (references_pushed refs used (reference t 0)) (used + 1) fs
          ≡ (rest (term_field count) fs >>= λ ts. done (references_pushed refs used (reference t 0)) (used + 1) (in_group 0 ts) [])

      go : Later → (r : Result ℕ) → (r >>= λ t. push_rest count (references_pushed refs used (reference t 0)) (used + 1) fs)
          ≡ (r >>= (λ a. rest (term_field count) fs >>= λ more. ok (a ∷ more)) >>= λ ts. done refs used (in_group 0 ts) [])
      go ih (refused x) = refl
      go ih (ok t) = ih t ∙ on (rest (term_field count) fs)
        where
          on : (r : Result (List ℕ)) → (r >>= λ ts. done (references_pushed refs used (reference t 0)) (used + 1) (in_group 0 ts) [])
              ≡ (r >>= (λ more. ok (t ∷ more)) >>= λ ts. done refs used (in_group 0 ts) [])
          on (refused x) = refl
          on (ok ts) = done_cons refs used (reference t 0) (in_group 0 ts) []

  -- the next n fields
  pub many_law : (g n : ℕ) (refs : List ℕ) (used : ℕ) (fs : List Field)
      → push_many count g n refs used fs ≡ (many n (term_field count) fs >>= λ (ts, fs₁). done refs used (in_group g ts) fs₁)
  unfolding push_many push_one many
  many_law g zero refs used fs = done_nil refs used fs
  many_law g (suc n) refs used fs = go (λ t fs₁. many_law g n (references_pushed refs used (reference t g)) (used + 1) fs₁) (next (term_field count) fs)
    where
      Later : Type 0
      Later = (t : ℕ) (fs₁ : List Field) → push_many count g n (references_pushed refs used (reference t g)) (used + 1) fs₁
          ≡ (many n (term_field count) fs₁ >>= λ (ts, fs₂). done (references_pushed refs used (reference t g)) (used + 1) (in_group g ts) fs₂)

      go : Later → (r : Result (ℕ × List Field))
          → (r >>= (λ (t, fs₁). one g refs used t fs₁) >>= λ (refs₁, used₁, fs₁). push_many count g n refs₁ used₁ fs₁)
          ≡ (r >>= (λ (a, fs₁). many n (term_field count) fs₁ >>= λ (more, fs₂). with a more fs₂) >>= λ (ts, fs₁). done refs used (in_group g ts) fs₁)
      go ih (refused x) = refl
      go ih (ok (t, fs₁)) = ih t fs₁ ∙ on (many n (term_field count) fs₁)
        where
          on : (r : Result (List ℕ × List Field)) → (r >>= λ (ts, fs₂). done (references_pushed refs used (reference t g)) (used + 1) (in_group g ts) fs₂)
              ≡ (r >>= (λ (more, fs₂). with t more fs₂) >>= λ (ts, fs₁). done refs used (in_group g ts) fs₁)
          on (refused x) = refl
          on (ok (ts, fs₂)) = done_cons refs used (reference t g) (in_group g ts) fs₂

  -- the next groups
  pub groups_law : (g n : ℕ) (refs : List ℕ) (used : ℕ) (fs : List Field)
      → push_groups count g n refs used fs ≡ (groups count n fs >>= λ (gs, fs₁). done refs used (group_words g gs) fs₁)
  unfolding push_groups groups group_words
  groups_law g zero refs used fs = done_nil refs used fs
  groups_law g (suc n) refs used fs = go (λ refs' used' fs₁. groups_law (g + 1) n refs' used' fs₁) (next (number_field most_number) fs)
    where
      Later : Type 0
      Later = (refs' : List ℕ) (used' : ℕ) (fs' : List Field) → push_groups count (g + 1) n refs' used' fs'
          ≡ (groups count n fs' >>= λ (gs, fs₁). done refs' used' (group_words (g + 1) gs) fs₁)

      go : Later → (r : Result (ℕ × List Field))
          → (r >>= λ (size, fs₁). push_many count g size refs used fs₁ >>= λ (refs₂, used₂, fs₂). push_groups count (g + 1) n refs₂ used₂ fs₂)
          ≡ (r >>= (λ (size, fs₁). many size (term_field count) fs₁ >>= λ (ts, fs₂). groups count n fs₂ >>= λ (gs, fs₃). with ts gs fs₃) >>= λ (gs, fs₁). done refs used (group_words g gs) fs₁)
      go ih (refused x) = refl
      go ih (ok (size, fs₁)) = rw (many_law g size refs used fs₁) (on ih (many size (term_field count) fs₁))
        where
          on : Later → (r : Result (List ℕ × List Field))
              → (r >>= (λ (ts, fs₁). done refs used (in_group g ts) fs₁) >>= λ (refs₂, used₂, fs₂). push_groups count (g + 1) n refs₂ used₂ fs₂)
              ≡ (r >>= (λ (ts, fs₂). groups count n fs₂ >>= λ (gs, fs₃). with ts gs fs₃) >>= λ (gs, fs₁). done refs used (group_words g gs) fs₁)
          on ih (refused x) = refl
          on ih (ok (ts, fs₂)) = ih (push_all refs used (in_group g ts)) (used + length (in_group g ts)) fs₂ ∙ last (groups count n fs₂)
            where
              last : (r : Result (List (List ℕ) × List Field))
                  → (r >>= λ (gs, fs₁). done (push_all refs used (in_group g ts)) (used + length (in_group g ts)) (group_words (g + 1) gs) fs₁)
                  ≡ (r >>= (λ (gs, fs₃). with ts gs fs₃) >>= λ (gs, fs₁). done refs used (group_words g gs) fs₁)
              last (refused x) = refl
              last (ok (gs, fs₃)) = rw (add-one g) (done_append refs used (in_group g ts) (group_words (suc g) gs) fs₃)

-- a step that only goes on with a value is refused where the value is
pub refused_back : {A B : Type 0} (r : Result A) (f : A → B) {x : Refusal} → (r >>= λ a. ok (f a)) ≡ refused x → r ≡ refused x
refused_back (ok a) f e = absurd (not_ok (sym e))
refused_back (refused y) f e = cc

-- ---- the words behind the table

-- the slice is as long as it was
all_length : (refs : List ℕ) (used : ℕ) (ws : List ℕ) → length (push_all refs used ws) ≡ length refs
unfolding push_all
all_length refs used [] = refl
all_length refs used (w ∷ ws) = all_length (references_pushed refs used w) (used + 1) ws ∙ push_length refs used w

-- the references before stay
all_agrees : (refs : List ℕ) (used : ℕ) (ws : List ℕ) (i : ℕ) → i < used → get_or (push_all refs used ws) i 0 ≡ get_or refs i 0
unfolding push_all
all_agrees refs used [] i h = refl
all_agrees refs used (w ∷ ws) i h = all_agrees (references_pushed refs used w) (used + 1) ws i (omega arith) ∙ push_agrees refs used w i h

-- nothing is written past the limit
all_kept : (refs : List ℕ) (used : ℕ) (ws : List ℕ) → SameBut 0 most_references refs (push_all refs used ws)
unfolding push_all
all_kept refs used [] = same_self 0 most_references refs
all_kept refs used (w ∷ ws) = same_then (pushed_kept refs used w) (all_kept (references_pushed refs used w) (used + 1) ws)

-- the words that were pushed, where all have room
all_words : (refs : List ℕ) (used : ℕ) (ws : List ℕ) → most_references ≤ length refs → used + length ws ≤ most_references
    → part (push_all refs used ws) used (used + length ws) ≡ ws
unfolding push_all
all_words refs used [] r h = part_nil refs used (used + 0) (omega arith)
all_words refs used (w ∷ ws) r h =
    let all = push_all (references_pushed refs used w) (used + 1) ws in
    let size : length all ≡ length refs = all_length (references_pushed refs used w) (used + 1) ws ∙ push_length refs used w in
    let e : used + suc (length ws) ≡ used + 1 + length ws = omega arith in
    rw (part_cons all used (used + suc (length ws)) (omega arith) (omega arith), e)
    (ap₂ ◌∷◌
    (all_agrees (references_pushed refs used w) (used + 1) ws used (omega arith) ∙ push_last refs used w r (omega arith))
    (all_words (references_pushed refs used w) (used + 1) ws (rw (push_length refs used w) r) (omega arith)))

-- words pushed, each of one of `count` terms
pub record Ran (count : ℕ) (refs refs' : List ℕ) (from end : ℕ) (words : List ℕ) : Type 0 where
  pub is : refs' ≡ push_all refs from words
  pub ends : end ≡ from + length words
  pub small : (w : ℕ) → Memᴰ w words → w % 4096 < count

-- none
pub ran_none : {count from : ℕ} {refs : List ℕ} → Ran count refs refs from from []
unfolding push_all
ran_none = record { is = refl; ends = omega arith; small = λ w m. absurd (Memᴰ.not-nil m) }

-- some and then others
pub ran_then : {count from mid end : ℕ} {refs refs₁ refs' v w : List ℕ} → Ran count refs refs₁ from mid v → Ran count refs₁ refs' mid end w
    → Ran count refs refs' from end (v ++ w)
ran_then {from = from} {refs = refs} {v = v} {w} p q = record {
  is = q.is ∙ rw (p.is, p.ends, push_append refs from v w);
  ends = omega (arith, p.ends, q.ends, length-append v w);
  small = λ x m. ⊎_elim (p.small x) (q.small x) (Memᴰ.append_cases v m);
}

module _ {count from end : ℕ} {refs refs' words : List ℕ} (r : Ran count refs refs' from end words) where
  -- nothing is written past the limit
  pub ran_kept : SameBut 0 most_references refs refs'
  ran_kept = rw r.is (all_kept refs from words)

  -- the references before stay
  pub ran_agrees : (i : ℕ) → i < from → get_or refs' i 0 ≡ get_or refs i 0
  ran_agrees i h = rw r.is (all_agrees refs from words i h)

  -- the words stand behind them
  pub ran_words : most_references ≤ length refs → end ≤ most_references → part refs' from end ≡ words
  ran_words room h = rw (r.is, r.ends) (all_words refs from words room (omega (arith, r.ends)))

-- ---- terms that were read

-- a term field is below the count
term_small : (count : ℕ) (f : Field) {t : ℕ} → term_field count f ≡ ok t → t < count
unfolding term_field
term_small count f e =
    let (n, d, k) = bind_ok (number_field most_number f) e in
    let (l, m) = cond_ok (ltb n count) (ok n) Term k in
    omega (arith, ltb-true n count (T_true _ l), ok_eq m)

-- the next one
next_small : (count : ℕ) (fs : List Field) {a : ℕ} {gs : List Field} → next (term_field count) fs ≡ ok (a, gs) → a < count
unfolding next
next_small count [] e = absurd (not_ok e)
next_small count (f ∷ fs) e =
    let (b, d, k) = bind_ok (term_field count f) e in
    let q = ap (λ x. x.0) (ok_eq k) in
    omega (arith, term_small count f d)

-- each of all that are left
rest_small : (count : ℕ) (fs : List Field) {ts : List ℕ} → rest (term_field count) fs ≡ ok ts → (t : ℕ) → Memᴰ t ts → t < count
unfolding rest
rest_small count [] e t m = let z : [] ≡ _ = ok_eq e in absurd (Memᴰ.not-nil (rw (← z) at m))
rest_small count (f ∷ fs) e t m =
    let (a, d, k) = bind_ok (term_field count f) e in
    let (more, d₁, k₁) = bind_ok (rest (term_field count) fs) k in
    ⊎_elim (λ (q : t ≡ a). rw q (term_small count f d)) (λ q. rest_small count fs d₁ t q) (Memᴰ.cases_cons (rw (← ok_eq k₁) at m))

-- each of the next n
many_small : (count n : ℕ) (fs : List Field) {ts : List ℕ} {gs : List Field} → many n (term_field count) fs ≡ ok (ts, gs) → (t : ℕ)
    → Memᴰ t ts → t < count
unfolding many
many_small count zero fs e t m = absurd (Memᴰ.not-nil (rw (← ap (λ x. x.0) (ok_eq e)) at m))
many_small count (suc n) fs {ts} e t m =
    let ((a, fs₁), d, k) = bind_ok (next (term_field count) fs) e in
    let ((more, fs₂), d₁, k₁) = bind_ok (many n (term_field count) fs₁) k in
    let q : a ∷ more ≡ ts = ap (λ x. x.0) (ok_eq k₁) in
    ⊎_elim (λ (z : t ≡ a). rw z (next_small count fs d)) (λ z. many_small count n fs₁ d₁ t z) (Memᴰ.cases_cons (rw (← q) at m))

-- each of the groups, and how many groups there are
groups_small : (count n : ℕ) (fs : List Field) {gs : List (List ℕ)} {fs' : List Field} → groups count n fs ≡ ok (gs, fs')
    → ((t : ℕ) → Memᴰ t (concat gs) → t < count) × (length gs ≡ n)
unfolding groups concat
groups_small count zero fs e =
    let q = ap (λ x. x.0) (ok_eq e) in
    (λ t m. absurd (Memᴰ.not-nil (rw (← q) at m)), rw (← q))
groups_small count (suc n) fs {gs} e =
    let ((size, fs₁), d, k) = bind_ok (next (number_field most_number) fs) e in
    let ((ts, fs₂), d₁, k₁) = bind_ok (many size (term_field count) fs₁) k in
    let ((more, fs₃), d₂, k₂) = bind_ok (groups count n fs₂) k₁ in
    let q : ts ∷ more ≡ gs = ap (λ x. x.0) (ok_eq k₂) in
    let (small, long) = groups_small count n fs₂ d₂ in
    (λ t m. ⊎_elim (λ z. many_small count size fs₁ d₁ t z) (λ z. small t z) (Memᴰ.append_cases ts (rw (← q) at m)), rw (← q) (ap suc long))

-- a word of groups: its term, its group
pub word_small : (count : ℕ) (gs : List (List ℕ)) (g : ℕ) → count ≤ 4096 → ((t : ℕ) → Memᴰ t (concat gs) → t < count)
    → (w : ℕ) → Memᴰ w (group_words g gs) → (w % 4096 < count) × (w / 4096 < g + length gs)
unfolding concat group_words
word_small count [] g h s w m = absurd (Memᴰ.not-nil m)
word_small count (ts ∷ gs) g h s w m = ⊎_elim
    (λ z. let (t, k, e) = map_elim (λ t. reference t g) ts z in let l = s t (Memᴰ.append_left (concat gs) k) in (omega arith, omega arith))
    (λ z. let (a, b) = word_small count gs (suc g) h (λ t k. s t (Memᴰ.append_right ts k)) w z in (a, omega arith))
    (Memᴰ.append_cases (map (λ t. reference t g) ts) m)

-- ---- what was read, by the run

-- a term that was pushed
pub record TermRan (count : ℕ) (refs refs' : List ℕ) (from end : ℕ) (fs hs : List Field) : Type 0 where
  pub term : ℕ
  pub said : next (term_field count) fs ≡ ok (term, hs)
  pub small : term < count
  pub ran : Ran count refs refs' from end (reference term 0 ∷ [])

-- terms of all fields left that were pushed
pub record RestRan (count : ℕ) (refs refs' : List ℕ) (from end : ℕ) (fs : List Field) : Type 0 where
  pub terms : List ℕ
  pub said : rest (term_field count) fs ≡ ok terms
  pub small : (t : ℕ) → Memᴰ t terms → t < count
  pub ran : Ran count refs refs' from end (in_group 0 terms)

-- groups that were pushed
pub record GroupsRan (count n : ℕ) (refs refs' : List ℕ) (from end : ℕ) (fs hs : List Field) : Type 0 where
  pub terms : List (List ℕ)
  pub said : groups count n fs ≡ ok (terms, hs)
  pub small : (t : ℕ) → Memᴰ t (concat terms) → t < count
  pub size : length terms ≡ n
  pub ran : Ran count refs refs' from end (group_words 0 terms)

abbrev and_after : {A : Type 0} → A → List Field → Result (A × List Field)
and_after a fs = ok (a, fs)

module _ (count : ℕ) (few : count ≤ 4096) (refs : List ℕ) {refs' : List ℕ} (from : ℕ) {end : ℕ} (fs : List Field) {hs : List Field} where
  -- one term
  pub term_ran : push_one count 0 refs from fs ≡ ok (refs', end, hs) → TermRan count refs refs' from end fs hs
  unfolding push_one push_all
  term_ran e =
      let ((t, gs), d, k) = bind_ok (next (term_field count) fs) e in
      let q = ok_eq k in
      let low = next_small count fs d in
      record {
        term = t;
        said = d ∙ ap (and_after t) (ap (λ x. x.2) q);
        small = low;
        ran = record {
          is = sym (ap (λ x. x.0) q);
          ends = sym (ap (λ x. x.1) q);
          small = λ w m. ⊎_elim (λ (z : w ≡ reference t 0). omega arith) (λ z. absurd (Memᴰ.not-nil z)) (Memᴰ.cases_cons m);
        };
      }

  -- all fields left
  pub rest_ran : push_rest count refs from fs ≡ ok (refs', end, hs) → RestRan count refs refs' from end fs
  rest_ran e =
      let (ts, d, k) = bind_ok (rest (term_field count) fs) (sym (rest_law count refs from fs) ∙ e) in
      let q = ok_eq k in
      let small = rest_small count fs d in
      record {
        terms = ts;
        said = d;
        small = small;
        ran = record {
          is = sym (ap (λ x. x.0) q);
          ends = sym (ap (λ x. x.1) q);
          small = λ w m. let (t, l, z) = map_elim (λ t. reference t 0) ts m in let low = small t l in omega arith;
        };
      }

  -- groups
  pub groups_ran : (n : ℕ) → push_groups count 0 n refs from fs ≡ ok (refs', end, hs) → GroupsRan count n refs refs' from end fs hs
  groups_ran n e =
      let ((gs, hs₁), d, k) = bind_ok (groups count n fs) (sym (groups_law count 0 n refs from fs) ∙ e) in
      let q = ok_eq k in
      let (small, size) = groups_small count n fs d in
      record {
        terms = gs;
        said = d ∙ ap (and_after gs) (ap (λ x. x.2) q);
        small = small;
        size = size;
        ran = record {
          is = sym (ap (λ x. x.0) q);
          ends = sym (ap (λ x. x.1) q);
          small = λ w m. (word_small count gs 0 few small w m).0;
        };
      }

module _ (count : ℕ) (refs : List ℕ) (from : ℕ) (fs : List Field) {x : Refusal} where
  -- a term that is refused
  pub term_refused : push_one count 0 refs from fs ≡ refused x → next (term_field count) fs ≡ refused x
  unfolding push_one
  term_refused e = refused_back (next (term_field count) fs) (λ (t, fs₁). (references_pushed refs from (reference t 0), from + 1, fs₁)) e

  -- one of all fields left
  pub rest_refused : push_rest count refs from fs ≡ refused x → rest (term_field count) fs ≡ refused x
  rest_refused e = refused_back (rest (term_field count) fs) (λ ts. (push_all refs from (in_group 0 ts), from + length (in_group 0 ts), []))
      (sym (rest_law count refs from fs) ∙ e)

  -- one of groups
  pub groups_refused : (n : ℕ) → push_groups count 0 n refs from fs ≡ refused x → groups count n fs ≡ refused x
  groups_refused n e =
      refused_back (groups count n fs) (λ (gs, hs). (push_all refs from (group_words 0 gs), from + length (group_words 0 gs), hs))
      (sym (groups_law count 0 n refs from fs) ∙ e)
