-- The fields of a line, walked from the first by what stands next: the first fault that the walk meets is the line's.
use Prim.Native.Nat.{ℕ, zero, suc}
use mathlib.Core.Path.{◌≡◌, refl, sym, ◌∙◌, ap}
use mathlib.Core.Bool.{Bool, true, false, cond}
use mathlib.Core.List.{List, [], ◌∷◌, ◌++◌, append-nil, append_assoc}
use mathlib.Core.Logic.{◌↔◌}
use Rattle.std.specs.Prelude.{Option, None as none, Some as some}
use Rattle.std.proofs.lemmas.Option.{same_Some as some-injective, none-some as none-ne-some}
use lib.Dec.{T, leb, ltb, eqb}
use lib.ListN.{length}
use Rattle.model.specs.Lists.{or_else, when, ◌>>=◌ as ◌>>=ᵒ◌}
use Rattle.model.specs.Lines.{Field, is_name, number, decimal}
use Rattle.model.specs.Reading.{Result, ok, refused, ◌>>=◌, need, name_field, number_field, term_field, op_words, word, next, many, rest, end, groups}
use Rattle.model.specs.declared.LineKind.{LineKind}
use Rattle.model.specs.declared.Op.{Op}
use Rattle.model.specs.declared.Refusal.{Refusal}
use Rattle.model.specs.declared.Refusal.TheVariants as refusal
use Rattle.model.proofs.ListLaws.{true_T, cond_ap, cond_true}
use Rattle.model.proofs.ResultLaws.{bind_assoc}
use Rattle.demands.specs.LineForm.{Sort, a_name, a_number, a_term, an_op_word, Due, must, may, nothing, value, group_due, due, number_fault, term_fault, fault, sort_due, Faulty, lacking, left_over, not_so, later}
use Rattle.laws.proofs.ReadingLaws.{number_ok}

module _ {A : Type 0} where
  -- why there is no value, if there is none
  abbrev pub why : Result A → Option Refusal
  why (ok a) = none
  why (refused r) = some r

  -- a result is the refusal r exactly if r is why there is no value
  pub refused_why : (x : Result A) {r : Refusal} → (x ≡ refused r) ↔ (why x ≡ some r)
  refused_why (ok a) = (λ e. ap why e, λ e. cc)
  refused_why (refused s) = (λ e. ap why e, λ e. cc)

-- why a line that ends is refused, by what stands next
abbrev stop : Due → Option Refusal
stop (must s) = some refusal.Form
stop (may s) = none
stop nothing = none

-- why a line is refused, by the sort of its next field, that field, and why what follows the field is refused
abbrev step : ℕ → Option Sort → Field → Option Refusal → Option Refusal
step count none f after = some refusal.Form
step count (some s) f after = or_else (fault count s f) after

-- why the fields are refused, where `ahead` says what stands next after some of them
unfoldable pub walk : ℕ → (List Field → Due) → List Field → Option Refusal
walk count ahead [] = stop (ahead [])
walk count ahead (f ∷ fs) = step count (sort_due (ahead [])) f (walk count (λ gs. ahead (f ∷ gs)) fs)

-- `ahead` says what stands next in a line of this kind, after the fields `before`
record Follows (grouped : Bool) (k : LineKind) (before : List Field) (ahead : List Field → Due) : Type 0 where
  then : (gs : List Field) → ahead gs ≡ due grouped k (before ++ gs)

module _ {grouped : Bool} {k : LineKind} {before : List Field} {ahead : List Field → Due} where
  -- what stands next, where no field follows
  follows_now : Follows grouped k before ahead → ahead [] ≡ due grouped k before
  follows_now h = h.then [] ∙ ap (due grouped k) (append-nil before)

  -- after one field more `ahead` is asked with that field in front
  follows_on : Follows grouped k before ahead → (f : Field) → Follows grouped k (before ++ (f ∷ [])) (λ gs. ahead (f ∷ gs))
  follows_on h f = record { then = λ gs. h.then (f ∷ gs) ∙ ap (due grouped k) (sym (append_assoc before (f ∷ []) gs)) }

module _ {grouped : Bool} {k : LineKind} {count : ℕ} {before : List Field} {r : Refusal} where
  -- a line that is refused at its end lacks a field
  stop_faulty : (d : Due) → due grouped k before ≡ d → stop d ≡ some r → Faulty grouped k count before [] r
  stop_faulty (must s) e t = rw (← (some-injective refusal.Form r t)) (lacking e)
  stop_faulty (may s) e t = absurd (none-ne-some r t)
  stop_faulty nothing e t = absurd (none-ne-some r t)

  module _ {f : Field} {more : List Field} where
    -- a line refused at a field of a known sort or after it is faulty, if what follows the field is
    fault_faulty : {s : Sort} {after : Option Refusal} → sort_due (due grouped k before) ≡ some s
        → (after ≡ some r → Faulty grouped k count (before ++ (f ∷ [])) more r)
        → (o : Option Refusal) → fault count s f ≡ o → or_else o after ≡ some r → Faulty grouped k count before (f ∷ more) r
    unfolding or_else
    fault_faulty p below none e t = later p e (below t)
    fault_faulty p below (some q) e t = not_so p (e ∙ t)

    -- the same by what stands next: a field left over is a fault too
    step_faulty : {after : Option Refusal} → (after ≡ some r → Faulty grouped k count (before ++ (f ∷ [])) more r)
        → (d : Due) → due grouped k before ≡ d → step count (sort_due d) f after ≡ some r → Faulty grouped k count before (f ∷ more) r
    unfolding sort_due
    step_faulty below (must s) e t = fault_faulty (ap sort_due e) below (fault count s f) refl t
    step_faulty below (may s) e t = fault_faulty (ap sort_due e) below (fault count s f) refl t
    step_faulty below nothing e t = rw (← (some-injective refusal.Form r t)) (left_over e)

module _ {grouped : Bool} {k : LineKind} {count : ℕ} where
  -- fields that the walk refuses are faulty
  walk_faulty : (fs : List Field) {before : List Field} {ahead : List Field → Due} {r : Refusal}
      → Follows grouped k before ahead → walk count ahead fs ≡ some r → Faulty grouped k count before fs r
  unfolding walk
  walk_faulty [] {ahead} h t = stop_faulty (ahead []) (sym (follows_now h)) t
  walk_faulty (f ∷ fs) {ahead} h t = step_faulty (walk_faulty fs (follows_on h f)) (ahead []) (sym (follows_now h)) t

  -- faulty fields are refused by the walk
  faulty_walk : {fs before : List Field} {ahead : List Field → Due} {r : Refusal}
      → Follows grouped k before ahead → Faulty grouped k count before fs r → walk count ahead fs ≡ some r
  unfolding walk sort_due or_else
  faulty_walk h (lacking e) = rw (follows_now h, e)
  faulty_walk h (left_over e) = rw (follows_now h, e)
  faulty_walk h (not_so p e) = rw (follows_now h, p, e)
  faulty_walk h (later {f} p e l) = rw (follows_now h, p, e) (faulty_walk (follows_on h f) l)

-- the walk by what is due in a line of this kind refuses exactly the faulty fields
pub walk_exact : (grouped : Bool) (k : LineKind) (count : ℕ) (fs : List Field) (r : Refusal) → (walk count (due grouped k) fs ≡ some r) ↔ Faulty grouped k count [] fs r
walk_exact grouped k count fs r = (walk_faulty fs start, faulty_walk start)
  where
    start : Follows grouped k [] (due grouped k)
    start = record { then = λ gs. refl }

-- the judge refuses a field exactly for the fault that it has as a field of the sort
pub record Judges {A : Type 0} (count : ℕ) (s : Sort) (judge : Field → Result A) : Type 0 where
  pub exact : (f : Field) → why (judge f) ≡ fault count s f

-- a number is at most 65,535
number_limit : (f : Field) {n : ℕ} → number f ≡ some n → T (leb n 65535)
unfolding number when
number_limit [] e = absurd (none-ne-some _ e)
number_limit (b ∷ bs) {n} e = zero_or (eqb b 0x30) (leb (length bs) 0) (decimal 0 (b ∷ bs)) e
  where
    at_most : (m : ℕ) (t : Bool) → leb m 65535 ≡ t → when t m ≡ some n → T (leb n 65535)
    at_most m true h e = rw (← (some-injective m n e)) (true_T h)
    at_most m false h e = absurd (none-ne-some n e)

    digits : (o : Option ℕ) → (o >>=ᵒ λ m. when (leb m 65535) m) ≡ some n → T (leb n 65535)
    digits none e = absurd (none-ne-some n e)
    digits (some m) e = at_most m (leb m 65535) refl e

    zero_or : (z t : Bool) (o : Option ℕ) → cond z (when t 0) (o >>=ᵒ λ m. when (leb m 65535) m) ≡ some n → T (leb n 65535)
    zero_or true true o e = at_most 0 true refl e
    zero_or true false o e = absurd (none-ne-some n e)
    zero_or false t o e = digits o e

-- the number that is read from a field is the field's value
pub number_value : (limit : ℕ) (f : Field) {n : ℕ} → number_field limit f ≡ ok n → value f ≡ n
unfolding value
number_value limit f e = rw (number_ok limit f e).0

module _ (count : ℕ) where
  -- `name_field` judges names
  pub name_judged : Judges count a_name name_field
  unfolding name_field fault
  name_judged = record { exact = λ f. cond_ap why (is_name f) (ok f) (refused refusal.Name) }

  -- `number_field` judges numbers of at most its limit
  pub number_judged : (limit : ℕ) → Judges count (a_number limit) (number_field limit)
  unfolding number_field fault number_fault need
  number_judged limit = record { exact = λ f. go (number f) }
    where
      go : (o : Option ℕ) → why (need refusal.Number o >>= λ n. cond (leb n limit) (ok n) (refused refusal.Number)) ≡ number_fault limit o
      go none = refl
      go (some n) = cond_ap why (leb n limit) (ok n) (refused refusal.Number)

  -- `term_field` judges the numbers of terms
  pub term_judged : Judges count a_term (term_field count)
  unfolding term_field number_field fault term_fault need
  term_judged = record { exact = λ f. go f (number f) refl }
    where
      go : (f : Field) (o : Option ℕ) → number f ≡ o
          → why (need refusal.Number o >>= (λ n. cond (leb n 65535) (ok n) (refused refusal.Number)) >>= λ n. cond (ltb n count) (ok n) (refused refusal.Term))
          ≡ term_fault count o
      go f none e = refl
      go f (some n) e = rw (cond_true (leb n 65535) (ok n) (refused refusal.Number) (number_limit f e)) (cond_ap why (ltb n count) (ok n) (refused refusal.Term))

  -- the search in `op_words` judges the words of an `op`
  pub op_judged : Judges count an_op_word (λ f. need refusal.Form (word op_words f))
  unfolding fault need
  op_judged = record { exact = λ f. go (word op_words f) }
    where
      go : (o : Option Op) → why (need refusal.Form o) ≡ (elim o as (λ x. Option Refusal) [ none ↦ some refusal.Form | some w ↦ none ])
      go none = refl
      go (some w) = refl

module _ {A B : Type 0} {count : ℕ} {s : Sort} {judge : Field → Result A} where
  -- reading on after a judged field is refused for the field's fault, or else for what follows it
  judge_step : Judges count s judge → (on : A → Result B) (after : Option Refusal) (f : Field)
      → ((a : A) → judge f ≡ ok a → why (on a) ≡ after) → why (judge f >>= on) ≡ or_else (fault count s f) after
  unfolding or_else
  judge_step j on after f below = rw (← (j.exact f)) (go (judge f) below)
    where
      go : (x : Result A) → ((a : A) → x ≡ ok a → why (on a) ≡ after) → why (x >>= on) ≡ or_else (why x) after
      go (ok a) h = h a refl
      go (refused r) h = refl

  -- `next` and what reads on are refused for what the walk meets, where a field of the sort must stand next
  pub walk_next : Judges count s judge → (on : A × List Field → Result B) (ahead : List Field → Due) → ahead [] ≡ must s
      → ((f : Field) (a : A) → judge f ≡ ok a → (fs : List Field) → why (on (a, fs)) ≡ walk count (λ gs. ahead (f ∷ gs)) fs)
      → (fs : List Field) → why (next judge fs >>= on) ≡ walk count ahead fs
  unfolding walk next sort_due
  walk_next j on ahead e below [] = rw e
  walk_next j on ahead e below (f ∷ fs) = rw (e, bind_assoc (judge f) (λ a. ok (a, fs)) on) (judge_step j _ _ f (λ a h. below f a h fs))

  -- `rest` is refused for what the walk meets, where any number of fields of the sort may stand
  pub walk_rest : Judges count s judge → (make : List A → B) (fs : List Field) → why (rest judge fs >>= λ xs. ok (make xs)) ≡ walk count (λ gs. may s) fs
  unfolding walk rest sort_due
  walk_rest j make [] = refl
  walk_rest j make (f ∷ fs) =
      ap why (bind_assoc (judge f) _ _) ∙ judge_step j _ _ f (λ a h. ap why (bind_assoc (rest judge fs) _ _) ∙ walk_rest j (λ xs. make (a ∷ xs)) fs)

-- `many` and what reads on are refused for what the walk meets, in a pattern group that lacks n terms
walk_many : {B : Type 0} (count g : ℕ) (on : List ℕ × List Field → Result B)
    → ((ts : List ℕ) (fs : List Field) → why (on (ts, fs)) ≡ walk count (λ gs. group_due gs 0 g) fs)
    → (n : ℕ) (fs : List Field) → why (many n (term_field count) fs >>= on) ≡ walk count (λ gs. group_due gs n g) fs
unfolding walk many group_due
walk_many count g on below zero fs = below [] fs
walk_many count g on below (suc n) fs =
    ap why (bind_assoc (next (term_field count) fs) _ on)
    ∙ walk_next (term_judged count) _ _ refl (λ f t h gs. ap why (bind_assoc (many n (term_field count) gs) _ on) ∙ walk_many count g (λ p. on (t ∷ p.0, p.1)) (λ ts. below (t ∷ ts)) n gs) fs

-- `groups` and what reads on are refused for what the walk meets, where g pattern groups stand next
pub walk_groups : {B : Type 0} (count : ℕ) (on : List (List ℕ) × List Field → Result B)
    → ((gs : List (List ℕ)) (fs : List Field) → why (on (gs, fs)) ≡ walk count (λ hs. group_due hs 0 0) fs)
    → (g : ℕ) (fs : List Field) → why (groups count g fs >>= on) ≡ walk count (λ hs. group_due hs 0 g) fs
unfolding walk groups group_due
walk_groups count on below zero fs = below [] fs
walk_groups count on below (suc g) fs =
    ap why (bind_assoc (next (number_field 65535) fs) _ on)
    ∙ walk_next (number_judged count 65535) _ _ refl (λ f n h fs₁. rw (number_value 65535 f h)
    (ap why (bind_assoc (many n (term_field count) fs₁) _ on)
    ∙ walk_many count g _ (λ ts fs₂. ap why (bind_assoc (groups count g fs₂) _ on) ∙ walk_groups count (λ p. on (ts ∷ p.0, p.1)) (λ gs. below (ts ∷ gs)) g fs₂) n fs₁)) fs

-- `end` is refused for what the walk meets, where nothing more may stand
pub walk_end : {A : Type 0} (count : ℕ) (a : A) (ahead : List Field → Due) → ahead [] ≡ nothing → (fs : List Field) → why (end a fs) ≡ walk count ahead fs
unfolding walk end sort_due
walk_end count a ahead e [] = rw e
walk_end count a ahead e (f ∷ fs) = rw e
