-- Demand 1, the refusals 1 to 4 and 13: a line is refused exactly for a fault of its form.
use Prim.Native.Nat.{ℕ, ◌+◌, ◌≤◌}
use native.Mathlib.Omega.{arith}
use mathlib.Core.Path.{◌≡◌, refl, sym, ◌∙◌}
use mathlib.Core.Bool.{Bool, true, false, cond, not, not-not}
use mathlib.Core.List.{List, [], ◌∷◌}
use mathlib.Core.Logic.Iff
use mathlib.Core.Logic.{◌↔◌, ◌≢◌, ◌⊎◌, inl, inr}
use Rattle.std.specs.Prelude.{Option, None as none, Some as some}
use Rattle.std.proofs.lemmas.Option.{same_Some as some-injective, none-some as none-ne-some}
use lib.Dec.{T, T_not, not_T, leb, leb→le, le→leb, nleb→lt, eqb, eqb→eq, eqb_refl}
use lib.ListN.{length}
use Rattle.model.specs.Lists.{holds}
use Rattle.model.specs.Lines.{Field}
use Rattle.model.specs.Terms.{Node}
use Rattle.model.specs.Reading.{Result, ok, refused, ◌>>=◌, need, next, kinds, word, quantifier, Content, group_field, content, State, place, may_stand, is_position, most_asks, kind_field, fixed_count, parse}
use Rattle.model.specs.declared.LineKind.{LineKind}
use Rattle.model.specs.declared.LineKind.TheVariants as kind
use Rattle.model.specs.declared.Refusal.{Refusal}
use Rattle.model.specs.declared.Refusal.TheVariants as refusal
use Rattle.model.proofs.ListLaws.{T_and, T_dec, cond_true, cond_false}
use Rattle.demands.specs.LineForm.{Sort, nothing, group_due, quantifier_due, in_order, then_terms, assume_due, due, RefusedFields, Allowed, FaultyLine, unknown, misplaced, too_many, miscounted, field, RefusedLine, FixedCounts}
use Rattle.laws.proofs.ReadingLaws.{is_past}
use Rattle.demands.proofs.LineWalk.{why, refused_why, walk, walk_exact, walk_next, walk_rest, walk_groups, walk_end, name_judged, number_judged, number_value, term_judged, op_judged}

-- an `all` or a `some` is refused for what the walk meets
quantifier_walk : (make : ℕ → List (List ℕ) → Node) (count : ℕ) (fs : List Field) → why (quantifier make count fs) ≡ walk count quantifier_due fs
unfolding quantifier quantifier_due group_due
quantifier_walk make count fs =
    walk_next (term_judged count) _ _ refl (λ f body h. walk_next (number_judged count 65535) _ _ refl (λ f₁ g h₁ fs₂. rw (number_value 65535 f₁ h₁)
    (walk_groups count _ (λ gs. walk_end count _ _ refl) g fs₂))) fs

-- an assume line of either form is refused for what the walk meets
assume_walk : (grouped : Bool) (count : ℕ) (fs : List Field) → why (content kind.Assume grouped count fs) ≡ walk count (assume_due grouped) fs
unfolding content group_field assume_due in_order
assume_walk false count fs =
    walk_next (name_judged count) _ _ refl (λ f name h. walk_next (number_judged count 1) _ _ refl (λ f₁ flag h₁.
    walk_next (term_judged count) _ _ refl (λ f₂ t h₂. walk_end count _ _ refl))) fs
assume_walk true count fs =
    walk_next (name_judged count) _ _ refl (λ f name h. walk_next (number_judged count 1) _ _ refl (λ f₁ flag h₁.
    walk_next (number_judged count 15) _ _ refl (λ f₂ group h₂. walk_next (term_judged count) _ _ refl (λ f₃ t h₃. walk_end count _ _ refl)))) fs

-- the fields of a line are refused for what the walk meets
content_walk : (k : LineKind) (grouped : Bool) (count : ℕ) (fs : List Field) → why (content k grouped count fs) ≡ walk count (due grouped k) fs
unfolding content due in_order then_terms
content_walk kind.Ask grouped count fs = walk_next (number_judged count 255) _ _ refl (λ f q h. walk_next (number_judged count 15) _ _ refl (λ f₁ options h₁. walk_end count _ _ refl)) fs
content_walk kind.Ask2 grouped count fs =
    walk_next (number_judged count 255) _ _ refl (λ f q h. walk_next (number_judged count 15) _ _ refl (λ f₁ options h₁.
    walk_next (number_judged count 65535) _ _ refl (λ f₂ admitted h₂. walk_end count _ _ refl))) fs
content_walk kind.Also grouped count fs = walk_next (number_judged count 255) _ _ refl (λ f q h. walk_end count _ _ refl) fs
content_walk kind.Hide grouped count fs = walk_next (name_judged count) _ _ refl (λ f name h. walk_end count _ _ refl) fs
content_walk kind.Free grouped count fs = walk_next (name_judged count) _ _ refl (λ f name h. walk_end count _ _ refl) fs
content_walk kind.Leaf grouped count fs = walk_end count _ _ refl fs
content_walk kind.Call grouped count fs = walk_next (name_judged count) _ _ refl (λ f name h. walk_rest (term_judged count) _) fs
content_walk kind.Op grouped count fs = walk_next (op_judged count) _ _ refl (λ f w h. walk_rest (term_judged count) _) fs
content_walk kind.All grouped count fs = quantifier_walk _ count fs
content_walk kind.Some grouped count fs = quantifier_walk _ count fs
content_walk kind.Let grouped count fs = walk_next (term_judged count) _ _ refl (λ f body h. walk_rest (term_judged count) _) fs
content_walk kind.Label grouped count fs = walk_next (term_judged count) _ _ refl (λ f t h. walk_end count _ _ refl) fs
content_walk kind.Assume grouped count fs = assume_walk grouped count fs
content_walk kind.Fun grouped count fs = walk_next (name_judged count) _ _ refl (λ f name h. walk_end count _ _ refl) fs
content_walk kind.Def grouped count fs = walk_next (name_judged count) _ _ refl (λ f name h. walk_next (term_judged count) _ _ refl (λ f₁ t h₁. walk_end count _ _ refl)) fs
content_walk kind.Retain grouped count fs = walk_rest (name_judged count) _ fs
content_walk kind.Root grouped count fs =
    walk_next (number_judged count 255) _ _ refl (λ f q h. walk_next (name_judged count) _ _ refl (λ f₁ name h₁. walk_next (term_judged count) _ _ refl (λ f₂ t h₂. walk_end count _ _ refl))) fs

-- the fields after a line's kind are refused exactly for a fault
pub refused_fields : RefusedFields
refused_fields k grouped count fs r = Iff.trans (refused_why (content k grouped count fs)) (rw (content_walk k grouped count fs) (walk_exact grouped k count fs r))

-- whether the count is other than the fixed one
abbrev other_count : ℕ → Option ℕ → Bool
other_count l o = holds (λ c. not (eqb l c)) o

-- the test holds exactly where there is a fixed count and the count is another
other_count_exact : (l : ℕ) (o : Option ℕ) → T (other_count l o) ↔ ((fixed : ℕ) × (o ≡ some fixed) × (l ≢ fixed))
unfolding holds
other_count_exact l none = (λ t. absurd t, λ p. absurd (none-ne-some p.0 p.1))
other_count_exact l (some c) =
    (λ t. (c, refl, λ e. T_not (eqb l c) t (rw e (eqb_refl c))), λ p. not_T (eqb l c) (λ t. p.2 (eqb→eq l c t ∙ some-injective c p.0 p.1)))

-- the test fails exactly where the count is the fixed one, if there is one
counted_exact : (l : ℕ) (o : Option ℕ) → T (not (other_count l o)) ↔ ((fixed : ℕ) → o ≡ some fixed → l ≡ fixed)
unfolding holds
counted_exact l none = (λ t fixed e. absurd (none-ne-some fixed e), λ h. tt)
counted_exact l (some c) =
    (λ t fixed e. eqb→eq l c (rw not-not at t) ∙ some-injective c fixed e, λ h. rw (h c refl, not-not) (eqb_refl c))

-- a kind that may stand, and is no ask too many
allowed : (s : State) (k : LineKind) → T (may_stand s (place k)) → T (not (is_past s k)) → Allowed s k
allowed s k t u =
    record {
      stands = t;
      in_number = λ p. nleb→lt most_asks (length s.asks)
          (not_T (leb most_asks (length s.asks)) (λ v. T_not (is_past s k) u ((T_and (is_position (place k)) (leb most_asks (length s.asks))).1 (p, v))));
    }

-- and back
pub allowed_past : (s : State) (k : LineKind) → Allowed s k → T (not (is_past s k))
allowed_past s k a =
    not_T (is_past s k) (λ t. let (p, v) = (T_and (is_position (place k)) (leb most_asks (length s.asks))).0 t in
    omega (arith, a.in_number p, leb→le most_asks (length s.asks) v))

-- the two tests of a kind, and what reads on
kind_steps : (s : State) (k : LineKind) (fs : List Field) (b : Bool) (on : LineKind × List Field → Result Content)
    → (◌>>=◌ {B = LineKind × List Field} (cond b (ok k) (refused refusal.Form) >>= λ p. cond (is_past s p) (refused refusal.FullAsks) (ok p)) (λ a. ok (a, fs)) >>= on)
    ≡ cond b (cond (is_past s k) (refused refusal.FullAsks) (on (k, fs))) (refused refusal.Form)
kind_steps s k fs true on = past (is_past s k)
  where
    past : (d : Bool) → (◌>>=◌ {B = LineKind × List Field} (cond d (refused refusal.FullAsks) (ok k)) (λ a. ok (a, fs)) >>= on) ≡ cond d (refused refusal.FullAsks) (on (k, fs))
    past true = refl
    past false = refl
kind_steps s k fs false on = refl

module _ (s : State) (f : Field) (fs : List Field) where
  -- a line of an unknown kind is refused
  pub parse_unknown : word kinds f ≡ none → parse s (f ∷ fs) ≡ refused refusal.Form
  unfolding parse next kind_field need
  parse_unknown e = rw e

  module _ {k : LineKind} (e : word kinds f ≡ some k) where
    -- the fields after the kind, judged after the field count
    abbrev pub after_kind : Result Content
    after_kind = cond (other_count (length (f ∷ fs)) (fixed_count s k)) (refused refusal.Form) (content k s.grouped (length s.terms) fs)

    -- a line of a known kind is tested for the kind's place, for 13 and for the field count before its fields are read
    pub parse_known : parse s (f ∷ fs) ≡ cond (may_stand s (place k)) (cond (is_past s k) (refused refusal.FullAsks) after_kind) (refused refusal.Form)
    unfolding parse next kind_field need
    parse_known = rw e (kind_steps s k fs (may_stand s (place k)) _)

    -- a line of a kind that may not stand here is refused
    parse_misplaced : T (not (may_stand s (place k))) → parse s (f ∷ fs) ≡ refused refusal.Form
    parse_misplaced t = parse_known ∙ cond_false (may_stand s (place k)) _ _ t

    -- the seventeenth ask is refused by 13
    parse_past : T (may_stand s (place k)) → T (is_past s k) → parse s (f ∷ fs) ≡ refused refusal.FullAsks
    parse_past t u = parse_known ∙ cond_true (may_stand s (place k)) _ _ t ∙ cond_true (is_past s k) _ _ u

    module _ (a : Allowed s k) where
      -- any other line is judged by its field count, then by its fields
      parse_allowed : parse s (f ∷ fs) ≡ after_kind
      parse_allowed = parse_known ∙ cond_true (may_stand s (place k)) _ _ a.stands ∙ cond_false (is_past s k) _ _ (allowed_past s k a)

      -- a line with a field count other than the fixed one is refused
      parse_miscounted : T (other_count (length (f ∷ fs)) (fixed_count s k)) → parse s (f ∷ fs) ≡ refused refusal.Form
      parse_miscounted t = parse_allowed ∙ cond_true (other_count (length (f ∷ fs)) (fixed_count s k)) _ _ t

      -- a line with its field count is what its fields are read as
      pub parse_fields : T (not (other_count (length (f ∷ fs)) (fixed_count s k))) → parse s (f ∷ fs) ≡ content k s.grouped (length s.terms) fs
      parse_fields t = parse_allowed ∙ cond_false (other_count (length (f ∷ fs)) (fixed_count s k)) _ _ t

  module _ {r : Refusal} (q : parse s (f ∷ fs) ≡ refused r) where
    -- a line that is refused with x has the refusal r only if r is x
    formed : {x : Refusal} → parse s (f ∷ fs) ≡ refused x → FaultyLine s (f ∷ fs) x → FaultyLine s (f ∷ fs) r
    formed {x} p y = let e : r ≡ x = cc in rw e y

    -- a line that is refused is faulty
    line_faulty : FaultyLine s (f ∷ fs) r
    line_faulty = by_kind (word kinds f) refl
      where
        by_count : {k : LineKind} → word kinds f ≡ some k → Allowed s k
            → T (other_count (length (f ∷ fs)) (fixed_count s k)) ⊎ T (not (other_count (length (f ∷ fs)) (fixed_count s k))) → FaultyLine s (f ∷ fs) r
        by_count {k} e a (inl t) =
            let (fixed, h, d) = (other_count_exact (length (f ∷ fs)) (fixed_count s k)).0 t in formed (parse_miscounted e a t) (miscounted e a h d)
        by_count {k} e a (inr t) =
            field e a ((counted_exact (length (f ∷ fs)) (fixed_count s k)).0 t) ((refused_fields k s.grouped (length s.terms) fs r).0 (sym (parse_fields e a t) ∙ q))

        by_number : {k : LineKind} → word kinds f ≡ some k → T (may_stand s (place k)) → T (is_past s k) ⊎ T (not (is_past s k)) → FaultyLine s (f ∷ fs) r
        by_number {k} e t (inl u) =
            let (p, v) = (T_and (is_position (place k)) (leb most_asks (length s.asks))).0 u in
            formed (parse_past e t u) (too_many e t p (leb→le most_asks (length s.asks) v))
        by_number {k} e t (inr u) = by_count e (allowed s k t u) (T_dec (other_count (length (f ∷ fs)) (fixed_count s k)))

        by_place : {k : LineKind} → word kinds f ≡ some k → T (may_stand s (place k)) ⊎ T (not (may_stand s (place k))) → FaultyLine s (f ∷ fs) r
        by_place {k} e (inl t) = by_number e t (T_dec (is_past s k))
        by_place {k} e (inr t) = formed (parse_misplaced e t) (misplaced e t)

        by_kind : (o : Option LineKind) → word kinds f ≡ o → FaultyLine s (f ∷ fs) r
        by_kind none e = formed (parse_unknown e) (unknown e)
        by_kind (some k) e = by_place e (T_dec (may_stand s (place k)))

-- a line that is faulty is refused
faulty_refused : {s : State} {f : Field} {fs : List Field} {r : Refusal} → FaultyLine s (f ∷ fs) r → parse s (f ∷ fs) ≡ refused r
faulty_refused {s} {fs} (unknown {f} e) = parse_unknown s f fs e
faulty_refused {s} {fs} (misplaced {f} e t) = parse_misplaced s f fs e t
faulty_refused {s} {fs} (too_many {f} {k} e t p n) =
    parse_past s f fs e t ((T_and (is_position (place k)) (leb most_asks (length s.asks))).1 (p, le→leb most_asks (length s.asks) n))
faulty_refused {s} {fs} (miscounted {f} {k} {fixed} e a h d) =
    parse_miscounted s f fs e a ((other_count_exact (length (f ∷ fs)) (fixed_count s k)).1 (fixed, h, d))
faulty_refused {s} {fs} {r} (field {f} {k} e a c x) =
    parse_fields s f fs e a ((counted_exact (length (f ∷ fs)) (fixed_count s k)).1 c) ∙ (refused_fields k s.grouped (length s.terms) fs r).1 x

-- a line is refused with 1 to 4 or 13 exactly for a fault
pub refused_line : RefusedLine
refused_line s f fs r = (line_faulty s f fs, faulty_refused)

-- nothing more is due exactly after as many fields as there are sorts
in_order_done : (ss : List Sort) (fs : List Field) → (in_order ss fs ≡ nothing) ↔ (length ss ≤ length fs)
unfolding in_order
in_order_done [] fs = (λ e. omega arith, λ h. refl)
in_order_done (s ∷ ss) [] = (λ e. let z : ◌≡◌ {A = ℕ} 0 1 = cc in omega arith, λ h. absurd (omega arith))
in_order_done (s ∷ ss) (f ∷ fs) = let (to, back) = in_order_done ss fs in (λ e. let h = to e in omega arith, λ h. back (omega arith))

-- the same where the count includes the kind
counted_done : (ss : List Sort) {n : ℕ} → some (length ss + 1) ≡ some n → (fs : List Field) → (in_order ss fs ≡ nothing) ↔ (n ≤ length fs + 1)
counted_done ss {n} e fs =
    let count = some-injective (length ss + 1) n e in
    let (to, back) = in_order_done ss fs in
    (λ d. let h = to d in omega arith, λ h. back (omega arith))

-- a fixed field count is the number of fields after which nothing more is due
pub fixed_counts : FixedCounts
unfolding fixed_count due assume_due
fixed_counts s kind.Ask n e fs = counted_done _ e fs
fixed_counts s kind.Ask2 n e fs = counted_done _ e fs
fixed_counts s kind.Also n e fs = counted_done _ e fs
fixed_counts s kind.Hide n e fs = counted_done _ e fs
fixed_counts s kind.Free n e fs = counted_done _ e fs
fixed_counts s kind.Leaf n e fs = counted_done _ e fs
fixed_counts s kind.Call n e fs = absurd (none-ne-some n e)
fixed_counts s kind.Op n e fs = absurd (none-ne-some n e)
fixed_counts s kind.All n e fs = absurd (none-ne-some n e)
fixed_counts s kind.Some n e fs = absurd (none-ne-some n e)
fixed_counts s kind.Let n e fs = absurd (none-ne-some n e)
fixed_counts s kind.Label n e fs = counted_done _ e fs
fixed_counts s kind.Assume n e fs = by_form s.grouped e
  where
    by_form : (grouped : Bool) → some (cond grouped 5 4) ≡ some n → (assume_due grouped fs ≡ nothing) ↔ (n ≤ length fs + 1)
    by_form false e = counted_done _ e fs
    by_form true e = counted_done _ e fs
fixed_counts s kind.Fun n e fs = counted_done _ e fs
fixed_counts s kind.Def n e fs = counted_done _ e fs
fixed_counts s kind.Retain n e fs = absurd (none-ne-some n e)
fixed_counts s kind.Root n e fs = counted_done _ e fs

-- ---- the forms

-- whether a line of this kind has other fields in the form with groups
unfoldable pub has_group : LineKind → Bool
has_group kind.Ask = false
has_group kind.Ask2 = false
has_group kind.Also = false
has_group kind.Hide = false
has_group kind.Free = false
has_group kind.Leaf = false
has_group kind.Call = false
has_group kind.Op = false
has_group kind.All = false
has_group kind.Some = false
has_group kind.Let = false
has_group kind.Label = false
has_group kind.Assume = true
has_group kind.Fun = false
has_group kind.Def = false
has_group kind.Retain = false
has_group kind.Root = false

-- any other is the same in both forms: it has as many fields
pub count_formless : (s t : State) (k : LineKind) → T (not (has_group k)) → fixed_count s k ≡ fixed_count t k
unfolding fixed_count has_group
count_formless s t kind.Ask u = refl
count_formless s t kind.Ask2 u = refl
count_formless s t kind.Also u = refl
count_formless s t kind.Hide u = refl
count_formless s t kind.Free u = refl
count_formless s t kind.Leaf u = refl
count_formless s t kind.Call u = refl
count_formless s t kind.Op u = refl
count_formless s t kind.All u = refl
count_formless s t kind.Some u = refl
count_formless s t kind.Let u = refl
count_formless s t kind.Label u = refl
count_formless s t kind.Assume u = absurd u
count_formless s t kind.Fun u = refl
count_formless s t kind.Def u = refl
count_formless s t kind.Retain u = refl
count_formless s t kind.Root u = refl

-- and they say the same
pub content_formless : (k : LineKind) → T (not (has_group k)) → (g h : Bool) (count : ℕ) (fs : List Field) → content k g count fs ≡ content k h count fs
unfolding content has_group
content_formless kind.Ask u g h count fs = refl
content_formless kind.Ask2 u g h count fs = refl
content_formless kind.Also u g h count fs = refl
content_formless kind.Hide u g h count fs = refl
content_formless kind.Free u g h count fs = refl
content_formless kind.Leaf u g h count fs = refl
content_formless kind.Call u g h count fs = refl
content_formless kind.Op u g h count fs = refl
content_formless kind.All u g h count fs = refl
content_formless kind.Some u g h count fs = refl
content_formless kind.Let u g h count fs = refl
content_formless kind.Label u g h count fs = refl
content_formless kind.Assume u g h count fs = absurd u
content_formless kind.Fun u g h count fs = refl
content_formless kind.Def u g h count fs = refl
content_formless kind.Retain u g h count fs = refl
content_formless kind.Root u g h count fs = refl

-- a line that counts as an ask is such a line
pub position_formless : (k : LineKind) → T (is_position (place k)) → T (not (has_group k))
unfolding is_position place has_group
position_formless kind.Ask u = tt
position_formless kind.Ask2 u = tt
position_formless kind.Also u = tt
position_formless kind.Hide u = absurd u
position_formless kind.Free u = absurd u
position_formless kind.Leaf u = absurd u
position_formless kind.Call u = absurd u
position_formless kind.Op u = absurd u
position_formless kind.All u = absurd u
position_formless kind.Some u = absurd u
position_formless kind.Let u = absurd u
position_formless kind.Label u = absurd u
position_formless kind.Assume u = absurd u
position_formless kind.Fun u = absurd u
position_formless kind.Def u = absurd u
position_formless kind.Retain u = absurd u
position_formless kind.Root u = absurd u
