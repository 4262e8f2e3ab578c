-- What the fields of an ask line, of either form, and of an also line say.
use Prim.Native.Nat.{ℕ, ◌≤◌, ◌<◌}
use mathlib.Core.Path.{◌≡◌, refl, sym, ap, ◌∙◌}
use mathlib.Core.Bool.{Bool, true, false, cond, ◌||◌, or-true, or-false}
use mathlib.Core.List.{List}
use Rattle.model.specs.Lines.{Field}
use Rattle.model.specs.Reading.{Result, ok, refused, ◌>>=◌, next, end, number_field, Content, Head, head, ask, ask2, also, is_grouped, content, most_groups}
use Rattle.model.specs.declared.LineKind.TheVariants as kind
use Rattle.model.specs.declared.Refusal.{Refusal}
use Rattle.model.specs.declared.Refusal.TheVariants as refusal
use Rattle.model.specs.declared.Counts.{Counts}
use Rattle.model.specs.Steps as step
use Rattle.model.proofs.ResultLaws.{ok_eq}
use Rattle.text.specs.declared.Cursor.{Cursor}
use Rattle.text.specs.Parts.{Placed, fields_left, number_at, number_result}
use Rattle.fields.specs.Wording.{number_or}
use Rattle.fields.proofs.Pushing.{number_read, number_not}
use Rattle.fields.proofs.Numbers.{number_or_field}
use Rattle.records.specs.Columns.{asked_kind, also_kind}
use Rattle.records.specs.Writing.{with_ask, AskedAt, PositionAt}
use Rattle.filing.proofs.Saying.{end_none, end_more, number_placed}
use Rattle.fields.specs.Wording.{ask_line_kind}
use Rattle.reader.specs.Lines.{Asks, asks, not_asked}

-- ---- its fields

-- the groups that an ask line admits: its next field where it has one, else all
abbrev groups_field : Bool → List Field → Result (ℕ × List Field)
groups_field grouped fs = cond grouped (next (number_field most_groups) fs) (ok (most_groups, fs))

-- what an ask line of the form is
unfoldable ask_head : Bool → ℕ → ℕ → ℕ → Head
ask_head true q options groups = ask2 q options groups
ask_head false q options groups = ask q options

-- whether it has groups
head_grouped : (grouped : Bool) (q options groups : ℕ) → is_grouped (ask_head grouped q options groups) ≡ grouped
unfolding is_grouped ask_head
head_grouped true q options groups = refl
head_grouped false q options groups = refl

module _ (form : Bool) (count : ℕ) (fs : List Field) where
  -- an ask line of either form, by the groups that it admits
  ask_content : (grouped : Bool) → content (ask_line_kind grouped) form count fs
      ≡ (next (number_field 255) fs >>= λ (q, gs). next (number_field 15) gs >>= λ (options, hs). groups_field grouped hs
      >>= λ (groups, is). end (head (ask_head grouped q options groups)) is)
  unfolding content ask_line_kind ask_head
  ask_content true = refl
  ask_content false = refl

  ask_not : (grouped : Bool) {x : Refusal} → next (number_field 255) fs ≡ refused x → content (ask_line_kind grouped) form count fs ≡ refused x
  ask_not grouped a = ask_content grouped ∙ rw a

  module _ (grouped : Bool) {q : ℕ} {gs : List Field} (a : next (number_field 255) fs ≡ ok (q, gs)) where
    ask_options_not : {x : Refusal} → next (number_field 15) gs ≡ refused x → content (ask_line_kind grouped) form count fs ≡ refused x
    ask_options_not b = ask_content grouped ∙ rw (a, b)

    module _ {options : ℕ} {hs : List Field} (b : next (number_field 15) gs ≡ ok (options, hs)) where
      ask_groups_not : {x : Refusal} → groups_field grouped hs ≡ refused x → content (ask_line_kind grouped) form count fs ≡ refused x
      ask_groups_not d = ask_content grouped ∙ rw (a, b, d)

      ask_is : {groups : ℕ} {is : List Field} {r : Result Content} → groups_field grouped hs ≡ ok (groups, is)
          → end (head (ask_head grouped q options groups)) is ≡ r → content (ask_line_kind grouped) form count fs ≡ r
      ask_is d e = ask_content grouped ∙ rw (a, b, d, e)

  also_is : {q : ℕ} {gs : List Field} → next (number_field 255) fs ≡ ok (q, gs) → end (head (also q)) gs ≡ ok (head (also q))
      → content kind.Also form count fs ≡ ok (head (also q))
  unfolding content
  also_is a e = rw (a, e)

  also_more : {q : ℕ} {gs : List Field} → next (number_field 255) fs ≡ ok (q, gs) → end (head (also q)) gs ≡ refused refusal.Form
      → content kind.Also form count fs ≡ refused refusal.Form
  unfolding content
  also_more a e = rw (a, e)

  also_not : {x : Refusal} → next (number_field 255) fs ≡ refused x → content kind.Also form count fs ≡ refused x
  unfolding content
  also_not a = rw a

-- an ask line without groups admits all
all_groups : {fs gs : List Field} {groups : ℕ} → groups_field false fs ≡ ok (groups, gs) → groups ≡ most_groups
all_groups e = sym (ap (λ p. p.0) (ok_eq e))

-- the position that it writes
ask_position : (grouped : Bool) {recs recs' : List ℕ} {k : Counts} {q options groups : ℕ} (fs : List Field) {gs : List Field} → groups_field grouped fs ≡ ok (groups, gs)
    → AskedAt recs recs' k asked_kind q options groups → PositionAt recs recs' k (ask_head grouped q options groups)
unfolding PositionAt ask_head
ask_position true fs e a = a
ask_position false fs e a = rw (all_groups e) at a

-- counts with the form with groups
abbrev as_grouped : Counts → Counts
as_grouped k = record {
  asks = k.asks;
  grouped = true;
  hides = k.hides;
  names = k.names;
  references = k.references;
  terms = k.terms;
  records = k.records;
  entries = k.entries;
  uses = k.uses;
  mark = k.mark;
}

-- the counts with an ask line that has groups
pub counts_grouped : (k : Counts) {f : Counts} {grouped : Bool} → f ≡ with_ask k k.grouped → grouped ≡ true → as_grouped f ≡ with_ask k (k.grouped || grouped)
counts_grouped k z e = rw (z, e, or-true k.grouped)

-- with one that has none
pub counts_plain : (k : Counts) {f : Counts} {grouped : Bool} → f ≡ with_ask k k.grouped → grouped ≡ false → f ≡ with_ask k (k.grouped || grouped)
counts_plain k z e = rw (z, e, or-false k.grouped)

-- ---- the steps of the cursor

module _ {file : List ℕ} {c : Cursor} (k : Counts) (p : Placed file c) {r : Result (ℕ × Cursor)} (a : r ≡ number_at 255 file c) where
  -- the ask's query is refused
  pub asks_not : (grouped : Bool) {recs : List ℕ} {x : Refusal} → r ≡ refused x
      → Asks recs recs k (content (ask_line_kind grouped) k.grouped k.terms (fields_left file c)) (step.Refused x)
  asks_not grouped {x = x} b = not_asked {x = x} (ask_not k.grouped k.terms (fields_left file c) grouped (number_not p 255 a b)) refl

  module _ (grouped : Bool) {q : ℕ} {n : Cursor} (b : r ≡ ok (q, n)) {s : Result (ℕ × Cursor)} (d : s ≡ number_at 15 file n) where
    -- the cursor after the query
    after : Placed file n
    after = number_placed 255 p a b

    -- its options are refused
    pub asks_options_not : {recs : List ℕ} {x : Refusal} → s ≡ refused x
        → Asks recs recs k (content (ask_line_kind grouped) k.grouped k.terms (fields_left file c)) (step.Refused x)
    asks_options_not {x = x} e = not_asked {x = x}
        (ask_options_not k.grouped k.terms (fields_left file c) grouped (number_read p 255 a b) (number_not after 15 d e)) refl

    module _ {options : ℕ} {m : Cursor} (e : s ≡ ok (options, m)) {t : Result (ℕ × Cursor)} (f : t ≡ number_or grouped most_groups most_groups file m) where
      -- the field of its groups
      groups_are : groups_field grouped (fields_left file m) ≡ number_result file t
      groups_are = sym (number_or_field (number_placed 15 after d e) most_groups most_groups grouped) ∙ ap (number_result file) (sym f)

      -- its groups are refused
      pub asks_groups_not : {recs : List ℕ} {x : Refusal} → t ≡ refused x
          → Asks recs recs k (content (ask_line_kind grouped) k.grouped k.terms (fields_left file c)) (step.Refused x)
      unfolding number_result
      asks_groups_not {x = x} g = not_asked {x = x}
          (ask_groups_not k.grouped k.terms (fields_left file c) grouped (number_read p 255 a b) (number_read after 15 d e)
          (groups_are ∙ ap (number_result file) g)) refl

      module _ {groups : ℕ} {l : Cursor} (g : t ≡ ok (groups, l)) where
        groups_read : groups_field grouped (fields_left file m) ≡ ok (groups, fields_left file l)
        unfolding number_result
        groups_read = groups_are ∙ ap (number_result file) g

        -- what its fields say
        line_is : {said : Result Content} → end (head (ask_head grouped q options groups)) (fields_left file l) ≡ said
            → content (ask_line_kind grouped) k.grouped k.terms (fields_left file c) ≡ said
        line_is h = ask_is k.grouped k.terms (fields_left file c) grouped (number_read p 255 a b) (number_read after 15 d e) groups_read h

        -- a field is left over
        pub asks_more : {recs : List ℕ} → l.at ≤ l.end
            → Asks recs recs k (content (ask_line_kind grouped) k.grouped k.terms (fields_left file c)) (step.Refused refusal.Form)
        asks_more h = not_asked {x = refusal.Form} (line_is (end_more (head (ask_head grouped q options groups)) file l h)) refl

        -- it asks
        pub asks_is : {recs recs' : List ℕ} {f : Counts} → l.end < l.at → f ≡ with_ask k (k.grouped || grouped)
            → AskedAt recs recs' k asked_kind q options groups
            → Asks recs recs' k (content (ask_line_kind grouped) k.grouped k.terms (fields_left file c)) (step.On f)
        asks_is {recs} {recs'} h z w =
            let x : Asks recs recs' k (content (ask_line_kind grouped) k.grouped k.terms (fields_left file c))
            (step.On (with_ask k (k.grouped || is_grouped (ask_head grouped q options groups)))) =
            asks {h = ask_head grouped q options groups} (line_is (end_none (head (ask_head grouped q options groups)) file l h))
            (ask_position grouped (fields_left file m) groups_read w) in
            rw z (rw (head_grouped grouped q options groups) at x)

  -- the also line's query is refused
  pub also_refused : {recs : List ℕ} {x : Refusal} → r ≡ refused x
      → Asks recs recs k (content kind.Also k.grouped k.terms (fields_left file c)) (step.Refused x)
  also_refused {x = x} b = not_asked {x = x} (also_not k.grouped k.terms (fields_left file c) (number_not p 255 a b)) refl

  module _ {q : ℕ} {l : Cursor} (b : r ≡ ok (q, l)) where
    -- a field is left over
    pub also_longer : {recs : List ℕ} → l.at ≤ l.end
        → Asks recs recs k (content kind.Also k.grouped k.terms (fields_left file c)) (step.Refused refusal.Form)
    also_longer h = not_asked {x = refusal.Form}
        (also_more k.grouped k.terms (fields_left file c) (number_read p 255 a b) (end_more (head (also q)) file l h)) refl

    -- it goes on with the position before
    pub also_asks : {recs recs' : List ℕ} {f : Counts} → l.end < l.at → 0 < k.asks → f ≡ with_ask k k.grouped
        → AskedAt recs recs' k also_kind q 0 0
        → Asks recs recs' k (content kind.Also k.grouped k.terms (fields_left file c)) (step.On f)
    unfolding PositionAt is_grouped
    also_asks h some z w =
        rw (z ∙ ap (with_ask k) (sym (or-false k.grouped))) (asks {h = also q}
        (also_is k.grouped k.terms (fields_left file c) (number_read p 255 a b) (end_none (head (also q)) file l h)) (some, w))
