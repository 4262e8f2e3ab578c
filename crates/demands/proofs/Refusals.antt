-- Which refusals reading gives, and where: the fields of a line give 1 to 4 and 13, a line these, 5, 6 and 10 to 12, a file
-- those of the first line that is refused.
use Prim.Native.Nat.{ℕ, ◌+◌}
use native.Mathlib.Nat.{add-zero}
use native.Mathlib.Omega.{arith}
use mathlib.Core.Path.{◌≡◌, refl, sym, ◌∙◌, ap}
use mathlib.Core.Logic.{◌⊎◌, inl, inr, ⊎_elim}
use mathlib.Core.Bool.{Bool}
use mathlib.Core.List.{List, [], ◌∷◌, ◌++◌, cons-ne-nil, append-ne-nil_of_right_ne-nil}
use Rattle.std.specs.Prelude.{Option, None as none, Some as some}
use lib.Dec.{leb, ltb}
use lib.ListN.{length}
use Rattle.model.specs.Names.{Name}
use Rattle.model.specs.Lines.{Line, lines, Field, fields, is_name, number}
use Rattle.model.specs.Reading.{Result, ok, refused, op_words, word, next, parse, State, start, read, refused_at, go_on, read_line, read_lines, read_file}
use Rattle.model.specs.declared.LineKind.{LineKind}
use Rattle.model.specs.declared.Op.{Op}
use Rattle.model.specs.declared.Refusal.{Refusal}
use Rattle.model.specs.declared.Refusal.TheVariants as refusal
use Rattle.model.proofs.ListLaws.{cond_case}
use Rattle.model.proofs.ResultLaws.{not_ok}
use Rattle.demands.specs.LineForm.{Sort, a_name, a_number, a_term, an_op_word, number_fault, term_fault, fault, Faulty, lacking, left_over, not_so, later, FaultyLine, unknown, misplaced, too_many, miscounted, field}
use Rattle.demands.specs.Demand1.{OfLine, OfFields, form as of_form, name as of_name, number as of_number, term as of_term, repeated as of_repeated, full_names, full_terms, full_records, full_triggers, full_asks}
use Rattle.laws.proofs.ReadingLaws.{Lowest, past_names, past_terms, past_records, past_triggers, LineView, unended, unparsed, repeated, past_limit, accepted, line_view, lines_read, none_read, not_read}
use Rattle.demands.proofs.LineForm.{refused_line}

-- no refusal, or one of 1 to 4
abbrev FieldsOnly : Option Refusal → Type 0
FieldsOnly none = Unit {0}
FieldsOnly (some r) = OfFields r

-- a field that is not of its sort is refused by 1 to 4
fault_only : (count : ℕ) (s : Sort) (f : Field) → FieldsOnly (fault count s f)
unfolding fault number_fault term_fault
fault_only count a_name f = cond_case FieldsOnly (is_name f) tt of_name
fault_only count (a_number limit) f = go (number f)
  where
    go : (o : Option ℕ) → FieldsOnly (number_fault limit o)
    go none = of_number
    go (some n) = cond_case FieldsOnly (leb n limit) tt of_number
fault_only count a_term f = go (number f)
  where
    go : (o : Option ℕ) → FieldsOnly (term_fault count o)
    go none = of_number
    go (some n) = cond_case FieldsOnly (ltb n count) tt of_term
fault_only count an_op_word f = go (word op_words f)
  where
    go : (o : Option Op) → FieldsOnly (elim o as (λ x. Option Refusal) [ none ↦ some refusal.Form | some w ↦ none ])
    go none = of_form
    go (some w) = tt

-- faulty fields are refused by 1 to 4
pub faulty_refusal : {grouped : Bool} {k : LineKind} {count : ℕ} {before fs : List Field} {r : Refusal} → Faulty grouped k count before fs r → OfFields r
faulty_refusal (lacking e) = of_form
faulty_refusal (left_over e) = of_form
faulty_refusal {count} (not_so {f} {s} p e) = rw e at (fault_only count s f)
faulty_refusal (later p e x) = faulty_refusal x

-- the refusals of a line's kind and fields: 1 to 4 and 13
pub data OfParse : Refusal → Type 0 where
  bad_form : OfParse refusal.Form
  bad_name : OfParse refusal.Name
  bad_number : OfParse refusal.Number
  bad_term : OfParse refusal.Term
  ask_past : OfParse refusal.FullAsks

pub of_parse : {r : Refusal} → OfFields r → OfParse r
of_parse of_form = bad_form
of_parse of_name = bad_name
of_parse of_number = bad_number
of_parse of_term = bad_term

-- a faulty line is refused by these
faulty_line_refusal : {s : State} {all : List Field} {r : Refusal} → FaultyLine s all r → OfParse r
faulty_line_refusal (unknown e) = bad_form
faulty_line_refusal (misplaced e t) = bad_form
faulty_line_refusal (too_many e t p n) = ask_past
faulty_line_refusal (miscounted e a h d) = bad_form
faulty_line_refusal (field e a c x) = of_parse (faulty_refusal x)

-- the kind and fields of a line are refused by these alone
pub parse_refusal : (s : State) (all : List Field) {r : Refusal} → parse s all ≡ refused r → OfParse r
unfolding parse next
parse_refusal s [] {r} e = let is : r ≡ refusal.Form = cc in rw is bad_form
parse_refusal s (f ∷ fs) {r} e = faulty_line_refusal ((refused_line s f fs r).0 e)

-- the refusals of the fields are refusals of a line
pub fields_line : {r : Refusal} → OfFields r → OfLine r
fields_line of_form = of_form
fields_line of_name = of_name
fields_line of_number = of_number
fields_line of_term = of_term

-- so are those of its kind and fields
parse_line : {r : Refusal} → OfParse r → OfLine r
parse_line bad_form = of_form
parse_line bad_name = of_name
parse_line bad_number = of_number
parse_line bad_term = of_term
parse_line ask_past = full_asks

-- the refusals of the limits are refusals of a line
limit_line : {s : State} {r : Refusal} → Lowest s r → OfLine r
limit_line (past_names h) = full_names
limit_line (past_terms n h) = full_terms
limit_line (past_records n t h) = full_records
limit_line (past_triggers n t k h) = full_triggers

-- the refusals of the limits are none of the kind and fields
pub limit_not_parse : {s : State} {r : Refusal} → Lowest s r → OfParse r → ⊥
limit_not_parse (past_names h) o = elim o [ ]
limit_not_parse (past_terms n h) o = elim o [ ]
limit_not_parse (past_records n t h) o = elim o [ ]
limit_not_parse (past_triggers n t k h) o = elim o [ ]

-- a line is refused by 1 to 6 or 10 to 13 alone
pub line_refusal : (exclude : List Name) (n : ℕ) (s : State) (line : Line) {r : Refusal} → read_line exclude n s line ≡ refused r → OfLine r
line_refusal exclude n s line {r} e = go (line_view exclude n s line) e
  where
    go : {x : Result State} → LineView exclude n s line x → x ≡ refused r → OfLine r
    go (unended t) e = let is : r ≡ refusal.Form = cc in rw is of_form
    go (unparsed {r = q} t p) e = let is : q ≡ r = cc in rw is at (parse_line (parse_refusal s (fields line.bytes) p))
    go (repeated c t p u) e = let is : r ≡ refusal.Repeated = cc in rw is of_repeated
    go (past_limit {r = q} c t p u v) e = let is : q ≡ r = cc in rw is at (limit_line v)
    go (accepted c t p u v) e = absurd (not_ok (sym e))

-- the m-th line of those from the n-th on, read from the state s: those before it are read
pub record Reaches (exclude : List Name) (n : ℕ) (s : State) (ls : List Line) (m : ℕ) : Type 0 where
  pub before : List Line
  pub line : Line
  pub after : List Line
  pub is_line : ls ≡ before ++ (line ∷ after)
  pub place : m ≡ n + length before
  pub state : State
  pub reading : read_lines exclude n s before ≡ read state

-- the m-th line is the first that is refused
abbrev pub FirstRefused : List Name → ℕ → State → List Line → Refusal → ℕ → Type 0
FirstRefused exclude n s ls r m = (l : Reaches exclude n s ls m) × (read_line exclude m l.state l.line ≡ refused r)

module _ (exclude : List Name) where
  -- reading goes on after an accepted line
  pub lines_on : (n : ℕ) (s s' : State) (line : Line) (ls : List Line) → read_line exclude n s line ≡ ok s' → read_lines exclude n s (line ∷ ls) ≡ read_lines exclude (n + 1) s' ls
  unfolding read_lines go_on
  lines_on n s s' line ls e = rw e

  -- reading stops at a line that is refused
  pub lines_stop : (n : ℕ) (s : State) (line : Line) (ls : List Line) {r : Refusal} → read_line exclude n s line ≡ refused r → read_lines exclude n s (line ∷ ls) ≡ refused_at r n
  unfolding read_lines go_on
  lines_stop n s line ls e = rw e

  -- reading goes on after lines that are read
  pub lines_append : (ls ms : List Line) (n : ℕ) (s t : State) → read_lines exclude n s ls ≡ read t → read_lines exclude n s (ls ++ ms) ≡ read_lines exclude (n + length ls) t ms
  lines_append [] ms n s t e = rw (add-zero, none_read exclude n s t e)
  lines_append (line ∷ ls) ms n s t e =
      let (u, r, others) = lines_read exclude n s line ls t e in
      let count : n + length (line ∷ ls) ≡ n + 1 + length ls = omega arith in
      rw (lines_on n s u line (ls ++ ms) r, count) (lines_append ls ms (n + 1) u t others)

  -- the first line is reached at once
  unfoldable pub reaches_first : (n : ℕ) (s : State) (line : Line) (ls : List Line) → Reaches exclude n s (line ∷ ls) n
  unfolding read_lines
  reaches_first n s line ls = record { before = []; line = line; after = ls; is_line = refl; place = sym (add-zero n); state = s; reading = refl }

  -- a line after the first is reached where the first is read
  unfoldable pub reaches_later : (n : ℕ) (s u : State) (line : Line) {ls : List Line} {m : ℕ} → read_line exclude n s line ≡ ok u
      → Reaches exclude (n + 1) u ls m → Reaches exclude n s (line ∷ ls) m
  reaches_later n s u line e l =
      let place = l.place in
      record {
        before = line ∷ l.before;
        line = l.line;
        after = l.after;
        is_line = ap (line ∷◌) l.is_line;
        place = omega arith;
        state = l.state;
        reading = lines_on n s u line l.before e ∙ l.reading;
      }

  -- refused lines have a first that is refused
  pub first_refused : (ls : List Line) (n : ℕ) (s : State) {r : Refusal} {m : ℕ} → read_lines exclude n s ls ≡ refused_at r m → FirstRefused exclude n s ls r m
  unfolding read_lines reaches_first reaches_later
  first_refused [] n s e = absurd (not_read (sym e))
  first_refused (line ∷ ls) n s {r} {m} e = go (λ u h. first_refused ls (n + 1) u h) (read_line exclude n s line) refl
    where
      go : ((u : State) → read_lines exclude (n + 1) u ls ≡ refused_at r m → FirstRefused exclude (n + 1) u ls r m)
          → (x : Result State) → read_line exclude n s line ≡ x → FirstRefused exclude n s (line ∷ ls) r m
      go below (ok u) h = let (l, refusing) = below u (sym (lines_on n s u line ls h) ∙ e) in (reaches_later n s u line h l, refusing)
      go below (refused q) h =
          let stop = lines_stop n s line ls h in
          let same_refusal : q ≡ r = cc in
          let same_place : n ≡ m = cc in
          rw (← same_place, ← same_refusal) (reaches_first n s line ls, h)

  -- lines with a first that is refused are refused there
  pub refused_first : {ls : List Line} {n : ℕ} {s : State} {r : Refusal} {m : ℕ} → FirstRefused exclude n s ls r m → read_lines exclude n s ls ≡ refused_at r m
  refused_first {ls} {n} {s} {r} {m} (l, refusing) =
      let place = l.place in
      rw (l.is_line, lines_append l.before (l.line ∷ l.after) n s l.state l.reading, ← place)
      (lines_stop m l.state l.line l.after refusing)

  -- a refused file: it is empty, or one of its lines is the first refused
  pub file_refused : (file : List ℕ) {r : Refusal} {n : ℕ} → read_file exclude file ≡ refused_at r n
      → ((file ≡ []) × (r ≡ refusal.Form) × (n ≡ 1)) ⊎ FirstRefused exclude 1 start (lines file) r n
  unfolding read_file
  file_refused [] e = inl (refl, (cc), (cc))
  file_refused (b ∷ bs) e = inr (first_refused (lines (b ∷ bs)) 1 start e)

  -- a file of which a line is the first refused is refused there
  pub refused_file : (file : List ℕ) {r : Refusal} {n : ℕ} → FirstRefused exclude 1 start (lines file) r n → read_file exclude file ≡ refused_at r n
  unfolding read_file lines
  refused_file [] (l, refusing) = absurd (append-ne-nil_of_right_ne-nil l.before (cons-ne-nil l.line l.after) (sym l.is_line))
  refused_file (b ∷ bs) f = refused_first f

  -- an empty file is refused by 1 at line 1
  pub refused_empty : read_file exclude [] ≡ refused_at refusal.Form 1
  unfolding read_file
  refused_empty = refl

  -- a file is refused by 1 to 6 or 10 to 13 alone
  pub file_refusal : (file : List ℕ) {r : Refusal} {n : ℕ} → read_file exclude file ≡ refused_at r n → OfLine r
  file_refusal file {r} {n} e =
      ⊎_elim (λ p. rw p.1 of_form) (λ (l, refusing). line_refusal exclude n l.state l.line refusing) (file_refused file e)
