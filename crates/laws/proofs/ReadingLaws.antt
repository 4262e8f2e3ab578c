-- Laws of reading: what a line comes to, and what every accepted line keeps, every accepted file has.
use Prim.Native.Nat.{ℕ, ◌+◌, ◌<◌}
use native.Mathlib.Nat.{add-zero}
use native.Mathlib.Omega.{arith}
use mathlib.Core.Path.{◌≡◌, refl, ◌∙◌, ap, subst}
use mathlib.Core.Logic.{inl, inr, ⊎_elim}
use mathlib.Core.Bool.{Bool, true, false, cond, not, ◌&&◌}
use Rattle.std.specs.Prelude.{Some as some}
use mathlib.Core.List.{List, [], ◌∷◌}
use lib.Dec.{T, not_T, leb, leb→le, nleb→lt, ltb, ltb→lt, eqb}
use lib.ListN.{length}
use borrow.Author.Tests.{leb-true, leb-false}
use Rattle.model.specs.Lists.{all, holds}
use Rattle.model.specs.Names.{Name}
use Rattle.model.specs.Lines.{Line, lines, Field, fields, number}
use Rattle.model.specs.Reading.{Result, ok, refused, ◌>>=◌, need, next, end, number_field, kinds, word, fixed_count, kind_field, content, Content, State, start, place, may_stand, is_position}
use Rattle.model.specs.Reading.{most_asks, read, refused_at, go_on, limits, under_limits, parse, add_line, repeats, read_line, read_lines, read_file}
use Rattle.model.specs.Outcome.{refusal_number}
use Rattle.model.specs.declared.LineKind.{LineKind}
use Rattle.model.specs.declared.Refusal.{Refusal}
use Rattle.model.specs.declared.Refusal.TheVariants as refusal
use Rattle.model.proofs.ListLaws.{T_and, T_dec, T_true, T_false, cond_true, cond_false}
use Rattle.model.proofs.ResultLaws.{result_cases, not_ok, ok_eq, need_ok, cond_ok, cond_not_ok, bind_ok}
use Rattle.laws.specs.Limits.{PastNames, PastTerms, PastRecords, PastTriggers}

module _ {A : Type 0} where
  -- a field taken: it was the next, and its judge gave the value
  pub next_ok : (judge : Field → Result A) (fs : List Field) {a : A} {rest : List Field} → next judge fs ≡ ok (a, rest)
      → (f : Field) × (fs ≡ f ∷ rest) × (judge f ≡ ok a)
  unfolding next
  next_ok judge [] e = absurd (not_ok e)
  next_ok judge (f ∷ fs) {a} {rest} e = let (judged, left) = go (judge f) e in (f, ap (f ∷◌) left, judged)
    where
      go : (r : Result A) → ◌>>=◌ {B = A × List Field} r (λ b. ok (b, fs)) ≡ ok (a, rest) → (r ≡ ok a) × (fs ≡ rest)
      go (ok b) e = (ap (λ p. ok p.0) (ok_eq e), ap (λ p. p.1) (ok_eq e))
      go (refused x) e = absurd (not_ok e)

  -- the end reached: no field is left
  pub end_ok : {a b : A} (fs : List Field) → end a fs ≡ ok b → (fs ≡ []) × (a ≡ b)
  unfolding end
  end_ok [] e = (refl, ok_eq e)
  end_ok (f ∷ fs) e = absurd (not_ok e)

-- a field that is a number within the limit
pub number_ok : (limit : ℕ) (f : Field) {n : ℕ} → number_field limit f ≡ ok n → (number f ≡ some n) × T (leb n limit)
unfolding number_field
number_ok limit f e =
    let (m, g, h) = bind_ok (need refusal.Number (number f)) e in
    let (t, k) = cond_ok (leb m limit) (ok m) refusal.Number h in
    let p = ok_eq k in
    (rw (← p) (need_ok refusal.Number (number f) g), rw (← p) t)

-- whether a line of this kind is an ask more than a file may have
abbrev pub is_past : State → LineKind → Bool
is_past s k = is_position (place k) && leb most_asks (length s.asks)

-- a field that is the kind of the next line
pub kind_ok : (s : State) (f : Field) {k : LineKind} → kind_field s f ≡ ok k
    → (word kinds f ≡ some k) × T (may_stand s (place k)) × T (not (is_past s k))
unfolding kind_field
kind_ok s f e =
    let (m, g, h) = bind_ok (need refusal.Form (word kinds f)) e in
    let (p, i, j) = bind_ok (cond (may_stand s (place m)) (ok m) (refused refusal.Form)) h in
    let (t, is) = cond_ok (may_stand s (place m)) (ok m) refusal.Form i in
    let (u, k) = cond_not_ok (is_past s p) (ok p) refusal.FullAsks j in
    let same = ok_eq is ∙ ok_eq k in
    (rw (← same) (need_ok refusal.Form (word kinds f) g), rw (← same) t, rw (← (ok_eq k)) u)

-- the fields of a line that were accepted: a kind, and what the fields after it say
pub record Parsed (s : State) (all : List Field) (c : Content) : Type 0 where
  pub kind_word : Field
  pub others : List Field
  pub kind : LineKind
  pub split : all ≡ kind_word ∷ others
  pub known : word kinds kind_word ≡ some kind
  pub stands : T (may_stand s (place kind))
  pub in_number : T (not (is_past s kind))
  pub counted : T (not (holds (λ c. not (eqb (length all) c)) (fixed_count s kind)))
  pub says : content kind s.grouped (length s.terms) others ≡ ok c

-- what holds of fields that were accepted
pub parse_ok : (s : State) (all : List Field) {c : Content} → parse s all ≡ ok c → Parsed s all c
unfolding parse
parse_ok s all e =
    let ((k, fs), g, h) = bind_ok (next (kind_field s) all) e in
    let (f, split, judged) = next_ok (kind_field s) all g in
    let (known, stands, in_number) = kind_ok s f judged in
    let (t, says) = cond_not_ok (holds (λ c. not (eqb (length all) c)) (fixed_count s k)) (content k s.grouped (length s.terms) fs) refusal.Form h in
    record { kind_word = f; others = fs; kind = k; split = split; known = known; stands = stands; in_number = in_number; counted = t; says = says }

-- a refusal is no state
pub not_read : {r : Refusal} {n : ℕ} {s : State} → refused_at r n ≡ read s → ⊥
not_read e = let z : ◌≡◌ {A = ℕ} 0 1 = cc in omega arith

-- whether a count is within its limit
abbrev pub within : ℕ × ℕ × Refusal → Bool
within (counted, limit, r) = leb counted limit

-- the refusal of the first limit of a list that is passed: one with it is passed, and any that is passed before has it too
data FirstPast : List (ℕ × ℕ × Refusal) → Refusal → Type 0 where
  at_once : {counted limit : ℕ} {r : Refusal} {more : List (ℕ × ℕ × Refusal)} → limit < counted
      → FirstPast ((counted, limit, r) ∷ more) r
  later : {counted limit : ℕ} {r x : Refusal} {more : List (ℕ × ℕ × Refusal)} → (limit < counted → r ≡ x)
      → FirstPast more x → FirstPast ((counted, limit, r) ∷ more) x

-- the lowest refusal of the limits that the counts of a state pass
pub data Lowest (s : State) : Refusal → Type 0 where
  past_names : PastNames s → Lowest s refusal.FullNames
  past_terms : (PastNames s → ⊥) → PastTerms s → Lowest s refusal.FullTerms
  past_records : (PastNames s → ⊥) → (PastTerms s → ⊥) → PastRecords s → Lowest s refusal.FullRecords
  past_triggers : (PastNames s → ⊥) → (PastTerms s → ⊥) → (PastRecords s → ⊥) → PastTriggers s
      → Lowest s refusal.FullTriggers

-- what a line comes to, with the reason: the only ways to each result
pub data LineView (exclude : List Name) (n : ℕ) (s : State) (line : Line) : Result State → Type 0 where
  unended : T (not line.ended) → LineView exclude n s line (refused refusal.Form)
  unparsed : {r : Refusal} → T line.ended
      → parse s (fields line.bytes) ≡ refused r
      → LineView exclude n s line (refused r)
  repeated : (c : Content) → T line.ended
      → parse s (fields line.bytes) ≡ ok c
      → T (repeats exclude n s c)
      → LineView exclude n s line (refused refusal.Repeated)
  past_limit : {r : Refusal} (c : Content) → T line.ended
      → parse s (fields line.bytes) ≡ ok c
      → T (not (repeats exclude n s c))
      → Lowest (add_line exclude n s c) r
      → LineView exclude n s line (refused r)
  accepted : (c : Content) → T line.ended
      → parse s (fields line.bytes) ≡ ok c
      → T (not (repeats exclude n s c))
      → T (all within (limits (add_line exclude n s c)))
      → LineView exclude n s line (ok (add_line exclude n s c))

-- general law: what would make a refusal one of a higher number does not hold
apart : {P : Type 0} {r x : Refusal} → (P → r ≡ x) → T (ltb (refusal_number r) (refusal_number x)) → P → ⊥
apart {r} {x} f t p = omega (arith, ap refusal_number (f p), ltb→lt (refusal_number r) (refusal_number x) t)

-- the first limit of a state that is passed has the lowest refusal
first_lowest : (s : State) {x : Refusal} → FirstPast (limits s) x → Lowest s x
unfolding limits refusal_number
first_lowest s (at_once h) = past_names h
first_lowest s (later n (at_once h)) = past_terms (apart n tt) (inl h)
first_lowest s (later n (later t (at_once h))) = past_terms (apart n tt) (inr h)
first_lowest s (later n (later t (later u (at_once h)))) = past_records (apart n tt) (⊎_elim (apart t tt) (apart u tt)) h
first_lowest s (later n (later t (later u (later r (at_once h))))) =
    past_triggers (apart n tt) (⊎_elim (apart t tt) (apart u tt)) (apart r tt) (inl h)
first_lowest s (later n (later t (later u (later r (later e (at_once h)))))) =
    past_triggers (apart n tt) (⊎_elim (apart t tt) (apart u tt)) (apart r tt) (inr h)
first_lowest s (later n (later t (later u (later r (later e (later _ p)))))) = elim p [ ]

-- the lowest refusal is that of the first limit passed
lowest_first : {s : State} {x : Refusal} → Lowest s x → FirstPast (limits s) x
unfolding limits
lowest_first (past_names h) = at_once h
lowest_first (past_terms n h) = later (λ p. absurd (n p)) (⊎_elim at_once (λ k. later (λ p. refl) (at_once k)) h)
lowest_first (past_records n t h) =
    later (λ p. absurd (n p)) (later (λ p. absurd (t (inl p))) (later (λ p. absurd (t (inr p))) (at_once h)))
lowest_first (past_triggers n t r h) =
    later (λ p. absurd (n p)) (later (λ p. absurd (t (inl p))) (later (λ p. absurd (t (inr p))) (later (λ p. absurd (r p))
    (⊎_elim at_once (λ k. later (λ p. refl) (at_once k)) h))))

module _ {A : Type 0} where
  -- where every count is within its limit the value is given
  under_all : (l : List (ℕ × ℕ × Refusal)) (a : A) → T (all within l) → under_limits l a ≡ ok a
  unfolding all under_limits
  under_all [] a t = refl
  under_all ((counted, limit, r) ∷ more) a t =
      let (here, others) = (T_and (leb counted limit) (all within more)).0 t in
      cond_true (leb counted limit) (under_limits more a) (refused r) here ∙ under_all more a others

  -- the refusal is that of the first limit passed
  under_first : (l : List (ℕ × ℕ × Refusal)) {x : Refusal} (a : A) → FirstPast l x → under_limits l a ≡ refused x
  unfolding under_limits
  under_first [] a p = elim p [ ]
  under_first ((counted, limit, r) ∷ more) a (at_once h) =
      cond_false (leb counted limit) (under_limits more a) (refused r)
      (not_T (leb counted limit) (λ t. let k = leb→le counted limit t in omega arith))
  under_first ((counted, limit, r) ∷ more) a (later same f) =
      ⊎_elim (λ t. cond_true (leb counted limit) (under_limits more a) (refused r) t ∙ under_first more a f)
      (λ t. cond_false (leb counted limit) (under_limits more a) (refused r) t ∙ ap refused (same (nleb→lt counted limit t)))
      (T_dec (leb counted limit))

  -- past the limits of a state, it is the lowest
  pub under_lowest : {s : State} {x : Refusal} (a : A) → Lowest s x → under_limits (limits s) a ≡ refused x
  under_lowest a l = under_first _ a (lowest_first l)

-- where some count is past its limit there is a first
some_first : (l : List (ℕ × ℕ × Refusal)) → T (not (all within l)) → (x : Refusal) × FirstPast l x
unfolding all
some_first [] t = absurd t
some_first ((counted, limit, r) ∷ more) t = go (leb counted limit) refl t (some_first more)
  where
    go : (b : Bool) → leb counted limit ≡ b → T (not (b && all within more))
        → (T (not (all within more)) → (x : Refusal) × FirstPast more x)
        → (x : Refusal) × FirstPast ((counted, limit, r) ∷ more) x
    go true e u below =
        let (x, f) = below u in
        (x, later (λ (h : limit < counted). absurd (omega (arith, leb-true counted limit e))) f)
    go false e u below = (r, at_once (leb-false counted limit e))

module _ (exclude : List Name) (n : ℕ) (s : State) (line : Line) where
  -- a line without its final 0A is refused by 1
  pub unended_line : T (not line.ended) → read_line exclude n s line ≡ refused refusal.Form
  unfolding read_line
  unended_line t = rw (T_false line.ended t)

  module _ (ended : T line.ended) where
    -- a refusal of the fields refuses the line
    pub unparsed_line : {r : Refusal} → parse s (fields line.bytes) ≡ refused r → read_line exclude n s line ≡ refused r
    unfolding read_line
    unparsed_line e = rw (T_true line.ended ended, e)

    module _ (c : Content) (parsed : parse s (fields line.bytes) ≡ ok c) where
      -- a line that repeats a name is refused by 5
      pub repeated_line : T (repeats exclude n s c) → read_line exclude n s line ≡ refused refusal.Repeated
      unfolding read_line
      repeated_line t = rw (T_true line.ended ended, parsed, T_true (repeats exclude n s c) t)

      -- a line that does not is judged by the limits
      pub fresh_line : T (not (repeats exclude n s c)) → read_line exclude n s line ≡ under_limits (limits (add_line exclude n s c)) (add_line exclude n s c)
      unfolding read_line
      fresh_line t = rw (T_true line.ended ended, parsed, T_false (repeats exclude n s c) t)

      -- a line past a limit is refused by the lowest
      pub past_line : {r : Refusal} → T (not (repeats exclude n s c)) → Lowest (add_line exclude n s c) r
          → read_line exclude n s line ≡ refused r
      past_line t u = fresh_line t ∙ under_lowest (add_line exclude n s c) u

      -- any other line is added
      pub added_line : T (not (repeats exclude n s c)) → T (all within (limits (add_line exclude n s c))) → read_line exclude n s line ≡ ok (add_line exclude n s c)
      added_line t u = fresh_line t ∙ under_all (limits (add_line exclude n s c)) (add_line exclude n s c) u

  -- every line comes to its result in one of these ways
  pub line_view : LineView exclude n s line (read_line exclude n s line)
  line_view = ⊎_elim by_fields (λ t. rw (unended_line t) (unended t)) (T_dec line.ended)
    where
      by_repeat : T line.ended → (c : Content) → parse s (fields line.bytes) ≡ ok c → LineView exclude n s line (read_line exclude n s line)
      by_repeat t c e =
          ⊎_elim (λ u. rw (repeated_line t c e u) (repeated c t e u))
          (λ u.
          ⊎_elim (λ v. rw (added_line t c e u v) (accepted c t e u v))
          (λ v. let (r, w) = some_first (limits (add_line exclude n s c)) v in
          rw (past_line t c e u (first_lowest _ w)) (past_limit c t e u (first_lowest _ w)))
          (T_dec (all within (limits (add_line exclude n s c)))))
          (T_dec (repeats exclude n s c))

      by_fields : T line.ended → LineView exclude n s line (read_line exclude n s line)
      by_fields t = ⊎_elim (λ p. by_repeat t p.0 p.1) (λ p. rw (unparsed_line t p.1) (unparsed t p.1)) (result_cases (parse s (fields line.bytes)))

-- an accepted line: it has its final 0A, its fields say its content, it repeats no name, it passes no limit, and the state after it is that with the line added
pub record LineRead (exclude : List Name) (n : ℕ) (s : State) (line : Line) (s' : State) : Type 0 where
  pub content : Content
  pub ended : T line.ended
  pub parsed : parse s (fields line.bytes) ≡ ok content
  pub fresh : T (not (repeats exclude n s content))
  pub in_limits : T (all within (limits (add_line exclude n s content)))
  pub after : s' ≡ add_line exclude n s content

-- what holds of a line that was accepted
pub line_read : (exclude : List Name) (n : ℕ) (s : State) (line : Line) (s' : State) → read_line exclude n s line ≡ ok s' → LineRead exclude n s line s'
line_read exclude n s line s' e = go s' (subst (LineView exclude n s line) e (line_view exclude n s line))
  where
    go : (s'' : State) → LineView exclude n s line (ok s'') → LineRead exclude n s line s''
    go s'' (accepted c t p u v) = record { content = c; ended = t; parsed = p; fresh = u; in_limits = v; after = refl }

module _ (exclude : List Name) where
  -- lines that are accepted: the first is, and so are the others from the state after it
  pub lines_read : (n : ℕ) (s : State) (line : Line) (ls : List Line) (end : State) → read_lines exclude n s (line ∷ ls) ≡ read end
      → (s' : State) × (read_line exclude n s line ≡ ok s') × (read_lines exclude (n + 1) s' ls ≡ read end)
  unfolding read_lines go_on
  lines_read n s line ls end e = go (read_line exclude n s line) e
    where
      go : (r : Result State) → go_on r n (λ next. read_lines exclude (n + 1) next ls) ≡ read end → (s' : State) × (r ≡ ok s') × (read_lines exclude (n + 1) s' ls ≡ read end)
      go (ok s') e = (s', refl, e)
      go (refused r) e = absurd (not_read e)

  -- where no line is read the state stays
  pub none_read : (n : ℕ) (s end : State) → read_lines exclude n s [] ≡ read end → s ≡ end
  unfolding read_lines
  none_read n s end e = cc

  -- an accepted file is its lines, read from the start
  pub file_read : (file : List ℕ) (s : State) → read_file exclude file ≡ read s → read_lines exclude 1 start (lines file) ≡ read s
  unfolding read_file
  file_read [] s e = absurd (not_read e)
  file_read (b ∷ bs) s e = e

  module _ (P : ℕ → State → Type 0) (keeps : (n : ℕ) (s s' : State) (line : Line) → read_line exclude n s line ≡ ok s' → P n s → P (n + 1) s') where
    -- what every accepted line keeps holds after lines that are accepted
    pub kept_by_lines : (ls : List Line) (n : ℕ) (s end : State) → read_lines exclude n s ls ≡ read end → P n s → P (n + length ls) end
    kept_by_lines [] n s end e p = rw (add-zero, ← (none_read n s end e)) p
    kept_by_lines (line ∷ ls) n s end e p =
        let (s', r, others) = lines_read n s line ls end e in
        let count : n + length (line ∷ ls) ≡ n + 1 + length ls = omega arith in
        rw count (kept_by_lines ls (n + 1) s' end others (keeps n s s' line r p))

    -- what holds at the start, and is kept by every accepted line, holds of every accepted file
    pub kept_by_file : (file : List ℕ) (s : State) → read_file exclude file ≡ read s → P 1 start → P (1 + length (lines file)) s
    kept_by_file file s e p = kept_by_lines (lines file) 1 start s (file_read file s e) p

-- before line 1 every count is within its limit
start_within : T (all within (limits start))
unfolding all limits start
start_within = tt

-- every count of an accepted file is within its limit
pub file_within : (exclude : List Name) (file : List ℕ) (s : State) → read_file exclude file ≡ read s → T (all within (limits s))
file_within exclude file s e =
    kept_by_file exclude (λ n s. T (all within (limits s)))
    (λ n s s' line r h. let l = line_read exclude n s line s' r in rw l.after l.in_limits) file s e start_within
