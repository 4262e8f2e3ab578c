-- What reading comes to, by the lines that may stand elsewhere and those that may not: terms, asks, form and hidden names are those
-- of the fixed lines in their sequence, and the records those of the others, each by itself.
use Prim.Native.Nat.{ℕ, ◌+◌}
use native.Mathlib.Omega.{arith}
use mathlib.Core.Path.{◌≡◌, refl, sym, ◌∙◌, ap, ap₂, subst}
use mathlib.Core.Logic.{⊎_elim}
use mathlib.Core.Bool.{Bool, true, false, cond, not, ◌&&◌, ◌||◌, or-false, beq}
use mathlib.Core.List.{List, [], ◌∷◌, ◌++◌, map, map-append, append_assoc, append-nil}
use lib.Dec.{T}
use lib.ListN.{length}
use Rattle.model.specs.Lists.{any, keep, collect, fold_left, is_nil}
use Rattle.model.specs.Names.{Name}
use Rattle.model.specs.Lines.{Line, Field, fields}
use Rattle.model.specs.Terms.{Term, add_term}
use Rattle.model.specs.Reading.{Result, ok, refused, Head, Content, head, term, assume, fun, def, retain, root, parse, Ask, Summary, Root, State, in_asks, of_form, may_stand}
use Rattle.model.specs.Reading.{head_asks, is_grouped, hidden_by, heads, nodes, summarize_decl, root_of, excluded, add_line, read, read_lines}
use Rattle.model.proofs.ListLaws.{T_and, T_true, T_false}
use Rattle.laws.proofs.ReadingLaws.{line_read, lines_read, none_read}
use Rattle.demands.specs.Counts.{record_words, hide_words, begins}
use Rattle.demands.specs.Moved.{moved, moved_root}
use Rattle.demands.specs.Sequence.{moves}
use Rattle.demands.proofs.TermNumbers.{named_below}
use Rattle.demands.proofs.LineFields.{place_by, HeadBy, one_ask, one_ask2, one_also, one_hide, no_head, line_fields}
use Rattle.demands.proofs.Heads.{Headed, headed_line, excluded_to_the_end}
use Rattle.demands.proofs.StateLaws.{StateLaws, laws_line}
use Rattle.demands.proofs.Asks.{asked_now}
use Rattle.demands.proofs.Shifted.{decls_moved, roots_moved}
use Rattle.demands.proofs.GrownTables.{bare_parse, bare_more, bare_of, Grown, grown_length, grown_self, grown_trans, grown_nodes, decls_grown, roots_grown}

-- a record, and a root, without its line
abbrev pub plain : Summary → Summary
plain x = moved (λ n. 0) x

abbrev pub plain_root : Root → Root
plain_root r = moved_root (λ n. 0) r

-- ---- which lines are records

-- whether what a line says is a record
unfoldable says_record : Content → Bool
says_record (head h) = false
says_record (term node) = false
says_record (assume name flag group t) = true
says_record (fun name) = true
says_record (def name t) = true
says_record (retain names) = true
says_record (root q name t) = true

-- a record is one line of the two lists
one_record : (exclude : List Name) (terms : List Term) (n : ℕ) (c : Content)
    → length (summarize_decl exclude terms n c) + length (root_of exclude terms n c) ≡ cond (says_record c) 1 0
unfolding says_record summarize_decl root_of
one_record exclude terms n (head h) = refl
one_record exclude terms n (term node) = refl
one_record exclude terms n (assume name flag group t) = refl
one_record exclude terms n (fun name) = refl
one_record exclude terms n (def name t) = refl
one_record exclude terms n (retain names) = refl
one_record exclude terms n (root q name t) = refl

-- a hide line hides one name, and no other line hides any
one_hidden : {first second third : Field} {is_ask is_also grouped is_hide : Bool} {l : List Head} → HeadBy first second third is_ask is_also grouped is_hide l
    → length (collect hidden_by l) ≡ cond is_hide 1 0
unfolding collect hidden_by
one_hidden (one_ask low few) = refl
one_hidden (one_ask2 low few all) = refl
one_hidden (one_also low) = refl
one_hidden one_hide = refl
one_hidden no_head = refl

-- what a line that is read says is a record exactly where the line may move
line_moves : (s : State) (line : Line) {c : Content} → parse s (fields line.bytes) ≡ ok c → says_record c ≡ moves line
unfolding moves begins
line_moves s line {c} e =
    let f = line_fields s (fields line.bytes) e in
    by_count (says_record c) (begins record_words line) (begins hide_words line)
    (sym (ap₂ (λ x y. x + y) (one_hidden f.headed) (one_record [] [] 0 c)) ∙ f.record_lines [] [] 0)
  where
    by_count : (r all hide : Bool) → cond hide 1 0 + cond r 1 0 ≡ cond all 1 0 → r ≡ (all && not hide)
    by_count true true true e = absurd (omega arith)
    by_count true true false e = refl
    by_count true false true e = absurd (omega arith)
    by_count true false false e = absurd (omega arith)
    by_count false true true e = refl
    by_count false true false e = absurd (omega arith)
    by_count false false true e = refl
    by_count false false false e = refl

-- ---- what may not change after a record

-- once something is asked, a line that is read leaves the form
form_stays : {b d g c : Bool} {first second third : Field} {s s' : State} → Headed b d g c first second third s s' → T (not (is_nil s.asks)) → s'.grouped ≡ s.grouped
form_stays {first} {second} {third} {s} h asked = h.form ∙ go h.headed h.stands
  where
    grouped_already : (b : Bool) → T (false || beq true b) → (b || true) ≡ b
    grouped_already true t = refl
    grouped_already false t = absurd t

    go : {b d g c : Bool} {l : List Head} → HeadBy first second third b d g c l → T (may_stand s (place_by b d g c)) → (s.grouped || g) ≡ s.grouped
    go (one_ask low few) t = or-false s.grouped
    go (one_ask2 low few all) t =
        let own : T (is_nil s.asks || beq true s.grouped) = ((T_and (in_asks s) (is_nil s.asks || beq true s.grouped)).0 (unfold may_stand place_by of_form in t)).1 in
        grouped_already s.grouped (rw (T_false (is_nil s.asks) asked) at own)
    go (one_also low) t = or-false s.grouped
    go one_hide t = or-false s.grouped
    go no_head t = or-false s.grouped

module _ (exclude : List Name) where
  -- so do all lines
  form_kept : (ls : List Line) (n : ℕ) (s t : State) → read_lines exclude n s ls ≡ read t → T (not (is_nil s.asks)) → s.grouped ≡ t.grouped
  form_kept [] n s t e asked = ap (λ (s : State). s.grouped) (none_read exclude n s t e)
  form_kept (line ∷ ls) n s t e asked =
      let (u, r, others) = lines_read exclude n s line ls t e in
      let h = headed_line exclude n s u line r in
      sym (form_stays h asked) ∙ form_kept ls (n + 1) u t others (asked_now h)

  -- the table after lines has the terms of the table before them
  grown_lines : (ls : List Line) (n : ℕ) (s t : State) → read_lines exclude n s ls ≡ read t → Grown s.terms t.terms
  unfolding add_line
  grown_lines [] n s t e = rw (none_read exclude n s t e) (grown_self t.terms)
  grown_lines (line ∷ ls) n s t e =
      let (u, r, others) = lines_read exclude n s line ls t e in
      let l = line_read exclude n s line u r in
      grown_trans (rw l.after (grown_nodes s.terms (nodes l.content))) (grown_lines ls (n + 1) u t others)

-- ---- what the lines that may not move make of a state

-- terms, asks, form and hidden names
pub record Fixed : Type 0 where
  pub terms : List Term
  pub asks : List Ask
  pub grouped : Bool
  pub hidden : List Name

abbrev pub fixed_of : State → Fixed
fixed_of s = record { terms = s.terms; asks = s.asks; grouped = s.grouped; hidden = s.hidden }

-- with what a line says
unfoldable pub from_line : Fixed → Result Content → Fixed
from_line x (ok c) =
    record {
      terms = fold_left add_term x.terms (nodes c);
      asks = x.asks ++ collect (head_asks x.asks) (heads c);
      grouped = x.grouped || any is_grouped (heads c);
      hidden = x.hidden ++ collect hidden_by (heads c);
    }
from_line x (refused r) = x

unfoldable pub with_line : Fixed → Line → Fixed
with_line x line = from_line x (bare_parse x.grouped (length x.terms) (fields line.bytes))

-- the two tests are no one
true_false : true ≡ false → ⊥
true_false e = let z : ◌≡◌ {A = ℕ} 0 1 = cc in omega arith

-- a record leaves it
record_stays : (x : Fixed) (c : Content) → says_record c ≡ true → from_line x (ok c) ≡ x
unfolding from_line says_record nodes heads fold_left collect any
record_stays x (head h) e = absurd (true_false (sym e))
record_stays x (term node) e = absurd (true_false (sym e))
record_stays x (assume name flag group t) e = rw (append-nil x.asks, or-false x.grouped, append-nil x.hidden)
record_stays x (fun name) e = rw (append-nil x.asks, or-false x.grouped, append-nil x.hidden)
record_stays x (def name t) e = rw (append-nil x.asks, or-false x.grouped, append-nil x.hidden)
record_stays x (retain names) e = rw (append-nil x.asks, or-false x.grouped, append-nil x.hidden)
record_stays x (root q name t) e = rw (append-nil x.asks, or-false x.grouped, append-nil x.hidden)

-- what is no record gives none
no_record : (out : List Name) (terms : List Term) (n : ℕ) (c : Content) → says_record c ≡ false → (summarize_decl out terms n c ≡ []) × (root_of out terms n c ≡ [])
unfolding says_record summarize_decl root_of
no_record out terms n (head h) e = (refl, refl)
no_record out terms n (term node) e = (refl, refl)
no_record out terms n (assume name flag group t) e = absurd (true_false e)
no_record out terms n (fun name) e = absurd (true_false e)
no_record out terms n (def name t) e = absurd (true_false e)
no_record out terms n (retain names) e = absurd (true_false e)
no_record out terms n (root q name t) e = absurd (true_false e)

-- ---- general laws of what is kept

-- what is collected of what is kept, with one element more in front
collect_kept : {A B : Type 0} (test : A → Bool) (f : A → List B) (x : A) (l : List A) (y : List B)
    → (T (test x) → f x ≡ y) → (T (not (test x)) → y ≡ []) → y ++ collect f (keep test l) ≡ collect f (keep test (x ∷ l))
unfolding keep collect
collect_kept test f x l y h k = go (test x) h k
  where
    go : (b : Bool) → (T b → f x ≡ y) → (T (not b) → y ≡ []) → y ++ collect f (keep test l) ≡ collect f (cond b (x ∷ keep test l) (keep test l))
    go true h k = ap (◌++ collect f (keep test l)) (sym (h tt))
    go false h k = ap (◌++ collect f (keep test l)) (k tt)

-- a fold over what is not kept, with one element more in front
fold_others : {A B : Type 0} (test : B → Bool) (f : A → B → A) (a b : A) (x : B) (l : List B)
    → (T (not (test x)) → b ≡ f a x) → (T (test x) → b ≡ a) → fold_left f b (keep (λ x. not (test x)) l) ≡ fold_left f a (keep (λ x. not (test x)) (x ∷ l))
unfolding keep fold_left
fold_others test f a b x l h k = go (test x) h k
  where
    go : (c : Bool) → (T (not c) → b ≡ f a x) → (T c → b ≡ a)
        → fold_left f b (keep (λ x. not (test x)) l) ≡ fold_left f a (cond (not c) (x ∷ keep (λ x. not (test x)) l) (keep (λ x. not (test x)) l))
    go true h k = ap (λ z. fold_left f z (keep (λ x. not (test x)) l)) (k tt)
    go false h k = ap (λ z. fold_left f z (keep (λ x. not (test x)) l)) (h tt)

-- ---- the reading of lines

module _ (exclude : List Name) where
  -- a line adds what it says
  with_fixed : (n : ℕ) (s : State) (line : Line) (c : Content) → parse s (fields line.bytes) ≡ ok c → fixed_of (add_line exclude n s c) ≡ with_line (fixed_of s) line
  unfolding add_line with_line from_line
  with_fixed n s line c e = sym (ap (from_line (fixed_of s)) (bare_of s (fields line.bytes) e))

  -- a line that may move adds nothing to it
  with_moved : (n : ℕ) (s : State) (line : Line) → T (moves line) → (c : Content) → parse s (fields line.bytes) ≡ ok c → fixed_of (add_line exclude n s c) ≡ fixed_of s
  unfolding add_line from_line
  with_moved n s line t c e = record_stays (fixed_of s) c (line_moves s line e ∙ T_true (moves line) t)

  -- what is fixed after lines is what was before them with what the lines that may not move say
  pub fixed_read : (ls : List Line) (n : ℕ) (s t : State) → read_lines exclude n s ls ≡ read t
      → fixed_of t ≡ fold_left with_line (fixed_of s) (keep (λ l. not (moves l)) ls)
  unfolding keep fold_left
  fixed_read [] n s t e = ap fixed_of (sym (none_read exclude n s t e))
  fixed_read (line ∷ ls) n s t e =
      let (u, r, others) = lines_read exclude n s line ls t e in
      let l = line_read exclude n s line u r in
      fixed_read ls (n + 1) u t others
      ∙ ap (λ (s : State). fold_left with_line (fixed_of s) (keep (λ l. not (moves l)) ls)) l.after
      ∙ fold_others moves with_line (fixed_of s) (fixed_of (add_line exclude n s l.content)) line ls
      (λ u. with_fixed n s line l.content l.parsed) (λ u. with_moved n s line u l.content l.parsed)

-- what a result gives
abbrev from_result : {X : Type 0} → (Content → List X) → Result Content → List X
from_result f (ok c) = f c
from_result f (refused r) = []

-- the records, and the roots, that a line says after what is fixed, lines apart
unfoldable pub decls_by : List Name → Fixed → Line → List Summary
decls_by exclude x line = from_result (summarize_decl (exclude ++ x.hidden) x.terms 0) (bare_parse x.grouped (length x.terms) (fields line.bytes))

unfoldable pub roots_by : List Name → Fixed → Line → List Root
roots_by exclude x line = from_result (root_of (exclude ++ x.hidden) x.terms 0) (bare_parse x.grouped (length x.terms) (fields line.bytes))

module _ (exclude : List Name) where
  -- the form and the excluded names at a record line are those at the end of the file
  settled_at : (line : Line) (ls : List Line) (n : ℕ) (s t : State) → read_lines exclude n s (line ∷ ls) ≡ read t → T (moves line)
      → (s.grouped ≡ t.grouped) × (excluded exclude s ≡ excluded exclude t)
  settled_at line ls n s t e m =
      let (u, r, others) = lines_read exclude n s line ls t e in
      let l = line_read exclude n s line u r in
      let is_record : says_record l.content ≡ true = line_moves s line l.parsed ∙ T_true (moves line) m in
      let same_form : s.grouped ≡ u.grouped = sym (ap (λ (x : Fixed). x.grouped) (ap fixed_of l.after ∙ with_moved exclude n s line m l.content l.parsed)) in (
        same_form ∙ form_kept exclude ls (n + 1) u t others (asked_now (headed_line exclude n s u line r)),
        ⊎_elim (λ q. absurd (no_head_line q.0 (sym (ap says_record q.1) ∙ is_record))) (λ q. q) (excluded_to_the_end exclude line ls n s t e),
      )
    where
      no_head_line : (h : Head) → says_record (head h) ≡ true → ⊥
      no_head_line h e = true_false (sym (unfold says_record in e))

  -- a line that may move says, at the end of the file, what it said where it stood
  moved_line : (line : Line) (ls : List Line) (n : ℕ) (s t : State) → StateLaws s → read_lines exclude n s (line ∷ ls) ≡ read t → T (moves line)
      → (c : Content) → parse s (fields line.bytes) ≡ ok c
      → (decls_by exclude (fixed_of t) line ≡ map plain (summarize_decl (excluded exclude s) s.terms n c))
      × (roots_by exclude (fixed_of t) line ≡ map plain_root (root_of (excluded exclude s) s.terms n c))
  unfolding decls_by roots_by excluded
  moved_line line ls n s t laws e m c p =
      let fs = fields line.bytes in
      let (form, out) = settled_at line ls n s t e m in
      let grown = grown_lines exclude (line ∷ ls) n s t e in
      let below = named_below s fs p in
      let says : bare_parse t.grouped (length t.terms) fs ≡ ok c =
      bare_more t.grouped (length s.terms) (length t.terms) (grown_length grown) fs c (subst (λ g. bare_parse g (length s.terms) fs ≡ ok c) form (bare_of s fs p)) in (
        ap (from_result (summarize_decl (exclude ++ t.hidden) t.terms 0)) says
            ∙ sym (decls_grown s.terms t.terms laws.lower grown (exclude ++ t.hidden) 0 c below)
            ∙ ap (λ x. summarize_decl x s.terms 0 c) (sym out)
            ∙ decls_moved (λ n. 0) s.terms (exclude ++ s.hidden) (exclude ++ s.hidden) (λ t. refl) n c,
        ap (from_result (root_of (exclude ++ t.hidden) t.terms 0)) says
            ∙ sym (roots_grown s.terms t.terms laws.lower grown (exclude ++ t.hidden) 0 c below)
            ∙ ap (λ x. root_of x s.terms 0 c) (sym out)
            ∙ roots_moved (λ n. 0) s.terms (exclude ++ s.hidden) (exclude ++ s.hidden) (λ t. refl) n c,
      )

  -- what a line that may not move gives
  fixed_line : (n : ℕ) (s : State) (line : Line) → T (not (moves line)) → (c : Content) → parse s (fields line.bytes) ≡ ok c
      → (summarize_decl (excluded exclude s) s.terms n c ≡ []) × (root_of (excluded exclude s) s.terms n c ≡ [])
  fixed_line n s line t c e = no_record (excluded exclude s) s.terms n c (line_moves s line e ∙ T_false (moves line) t)

  -- the records and the roots after lines are those before them and those of the lines that may move, each by itself
  pub records_read : (ls : List Line) (n : ℕ) (s t : State) → StateLaws s → read_lines exclude n s ls ≡ read t
      → (map plain t.decls ≡ map plain s.decls ++ collect (decls_by exclude (fixed_of t)) (keep moves ls))
      × (map plain_root t.roots ≡ map plain_root s.roots ++ collect (roots_by exclude (fixed_of t)) (keep moves ls))
  unfolding add_line keep collect
  records_read [] n s t laws e = (
    ap (λ (s : State). map plain s.decls) (sym (none_read exclude n s t e)) ∙ sym (append-nil (map plain s.decls)),
    ap (λ (s : State). map plain_root s.roots) (sym (none_read exclude n s t e)) ∙ sym (append-nil (map plain_root s.roots)),
  )
  records_read (line ∷ ls) n s t laws e =
      let (u, r, others) = lines_read exclude n s line ls t e in
      let l = line_read exclude n s line u r in
      let x = fixed_of t in
      let out = excluded exclude s in
      let decls = summarize_decl out s.terms n l.content in
      let roots = root_of out s.terms n l.content in
      let at : T (moves line) → (decls_by exclude x line ≡ map plain decls) × (roots_by exclude x line ≡ map plain_root roots) =
      λ m. moved_line line ls n s t laws e m l.content l.parsed in
      let none : T (not (moves line)) → (decls ≡ []) × (roots ≡ []) = λ m. fixed_line n s line m l.content l.parsed in
      let (p, q) = records_read ls (n + 1) u t (laws_line exclude n s u line r laws) others in (
        p
            ∙ ap (λ (s : State). map plain s.decls ++ collect (decls_by exclude x) (keep moves ls)) l.after
            ∙ ap (◌++ collect (decls_by exclude x) (keep moves ls)) (map-append plain s.decls decls)
            ∙ append_assoc (map plain s.decls) (map plain decls) (collect (decls_by exclude x) (keep moves ls))
            ∙ ap (map plain s.decls ++◌) (collect_kept moves (decls_by exclude x) line ls (map plain decls) (λ m. (at m).0) (λ m. ap (map plain) (none m).0)),
        q
            ∙ ap (λ (s : State). map plain_root s.roots ++ collect (roots_by exclude x) (keep moves ls)) l.after
            ∙ ap (◌++ collect (roots_by exclude x) (keep moves ls)) (map-append plain_root s.roots roots)
            ∙ append_assoc (map plain_root s.roots) (map plain_root roots) (collect (roots_by exclude x) (keep moves ls))
            ∙ ap (map plain_root s.roots ++◌) (collect_kept moves (roots_by exclude x) line ls (map plain_root roots) (λ m. (at m).1) (λ m. ap (map plain_root) (none m).1)),
      )
