-- Reading a file, line after line: document 01, "The file" and "Who can cause a refusal", the refusals 1 to 6;
-- document 02, Change 1: 10 to 12, Change 6: hide lines, Change 7: several ask lines, 13, Change 8: options up to 15,
-- Change 11: also lines, Change 13: the form with groups.
use Rattle.std.specs.Prelude.{ℕ, zero, suc, ◌+◌, ◌/◌, ◌%◌, Bool, true, false, cond, not, ◌&&◌, ◌||◌, List, [], ◌∷◌, ◌++◌, map, length, leb, ltb, eqb, Option, None as none, Some as some, Result as Answer}
use Prim.Native.String.{String}
use Rattle.std.specs.Bool.{beq}
use Rattle.model.specs.Lists.{any, sum, collect, fold_left, is_nil, holds, last}
use Rattle.model.specs.Names.{Name, bytes, same, mem}
use Rattle.model.specs.Lines.{Line, lines, Field, fields, is_name, number}
use Rattle.model.specs.Terms.{Node, free_v, leaf, call, app, forall, exists, let_in, labeled, Term, add_term, references}
use Rattle.model.specs.Summaries.{Fact, entries, free_top_level_names, summarize_kind, summarize_assumption}
pub use Rattle.std.specs.Prelude.{Ok as ok, Err as refused}
use Rattle.model.specs.declared.LineKind.{LineKind}
use Rattle.model.specs.declared.LineKind.TheVariants as kind
use Rattle.model.specs.declared.Op.{Op}
use Rattle.model.specs.declared.Op.TheVariants.{TrueOp, Iff, Eq, And, Other}
use Rattle.model.specs.declared.Refusal.{Refusal}
use Rattle.model.specs.declared.Refusal.TheVariants as refusal

-- a value, or why there is none
abbrev pub Result : Type 0 → Type 0
Result A = Answer A Refusal

module _ {A B : Type 0} where
  infixl 20 ◌>>=◌
  -- on with the value, or the refusal
  abbrev pub ◌>>=◌ : Result A → (A → Result B) → Result B
  ok a >>= f = f a
  refused r >>= f = refused r

-- the value where it is there, else the refusal
unfoldable pub need : {A : Type 0} → Refusal → Option A → Result A
need r none = refused r
need r (some a) = ok a

-- a field that is a name: 2
unfoldable pub name_field : Field → Result Name
name_field f = cond (is_name f) (ok f) (refused refusal.Name)

-- a field that is a number of at most `limit`: 3
unfoldable pub number_field : ℕ → Field → Result ℕ
number_field limit f = need refusal.Number (number f) >>= λ n. cond (leb n limit) (ok n) (refused refusal.Number)

-- a field that is a number, 3, and names one of `count` terms, 4
unfoldable pub term_field : ℕ → Field → Result ℕ
term_field count f = number_field 65535 f >>= λ n. cond (ltb n count) (ok n) (refused refusal.Term)

-- the words of an `op` line
unfoldable pub op_words : List (String × Op)
op_words = ("true", TrueOp) ∷ ("iff", Iff) ∷ ("eq", Eq) ∷ ("and", And) ∷ ("other", Other) ∷ []

-- the kinds of lines, by their first field
unfoldable pub kinds : List (String × LineKind)
kinds =
    ("ask", kind.Ask)
    ∷ ("ask2", kind.Ask2)
    ∷ ("also", kind.Also)
    ∷ ("hide", kind.Hide)
    ∷ ("free", kind.Free)
    ∷ ("leaf", kind.Leaf)
    ∷ ("call", kind.Call)
    ∷ ("op", kind.Op)
    ∷ ("all", kind.All)
    ∷ ("some", kind.Some)
    ∷ ("let", kind.Let)
    ∷ ("label", kind.Label)
    ∷ ("assume", kind.Assume)
    ∷ ("fun", kind.Fun)
    ∷ ("def", kind.Def)
    ∷ ("retain", kind.Retain)
    ∷ ("root", kind.Root)
    ∷ []

-- what a field stands for in a list of words
unfoldable pub word : {A : Type 0} → List (String × A) → Field → Option A
word [] f = none
word ((w, a) ∷ words) f = let other = word words f in cond (same f (bytes w)) (some a) other

module _ {A : Type 0} where
  -- the next field, and the fields after it; a lacking one is 1
  unfoldable pub next : (Field → Result A) → List Field → Result (A × List Field)
  next judge [] = refused refusal.Form
  next judge (f ∷ fs) = judge f >>= λ a. ok (a, fs)

  -- the next n fields, and the fields after them
  unfoldable pub many : ℕ → (Field → Result A) → List Field → Result (List A × List Field)
  many zero judge fs = ok ([], fs)
  many (suc n) judge fs = do
    (a, fs₁) ← next judge fs
    (more, fs₂) ← many n judge fs₁
    ok (a ∷ more, fs₂)

  -- all fields that are left
  unfoldable pub rest : (Field → Result A) → List Field → Result (List A)
  rest judge [] = ok []
  rest judge (f ∷ fs) = do
    a ← judge f
    more ← rest judge fs
    ok (a ∷ more)

  -- the value, where no field is left over
  unfoldable pub end : A → List Field → Result A
  end a [] = ok a
  end a (f ∷ fs) = refused refusal.Form

-- g pattern groups, each a count and that many terms, and the fields after them
unfoldable pub groups : ℕ → ℕ → List Field → Result (List (List ℕ) × List Field)
groups count zero fs = ok ([], fs)
groups count (suc g) fs = do
  (n, fs₁) ← next (number_field 65535) fs
  (ts, fs₂) ← many n (term_field count) fs₁
  (gs, fs₃) ← groups count g fs₂
  ok (ts ∷ gs, fs₃)

-- what a line of the head of a file says, in the order of its fields
pub data Head : Type 0 where
  ask : ℕ → ℕ → Head
  ask2 : ℕ → ℕ → ℕ → Head
  also : ℕ → Head
  hide : Name → Head

-- what a line says, in the order of its fields; an assume has its group before its term, 0 in the older form
pub data Content : Type 0 where
  head : Head → Content
  term : Node → Content
  assume : Name → Bool → ℕ → ℕ → Content
  fun : Name → Content
  def : Name → ℕ → Content
  retain : List Name → Content
  root : ℕ → Name → ℕ → Content

-- an `all` or a `some`: body, group count, groups
unfoldable pub quantifier : (ℕ → List (List ℕ) → Node) → ℕ → List Field → Result Content
quantifier make count fs = do
  (body, fs₁) ← next (term_field count) fs
  (g, fs₂) ← next (number_field 65535) fs₁
  (gs, fs₃) ← groups count g fs₂
  end (term (make body gs)) fs₃

-- the highest number of a query, of options, of a group, and of the groups that an ask admits
abbrev pub most_query : ℕ
most_query = 255

abbrev pub most_options : ℕ
most_options = 15

abbrev pub most_group : ℕ
most_group = 15

abbrev pub most_groups : ℕ
most_groups = 65535

-- the group of an assume: the next field in the form with groups, else 0 and no field
unfoldable pub group_field : Bool → List Field → Result (ℕ × List Field)
group_field true fs = next (number_field most_group) fs
group_field false fs = ok (0, fs)

-- the fields of a line after its kind, left to right; `grouped`: the file is of the form with groups; `count` is the number of
-- term lines so far
unfoldable pub content : LineKind → Bool → ℕ → List Field → Result Content
content kind.Ask grouped count fs = do
  (q, fs₁) ← next (number_field most_query) fs
  (options, fs₂) ← next (number_field most_options) fs₁
  end (head (ask q options)) fs₂
content kind.Ask2 grouped count fs = do
  (q, fs₁) ← next (number_field most_query) fs
  (options, fs₂) ← next (number_field most_options) fs₁
  (admitted, fs₃) ← next (number_field most_groups) fs₂
  end (head (ask2 q options admitted)) fs₃
content kind.Also grouped count fs = do
  (q, fs₁) ← next (number_field most_query) fs
  end (head (also q)) fs₁
content kind.Hide grouped count fs = do
  (name, fs₁) ← next name_field fs
  end (head (hide name)) fs₁
content kind.Free grouped count fs = do
  (name, fs₁) ← next name_field fs
  end (term (free_v name)) fs₁
content kind.Leaf grouped count fs = end (term leaf) fs
content kind.Call grouped count fs = do
  (name, fs₁) ← next name_field fs
  ts ← rest (term_field count) fs₁
  ok (term (call name ts))
content kind.Op grouped count fs = do
  (w, fs₁) ← next (λ f. need refusal.Form (word op_words f)) fs
  ts ← rest (term_field count) fs₁
  ok (term (app w ts))
content kind.All grouped count fs = quantifier forall count fs
content kind.Some grouped count fs = quantifier exists count fs
content kind.Let grouped count fs = do
  (body, fs₁) ← next (term_field count) fs
  ts ← rest (term_field count) fs₁
  ok (term (let_in body ts))
content kind.Label grouped count fs = do
  (t, fs₁) ← next (term_field count) fs
  end (term (labeled t)) fs₁
content kind.Assume grouped count fs = do
  (name, fs₁) ← next name_field fs
  (flag, fs₂) ← next (number_field 1) fs₁
  (group, fs₃) ← group_field grouped fs₂
  (t, fs₄) ← next (term_field count) fs₃
  end (assume name (eqb flag 1) group t) fs₄
content kind.Fun grouped count fs = do
  (name, fs₁) ← next name_field fs
  end (fun name) fs₁
content kind.Def grouped count fs = do
  (name, fs₁) ← next name_field fs
  (t, fs₂) ← next (term_field count) fs₁
  end (def name t) fs₂
content kind.Retain grouped count fs = do
  names ← rest name_field fs
  ok (retain names)
content kind.Root grouped count fs = do
  (q, fs₁) ← next (number_field most_query) fs
  (name, fs₂) ← next name_field fs₁
  (t, fs₃) ← next (term_field count) fs₂
  end (root q name t) fs₃

-- a (define-fun) or (declare-fun) record
pub record Decl : Type 0 where
  pub line : ℕ
  pub name : Name
  pub free_names : List Name

-- `decl_summary`: what a record line other than a root adds to the background
pub data Summary : Type 0 where
  sum_assume : Fact → Summary
  sum_definefun : Decl → Summary
  sum_declfun : Decl → Summary
  sum_retain : Summary

-- a root line
pub record Root : Type 0 where
  pub line : ℕ
  pub query : ℕ
  pub name : Name
  pub free_names : List Name

-- what a position asks for: the query of its line, and on an also line those before it in its chain, the last first; the options
-- number; and the number of the groups that it admits
pub record Ask : Type 0 where
  pub queries : List ℕ
  pub options : ℕ
  pub groups : ℕ

-- option 1, `no_ambients`
unfoldable pub no_ambients : Ask → Bool
no_ambients a = eqb (a.options % 2) 1

-- option 2, `pretyping_axioms`
unfoldable pub pretyping_axioms : Ask → Bool
pretyping_axioms a = eqb (a.options / 2 % 2) 1

-- option 4, `prune_decls`
unfoldable pub prune_decls : Ask → Bool
prune_decls a = eqb (a.options / 4 % 2) 1

-- option 8 of document 02: the bodies of kept definitions are followed, where option 4 is on too
unfoldable pub follow_bodies : Ask → Bool
follow_bodies a = eqb (a.options / 8 % 2) 1

-- what reading carries from line to line. `asks`: one for each ask and also line. `grouped`: the form with groups. `hidden`: a
-- name for each hide line. `names`: in order of first spelling. `decls` and `roots`: in file order
pub record State : Type 0 where
  pub asks : List Ask
  pub grouped : Bool
  pub hidden : List Name
  pub terms : List Term
  pub names : List Name
  pub decls : List Summary
  pub roots : List Root
  pub references : ℕ
  pub entries : ℕ
  pub uses : ℕ

-- before line 1
unfoldable pub start : State
start =
    record {
      asks = [];
      grouped = false;
      hidden = [];
      terms = [];
      names = [];
      decls = [];
      roots = [];
      references = 0;
      entries = 0;
      uses = 0;
    }

-- whether nothing but ask, also and hide lines was read so far
unfoldable pub in_head : State → Bool
in_head s = is_nil s.terms && is_nil s.decls && is_nil s.roots

-- whether nothing but ask and also lines was read so far
unfoldable pub in_asks : State → Bool
in_asks s = in_head s && is_nil s.hidden

-- what decides where a line of a kind may stand: an ask, with groups or without, an also, a hide, or any other
pub data Place : Type 0 where
  an_ask : Bool → Place
  an_also : Place
  a_hide : Place
  another : Place

unfoldable pub place : LineKind → Place
place kind.Ask = an_ask false
place kind.Ask2 = an_ask true
place kind.Also = an_also
place kind.Hide = a_hide
place kind.Free = another
place kind.Leaf = another
place kind.Call = another
place kind.Op = another
place kind.All = another
place kind.Some = another
place kind.Let = another
place kind.Label = another
place kind.Assume = another
place kind.Fun = another
place kind.Def = another
place kind.Retain = another
place kind.Root = another

-- whether an ask line may be of this form: the first of any, a later one of the first one's
unfoldable pub of_form : State → Bool → Bool
of_form s grouped = is_nil s.asks || beq grouped s.grouped

-- whether such a line may stand next: an ask first, then asks of its form and also lines; then hide lines; then any other
unfoldable pub may_stand : State → Place → Bool
may_stand s (an_ask grouped) = in_asks s && of_form s grouped
may_stand s an_also = in_asks s && not (is_nil s.asks)
may_stand s a_hide = in_head s && not (is_nil s.asks)
may_stand s another = not (is_nil s.asks)

-- whether such a line takes a position of the answer
unfoldable pub is_position : Place → Bool
is_position (an_ask grouped) = true
is_position an_also = true
is_position a_hide = false
is_position another = false

-- the ask and also lines that a file may have
abbrev pub most_asks : ℕ
most_asks = 16

-- the kind of the next line: 1 where it is unknown or may not stand, then 13
unfoldable pub kind_field : State → Field → Result LineKind
kind_field s f = do
  k ← need refusal.Form (word kinds f)
  placed ← cond (may_stand s (place k)) (ok k) (refused refusal.Form)
  cond (is_position (place placed) && leb most_asks (length s.asks)) (refused refusal.FullAsks) (ok placed)

-- the fields of the next line, the kind counted, where their count is fixed
unfoldable pub fixed_count : State → LineKind → Option ℕ
fixed_count s kind.Ask = some 3
fixed_count s kind.Ask2 = some 4
fixed_count s kind.Also = some 2
fixed_count s kind.Hide = some 2
fixed_count s kind.Free = some 2
fixed_count s kind.Leaf = some 1
fixed_count s kind.Call = none
fixed_count s kind.Op = none
fixed_count s kind.All = none
fixed_count s kind.Some = none
fixed_count s kind.Let = none
fixed_count s kind.Label = some 2
fixed_count s kind.Assume = some (cond s.grouped 5 4)
fixed_count s kind.Fun = some 2
fixed_count s kind.Def = some 3
fixed_count s kind.Retain = none
fixed_count s kind.Root = some 4

-- the next line's fields: kind, field count where it is fixed, fields left to right
unfoldable pub parse : State → List Field → Result Content
parse s all = do
  (k, fs) ← next (kind_field s) all
  cond (holds (λ c. not (eqb (length all) c)) (fixed_count s k)) (refused refusal.Form)
      (content k s.grouped (length s.terms) fs)

-- an ask with one query more
unfoldable pub with_query : ℕ → Ask → Ask
with_query q a = record { queries = q ∷ a.queries; options = a.options; groups = a.groups }

-- the position that a line of the head is, behind these: an ask of the older form admits all groups, an also line goes on from
-- the last
unfoldable pub head_asks : List Ask → Head → List Ask
head_asks asks (ask q options) = record { queries = q ∷ []; options = options; groups = most_groups } ∷ []
head_asks asks (ask2 q options admitted) = record { queries = q ∷ []; options = options; groups = admitted } ∷ []
head_asks asks (also q) = map (with_query q) (last asks)
head_asks asks (hide name) = []

-- whether a line of the head is an ask of the form with groups
unfoldable pub is_grouped : Head → Bool
is_grouped (ask q options) = false
is_grouped (ask2 q options admitted) = true
is_grouped (also q) = false
is_grouped (hide name) = false

-- the name that a line of the head hides, and spells
unfoldable pub hidden_by : Head → List Name
hidden_by (ask q options) = []
hidden_by (ask2 q options admitted) = []
hidden_by (also q) = []
hidden_by (hide name) = name ∷ []

-- the line of the head that a line is
unfoldable pub heads : Content → List Head
heads (head h) = h ∷ []
heads (term node) = []
heads (assume name flag group t) = []
heads (fun name) = []
heads (def name t) = []
heads (retain names) = []
heads (root q name t) = []

-- the term line that a line is
unfoldable pub nodes : Content → List Node
nodes (head h) = []
nodes (term node) = node ∷ []
nodes (assume name flag group t) = []
nodes (fun name) = []
nodes (def name t) = []
nodes (retain names) = []
nodes (root q name t) = []

-- the name that a term line spells
unfoldable pub spelled_by : Node → List Name
spelled_by (free_v name) = name ∷ []
spelled_by leaf = []
spelled_by (call name ts) = name ∷ []
spelled_by (app op ts) = []
spelled_by (forall body gs) = []
spelled_by (exists body gs) = []
spelled_by (let_in body ts) = []
spelled_by (labeled t) = []

-- the names that a line spells, in order
unfoldable pub spelled : Content → List Name
spelled (head h) = hidden_by h
spelled (term node) = spelled_by node
spelled (assume name flag group t) = name ∷ []
spelled (fun name) = name ∷ []
spelled (def name t) = name ∷ []
spelled (retain names) = names
spelled (root q name t) = name ∷ []

-- the name that an assume, fun or def takes
unfoldable pub taken_by : Summary → List Name
taken_by (sum_assume f) = f.name ∷ []
taken_by (sum_definefun d) = d.name ∷ []
taken_by (sum_declfun d) = d.name ∷ []
taken_by sum_retain = []

-- the trigger entries of a record towards their limit: an empty disjunct counts as one
unfoldable pub entries_of : Summary → ℕ
entries_of (sum_assume f) = entries f.triggers
entries_of (sum_definefun d) = 0
entries_of (sum_declfun d) = 0
entries_of sum_retain = 0

-- the name uses of a record: its free names
unfoldable pub uses_of : Summary → ℕ
uses_of (sum_assume f) = length f.free_names
uses_of (sum_definefun d) = length d.free_names
uses_of (sum_declfun d) = 0
uses_of sum_retain = 0

-- the names with one more, if it is new
unfoldable pub spell : List Name → Name → List Name
spell names name = cond (mem name names) names (names ++ (name ∷ []))

-- the limits of document 01, by what is counted
abbrev pub most_names : ℕ
most_names = 2048

abbrev pub most_terms : ℕ
most_terms = 4096

abbrev pub most_references : ℕ
most_references = 16384

abbrev pub most_records : ℕ
most_records = 1024

abbrev pub most_entries : ℕ
most_entries = 2048

abbrev pub most_uses : ℕ
most_uses = 6144

-- each limit but the file's bytes, lowest refusal first: what is counted, how much of it may be, and the refusal
unfoldable pub limits : State → List (ℕ × ℕ × Refusal)
limits s =
    (length s.names, most_names, refusal.FullNames)
    ∷ (length s.terms, most_terms, refusal.FullTerms)
    ∷ (s.references, most_references, refusal.FullTerms)
    ∷ (length s.hidden + (length s.decls + length s.roots), most_records, refusal.FullRecords)
    ∷ (s.entries, most_entries, refusal.FullTriggers)
    ∷ (s.uses, most_uses, refusal.FullTriggers)
    ∷ []

-- the value where no limit is passed, else the refusal of the first that is
unfoldable pub under_limits : {A : Type 0} → List (ℕ × ℕ × Refusal) → A → Result A
under_limits [] a = ok a
under_limits ((counted, limit, r) ∷ more) a = let other = under_limits more a in cond (leb counted limit) other (refused r)

-- what reading comes to: the state after the last line, or a refusal and its line
pub data Reading : Type 0 where
  read : State → Reading
  refused_at : Refusal → ℕ → Reading

-- on with the state after the n-th line, or its refusal
unfoldable pub go_on : Result State → ℕ → (State → Reading) → Reading
go_on (ok s) n on = on s
go_on (refused r) n on = refused_at r n

module _ (exclude : List Name) where
  -- `summarize_decl` of the n-th line
  unfoldable pub summarize_decl : List Term → ℕ → Content → List Summary
  summarize_decl terms n (head h) = []
  summarize_decl terms n (term node) = []
  summarize_decl terms n (assume name flag group t) = sum_assume (summarize_assumption exclude terms n name flag group t) ∷ []
  summarize_decl terms n (fun name) = sum_declfun (record { line = n; name = name; free_names = [] }) ∷ []
  summarize_decl terms n (def name t) =
      sum_definefun (record { line = n; name = name; free_names = free_top_level_names exclude terms t }) ∷ []
  summarize_decl terms n (retain names) = sum_retain ∷ []
  summarize_decl terms n (root q name t) = []

  -- the name that rule 4 trims off the token of a fact
  unfoldable pub trimmed : List Term → Content → List Name
  trimmed terms (head h) = []
  trimmed terms (term node) = []
  trimmed terms (assume name flag group t) = (summarize_kind exclude terms name t).trimmed
  trimmed terms (fun name) = []
  trimmed terms (def name t) = []
  trimmed terms (retain names) = []
  trimmed terms (root q name t) = []

  -- the root that the n-th line is
  unfoldable pub root_of : List Term → ℕ → Content → List Root
  root_of terms n (head h) = []
  root_of terms n (term node) = []
  root_of terms n (assume name flag group t) = []
  root_of terms n (fun name) = []
  root_of terms n (def name t) = []
  root_of terms n (retain names) = []
  root_of terms n (root q name t) =
      record { line = n; query = q; name = name; free_names = free_top_level_names exclude terms t } ∷ []

  -- the names that are not free names: `exclude_names`, and those hidden
  unfoldable pub excluded : State → List Name
  excluded s = exclude ++ s.hidden

module _ (exclude : List Name) where
  -- the state after the n-th line
  unfoldable pub add_line : ℕ → State → Content → State
  add_line n s c =
      let out = excluded exclude s in
      let decls = summarize_decl out s.terms n c in
      let roots = root_of out s.terms n c in
      record {
        asks = s.asks ++ collect (head_asks s.asks) (heads c);
        grouped = s.grouped || any is_grouped (heads c);
        hidden = s.hidden ++ collect hidden_by (heads c);
        terms = fold_left add_term s.terms (nodes c);
        names = fold_left spell s.names (spelled c ++ trimmed out s.terms c);
        decls = s.decls ++ decls;
        roots = s.roots ++ roots;
        references = s.references + length (collect references (nodes c));
        entries = s.entries + sum (map entries_of decls);
        uses = s.uses + (sum (map uses_of decls) + sum (map (λ r. length r.free_names) roots));
      }

  -- whether the n-th line, an assume, fun or def, repeats the name of an earlier one of the three
  unfoldable pub repeats : ℕ → State → Content → Bool
  repeats n s c =
      any (λ name. mem name (collect taken_by s.decls)) (collect taken_by (summarize_decl (excluded exclude s) s.terms n c))

  -- the n-th line: its final 0A, its fields, 5, then the limits
  unfoldable pub read_line : ℕ → State → Line → Result State
  read_line n s line = do
    fs ← cond line.ended (ok (fields line.bytes)) (refused refusal.Form)
    c ← parse s fs
    fresh ← cond (repeats n s c) (refused refusal.Repeated) (ok c)
    under_limits (limits (add_line n s fresh)) (add_line n s fresh)

  -- the lines from the n-th on
  unfoldable pub read_lines : ℕ → State → List Line → Reading
  read_lines n s [] = read s
  read_lines n s (line ∷ ls) = go_on (read_line n s line) n (λ next. read_lines (n + 1) next ls)

  -- a file's lines from the first; an empty file is refused at line 1
  unfoldable pub read_file : List ℕ → Reading
  read_file [] = refused_at refusal.Form 1
  read_file (b ∷ bs) = read_lines 1 start (lines (b ∷ bs))
