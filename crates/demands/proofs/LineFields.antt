-- The fields of an accepted line by their sorts: the names that it spells, the terms that it names, which lines count as term
-- lines and as record lines, and what a line of the head says.
use Prim.Native.Nat.{ℕ, zero, suc, ◌+◌, ◌≤◌, ◌<◌}
use Prim.Native.String.{String}
use native.Mathlib.Nat.{zero-add}
use native.Mathlib.Omega.{arith}
use mathlib.Core.Path.{◌≡◌, refl, sym, ◌∙◌, ap}
use mathlib.Core.Bool.{Bool, true, false, cond, not}
use mathlib.Core.List.{List, [], ◌∷◌, append-nil}
use Rattle.std.specs.Prelude.{Some as some}
use Rattle.std.proofs.lemmas.Option.{none-some as none-ne-some, same_Some as some-injective}
use lib.Dec.{T, T_not, not_T, leb, leb→le, nleb→lt, eqb}
use lib.ListN.{length, get_or, length-append}
use Rattle.model.specs.Lists.{any, concat, collect, holds}
use Rattle.model.specs.Names.{Name, bytes, by_byte, order, is_same, same}
use Rattle.model.specs.Lines.{Field, is_name}
use Rattle.model.specs.Terms.{Node, free_v, leaf, forall, exists, labeled, Term, references}
use Rattle.model.specs.Reading.{Result, ok, refused, ◌>>=◌, need, name_field, number_field, term_field, op_words, word, kinds, next, many, rest, end, groups, Head, ask, ask2, also, hide, Content}
use Rattle.model.specs.Reading.{head, term, assume, fun, def, retain, root, quantifier, most_query, most_options, most_group, most_groups, group_field, content, State, Place, an_ask, an_also, a_hide}
use Rattle.model.specs.Reading.{another, place, may_stand, is_position, most_asks, parse, hidden_by, heads, nodes, spelled_by, spelled, summarize_decl, root_of}
use Rattle.model.specs.declared.LineKind.{LineKind}
use Rattle.model.specs.declared.LineKind.TheVariants as kind
use Rattle.model.specs.declared.Refusal.TheVariants as refusal
use Rattle.model.proofs.ListLaws.{true_T, T_and}
use Rattle.model.proofs.SetLaws.{same_eq}
use Rattle.model.proofs.ResultLaws.{cond_ok, ok_eq}
use Rattle.demands.specs.LineForm.{Sort, a_name, a_term, nothing, may, value, group_due, quantifier_due, in_order, then_terms, assume_due, due, sort_due, is_a_name, is_a_term, fields_due, fields_of}
use Rattle.demands.specs.Counts.{term_words, record_words, ask_words, grouped_words, also_words, hide_words, is_word}
use Rattle.laws.proofs.ReadingLaws.{number_ok, is_past, parse_ok}
use Rattle.demands.proofs.TermNumbers.{Gives, value as gives_value, no_value, any_value, given, gives_bind}
use Rattle.demands.proofs.LineWalk.{number_value}

-- where nothing is due no field is of any sort
none_due : (of_sort : Sort → Bool) (fs : List Field) → fields_due of_sort (λ gs. nothing) fs ≡ []
unfolding fields_due sort_due holds
none_due of_sort [] = refl
none_due of_sort (f ∷ fs) = none_due of_sort fs

-- where fields of one sort may stand, all are of that sort
all_due : (of_sort : Sort → Bool) (s : Sort) (fs : List Field) → fields_due of_sort (λ gs. may s) fs ≡ cond (of_sort s) fs []
unfolding fields_due sort_due holds
all_due of_sort s [] = go (of_sort s)
  where
    go : (b : Bool) → ◌≡◌ {A = List Field} [] (cond b [] [])
    go true = refl
    go false = refl
all_due of_sort s (f ∷ fs) = rw (all_due of_sort s fs) (go (of_sort s))
  where
    go : (b : Bool) → cond b (f ∷ cond b fs []) (cond b fs []) ≡ cond b (f ∷ fs) []
    go true = refl
    go false = refl

-- no name is due in pattern groups
no_name_due : (fs : List Field) (left g : ℕ) → fields_due is_a_name (λ gs. group_due gs left g) fs ≡ []
unfolding fields_due group_due sort_due holds is_a_name
no_name_due [] left g = refl
no_name_due (f ∷ fs) zero zero = none_due is_a_name fs
no_name_due (f ∷ fs) zero (suc g) = no_name_due fs (value f) g
no_name_due (f ∷ fs) (suc left) g = no_name_due fs left g

-- how many terms are due in pattern groups
abbrev terms_due : ℕ → ℕ → List Field → ℕ
terms_due left g fs = length (fields_due is_a_term (λ gs. group_due gs left g) fs)

-- what `next` and what reads on give, by the field that is read
pub gives_field : {A B : Type 0} {judge : Field → Result A} {good : Field → A → Type 0} (law : List Field → B → Type 0)
    → ((f : Field) → Gives (good f) (judge f)) → (on : A × List Field → Result B)
    → ((f : Field) (a : A) → good f a → (fs : List Field) → Gives (law (f ∷ fs)) (on (a, fs)))
    → (fs : List Field) → Gives (law fs) (next judge fs >>= on)
unfolding next
gives_field law judged on below [] = no_value
gives_field {A} {judge} {good} law judged on below (f ∷ fs) = go (judged f)
  where
    go : {r : Result A} → Gives (good f) r → Gives (law (f ∷ fs)) (r >>= (λ a. ok (a, fs)) >>= on)
    go (gives_value {a} h) = below f a h fs
    go no_value = no_value

-- what `end` gives, where no field is left
pub gives_ended : {A : Type 0} (law : List Field → A → Type 0) (a : A) → law [] a → (fs : List Field) → Gives (law fs) (end a fs)
unfolding end
gives_ended law a h [] = gives_value h
gives_ended law a h (f ∷ fs) = no_value

-- the same of a law of the value alone
gives_stop : {A : Type 0} {law : A → Type 0} (a : A) (fs : List Field) → (fs ≡ [] → law a) → Gives law (end a fs)
unfolding end
gives_stop a [] h = gives_value (h refl)
gives_stop a (f ∷ fs) h = no_value

-- a law that follows from having a value holds of the value
pub gives_by : {A : Type 0} {law : A → Type 0} (r : Result A) → ((a : A) → r ≡ ok a → law a) → Gives law r
gives_by (ok a) h = gives_value (h a refl)
gives_by (refused x) h = no_value

-- a field that is a name is that name
gives_name : (f : Field) → Gives (λ n. f ≡ n) (name_field f)
unfolding name_field
gives_name f = gives_by (name_field f) (λ n e. ok_eq (cond_ok (is_name f) (ok f) refusal.Name e).1)

-- a field that is a number is its value
pub gives_number : (limit : ℕ) (f : Field) → Gives (λ n. value f ≡ n) (number_field limit f)
gives_number limit f = gives_by (number_field limit f) (λ n e. number_value limit f e)

-- and is at most its limit
gives_at_most : (limit : ℕ) (f : Field) → Gives (λ n. (value f ≡ n) × (n ≤ limit)) (number_field limit f)
gives_at_most limit f = gives_by (number_field limit f) (λ n e. (number_value limit f e, leb→le n limit (number_ok limit f e).1))

-- the fields that are left are as many as their values
gives_as_many : {A : Type 0} (judge : Field → Result A) (fs : List Field) → Gives (λ xs. length fs ≡ length xs) (rest judge fs)
unfolding rest
gives_as_many judge [] = gives_value refl
gives_as_many judge (f ∷ fs) = gives_bind (any_value (judge f)) (λ a u. gives_bind (gives_as_many judge fs) (λ xs h. gives_value (ap suc h)))

-- names that are left are these names
gives_names : (fs : List Field) → Gives (λ ns. fs ≡ ns) (rest name_field fs)
unfolding rest
gives_names [] = gives_value refl
gives_names (f ∷ fs) = gives_bind (gives_name f) (λ n e. gives_bind (gives_names fs) (λ ns h. gives_value (rw (e, h))))

module _ (count : ℕ) where
  -- the terms of a group that lacks n are the first that are due
  gives_many : (g n : ℕ) (fs : List Field) → Gives (λ p. terms_due n g fs ≡ length p.0 + terms_due 0 g p.1) (many n (term_field count) fs)
  unfolding many fields_due group_due sort_due holds is_a_term
  gives_many g zero fs = gives_value (sym (zero-add (terms_due 0 g fs)))
  gives_many g (suc n) fs =
      gives_field (λ fs p. terms_due (suc n) g fs ≡ length p.0 + terms_due 0 g p.1) (λ f. any_value (term_field count f)) _
      (λ f t u fs₁. gives_bind (gives_many g n fs₁) (λ p h. gives_value (omega (arith, h)))) fs

  -- the terms of g groups are the first that are due
  gives_groups : (g : ℕ) (fs : List Field) → Gives (λ p. terms_due 0 g fs ≡ length (concat p.0) + terms_due 0 0 p.1) (groups count g fs)
  unfolding groups concat fields_due group_due sort_due holds is_a_term
  gives_groups zero fs = gives_value (sym (zero-add (terms_due 0 0 fs)))
  gives_groups (suc g) fs =
      gives_field (λ fs p. terms_due 0 (suc g) fs ≡ length (concat p.0) + terms_due 0 0 p.1) (gives_number 65535) _
      (λ f n e fs₁. gives_bind (gives_many g n fs₁) (λ p h. gives_bind (gives_groups g p.1) (λ q k.
      gives_value (ap (λ n. terms_due n g fs₁) e ∙ rw length-append (omega (arith, h, k)))))) fs

-- a law of each word and what it stands for
abbrev AllWords : {A : Type 0} → (Field → A → Type 0) → List (String × A) → Type 0
AllWords P [] = Unit {0}
AllWords P ((w, a) ∷ ws) = P (bytes w) a × AllWords P ws

-- the law holds of a field that is one of the words
word_case : {A : Type 0} (P : Field → A → Type 0) (ws : List (String × A)) → AllWords P ws → (f : Field) {a : A} → word ws f ≡ some a → P f a
unfolding word
word_case P [] h f e = absurd (none-ne-some _ e)
word_case P ((w, b) ∷ ws) h f {a} e = go (same f (bytes w)) refl (word_case P ws h.1 f) e
  where
    go : (t : Bool) → same f (bytes w) ≡ t → (word ws f ≡ some a → P f a) → cond t (some b) (word ws f) ≡ some a → P f a
    go true s later e = rw (same_eq (true_T s), ← (some-injective b a e)) h.0
    go false s later e = later e

-- the word of a kind
unfoldable pub kind_word : LineKind → String
kind_word kind.Ask = "ask"
kind_word kind.Ask2 = "ask2"
kind_word kind.Also = "also"
kind_word kind.Hide = "hide"
kind_word kind.Free = "free"
kind_word kind.Leaf = "leaf"
kind_word kind.Call = "call"
kind_word kind.Op = "op"
kind_word kind.All = "all"
kind_word kind.Some = "some"
kind_word kind.Let = "let"
kind_word kind.Label = "label"
kind_word kind.Assume = "assume"
kind_word kind.Fun = "fun"
kind_word kind.Def = "def"
kind_word kind.Retain = "retain"
kind_word kind.Root = "root"

-- a field of a known kind is the word of the kind
pub word_exact : (f : Field) {k : LineKind} → word kinds f ≡ some k → f ≡ bytes (kind_word k)
unfolding kinds kind_word
word_exact f e =
    word_case (λ f k. f ≡ bytes (kind_word k)) kinds
    (refl, (refl, (refl, (refl, (refl, (refl, (refl, (refl, (refl, (refl, (refl, (refl, (refl, (refl, (refl, (refl, (refl, tt))))))))))))))))) f e

-- where a line may stand, by whether it counts as an ask, is an also, is an ask with groups or is a hide
unfoldable pub place_by : Bool → Bool → Bool → Bool → Place
place_by true true grouped is_hide = an_also
place_by true false grouped is_hide = an_ask grouped
place_by false is_also grouped true = a_hide
place_by false is_also grouped false = another

-- the place of a line by its first field
abbrev pub place_of : Field → Place
place_of f = place_by (is_word ask_words f) (is_word also_words f) (is_word grouped_words f) (is_word hide_words f)

-- a line of a kind may stand where its word says
kind_place : (k : LineKind) → place k ≡ place_of (bytes (kind_word k))
unfolding place place_by kind_word is_word ask_words also_words grouped_words hide_words any same order by_byte is_same bytes
kind_place kind.Ask = refl
kind_place kind.Ask2 = refl
kind_place kind.Also = refl
kind_place kind.Hide = refl
kind_place kind.Free = refl
kind_place kind.Leaf = refl
kind_place kind.Call = refl
kind_place kind.Op = refl
kind_place kind.All = refl
kind_place kind.Some = refl
kind_place kind.Let = refl
kind_place kind.Label = refl
kind_place kind.Assume = refl
kind_place kind.Fun = refl
kind_place kind.Def = refl
kind_place kind.Retain = refl
kind_place kind.Root = refl

-- so it does by its first field
pub known_place : (f : Field) {k : LineKind} → word kinds f ≡ some k → place k ≡ place_of f
known_place f {k} known = kind_place k ∙ ap place_of (sym (word_exact f known))

-- the line of the head that a line is, by whether it counts as an ask, is an also, is an ask with groups or is a hide, and by the
-- three fields after its kind: the values of two or of all three, a query, options and groups in their ranges; that of the first, a
-- query; or the first, its name; any other is none
pub data HeadBy (first second third : Field) : Bool → Bool → Bool → Bool → List Head → Type 0 where
  one_ask : value first ≤ most_query → value second ≤ most_options
      → HeadBy first second third true false false false (ask (value first) (value second) ∷ [])
  one_ask2 : value first ≤ most_query → value second ≤ most_options → value third ≤ most_groups
      → HeadBy first second third true false true false (ask2 (value first) (value second) (value third) ∷ [])
  one_also : value first ≤ most_query → HeadBy first second third true true false false (also (value first) ∷ [])
  one_hide : HeadBy first second third false false false true (hide first ∷ [])
  no_head : HeadBy first second third false false false false []

-- an ask by its two numbers
said_ask : (f g h : Field) {q o : ℕ} → value f ≡ q → value g ≡ o → q ≤ most_query → o ≤ most_options → HeadBy f g h true false false false (ask q o ∷ [])
said_ask f g h e d low few = rw (← e, ← d) (one_ask (rw e low) (rw d few))

-- an ask with groups by its three
said_ask2 : (f g h : Field) {q o n : ℕ} → value f ≡ q → value g ≡ o → value h ≡ n → q ≤ most_query → o ≤ most_options → n ≤ most_groups
    → HeadBy f g h true false true false (ask2 q o n ∷ [])
said_ask2 f g h e d c low few all = rw (← e, ← d, ← c) (one_ask2 (rw e low) (rw d few) (rw c all))

-- an also by its number
said_also : (f g h : Field) {q : ℕ} → value f ≡ q → q ≤ most_query → HeadBy f g h true true false false (also q ∷ [])
said_also f g h e low = rw (← e) (one_also (rw e low))

-- the group of an assume is in its range, and 0 in the older form
abbrev pub InGroup : Bool → Content → Type 0
InGroup grouped (head h) = Unit {0}
InGroup grouped (term node) = Unit {0}
InGroup grouped (assume name flag group t) = (group ≤ most_group) × (T (not grouped) → group ≡ 0)
InGroup grouped (fun name) = Unit {0}
InGroup grouped (def name t) = Unit {0}
InGroup grouped (retain names) = Unit {0}
InGroup grouped (root q name t) = Unit {0}

-- what a line says, by the form of the file, by whether the line counts as an ask, is an also, an ask with groups, a hide, a term
-- line or a record line, by the three fields after its kind, by its names and by the terms that it names
pub record Formed (form is_ask is_also grouped is_hide is_term is_record : Bool) (first second third : Field) (named terms : List Field) (c : Content) : Type 0 where
  pub headed : HeadBy first second third is_ask is_also grouped is_hide (heads c)
  pub in_group : InGroup form c
  pub names : named ≡ spelled c
  pub term_lines : length (nodes c) ≡ cond is_term 1 0
  pub term_references : length (collect references (nodes c)) ≡ cond is_term (length terms) 0
  pub record_lines : (exclude : List Name) (terms : List Term) (n : ℕ)
      → length (collect hidden_by (heads c)) + (length (summarize_decl exclude terms n c) + length (root_of exclude terms n c)) ≡ cond is_record 1 0

-- the same of the fields of a line of a kind
abbrev FormedAs : Bool → Bool → Bool → Bool → Bool → Bool → Bool → LineKind → List Field → Content → Type 0
FormedAs form is_ask is_also grouped is_hide is_term is_record k fs c =
    Formed form is_ask is_also grouped is_hide is_term is_record (get_or fs 0 []) (get_or fs 1 []) (get_or fs 2 [])
    (fields_due is_a_name (due form k) fs) (fields_due is_a_term (due false k) fs) c

-- a term line
term_formed : {form : Bool} {first second third : Field} {named terms : List Field} {node : Node} → named ≡ spelled_by node
    → length terms ≡ length (references node) → Formed form false false false false true false first second third named terms (term node)
unfolding heads hidden_by spelled nodes collect summarize_decl root_of
term_formed {node} e h =
    record { headed = no_head; in_group = tt; names = e; term_lines = refl; term_references = rw append-nil (sym h); record_lines = λ exclude terms n. refl }

-- a line that is no term line
other_formed : {form is_ask is_also grouped is_hide is_record : Bool} {first second third : Field} {named terms : List Field} {c : Content}
    → HeadBy first second third is_ask is_also grouped is_hide (heads c) → InGroup form c → nodes c ≡ []
    → ((exclude : List Name) (terms : List Term) (n : ℕ)
    → length (collect hidden_by (heads c)) + (length (summarize_decl exclude terms n c) + length (root_of exclude terms n c)) ≡ cond is_record 1 0)
    → named ≡ spelled c → Formed form is_ask is_also grouped is_hide false is_record first second third named terms c
unfolding collect
other_formed a g e h names = record { headed = a; in_group = g; names = names; term_lines = rw e; term_references = rw e; record_lines = h }

-- an `all` or a `some`, by its fields
quantifier_made : (form : Bool) (k : LineKind) → due form k ≡ quantifier_due → due false k ≡ quantifier_due
    → (node : Node) (body g : ℕ) (gs : List (List ℕ)) → spelled_by node ≡ [] → references node ≡ body ∷ concat gs
    → (f f₁ : Field) (fs after : List Field) → value f₁ ≡ g → terms_due 0 g fs ≡ length (concat gs) + terms_due 0 0 after → after ≡ []
    → FormedAs form false false false false true false k (f ∷ f₁ ∷ fs) (term node)
unfolding quantifier_due fields_due sort_due holds is_a_name is_a_term group_due
quantifier_made form k e e₂ node body g gs spells names f f₁ fs after v w left =
    term_formed (rw (e, spells) (no_name_due fs 0 (value f₁))) (rw (e₂, v, names) (ap suc (w ∙ rw left (omega arith))))

module _ (form : Bool) (count : ℕ) where
  -- an `all` or a `some`
  quantifier_formed : (k : LineKind) → due form k ≡ quantifier_due → due false k ≡ quantifier_due → (make : ℕ → List (List ℕ) → Node)
      → ((body : ℕ) (gs : List (List ℕ)) → (spelled_by (make body gs) ≡ []) × (references (make body gs) ≡ body ∷ concat gs))
      → (fs : List Field) → Gives (FormedAs form false false false false true false k fs) (quantifier make count fs)
  unfolding quantifier
  quantifier_formed k e e₂ make h =
      gives_field _ (λ f. any_value (term_field count f)) _ (λ f body u.
      gives_field _ (gives_number 65535) _ (λ f₁ g v fs₂.
      gives_bind (gives_groups count g fs₂) (λ p w. gives_stop (term (make body p.0)) p.1
      (quantifier_made form k e e₂ (make body p.0) body g p.0 (h body p.0).0 (h body p.0).1 f f₁ fs₂ p.1 v w))))

  -- an assume line, of either form
  assume_formed : (form : Bool) (fs : List Field) → Gives (FormedAs form false false false false false true kind.Assume fs) (content kind.Assume form count fs)
  unfolding content due assume_due group_field in_order fields_due sort_due holds is_a_name is_a_term
      heads spelled nodes collect summarize_decl root_of
  assume_formed false =
      gives_field _ gives_name _ (λ f name e. gives_field _ (λ g. any_value (number_field 1 g)) _ (λ g flag u.
      gives_field _ (λ h. any_value (term_field count h)) _ (λ h t v.
      gives_ended _ (assume name (eqb flag 1) 0 t) (other_formed no_head (omega arith, λ w. refl) refl (λ exclude terms n. refl) (rw e)))))
  assume_formed true =
      gives_field _ gives_name _ (λ f name e. gives_field _ (λ g. any_value (number_field 1 g)) _ (λ g flag u.
      gives_field _ (gives_at_most most_group) _ (λ h group v. gives_field _ (λ i. any_value (term_field count i)) _ (λ i t w.
      gives_ended _ (assume name (eqb flag 1) group t) (other_formed no_head (v.1, λ x. absurd x) refl (λ exclude terms n. refl) (rw e))))))

  -- a line of each kind
  kind_formed : (k : LineKind) (fs : List Field)
      → Gives (FormedAs form (is_word ask_words (bytes (kind_word k))) (is_word also_words (bytes (kind_word k)))
      (is_word grouped_words (bytes (kind_word k))) (is_word hide_words (bytes (kind_word k)))
      (is_word term_words (bytes (kind_word k))) (is_word record_words (bytes (kind_word k))) k fs)
      (content k form count fs)
  unfolding kind_word is_word ask_words also_words grouped_words hide_words term_words record_words any same order by_byte is_same bytes
      content due in_order then_terms fields_due sort_due holds is_a_name is_a_term
      heads hidden_by spelled spelled_by references nodes collect summarize_decl root_of
  kind_formed kind.Ask =
      gives_field _ (gives_at_most most_query) _ (λ f q u. gives_field _ (gives_at_most most_options) _ (λ g o v.
      gives_ended _ (head (ask q o)) (other_formed (said_ask f g [] u.0 v.0 u.1 v.1) tt refl (λ exclude terms n. refl) refl)))
  kind_formed kind.Ask2 =
      gives_field _ (gives_at_most most_query) _ (λ f q u. gives_field _ (gives_at_most most_options) _ (λ g o v.
      gives_field _ (gives_at_most most_groups) _ (λ h a w.
      gives_ended _ (head (ask2 q o a)) (other_formed (said_ask2 f g h u.0 v.0 w.0 u.1 v.1 w.1) tt refl (λ exclude terms n. refl) refl))))
  kind_formed kind.Also =
      gives_field _ (gives_at_most most_query) _ (λ f q u.
      gives_ended _ (head (also q)) (other_formed (said_also f [] [] u.0 u.1) tt refl (λ exclude terms n. refl) refl))
  kind_formed kind.Hide =
      gives_field _ gives_name _ (λ f name e. gives_ended _ (head (hide name)) (other_formed (rw e one_hide) tt refl (λ exclude terms n. refl) (rw e)))
  kind_formed kind.Free = gives_field _ gives_name _ (λ f name e. gives_ended _ (term (free_v name)) (term_formed (rw e) refl))
  kind_formed kind.Leaf = gives_ended _ (term leaf) (term_formed refl refl)
  kind_formed kind.Call =
      gives_field _ gives_name _ (λ f name e fs. gives_bind (gives_as_many (term_field count) fs) (λ ts h.
      gives_value (term_formed (rw (e, all_due is_a_name a_term fs)) (rw (all_due is_a_term a_term fs) h))))
  kind_formed kind.Op =
      gives_field _ (λ f. any_value (need refusal.Form (word op_words f))) _ (λ f w u fs. gives_bind (gives_as_many (term_field count) fs) (λ ts h.
      gives_value (term_formed (all_due is_a_name a_term fs) (rw (all_due is_a_term a_term fs) h))))
  kind_formed kind.All = quantifier_formed kind.All refl refl forall (λ body gs. (refl, refl))
  kind_formed kind.Some = quantifier_formed kind.Some refl refl exists (λ body gs. (refl, refl))
  kind_formed kind.Let =
      gives_field _ (λ f. any_value (term_field count f)) _ (λ f body u fs. gives_bind (gives_as_many (term_field count) fs) (λ ts h.
      gives_value (term_formed (all_due is_a_name a_term fs) (rw (all_due is_a_term a_term fs) (ap suc h)))))
  kind_formed kind.Label = gives_field _ (λ f. any_value (term_field count f)) _ (λ f t u. gives_ended _ (term (labeled t)) (term_formed refl refl))
  kind_formed kind.Assume = assume_formed form
  kind_formed kind.Fun = gives_field _ gives_name _ (λ f name e. gives_ended _ (fun name) (other_formed no_head tt refl (λ exclude terms n. refl) (rw e)))
  kind_formed kind.Def =
      gives_field _ gives_name _ (λ f name e. gives_field _ (λ g. any_value (term_field count g)) _ (λ g t u.
      gives_ended _ (def name t) (other_formed no_head tt refl (λ exclude terms n. refl) (rw e))))
  kind_formed kind.Retain = λ fs.
      gives_bind (gives_names fs) (λ names e. gives_value (other_formed no_head tt refl (λ exclude terms n. refl) (all_due is_a_name a_name fs ∙ e)))
  kind_formed kind.Root =
      gives_field _ (λ f. any_value (number_field most_query f)) _ (λ f q u. gives_field _ gives_name _ (λ g name e.
      gives_field _ (λ h. any_value (term_field count h)) _ (λ h t v.
      gives_ended _ (root q name t) (other_formed no_head tt refl (λ exclude terms n. refl) (rw e)))))

-- the fields of a line of a known kind
fields_known : (of_sort : Sort → Bool) (form : Bool) (f : Field) (fs : List Field) {k : LineKind} → word kinds f ≡ some k
    → fields_of of_sort form (f ∷ fs) ≡ fields_due of_sort (due form k) fs
unfolding fields_of
fields_known of_sort form f fs e = rw (e, fields_of)

-- an accepted line says what its fields are
pub line_fields : (s : State) (fs : List Field) {c : Content} → parse s fs ≡ ok c
    → Formed s.grouped (is_word ask_words (get_or fs 0 [])) (is_word also_words (get_or fs 0 [])) (is_word grouped_words (get_or fs 0 []))
    (is_word hide_words (get_or fs 0 [])) (is_word term_words (get_or fs 0 [])) (is_word record_words (get_or fs 0 []))
    (get_or fs 1 []) (get_or fs 2 []) (get_or fs 3 []) (fields_of is_a_name s.grouped fs) (fields_of is_a_term false fs) c
line_fields s fs e =
    let p = parse_ok s fs e in
    let is = word_exact p.kind_word p.known in
    rw (p.split, fields_known is_a_name s.grouped p.kind_word p.others p.known, fields_known is_a_term false p.kind_word p.others p.known, is)
    (given (kind_formed s.grouped (length s.terms) p.kind p.others) p.says)

-- and it may stand where its first field says
pub line_stands : (s : State) (fs : List Field) {c : Content} → parse s fs ≡ ok c → T (may_stand s (place_of (get_or fs 0 [])))
line_stands s fs e =
    let p = parse_ok s fs e in
    rw (p.split, ← (known_place p.kind_word p.known)) p.stands

-- a line is a position exactly where it counts as an ask
pub position_by : (is_ask is_also grouped is_hide : Bool) → is_position (place_by is_ask is_also grouped is_hide) ≡ is_ask
unfolding is_position place_by
position_by true true grouped is_hide = refl
position_by true false grouped is_hide = refl
position_by false is_also grouped true = refl
position_by false is_also grouped false = refl

-- where it is one, there are fewer than sixteen before it
pub line_number : (s : State) (fs : List Field) {c : Content} → parse s fs ≡ ok c → T (is_word ask_words (get_or fs 0 [])) → length s.asks < 16
line_number s fs e t =
    let p = parse_ok s fs e in
    let f = p.kind_word in
    let at : is_position (place p.kind) ≡ is_word ask_words f = ap is_position (known_place f p.known) ∙ position_by (is_word ask_words f) (is_word also_words f) (is_word grouped_words f) (is_word hide_words f) in
    let is : T (is_position (place p.kind)) = rw (at) (rw p.split at t) in
    nleb→lt most_asks (length s.asks) (not_T (leb most_asks (length s.asks)) (λ u.
    T_not (is_past s p.kind) p.in_number ((T_and (is_position (place p.kind)) (leb most_asks (length s.asks))).1 (is, u))))
