-- What the chosen rule makes of a fact is what `model`'s twelve rules do.
use Prim.Native.Nat.{ℕ, suc, ◌<◌}
use mathlib.Core.Path.{◌≡◌, refl, sym, ap, ◌∙◌}
use mathlib.Core.Bool.{Bool, true, false, cond}
use Rattle.std.specs.Prelude.{Option, None as none, Some as some, unwrap_or as get_or}
use mathlib.Core.List.{List, [], ◌∷◌, map}
use lib.Dec.{eqb}
use Rattle.model.specs.Lists.{find_index, collect, holds, is_nil, or_else, when, ◌>>=◌}
use Rattle.model.specs.Names.{Name, bytes, same, starts_with}
use Rattle.model.specs.Terms.{Node, free_v, leaf, call, app, forall, exists, let_in, labeled, Term, term, references}
use Rattle.model.specs.Summaries.{Kinded, sum_triggers, two, op_of, op_number, op_args, call_one, call_two, head, is_empty, token, token_triggers, at, pattern_groups, group_names, triggers_of_term}
use Rattle.model.specs.Summaries.{is_ambient_refinement, has_eq, rule_1, rule_2, rule_3, rule_4, rule_5, rule_6, rule_7, rule_8, rule_9, rule_10, rule_11, rule_12, first_rule, rules, maybe_add_ambient, summarize_kind, rule_number}
use Rattle.model.specs.declared.Op.{Op}
use Rattle.model.specs.declared.Op.TheVariants.{TrueOp, Iff, Eq, And}
use Rattle.names.specs.Table.{name_of}
use Rattle.terms.specs.Rows.{row_head, groups_at}
use Rattle.rules.specs.declared.Choice.{Choice}
use Rattle.rules.specs.declared.Choice.TheVariants as choice
use Rattle.rules.specs.Views.{Tables, terms_in}
use Rattle.rules.specs.declared.Ruled.{Ruled}
use Rattle.rules.specs.declared.tables.TermTables.{TermTables}
use Rattle.rules.specs.Read.{name_numbered, IsFact, RuledAs, terms as tables_terms}
use Rattle.rules.specs.Choices.{Within, refinement_kind, parts_kind, kinded, choose_1, choose_2, choose_3, choose_4, choose_5, choose_6, choose_7, choose_8, choose_9, choose_10, choose_11, choose_12, token_choice, first_choice, ambient_choice, ambient_number, kind_choice}
use Rattle.rules.proofs.Meaning.{apply_tt, one_inside, token_named, two_inside, valid}
use Rattle.rules.proofs.Counting.{no_groups}
use Rattle.rules.proofs.Rules.{twelve, place_in, choice_place}

-- a value that is there under a test is the value
when_is : {A : Type 0} (b : Bool) {x y : A} → when b x ≡ some y → x ≡ y
unfolding when
when_is true e = cc
when_is false e = cc

-- a list is empty where its values under a function are none
nil_map : {A B : Type 0} (f : A → B) (l : List A) → is_nil (map f l) ≡ is_nil l
unfolding is_nil
nil_map f [] = refl
nil_map f (x ∷ l) = refl

-- the terms that an `op` names are its arguments
op_names : (word : Op) (node : Node) {ts : List ℕ} → op_args word node ≡ some ts → references node ≡ ts
unfolding op_args op_of references
op_names word (free_v name) e = cc
op_names word leaf e = cc
op_names word (call name us) e = cc
op_names word (app w us) e = when_is (eqb (op_number w) (op_number word)) e
op_names word (forall body groups) e = cc
op_names word (exists body groups) e = cc
op_names word (let_in body us) e = cc
op_names word (labeled u) e = cc

-- the choice makes this of a fact
record Makes (exclude : List Name) (terms : List Term) (name : ℕ → Name) (c : Choice) (k : Kinded) : Type 0 where
  makes : kinded exclude terms name c ≡ k

-- a rule here and in `model` agree: neither holds, or the choice makes what the other gives
data Kinds (exclude : List Name) (terms : List Term) (name : ℕ → Name) : Option Choice → Option Kinded → Type 0 where
  neither : Kinds exclude terms name none none
  both : {c : Choice} {k : Kinded} → Makes exclude terms name c k → Kinds exclude terms name (some c) (some k)

-- two lists of rules agree on a fact, rule by rule
data Agree (exclude : List Name) (terms : List Term) (name : ℕ → Name) (fact : Name) (t : ℕ)
    : List (Name → ℕ → Option Choice) → List (Name → ℕ → Option Kinded) → Type 0 where
  no_rules : Agree exclude terms name fact t [] []
  rule_more : {choose : Name → ℕ → Option Choice} {rule : Name → ℕ → Option Kinded} {choices : List (Name → ℕ → Option Choice)}
      {kinds : List (Name → ℕ → Option Kinded)} → Kinds exclude terms name (choose fact t) (rule fact t)
      → Agree exclude terms name fact t choices kinds → Agree exclude terms name fact t (choose ∷ choices) (rule ∷ kinds)

module _ {exclude : List Name} {terms : List Term} {name : ℕ → Name} where
  -- they agree from a value that may be missing, where they agree from each value
  kinds_bind : {A : Type 0} (o : Option A) {f : A → Option Choice} {g : A → Option Kinded} → ((a : A) → o ≡ some a → Kinds exclude terms name (f a) (g a))
      → Kinds exclude terms name (o >>= f) (o >>= g)
  kinds_bind none h = neither
  kinds_bind (some a) h = h a refl

  -- they agree under one test
  kinds_when : (b : Bool) {c : Choice} {k : Kinded} → Makes exclude terms name c k → Kinds exclude terms name (when b c) (when b k)
  unfolding when
  kinds_when true e = both e
  kinds_when false e = neither

  -- the first of two that is there agrees where both do
  kinds_or_else : {o p : Option Choice} {q r : Option Kinded} → Kinds exclude terms name o q → Kinds exclude terms name p r
      → Kinds exclude terms name (or_else o p) (or_else q r)
  unfolding or_else
  kinds_or_else neither h = h
  kinds_or_else (both e) h = both e

  -- a choice or else another makes what the rule or else the other gives
  kinds_default : {o : Option Choice} {q : Option Kinded} {c : Choice} {k : Kinded} → Kinds exclude terms name o q → Makes exclude terms name c k
      → Makes exclude terms name (get_or o c) (get_or q k)
  kinds_default neither h = h
  kinds_default (both e) h = e

  -- where they agree, a rule holds in the one list where it does in the other
  kinds_place : {o : Option Choice} {q : Option Kinded} {m n : ℕ} → Kinds exclude terms name o q → m ≡ n
      → cond (holds (λ c. true) o) 0 (suc m) ≡ cond (holds (λ k. true) q) 0 (suc n)
  unfolding holds
  kinds_place neither e = ap suc e
  kinds_place (both m) e = refl

-- the first choice makes what the first rule gives
agree_makes : {exclude : List Name} {terms : List Term} {name : ℕ → Name} {fact : Name} {t : ℕ} (rows : List ℕ)
    {choices : List (Name → ℕ → Option Choice)} {kinds : List (Name → ℕ → Option Kinded)}
    → Agree exclude terms name fact t choices kinds
    → Makes exclude terms name (first_choice terms rows choices fact t) (first_rule exclude terms kinds fact t)
unfolding first_choice first_rule kinded
agree_makes rows no_rules = record { makes = refl }
agree_makes rows (rule_more k a) = kinds_default k (agree_makes rows a)

-- the first that holds has one place in both
agree_place : {exclude : List Name} {terms : List Term} {name : ℕ → Name} {fact : Name} {t : ℕ}
    {choices : List (Name → ℕ → Option Choice)} {kinds : List (Name → ℕ → Option Kinded)}
    → Agree exclude terms name fact t choices kinds
    → find_index (λ (choose : Name → ℕ → Option Choice). holds (λ c. true) (choose fact t)) choices
    ≡ find_index (λ (rule : Name → ℕ → Option Kinded). holds (λ k. true) (rule fact t)) kinds
unfolding find_index
agree_place no_rules = refl
agree_place (rule_more k a) = kinds_place k (agree_place a)

module _ (exclude : List Name) (terms : List Term) (rows : List ℕ) (name : ℕ → Name) (fact : Name) (t : ℕ) where
  -- the two rules 1 agree
  kinds_1 : Kinds exclude terms name (choose_1 terms rows fact t) (rule_1 exclude terms fact t)
  unfolding choose_1 rule_1 kinded
  kinds_1 = kinds_bind (op_args Iff (at terms t) >>= two) (λ p is. kinds_when (starts_with fact (bytes "l_quant_interp")) (record { makes = refl }))

  -- the two rules 2 agree on a term without triggers
  kinds_2 : triggers_of_term exclude terms t ≡ [] → Kinds exclude terms name (choose_2 terms rows fact t) (rule_2 exclude terms fact t)
  unfolding choose_2 rule_2 kinded is_empty
  kinds_2 e = kinds_when (starts_with fact (bytes "assumption_")) (record { makes = rw e })

  -- the two rules 3 agree
  kinds_3 : Kinds exclude terms name (choose_3 terms rows fact t) (rule_3 exclude terms fact t)
  unfolding choose_3 rule_3 kinded refinement_kind
  kinds_3 = kinds_bind (call_two "HasType" (at terms t)) (λ p is. kinds_when (is_ambient_refinement terms p.1) (record { makes = refl }))

  -- the choice of a token makes its disjuncts, where its name is that of its row's head
  kinds_token : (x : ℕ) → ((n : Name) → token terms x ≡ some n → name (row_head rows x) ≡ n)
      → Makes exclude terms name (token_choice terms rows x) (get_or (token terms x >>= λ n. some (token_triggers n)) (sum_triggers []))
  unfolding token_choice kinded
  kinds_token x named = kinds_default (kinds_bind (token terms x) (λ n is. both (record { makes = ap token_triggers (named n is) }))) (record { makes = refl })

  -- the two rules 4 agree where the name of the token is that of its row's head
  kinds_4 : ((a f x : ℕ) (n : Name) → call_one "Valid" (at terms t) ≡ some a → call_two "ApplyTT" (at terms a) ≡ some (f, x)
      → token terms x ≡ some n → name (row_head rows x) ≡ n)
      → Kinds exclude terms name (choose_4 terms rows fact t) (rule_4 exclude terms fact t)
  unfolding choose_4 rule_4
  kinds_4 named =
      kinds_bind (call_one "Valid" (at terms t)) (λ a is_valid.
      kinds_bind (call_two "ApplyTT" (at terms a)) (λ p is_applied.
      kinds_when (holds (same (bytes "__uu__PartialApp")) (head (at terms p.0))) (kinds_token p.1 (λ n. named a p.0 p.1 n is_valid is_applied))))

  -- the two rules 5 agree
  kinds_5 : Kinds exclude terms name (choose_5 terms rows fact t) (rule_5 exclude terms fact t)
  unfolding choose_5 rule_5 kinded
  kinds_5 =
      kinds_bind
      (or_else (call_one "Valid" (at terms t))
      (or_else (call_two "HasType" (at terms t) >>= λ (subject, ty). some subject)
      (or_else (call_one "IsTotFun" (at terms t)) (call_one "is-Tm_arrow" (at terms t)))))
      (λ first is. both (record { makes = refl }))

  -- the two rules 6 agree
  kinds_6 : Kinds exclude terms name (choose_6 terms rows fact t) (rule_6 exclude terms fact t)
  unfolding choose_6 rule_6 kinded
  kinds_6 =
      kinds_bind (op_args Eq (at terms t) >>= two) (λ p is.
      kinds_bind (call_one "Term_constr_id" (at terms p.1)) (λ argument is_id. both (record { makes = refl })))

  -- the two rules 7 agree
  kinds_7 : Kinds exclude terms name (choose_7 terms rows fact t) (rule_7 exclude terms fact t)
  unfolding choose_7 rule_7 kinded parts_kind at
  kinds_7 =
      kinds_bind (op_args And (at terms t)) (λ parts is.
      both (record { makes = ap (λ ts. sum_triggers (collect (triggers_of_term exclude terms) ts)) (op_names And (term terms t).node is) }))

  -- the two rules 8 agree
  kinds_8 : Kinds exclude terms name (choose_8 terms rows fact t) (rule_8 exclude terms fact t)
  unfolding choose_8 rule_8 kinded
  kinds_8 = kinds_bind (op_args Eq (at terms t) >>= two) (λ p is. kinds_when (starts_with fact (bytes "equation_")) (record { makes = refl }))

  -- the two rules 9 agree
  kinds_9 : Kinds exclude terms name (choose_9 terms rows fact t) (rule_9 exclude terms fact t)
  unfolding choose_9 rule_9 kinded
  kinds_9 =
      kinds_bind (op_args Iff (at terms t) >>= two) (λ p is.
      kinds_or_else
      (kinds_bind (has_eq terms p.0) (λ l is_left. kinds_bind (has_eq terms p.1) (λ r is_right. both (record { makes = refl }))))
      (both (record { makes = refl })))

  -- the two rules 10 agree
  kinds_10 : Kinds exclude terms name (choose_10 terms rows fact t) (rule_10 exclude terms fact t)
  unfolding choose_10 rule_10 kinded
  kinds_10 = kinds_bind (op_args Eq (at terms t) >>= two) (λ p is. both (record { makes = refl }))

  -- the two rules 11 agree
  kinds_11 : Kinds exclude terms name (choose_11 terms rows fact t) (rule_11 exclude terms fact t)
  unfolding choose_11 rule_11 kinded
  kinds_11 = kinds_bind (op_args TrueOp (at terms t)) (λ ts is. both (record { makes = refl }))

  -- the two rules 12 agree
  kinds_12 : Kinds exclude terms name (choose_12 terms rows fact t) (rule_12 exclude terms fact t)
  unfolding choose_12 rule_12 kinded
  kinds_12 = both (record { makes = refl })

module _ {file names refs rows : List ℕ} {named used many t : ℕ} (tables : Tables file names refs rows named used many) (l : t < many) (fact : Name) where
  -- the terms of the tables
  abbrev terms : List Term
  terms = terms_in file names refs rows used many

  -- the twelve choices for a term without groups agree with the twelve rules
  twelve_agree : pattern_groups terms t ≡ [] → (exclude : List Name)
      → Agree exclude terms (name_of file names) fact t (twelve terms rows) (rules exclude terms)
  unfolding at triggers_of_term
  twelve_agree e exclude =
      let name = name_of file names in
      let none : triggers_of_term exclude terms t ≡ [] = ap (map (group_names exclude terms)) e in
      rule_more (kinds_1 exclude terms rows name fact t)
      (rule_more (kinds_2 exclude terms rows name fact t none)
      (rule_more (kinds_3 exclude terms rows name fact t)
      (rule_more
      (kinds_4 exclude terms rows name fact t (λ a f x n is_valid is_applied is.
      token_named tables (two_inside tables (one_inside tables l valid is_valid) apply_tt is_applied).1 is))
      (rule_more (kinds_5 exclude terms rows name fact t)
      (rule_more (kinds_6 exclude terms rows name fact t)
      (rule_more (kinds_7 exclude terms rows name fact t)
      (rule_more (kinds_8 exclude terms rows name fact t)
      (rule_more (kinds_9 exclude terms rows name fact t)
      (rule_more (kinds_10 exclude terms rows name fact t)
      (rule_more (kinds_11 exclude terms rows name fact t)
      (rule_more (kinds_12 exclude terms rows name fact t) no_rules)))))))))))

  -- the first choice makes what the first rule gives
  chosen : pattern_groups terms t ≡ [] → (exclude : List Name)
      → Makes exclude terms (name_of file names) (ambient_choice terms rows fact t) (maybe_add_ambient exclude terms fact t)
  unfolding ambient_choice maybe_add_ambient
  chosen e exclude = agree_makes rows (twelve_agree e exclude)

  -- and its number is that of the first rule
  pub ambient_numbered : groups_at rows t ≡ 0 → {n : ℕ} → n ≡ choice_place terms rows fact t → (exclude : List Name)
      → suc n ≡ ambient_number exclude terms fact t
  unfolding ambient_number place_in
  ambient_numbered e f exclude = ap suc (f ∙ agree_place (twelve_agree (no_groups tables l e) exclude))

  -- what the twelve rules choose for a term without groups makes of the fact what `maybe_add_ambient` does
  pub ambient_kinded : groups_at rows t ≡ 0 → {c : Choice} → c ≡ ambient_choice terms rows fact t → (exclude : List Name)
      → kinded exclude terms (name_of file names) c ≡ maybe_add_ambient exclude terms fact t
  ambient_kinded e f exclude = rw f (chosen (no_groups tables l e) exclude).makes

  -- the choice by the groups makes of the fact what `summarize_kind` does
  pub kind_kinded : {c : Choice} → c ≡ kind_choice terms rows fact t → (exclude : List Name)
      → kinded exclude terms (name_of file names) c ≡ summarize_kind exclude terms fact t
  unfolding kind_choice summarize_kind is_nil kinded triggers_of_term
  kind_kinded f exclude = rw f (go (pattern_groups terms t) refl)
    where
      go : (gs : List (List ℕ)) → pattern_groups terms t ≡ gs
          → kinded exclude terms (name_of file names) (cond (is_nil gs) (ambient_choice terms rows fact t) (choice.Groups t))
          ≡ cond (is_nil (map (group_names exclude terms) gs)) (maybe_add_ambient exclude terms fact t) (sum_triggers (map (group_names exclude terms) gs))
      go [] e = (chosen e exclude).makes
      go (x ∷ xs) e = ap (λ gs. sum_triggers (map (group_names exclude terms) gs)) e

  -- the number of a fact with triggers is 0, that of another its rule's
  pub number_groups : is_nil (pattern_groups terms t) ≡ false → (exclude : List Name) → 0 ≡ rule_number exclude terms fact t
  unfolding rule_number triggers_of_term
  number_groups e exclude = sym (rw (nil_map (group_names exclude terms) (pattern_groups terms t) ∙ e))

  pub number_rules : is_nil (pattern_groups terms t) ≡ true → (exclude : List Name)
      → ambient_number exclude terms fact t ≡ rule_number exclude terms fact t
  unfolding rule_number ambient_number triggers_of_term
  number_rules e exclude = sym (rw (nil_map (group_names exclude terms) (pattern_groups terms t) ∙ e))

-- what is promised of the first rule that takes a fact
pub promised : (s : TermTables) {name t : ℕ} {r : Ruled} → IsFact s name t → groups_at s.rows.now t ≡ 0
    → r.choice ≡ ambient_choice (tables_terms s) s.rows.now (name_numbered s name) t
    → r.rule ≡ suc (choice_place (tables_terms s) s.rows.now (name_numbered s name) t) → Within s.named s.many r.choice
    → RuledAs ambient_choice maybe_add_ambient ambient_number s name t r
promised s {name} fact bare choice rule within = record {
  chosen = record { choice = choice; kind = ambient_kinded s.tables fact.1 (name_numbered s name) bare choice; within = within };
  numbered = λ exclude. rule ∙ ambient_numbered s.tables fact.1 (name_numbered s name) bare refl exclude;
}
