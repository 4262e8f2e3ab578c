-- The choice among the rules: what each makes of a fact, and which is taken.
use Rattle.std.specs.Prelude.{ℕ, suc, ◌<◌, ◌≡◌, true, false, cond, List, [], ◌∷◌, IfSome, Option, Some as some, unwrap_or as get_or}
use Rattle.model.specs.Lists.{find_index, collect, holds, is_nil, or_else, when, ◌>>=◌}
use Rattle.model.specs.Names.{Name, bytes, same, starts_with}
use Rattle.model.specs.Terms.{Term, term, references}
use Rattle.model.specs.Summaries.{Kinded, sum_drop, sum_ambient, sum_triggers, at, two, op_args, call_one, call_two, head, is_empty, token, token_triggers, has_eq, is_ambient_refinement, ambient_refinement_payload, pattern_groups, free_top_level_names, triggers_of_term, rules}
use Rattle.model.specs.declared.Op.TheVariants.{TrueOp, Iff, Eq, And}
use Rattle.names.specs.Table.{name_of}
use Rattle.terms.specs.Rows.{row_head}
use Rattle.rules.specs.declared.Choice.{Choice}
use Rattle.rules.specs.declared.Choice.TheVariants as choice
use Rattle.rules.specs.Views.{Tables, terms_in}

module _ (exclude : List Name) (terms : List Term) where
  -- what rule 3 makes of a payload
  unfoldable pub refinement_kind : ℕ → Kinded
  refinement_kind t =
      let triggers = triggers_of_term exclude terms t in
      cond (is_empty triggers) (sum_ambient true) (sum_triggers triggers)

  -- what rule 7 makes of an `and`
  unfoldable pub parts_kind : ℕ → Kinded
  parts_kind t = sum_triggers (collect (triggers_of_term exclude terms) (references (term terms t).node))

  -- what a choice makes of a fact, by the names of the numbers
  unfoldable pub kinded : (ℕ → Name) → Choice → Kinded
  kinded name (choice.One t) = sum_triggers (free_top_level_names exclude terms t ∷ [])
  kinded name (choice.Two t u) = sum_triggers (free_top_level_names exclude terms t ∷ free_top_level_names exclude terms u ∷ [])
  kinded name (choice.Groups t) = sum_triggers (triggers_of_term exclude terms t)
  kinded name (choice.Refinement t) = refinement_kind t
  kinded name (choice.Token n) = token_triggers (name n)
  kinded name choice.Nothing = sum_triggers []
  kinded name (choice.Parts t) = parts_kind t
  kinded name choice.Drop = sum_drop
  kinded name choice.Ambient = sum_ambient false

-- which rule takes a fact and what it gathers, by the numbers of terms; a token by the number of its row's head
module _ (terms : List Term) (rows : List ℕ) where
  -- (1) `iff` of two, name starting l_quant_interp: {left}
  unfoldable pub choose_1 : Name → ℕ → Option Choice
  choose_1 name t = do
    (left, right) ← op_args Iff (at terms t) >>= two
    when (starts_with name (bytes "l_quant_interp")) (choice.One left)

  -- (2) name starting assumption_: {whole term}; the term has no triggers here
  unfoldable pub choose_2 : Name → ℕ → Option Choice
  choose_2 name t = when (starts_with name (bytes "assumption_")) (choice.One t)

  -- (3) HasType of two, type a squash or a refinement: the payload's triggers, or ambient root
  unfoldable pub choose_3 : Name → ℕ → Option Choice
  choose_3 name t = do
    (subject, ty) ← call_two "HasType" (at terms t)
    when (is_ambient_refinement terms ty) (choice.Refinement (ambient_refinement_payload terms ty))

  -- the token of a partial application, where there is one
  unfoldable pub token_choice : ℕ → Choice
  token_choice t = get_or (token terms t >>= λ n. some (choice.Token (row_head rows t))) choice.Nothing

  -- (4) Valid of ApplyTT of __uu__PartialApp and a token: {token}, and {token less @tok}; no token, no disjunct
  unfoldable pub choose_4 : Name → ℕ → Option Choice
  choose_4 name t = do
    applied ← call_one "Valid" (at terms t)
    (function, second) ← call_two "ApplyTT" (at terms applied)
    when (holds (same (bytes "__uu__PartialApp")) (head (at terms function))) (token_choice second)

  -- (5) Valid, IsTotFun, is-Tm_arrow of one, HasType of two: {first}
  unfoldable pub choose_5 : Name → ℕ → Option Choice
  choose_5 name t = do
    first ←
        or_else (call_one "Valid" (at terms t))
        (or_else (call_two "HasType" (at terms t) >>= λ (subject, ty). some subject)
        (or_else (call_one "IsTotFun" (at terms t)) (call_one "is-Tm_arrow" (at terms t))))
    some (choice.One first)

  -- (6) `eq` of two whose right is Term_constr_id of one: {its argument}
  unfoldable pub choose_6 : Name → ℕ → Option Choice
  choose_6 name t = do
    (left, right) ← op_args Eq (at terms t) >>= two
    argument ← call_one "Term_constr_id" (at terms right)
    some (choice.One argument)

  -- (7) `and`: the triggers of its parts
  unfoldable pub choose_7 : Name → ℕ → Option Choice
  choose_7 name t = op_args And (at terms t) >>= λ parts. some (choice.Parts t)

  -- (8) `eq` of two, name starting equation_: {left}
  unfoldable pub choose_8 : Name → ℕ → Option Choice
  choose_8 name t = do
    (left, right) ← op_args Eq (at terms t) >>= two
    when (starts_with name (bytes "equation_")) (choice.One left)

  -- (9) `iff` of two: hasEq on both sides gives {left's second argument}; else {left}, {right}
  unfoldable pub choose_9 : Name → ℕ → Option Choice
  choose_9 name t = do
    (left, right) ← op_args Iff (at terms t) >>= two
    or_else (has_eq terms left >>= λ l. has_eq terms right >>= λ r. some (choice.One l)) (some (choice.Two left right))

  -- (10) `eq` of two: {left}, {right}
  unfoldable pub choose_10 : Name → ℕ → Option Choice
  choose_10 name t = do
    (left, right) ← op_args Eq (at terms t) >>= two
    some (choice.Two left right)

  -- (11) `true`: drop
  unfoldable pub choose_11 : Name → ℕ → Option Choice
  choose_11 name t = op_args TrueOp (at terms t) >>= λ ts. some choice.Drop

  -- (12) ambient, no root
  unfoldable pub choose_12 : Name → ℕ → Option Choice
  choose_12 name t = some choice.Ambient

  -- the first choice that there is
  unfoldable pub first_choice : List (Name → ℕ → Option Choice) → Name → ℕ → Choice
  first_choice [] name t = choice.Drop
  first_choice (choose ∷ more) name t = let other = first_choice more name t in get_or (choose name t) other

  -- the choice of `maybe_add_ambient`
  unfoldable pub ambient_choice : Name → ℕ → Choice
  ambient_choice =
      first_choice
      (choose_1
      ∷ choose_2
      ∷ choose_3
      ∷ choose_4
      ∷ choose_5
      ∷ choose_6
      ∷ choose_7
      ∷ choose_8
      ∷ choose_9
      ∷ choose_10
      ∷ choose_11
      ∷ choose_12
      ∷ [])

  -- the choice of `summarize_kind`
  unfoldable pub kind_choice : Name → ℕ → Choice
  kind_choice name t =
      let ambient = ambient_choice name t in
      cond (is_nil (pattern_groups terms t)) ambient (choice.Groups t)

-- the number of the first of the twelve rules that holds, from 1
unfoldable pub ambient_number : List Name → List Term → Name → ℕ → ℕ
ambient_number exclude terms name t =
    suc (find_index (λ (rule : Name → ℕ → Option Kinded). holds (λ k. true) (rule name t)) (rules exclude terms))

-- the numbers of a choice are those of terms and names of the tables
unfoldable pub Within : ℕ → ℕ → Choice → Type 0
Within named many (choice.One t) = t < many
Within named many (choice.Two t u) = (t < many) × (u < many)
Within named many (choice.Groups t) = t < many
Within named many (choice.Refinement t) = t < many
Within named many (choice.Token n) = n < named
Within named many choice.Nothing = Unit {0}
Within named many (choice.Parts t) = t < many
Within named many choice.Drop = Unit {0}
Within named many choice.Ambient = Unit {0}

-- what a rule answers: its choice, of numbers of the tables, or none where it does not hold
pub record Tries (chosen : Option Choice) (named many : ℕ) (r : Option Choice) : Type 0 where
  pub choice : r ≡ chosen
  pub within : IfSome r (Within named many)

-- what the rules ask: the name and the term of a fact are of the tables
abbrev pub OfTables : List ℕ → List ℕ → List ℕ → List ℕ → ℕ → ℕ → ℕ → ℕ → ℕ → Type 0
OfTables file names refs rows named used many name t = Tables file names refs rows named used many × (name < named) × (t < many)

-- a choice among the rules: the first that holds, whatever names are excluded it makes of the fact what `model` does, and its
-- numbers are of the tables
pub record Chosen (choose : List Term → List ℕ → Name → ℕ → Choice) (make : List Name → List Term → Name → ℕ → Kinded)
    (file names refs rows : List ℕ) (named used many name t : ℕ) (r : Choice) : Type 0 where
  pub choice : r ≡ choose (terms_in file names refs rows used many) rows (name_of file names name) t
  pub kind : (exclude : List Name) → kinded exclude (terms_in file names refs rows used many) (name_of file names) r
      ≡ make exclude (terms_in file names refs rows used many) (name_of file names name) t
  pub within : Within named many r
