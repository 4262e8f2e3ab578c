-- The twelve rules: the first that holds takes a fact.
use Prim.Native.Nat.{ℕ}
use mathlib.Core.Path.{◌≡◌, sym, ◌∙◌}
use mathlib.Core.Bool.{true, false}
use Rattle.std.specs.Prelude.{Option, None as none, Some as some}
use mathlib.Core.List.{List, [], ◌∷◌}
use Rattle.model.specs.Lists.{find_index, holds, is_nil}
use Rattle.model.specs.Names.{Name}
use Rattle.model.specs.Terms.{Term}
use Rattle.model.specs.Summaries.{token, pattern_groups}
use Rattle.terms.specs.Rows.{row_head}
use Rattle.rules.specs.declared.Choice.{Choice}
use Rattle.rules.specs.declared.Choice.TheVariants as choice
use Rattle.rules.specs.Choices.{choose_1, choose_2, choose_3, choose_4, choose_5, choose_6, choose_7, choose_8, choose_9, choose_10, choose_11, choose_12, token_choice, ambient_choice, kind_choice}

module _ (terms : List Term) (rows : List ℕ) where
  -- the twelve rules in their order
  abbrev pub twelve : List (Name → ℕ → Option Choice)
  twelve =
      choose_1 terms rows
      ∷ choose_2 terms rows
      ∷ choose_3 terms rows
      ∷ choose_4 terms rows
      ∷ choose_5 terms rows
      ∷ choose_6 terms rows
      ∷ choose_7 terms rows
      ∷ choose_8 terms rows
      ∷ choose_9 terms rows
      ∷ choose_10 terms rows
      ∷ choose_11 terms rows
      ∷ choose_12 terms rows
      ∷ []

-- the place of the first rule that holds, from 0
unfoldable pub place_in : Name → ℕ → List (Name → ℕ → Option Choice) → ℕ
place_in fact t rules = find_index (λ (choose : Name → ℕ → Option Choice). holds (λ c. true) (choose fact t)) rules

-- its place among the twelve
abbrev pub choice_place : List Term → List ℕ → Name → ℕ → ℕ
choice_place terms rows fact t = place_in fact t (twelve terms rows)

module _ (terms : List Term) (rows : List ℕ) (fact : Name) (t : ℕ) where
  -- the choice of a fact with triggers is these
  pub kind_groups : is_nil (pattern_groups terms t) ≡ false → choice.Groups t ≡ kind_choice terms rows fact t
  unfolding kind_choice
  kind_groups e = rw e

  -- that of a fact without is what the rules choose
  pub kind_rules : {c : Choice} → is_nil (pattern_groups terms t) ≡ true → c ≡ ambient_choice terms rows fact t → c ≡ kind_choice terms rows fact t
  unfolding kind_choice
  kind_rules e f = f ∙ sym (rw e)

module _ (terms : List Term) (t : ℕ) where
  -- a token
  pub token_is : (rows : List ℕ) {n : ℕ} {name : Name} → token terms t ≡ some name → n ≡ row_head rows t → choice.Token n ≡ token_choice terms rows t
  unfolding token_choice
  token_is rows e f = rw (e, f)

  -- no token
  pub token_not : (rows : List ℕ) → token terms t ≡ none → choice.Nothing ≡ token_choice terms rows t
  unfolding token_choice
  token_not rows e = rw e
