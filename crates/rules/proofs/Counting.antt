-- The pattern groups of a term: a term without any has no triggers.
use Prim.Native.Nat.{ℕ, zero, suc, ◌≤◌, ◌<◌}
use native.Mathlib.Omega.{arith}
use mathlib.Core.Path.{◌≡◌, refl, sym, ap, ◌∙◌}
use mathlib.Core.Bool.{false}
use mathlib.Core.List.{List, [], ◌∷◌, ◌++◌}
use lib.ListN.{length}
use lib.Dec.{eqb}
use borrow.Author.Tests.{eq-eqb, ne_eqb}
use Rattle.model.specs.Lists.{is_nil}
use Rattle.model.specs.Summaries.{pattern_groups}
use Rattle.model.proofs.ListLaws.{true_T, is_nil_elim}
use Rattle.names.specs.Table.{name_of}
use Rattle.terms.specs.Rows.{groups_of_words, bare_of, groups_at, Rows}
use Rattle.terms.proofs.Table.{bare_low}
use Rattle.terms.proofs.Groups.{groups_count}
use Rattle.rules.specs.Views.{Tables, terms_in}

-- ---- the term under labels

module _ {refs rows : List ℕ} {used many named : ℕ} (table : Rows refs rows used many named) where
  -- the groups of a term can be read
  pub groups_ready : {t : ℕ} → t < many → (16384 ≤ length rows) × (t < 4096) × (bare_of rows t < 4096)
  groups_ready {t} l = (table.row_room, omega (arith, table.few_rows), omega (arith, table.few_rows, bare_low table t l))

-- ---- how many groups

-- a list with one element more is not empty
more_not_nil : {A : Type 0} (xs : List A) (x : A) → is_nil (xs ++ (x ∷ [])) ≡ false
unfolding is_nil
more_not_nil [] x = refl
more_not_nil (y ∷ xs) x = refl

-- as many groups as asked for: none where none are
groups_nil : (ws : List ℕ) (g : ℕ) → is_nil (groups_of_words ws g) ≡ eqb g 0
unfolding is_nil groups_of_words
groups_nil ws zero = refl
groups_nil ws (suc g) = more_not_nil (groups_of_words ws g) _ ∙ sym (ne_eqb (suc g) 0 (λ e. omega arith))

module _ {file names refs rows : List ℕ} {named used many t : ℕ} (tables : Tables file names refs rows named used many) (l : t < many) where
  -- whether there is no group
  pub groups_none : is_nil (pattern_groups (terms_in file names refs rows used many) t) ≡ eqb (groups_at rows t) 0
  unfolding terms_in
  groups_none = ap is_nil (groups_count tables.term_table (name_of file names) l) ∙ groups_nil _ (groups_at rows t)

  -- without groups there is none
  pub no_groups : groups_at rows t ≡ 0 → pattern_groups (terms_in file names refs rows used many) t ≡ []
  no_groups e = is_nil_elim _ (true_T (groups_none ∙ eq-eqb (groups_at rows t) 0 e))
