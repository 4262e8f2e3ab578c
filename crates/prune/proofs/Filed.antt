-- The facts, the definitions, the declarations and the roots of the tables, as lists over the numbers of the records.
use Prim.Native.Nat.{ℕ, zero, suc, ◌+◌}
use native.Mathlib.Omega.{arith}
use mathlib.Core.Path.{◌≡◌, refl, sym, ap, ap₂, ◌∙◌}
use mathlib.Core.Bool.{Bool, true, false, cond}
use mathlib.Core.List.{List, [], ◌∷◌, ◌++◌, map, map-append}
use lib.Dec.{eqb}
use borrow.Author.Tests.{ne_eqb}
use Rattle.model.specs.Lists.{keep}
use Rattle.model.specs.Names.{Name}
use Rattle.model.specs.Reading.{Ask, Decl}
use Rattle.model.specs.Rounds.{facts, definitions, declarations}
use Rattle.model.proofs.ListLaws.{keep_append}
use Rattle.laws.proofs.Records.{declarations_append}
use Rattle.records.specs.Columns.{record_kind, fun_kind}
use Rattle.records.specs.States.{fact_at, decl_at, summary_at, decls_of, roots_of, background_of, takes_part}
use Rattle.firing.proofs.Background.{is_definition, is_root, def_at, root_of, no_facts, next_facts, no_defs, next_defs, no_roots, next_roots}
use Rattle.prune.specs.Listing.{from}
use Rattle.prune.proofs.Ranges.{from_snoc}

-- a list to which each number adds one element or none
over_from : {A : Type 0} (list : ℕ → List A) (test : ℕ → Bool) (one : ℕ → A) → list 0 ≡ []
    → ((n : ℕ) → list (suc n) ≡ list n ++ cond (test n) (one n ∷ []) []) → (n : ℕ) → list n ≡ map one (keep test (from 0 n))
unfolding keep from
over_from list test one start next zero = start
over_from list test one start next (suc n) =
    next n
    ∙ ap₂ ◌++◌ (over_from list test one start next n) (last (test n))
    ∙ sym (map-append one (keep test (from 0 n)) (keep test (n ∷ [])))
    ∙ ap (map one) (sym (keep_append test (from 0 n) (n ∷ [])))
    ∙ ap (λ l. map one (keep test l)) (sym (from_snoc 0 n ∙ ap (λ i. from 0 n ++ (i ∷ [])) (let e : 0 + n ≡ n = omega arith in e)))
  where
    last : (b : Bool) → cond b (one n ∷ []) [] ≡ map one (cond b (n ∷ []) [])
    last true = refl
    last false = refl

-- whether a record is a declaration
abbrev pub is_declaration : List ℕ → ℕ → Bool
is_declaration recs i = eqb (record_kind recs i) fun_kind

module _ (name : ℕ → Name) (recs lists : List ℕ) where
  -- the declaration of a record
  abbrev pub fun_at : ℕ → Decl
  fun_at i = decl_at name recs lists i []

  -- what a record adds to the declarations
  record_funs : (i kind : ℕ) → declarations (summary_at name recs lists i kind) ≡ cond (eqb kind fun_kind) (fun_at i ∷ []) []
  unfolding summary_at declarations
  record_funs i zero = refl
  record_funs i (suc zero) = refl
  record_funs i (suc (suc zero)) = refl
  record_funs i (suc (suc (suc zero))) = refl
  record_funs i (suc (suc (suc (suc k)))) = rw (ne_eqb (suc (suc (suc (suc k)))) 1 (λ e. omega arith))

  -- the declarations of one record more
  next_funs : (n : ℕ)
      → declarations (decls_of name recs lists (suc n)) ≡ declarations (decls_of name recs lists n) ++ cond (is_declaration recs n) (fun_at n ∷ []) []
  unfolding decls_of
  next_funs n =
      declarations_append (decls_of name recs lists n) (summary_at name recs lists n (record_kind recs n))
      ∙ ap (declarations (decls_of name recs lists n) ++◌) (record_funs n (record_kind recs n))

  -- those of none
  no_funs : declarations (decls_of name recs lists 0) ≡ []
  unfolding decls_of declarations
  no_funs = refl

  -- the facts that an ask admits by record
  pub facts_are : (a : Ask) (n : ℕ) → facts (background_of name recs lists a n) ≡ map (fact_at name recs lists) (keep (takes_part recs a) (from 0 n))
  facts_are a =
      over_from (λ n. facts (background_of name recs lists a n)) (takes_part recs a) (fact_at name recs lists) (no_facts name recs lists a)
      (next_facts name recs lists a)

  -- the definitions by record
  pub definitions_are : (n : ℕ) → definitions (decls_of name recs lists n) ≡ map (def_at name recs lists) (keep (is_definition recs) (from 0 n))
  definitions_are =
      over_from (λ n. definitions (decls_of name recs lists n)) (is_definition recs) (def_at name recs lists) (no_defs name recs lists) (next_defs name recs lists)

  -- the declarations by record
  pub declarations_are : (n : ℕ) → declarations (decls_of name recs lists n) ≡ map fun_at (keep (is_declaration recs) (from 0 n))
  declarations_are = over_from (λ n. declarations (decls_of name recs lists n)) (is_declaration recs) fun_at no_funs next_funs

  -- the roots by record
  pub roots_are : (n : ℕ) → roots_of name recs lists n ≡ map (root_of name recs lists) (keep (is_root recs) (from 0 n))
  roots_are = over_from (roots_of name recs lists) (is_root recs) (root_of name recs lists) (no_roots name recs lists) (next_roots name recs lists)
