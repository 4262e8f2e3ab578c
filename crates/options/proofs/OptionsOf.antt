-- The options, and whether a group is admitted, by division and remainder.
use Prim.Native.Nat.{ℕ, zero, suc, ◌+◌, ◌-◌, ◌/◌, ◌%◌, ◌≤◌, ◌<◌}
use native.Mathlib.Omega.{arith}
use mathlib.Core.Path.{◌≡◌, refl, sym, ◌∙◌}
use mathlib.Core.List.{List, []}
use lib.Dec.{eqb}
use Rattle.model.specs.Reading.{no_ambients, pretyping_axioms, prune_decls, follow_bodies, most_options}
use Rattle.model.specs.Rounds.{admits}
use Rattle.laws.specs.Places.{option_at}
use Rattle.laws.proofs.OptionLaws.{options_sum, admits_at_place}
use Rattle.options.specs.OptionsOf.{asks, options_value, OptionsOf}
use Rattle.options.specs.declared.Options.{Options}

-- the struct of a number
abbrev taken_apart : ℕ → Options
taken_apart n = record {
  no_ambients = eqb (n % 2) 1;
  pretyping_axioms = eqb (n / 2 % 2) 1;
  prune_decls = eqb (n / 4 % 2) 1;
  follow_bodies = eqb (n / 8 % 2) 1;
}

pub options_are : (qs : List ℕ) (gs n : ℕ) → OptionsOf (asks qs n gs) (taken_apart n)
unfolding no_ambients pretyping_axioms prune_decls follow_bodies
options_are qs gs n = record { no_ambients_is = refl; pretyping_axioms_is = refl; prune_decls_is = refl; follow_bodies_is = refl }

pub options_add : (n : ℕ) → n ≤ most_options → options_value (taken_apart n) ≡ n
unfolding options_value no_ambients pretyping_axioms prune_decls follow_bodies
options_add n h = options_sum (asks [] n 0) h

-- no halving
pub halved_none : (left group : ℕ) → option_at (group - 0) left ≡ option_at group left
halved_none left group =
    let none : group - 0 ≡ group = omega arith in
    rw none refl

-- one halving more
pub halved : (left group n : ℕ) → n < group → option_at (group - (n + 1)) (left / 2) ≡ option_at (group - n) left
unfolding option_at
halved left group n h =
    let one : group - n ≡ suc (group - (n + 1)) = omega arith in
    rw one

-- the last: what remains by 2 tells
pub admits_is : (groups group left i : ℕ) → option_at i left ≡ option_at group groups → i ≤ 0
    → (qs : List ℕ) (os : ℕ) → eqb (left % 2) 1 ≡ admits (asks qs os groups) group
unfolding option_at
admits_is groups group left zero e h qs os = e ∙ sym (admits_at_place (asks qs os groups) group)
admits_is groups group left (suc i) e h qs os = absurd (let none : ⊥ = omega arith in none)
