-- The options of an ask as a struct of bools.
use Rattle.std.specs.Prelude.{ℕ, ◌+◌, ◌≡◌, cond, List}
use Rattle.model.specs.Reading.{Ask, no_ambients, pretyping_axioms, prune_decls, follow_bodies}
use Rattle.options.specs.declared.Options.{Options}

-- the ask of some queries, an options number and a number of groups
abbrev pub asks : List ℕ → ℕ → ℕ → Ask
asks queries options groups = record { queries = queries; options = options; groups = groups }

-- the options that are on, each at its value
unfoldable pub options_value : Options → ℕ
options_value r =
    cond r.no_ambients 1 0 + cond r.pretyping_axioms 2 0 + cond r.prune_decls 4 0 + cond r.follow_bodies 8 0

-- the options of an ask
pub record OptionsOf (a : Ask) (r : Options) : Type 0 where
  pub no_ambients_is : r.no_ambients ≡ no_ambients a
  pub pretyping_axioms_is : r.pretyping_axioms ≡ pretyping_axioms a
  pub prune_decls_is : r.prune_decls ≡ prune_decls a
  pub follow_bodies_is : r.follow_bodies ≡ follow_bodies a
