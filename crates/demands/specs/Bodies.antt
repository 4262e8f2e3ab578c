-- Change 8, for every accepted file and every ask over it: "With 4 and 8 together, every def or fun whose name is free in the
-- body of a kept def is kept too, to any depth." Said of the list itself and not by the function that makes it.
use Rattle.std.specs.Prelude.{ℕ, ◌≡◌, Bool, not, ◌&&◌, T, eqb}
use mathlib.Core.List.{List, ◌++◌, map, Memᴰ}
use Rattle.model.specs.Lists.{any, keep}
use Rattle.model.specs.Names.{Name, Ascending}
use Rattle.model.specs.Summaries.{exclude_names, Fact}
use Rattle.model.specs.Reading.{Ask, no_ambients, pretyping_axioms, prune_decls, follow_bodies, Decl, Summary, State, excluded}
use Rattle.model.specs.Rounds.{facts, definitions, declarations}
use Rattle.model.specs.Kept.{kept_names}
use Rattle.model.specs.Bodies.{added_names}
use Rattle.demands.specs.LinesRead.{LinesRead, records_for, Distinct}
use Rattle.demands.specs.Demand2.{kept_list, followed_list}
use Rattle.demands.specs.Demand3.{run_of}
use Rattle.demands.specs.Also.{chain_at}
use Rattle.demands.specs.Order.{listed_facts}

-- a set of lines that has, with a def, every def and fun whose name is free in its body
pub record ClosedLines (decls : List Summary) (has : ℕ → Type 0) : Type 0 where
  pub has_every : (d e : Decl) → Memᴰ d (definitions decls) → Memᴰ e (definitions decls ++ declarations decls)
      → Memᴰ e.name d.free_names → has d.line → has e.line

-- "the smallest closed in this way that holds the list without the added ones"
pub record Smallest (a : Ask) (s : State) (lines : List ℕ) : Type 0 where
  pub closed : ClosedLines (records_for a s) (λ n. Memᴰ n lines)
  pub holds : (n : ℕ) → Memᴰ n (kept_list a s) → Memᴰ n lines
  pub least : (has : ℕ → Bool) → ClosedLines (records_for a s) (λ n. T (has n)) → ((n : ℕ) → Memᴰ n (kept_list a s) → T (has n))
      → (n : ℕ) → Memᴰ n lines → T (has n)

-- Change 8 of a file that was read, and of a list of lines
pub record BodiesFollowed (a : Ask) (s : State) (lines : List ℕ) : Type 0 where
  pub defs : List Decl
  pub added_defs : List Decl
  pub funs : List Decl
  pub added_funs : List Decl
  pub are_definitions : (d : Decl) → Memᴰ d (defs ++ added_defs) → Memᴰ d (definitions (records_for a s))
  pub are_declarations : (d : Decl) → Memᴰ d (funs ++ added_funs) → Memᴰ d (declarations (records_for a s))
  -- "the list without the added ones; demand 2 speaks of that list"
  pub without : kept_list a s ≡ map (λ (f : Fact). f.line) (listed_facts a s) ++ map (λ (d : Decl). d.line) (defs ++ funs)
  pub new : (d : Decl) → Memᴰ d (added_defs ++ added_funs) → Memᴰ d.line (kept_list a s) → ⊥
  -- "The added ones stand at the end of their group"
  pub list : lines
      ≡ map (λ (f : Fact). f.line) (listed_facts a s) ++ map (λ (d : Decl). d.line) ((defs ++ added_defs) ++ (funs ++ added_funs))
  -- "in byte order of name"
  pub defs_by_name : Ascending (map (λ (d : Decl). d.name) added_defs)
  pub funs_by_name : Ascending (map (λ (d : Decl). d.name) added_funs)
  -- "With 4 and 8 together"
  pub smallest : T (prune_decls a) → T (follow_bodies a) → Smallest a s lines
  -- "the old option remains as it is"; 8 counts only together with 4
  pub as_it_was : T (not (prune_decls a && follow_bodies a)) → lines ≡ kept_list a s

-- the list is so
abbrev pub ListFollowed : Type 0
ListFollowed = (file : List ℕ) (s : State) → LinesRead file s → (a : Ask) → BodiesFollowed a s (followed_list a s)

-- no other list is
abbrev pub FollowedFixed : Type 0
FollowedFixed =
    (file : List ℕ) (s : State) → LinesRead file s → (a : Ask) (lines : List ℕ) → BodiesFollowed a s lines → lines ≡ followed_list a s

-- the list without the added ones stands in it, in its order
abbrev pub PlainStands : Type 0
PlainStands =
    (file : List ℕ) (s : State) → LinesRead file s → (a : Ask) → keep (λ n. any (eqb n) (kept_list a s)) (followed_list a s) ≡ kept_list a s

-- each line stands once
abbrev pub FollowedOnce : Type 0
FollowedOnce = (file : List ℕ) (s : State) → LinesRead file s → (a : Ask) → Distinct (followed_list a s)

-- two asks that differ in option 8 at most
pub record ButForBodies (a b : Ask) : Type 0 where
  pub queries : a.queries ≡ b.queries
  pub ambients : no_ambients a ≡ no_ambients b
  pub pretyping : pretyping_axioms a ≡ pretyping_axioms b
  pub pruning : prune_decls a ≡ prune_decls b
  pub admitted : a.groups ≡ b.groups

-- option 8 changes neither the run nor any line of a chain, so neither the visits nor the rounds, nor the list without what
-- bodies add
abbrev pub FollowingMeetsNothing : Type 0
FollowingMeetsNothing =
    (a b : Ask) → ButForBodies a b → (file : List ℕ) (s : State) → LinesRead file s
    → (run_of a s ≡ run_of b s) × (kept_list a s ≡ kept_list b s) × ((qs : List ℕ) → chain_at a s qs ≡ chain_at b s qs)

-- no name that bodies add is excluded
abbrev pub AddedNeverExcluded : Type 0
AddedNeverExcluded =
    (file : List ℕ) (s : State) → LinesRead file s → (a : Ask) (name : Name)
    → Memᴰ name (added_names (definitions (records_for a s)) (kept_names a (facts (records_for a s)) s.roots (run_of a s).reached))
    → Memᴰ name (excluded exclude_names s) → ⊥

-- no definition or declaration that stands on the list, and not on the one without the added ones, has an excluded name
abbrev pub AddedLinesNeverExcluded : Type 0
AddedLinesNeverExcluded =
    (file : List ℕ) (s : State) → LinesRead file s → (a : Ask) (d : Decl)
    → Memᴰ d (definitions (records_for a s) ++ declarations (records_for a s)) → Memᴰ d.line (followed_list a s)
    → (Memᴰ d.line (kept_list a s) → ⊥) → Memᴰ d.name (excluded exclude_names s) → ⊥
