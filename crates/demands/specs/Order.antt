-- Change 3, for every accepted file and every ask over it: "Both inner orders are now fixed as Pruning.fst has them." What the
-- kept list has of definitions and declarations, and in which order, said of the list itself and not by the function that
-- makes it.
use Rattle.std.specs.Prelude.{ℕ, suc, ◌<◌, ◌≡◌, ◌↔◌, Bool, cond, T}
use mathlib.Core.List.{List, [], ◌∷◌, ◌++◌, map, Memᴰ}
use Rattle.model.specs.Lists.{collect}
use Rattle.model.specs.Names.{Name, same, Ascending}
use Rattle.model.specs.Summaries.{Fact}
use Rattle.model.specs.Reading.{Ask, prune_decls, Root, Decl, State}
use Rattle.model.specs.Rounds.{facts, definitions, declarations}
use Rattle.model.specs.Kept.{kept_facts}
use Rattle.demands.specs.LinesRead.{LinesRead, records_for, Distinct}
use Rattle.demands.specs.Demand2.{kept_list}
use Rattle.demands.specs.Demand3.{run_of}
use Rattle.demands.specs.FileOrder.{Rising}

-- "Walk the kept facts as listed, then the roots": their free names, one item's after the other's
abbrev pub walked : List Fact → List Root → List Name
walked kept roots = collect (λ (f : Fact). f.free_names) kept ++ collect (λ (r : Root). r.free_names) roots

-- "when it is first met": how many names stand before the first place of a name
unfoldable pub first_place : List Name → Name → ℕ
first_place [] n = 0
first_place (m ∷ ms) n = let later = first_place ms n in cond (same m n) 0 (suc later)

-- numbers that descend
pub data Falling : List ℕ → Type 0 where
  none : Falling []
  one : {n : ℕ} → Falling (n ∷ [])
  more : {n m : ℕ} {ns : List ℕ} → m < n → Falling (m ∷ ns) → Falling (n ∷ m ∷ ns)

-- which of the definitions, or of the declarations, are listed where these names are walked, and in which order
pub record LastMetFirst (option_4 : Bool) (names : List Name) (all listed : List Decl) : Type 0 where
  -- "note a def or fun when it is first met": with option 4 those whose name is walked, without it none
  pub noted : (d : Decl) → Memᴰ d listed ↔ (T option_4 × Memᴰ d all × Memᴰ d.name names)
  -- each stands once
  pub once : Distinct listed
  -- "each last met first"
  pub last_first : Falling (map (λ (d : Decl). first_place names d.name) listed)

-- the kept facts of an ask over a file that was read, as listed
abbrev pub listed_facts : Ask → State → List Fact
listed_facts a s = kept_facts a (facts (records_for a s)) (run_of a s).reached

-- Change 3 of a file that was read, and of a list of lines
pub record OneOrder (a : Ask) (s : State) (lines : List ℕ) : Type 0 where
  -- "then the roots of q", one of the ask's queries
  pub roots : List Root
  pub of_query : (r : Root) → Memᴰ r roots ↔ (Memᴰ r s.roots × Memᴰ r.query a.queries)
  -- "by line"
  pub by_line : Rising (map (λ (r : Root). r.line) roots)
  -- "Take each one's free names in byte order"
  pub fact_names : (f : Fact) → Memᴰ f (listed_facts a s) → Ascending f.free_names
  pub root_names : (r : Root) → Memᴰ r roots → Ascending r.free_names
  -- "and note a def or fun when it is first met", "each last met first"
  pub defs : List Decl
  pub funs : List Decl
  pub defs_listed : LastMetFirst (prune_decls a) (walked (listed_facts a s) roots) (definitions (records_for a s)) defs
  pub funs_listed : LastMetFirst (prune_decls a) (walked (listed_facts a s) roots) (declarations (records_for a s)) funs
  -- "Defs come first, then funs", after the facts
  pub list : lines ≡ map (λ (f : Fact). f.line) (listed_facts a s) ++ map (λ (d : Decl). d.line) (defs ++ funs)

-- the kept list is so
abbrev pub DeclsInOrder : Type 0
DeclsInOrder = (file : List ℕ) (s : State) → LinesRead file s → (a : Ask) → OneOrder a s (kept_list a s)

-- "fixed": no other list is
abbrev pub OrderFixed : Type 0
OrderFixed = (file : List ℕ) (s : State) → LinesRead file s → (a : Ask) (lines : List ℕ) → OneOrder a s lines → lines ≡ kept_list a s
