-- Nothing but the lines told depends on the lines of the records.
use Rattle.std.specs.Prelude.{ℕ, ◌≡◌, List, map}
use Rattle.model.specs.Summaries.{Fact}
use Rattle.model.specs.Reading.{Ask, Decl, Summary, sum_assume, sum_definefun, sum_declfun, sum_retain, Root}
use Rattle.model.specs.Rounds.{run}
use Rattle.model.specs.Kept.{kept}
use Rattle.model.specs.Outcome.{Position, position}

-- a fact whose line n is now `to n`
unfoldable pub moved_fact : (ℕ → ℕ) → Fact → Fact
moved_fact to f =
    record {
      line = to f.line;
      name = f.name;
      free_names = f.free_names;
      pretyping = f.pretyping;
      group = f.group;
      kind = f.kind;
      triggers = f.triggers;
    }

-- a definition or a declaration
unfoldable pub moved_decl : (ℕ → ℕ) → Decl → Decl
moved_decl to d = record { line = to d.line; name = d.name; free_names = d.free_names }

-- a record
unfoldable pub moved : (ℕ → ℕ) → Summary → Summary
moved to (sum_assume f) = sum_assume (moved_fact to f)
moved to (sum_definefun d) = sum_definefun (moved_decl to d)
moved to (sum_declfun d) = sum_declfun (moved_decl to d)
moved to sum_retain = sum_retain

-- a root
unfoldable pub moved_root : (ℕ → ℕ) → Root → Root
moved_root to r = record { line = to r.line; query = r.query; name = r.name; free_names = r.free_names }

-- what an ask comes to, with its lines moved so
unfoldable pub moved_position : (ℕ → ℕ) → Position → Position
moved_position to p = record { kept = map to p.kept; visits = p.visits; rounds = p.rounds }

-- what an ask comes to over records that stand on other lines
abbrev pub LinesApart : Type 0
LinesApart =
    (to : ℕ → ℕ) (decls : List Summary) (roots : List Root) (a : Ask)
    → position (map (moved to) decls) (map (moved_root to) roots) a ≡ moved_position to (position decls roots a)

-- its list without what the bodies of kept definitions add
abbrev pub KeptApart : Type 0
KeptApart =
    (to : ℕ → ℕ) (decls : List Summary) (roots : List Root) (a : Ask)
    → kept a (map (moved to) decls) (map (moved_root to) roots) (run a (map (moved to) decls) (map (moved_root to) roots)).reached
    ≡ map to (kept a decls roots (run a decls roots).reached)
