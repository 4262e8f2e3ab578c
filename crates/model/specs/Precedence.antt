-- Document 02, Change 9: what must come before what, as the rows of a check over all def lines.
use Rattle.std.specs.Prelude.{ℕ, cond, List, ◌++◌, leb, Option, Some as some}
use Rattle.model.specs.Lists.{any, keep, collect, is_nil, to_list, when, ◌>>=◌}
use Rattle.model.specs.Names.{Name, same, name_number}
use Rattle.model.specs.Reading.{Decl, Summary, State}
use Rattle.model.specs.Rounds.{definitions, declarations}
use Rattle.model.specs.declared.Row.{Row}

-- what a body may name: the definitions and the declarations
unfoldable pub parts : List Summary → List Decl
parts decls = definitions decls ++ declarations decls

-- the sort of a name free in the body of d, if it is listed: 1 where its def or fun stands on the same or a later line, 2 where it
-- has neither
unfoldable pub sort_of : List Decl → Decl → Name → Option ℕ
sort_of ps d n =
    let found = keep (λ p. same p.name n) ps in
    cond (is_nil found) (some 2) (when (any (λ p. leb d.line p.line) found) 1)

-- the rows of one definition, by name in byte order: its line, the number of the name, the sort
unfoldable pub late_in : List Name → List Decl → Decl → List Row
late_in names ps d =
    collect (λ n. to_list (sort_of ps d n >>= λ k. some (record { line = d.line; number = name_number names n; cause = k })))
    d.free_names

-- the rows of the check, by line and then by name
unfoldable pub late_rows : State → List Row
late_rows s = collect (late_in s.names (parts s.decls)) (definitions s.decls)
