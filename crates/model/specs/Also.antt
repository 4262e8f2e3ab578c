-- Document 02, Change 11: a run that goes on from a finished one with the roots of one more query.
use Rattle.std.specs.Prelude.{ℕ, not, ◌&&◌, List, [], ◌∷◌, eqb}
use Rattle.model.specs.Lists.{keep, count, collect}
use Rattle.model.specs.Names.{Name, mem}
use Rattle.model.specs.Summaries.{Fact}
use Rattle.model.specs.Reading.{Ask, Root, Summary}
use Rattle.model.specs.Rounds.{Run, first_run, facts, macros, filed, most_rounds, rounds_from, run}

-- the ask with other queries
unfoldable pub with_queries : Ask → List ℕ → Ask
with_queries a qs = record { queries = qs; options = a.options; groups = a.groups }

-- the free names of what the first round of the stretch of a query scans: its roots, and no ambient roots
unfoldable pub also_scanned : ℕ → List Root → List Name
also_scanned q roots = collect (λ r. r.free_names) (keep (λ r. eqb r.query q) roots)

-- where a stretch starts: what is met and reached stays, the rounds are counted anew
unfoldable pub stretch_start : Run → Run
stretch_start r = record { met = r.met; reached = r.reached; rounds = 0 }

-- the stretch of one more query, from the end of a run on
unfoldable pub stretch : Ask → List Summary → List Root → Run → ℕ → Run
stretch a decls roots r q =
    let fs = facts decls in
    rounds_from a (macros decls) fs (most_rounds fs) (stretch_start r) (also_scanned q roots)

-- where a chain stands after these queries, the last first: the run of the first, and a stretch for each further one
unfoldable pub chain : Ask → List Summary → List Root → List ℕ → Run
chain a decls roots [] = first_run
chain a decls roots (q ∷ []) = run (with_queries a (q ∷ [])) decls roots
chain a decls roots (q ∷ p ∷ qs) = stretch a decls roots (chain a decls roots (p ∷ qs)) q

-- the visits of a stretch: the filed entries whose name is first met in it
unfoldable pub stretch_visits : List Name → List Name → List Fact → ℕ
stretch_visits before after fs = count (λ n. mem n after && not (mem n before)) (filed fs)
