-- Document 02, Change 2: why each fact came along; on an also line the reasons of the fresh run over all queries of its chain.
use Rattle.std.specs.Prelude.{ℕ, Bool, cond, ◌&&◌, ◌||◌, List, [], ◌∷◌, ◌++◌, map, ltb, eqb, Option, None as none, Some as some}
use Rattle.model.specs.Lists.{keep, count, collect, fold_left, to_list}
use Rattle.model.specs.Names.{Name, mem, from_list, name_number}
use Rattle.model.specs.Summaries.{Fact}
use Rattle.model.specs.Reading.{Ask, Root, Summary, State}
use Rattle.model.specs.Pruning.{Map}
use Rattle.model.specs.Rounds.{Run, background, facts, macros, met_from, listed, goal_roots, ambient_roots, run, history, end_of, round_of}
use Rattle.model.specs.Kept.{reached_facts}
use Rattle.model.specs.declared.Row.{Row}

-- an item that a run scans: its line, its round, and the names that it has, opened macros included
pub record Item : Type 0 where
  pub line : ℕ
  pub round : ℕ
  pub names : List Name

-- an item of a line and a round, from its free names
abbrev pub item : Map (List Name) → ℕ → ℕ → List Name → Item
item ms line round free = record { line = line; round = round; names = met_from ms free }

-- the items of round 0: the roots of the ask's queries and the ambient roots
unfoldable pub first_items : Ask → List Summary → List Root → List Item
first_items a decls roots =
    map (λ r. item (macros decls) r.line 0 r.free_names) (goal_roots a roots)
    ++ map (λ f. item (macros decls) f.line 0 f.free_names) (ambient_roots a (facts decls))

-- the reached facts as items, each of its round
unfoldable pub reached_items : Ask → List Summary → List Root → List Item
reached_items a decls roots =
    let h = history a decls roots in
    map (λ f. item (macros decls) f.line (round_of h f) f.free_names) (reached_facts (facts decls) (run a decls roots).reached)

-- the scanned items of a run
unfoldable pub scanned_items : Ask → List Summary → List Root → List Item
scanned_items a decls roots = first_items a decls roots ++ reached_items a decls roots

-- whether an item is of a lower round, or of the same round and on a lower line
unfoldable pub earlier : Item → Item → Bool
earlier i j = ltb i.round j.round || (eqb i.round j.round && ltb i.line j.line)

-- the earlier of two items
unfoldable pub sooner : Item → Item → Item
sooner i j = cond (earlier j i) j i

-- the earliest of some items
unfoldable pub earliest : List Item → Option Item
earliest [] = none
earliest (i ∷ is) = some (fold_left sooner i is)

-- the supplier of a name: the earliest item that has it
unfoldable pub supplier : List Item → Name → Option Item
supplier is n = earliest (keep (λ i. mem n i.names) is)

-- the listed names of a fact that are met by the end of its round, each once, in byte order
unfoldable pub met_listed : List Run → Fact → List Name
met_listed h f = keep (λ n. mem n (end_of h (round_of h f)).met) (from_list (listed f))

-- the rows of a reached fact: its line, the number of a listed name, the line of the name's supplier; by the names in order of first
-- spelling, the history of the run and its items
unfoldable pub rows_of : List Name → List Run → List Item → Fact → List Row
rows_of names h is f =
    collect (λ n. map (λ i. record { line = f.line; number = name_number names n; cause = i.line }) (to_list (supplier is n)))
    (met_listed h f)

-- the rows of an ask, by the names of the reached facts and then by listed name
unfoldable pub rows : Ask → State → List Row
rows a s =
    let admitted = background a s.decls in
    collect (rows_of s.names (history a admitted s.roots) (scanned_items a admitted s.roots))
    (reached_facts (facts admitted) (run a admitted s.roots).reached)

-- the row of bits: which of the numbered names are met
unfoldable pub met_bits : Ask → State → List Bool
met_bits a s = map (λ n. mem n (run a (background a s.decls) s.roots).met) s.names

-- the count of its ones
unfoldable pub met_number : Ask → State → ℕ
met_number a s = count (λ b. b) (met_bits a s)
