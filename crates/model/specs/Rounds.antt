-- Document 01, "Firing" and "Rounds": names met, firing, the rounds of a run and its visits. Document 02, Change 13: the
-- background of an ask.
use Rattle.std.specs.Prelude.{ℕ, zero, suc, ◌+◌, ◌/◌, ◌%◌, ◌^◌, Bool, true, false, cond, not, ◌&&◌, ◌||◌, List, [], ◌∷◌, ◌++◌, map, length, get_or, eqb}
use Rattle.std.specs.Option as Option
use Rattle.model.specs.Lists.{any, all, keep, count, find_index, concat, collect, is_nil}
use Rattle.model.specs.Names.{Name, mem, from_list, union}
use Rattle.model.specs.Summaries.{Fact}
use Rattle.model.specs.Reading.{Ask, no_ambients, pretyping_axioms, Root, Decl, Summary, sum_assume, sum_definefun, sum_declfun, sum_retain}
use Rattle.model.specs.Pruning.{Map, try_find, init_macro_freenames}
use Rattle.model.specs.declared.AsumKind.{AsumKind}
use Rattle.model.specs.declared.AsumKind.TheVariants.{Drop, Ambient, Triggers}

-- the facts of a file, in file order
unfoldable pub facts : List Summary → List Fact
facts [] = []
facts (sum_assume f ∷ decls) = f ∷ facts decls
facts (sum_definefun d ∷ decls) = facts decls
facts (sum_declfun d ∷ decls) = facts decls
facts (sum_retain ∷ decls) = facts decls

-- the definitions of a file, in file order
unfoldable pub definitions : List Summary → List Decl
definitions [] = []
definitions (sum_assume f ∷ decls) = definitions decls
definitions (sum_definefun d ∷ decls) = d ∷ definitions decls
definitions (sum_declfun d ∷ decls) = definitions decls
definitions (sum_retain ∷ decls) = definitions decls

-- the declarations of a file, in file order
unfoldable pub declarations : List Summary → List Decl
declarations [] = []
declarations (sum_assume f ∷ decls) = declarations decls
declarations (sum_definefun d ∷ decls) = declarations decls
declarations (sum_declfun d ∷ decls) = d ∷ declarations decls
declarations (sum_retain ∷ decls) = declarations decls

-- whether an ask admits a group: the bit of the number of its groups at the group's place
unfoldable pub admits : Ask → ℕ → Bool
admits a group = eqb (a.groups / 2 ^ group % 2) 1

-- whether an ask has to do with a record: not with a fact of a group that it does not admit
unfoldable pub is_admitted : Ask → Summary → Bool
is_admitted a (sum_assume f) = admits a f.group
is_admitted a (sum_definefun d) = true
is_admitted a (sum_declfun d) = true
is_admitted a sum_retain = true

-- the background of an ask: the records of the file without the facts that it does not admit
unfoldable pub background : Ask → List Summary → List Summary
background a decls = keep (is_admitted a) decls

-- the macros of a file: a def's name opens to its term's free names; the five of the start, unless a def replaces them
unfoldable pub macros : List Summary → Map (List Name)
macros decls = map (λ d. (d.name, d.free_names)) (definitions decls) ++ init_macro_freenames

-- the names met from items with these free names: a macro is opened one level
unfoldable pub met_from : Map (List Name) → List Name → List Name
met_from ms names = from_list (names ++ collect (λ n. Option.unwrap_or (try_find ms n) []) names)

-- the listed names of a fact, one for each of its filed trigger entries
unfoldable pub listed : Fact → List Name
listed f = concat f.triggers

-- the filed trigger entries, as their names
unfoldable pub filed : List Fact → List Name
filed fs = collect listed fs

-- whether a disjunct lies wholly within the met names
unfoldable pub lies_within : List Name → List Name → Bool
lies_within met disjunct = all (λ n. mem n met) disjunct

-- whether a fact fires on met names
unfoldable pub fires : List Name → Fact → Bool
fires met f = any (λ n. mem n met) (listed f) && any (lies_within met) f.triggers

-- whether a round triggers a fact, by the names met before it and at its end
unfoldable pub triggers_in : List Name → List Name → Fact → Bool
triggers_in before after f =
    any (λ n. mem n after && not (mem n before)) (listed f) && any (lies_within after) f.triggers

-- whether a fact of the background is retainable: its flag is 0, or option 2 is on
unfoldable pub retainable : Ask → Fact → Bool
retainable a f = not f.pretyping || pretyping_axioms a

-- what a run comes to: the names met, the names of the facts reached, and the rounds
pub record Run : Type 0 where
  pub met : List Name
  pub reached : List Name
  pub rounds : ℕ

-- a run before its first round
abbrev pub first_run : Run
first_run = record { met = []; reached = []; rounds = 0 }

-- the names met at the end of a round that scans items with these free names
unfoldable pub met_after : Map (List Name) → Run → List Name → List Name
met_after ms r scanned = union (met_from ms scanned) r.met

-- the facts that the round triggers
unfoldable pub triggered : Map (List Name) → List Fact → Run → List Name → List Fact
triggered ms fs r scanned = keep (triggers_in r.met (met_after ms r scanned)) fs

-- those of them that it reaches: retainable and not yet reached
unfoldable pub fresh : Ask → Map (List Name) → List Fact → Run → List Name → List Fact
fresh a ms fs r scanned = keep (λ f. retainable a f && not (mem f.name r.reached)) (triggered ms fs r scanned)

-- the state after the round
unfoldable pub after_round : Ask → Map (List Name) → List Fact → Run → List Name → Run
after_round a ms fs r scanned =
    record {
      met = met_after ms r scanned;
      reached = union (map (λ f. f.name) (fresh a ms fs r scanned)) r.reached;
      rounds = r.rounds + 1;
    }

-- the free names of what the next round scans
unfoldable pub next_scanned : Ask → Map (List Name) → List Fact → Run → List Name → List Name
next_scanned a ms fs r scanned = collect (λ f. f.free_names) (fresh a ms fs r scanned)

-- the rounds from a state on, as long as the fuel lasts
unfoldable pub rounds_from : Ask → Map (List Name) → List Fact → ℕ → Run → List Name → Run
rounds_from a ms fs zero r scanned = r
rounds_from a ms fs (suc fuel) r scanned =
    let further = rounds_from a ms fs fuel (after_round a ms fs r scanned) (next_scanned a ms fs r scanned) in
    cond (is_nil (triggered ms fs r scanned)) (after_round a ms fs r scanned) further

-- whether a summary is ambient
unfoldable pub is_ambient : AsumKind → Bool
is_ambient Drop = false
is_ambient (Ambient is_root) = true
is_ambient (Triggers n) = false

-- whether a summary is that of an ambient root
unfoldable pub is_ambient_root : AsumKind → Bool
is_ambient_root Drop = false
is_ambient_root (Ambient is_root) = is_root
is_ambient_root (Triggers n) = false

-- whether a query is one of the ask's
unfoldable pub asks_for : Ask → ℕ → Bool
asks_for a q = any (eqb q) a.queries

-- the roots of the ask's queries
unfoldable pub goal_roots : Ask → List Root → List Root
goal_roots a roots = keep (λ r. asks_for a r.query) roots

-- the ambient roots, none with option 1
unfoldable pub ambient_roots : Ask → List Fact → List Fact
ambient_roots a fs = cond (no_ambients a) [] (keep (λ f. is_ambient_root f.kind) fs)

-- the free names of what round 1 scans
unfoldable pub first_scanned : Ask → List Fact → List Root → List Name
first_scanned a fs roots =
    collect (λ r. r.free_names) (goal_roots a roots) ++ collect (λ f. f.free_names) (ambient_roots a fs)

-- the fuel of a run: one more than the distinct trigger names filed
abbrev pub most_rounds : List Fact → ℕ
most_rounds fs = suc (length (from_list (filed fs)))

-- the run of an ask over the records of a file
unfoldable pub run : Ask → List Summary → List Root → Run
run a decls roots =
    let fs = facts decls in
    rounds_from a (macros decls) fs (most_rounds fs) first_run (first_scanned a fs roots)

-- the states of the rounds from a state on, itself first, as long as the fuel lasts
unfoldable pub states_from : Ask → Map (List Name) → List Fact → ℕ → Run → List Name → List Run
states_from a ms fs zero r scanned = r ∷ []
states_from a ms fs (suc fuel) r scanned =
    let further = states_from a ms fs fuel (after_round a ms fs r scanned) (next_scanned a ms fs r scanned) in
    r ∷ cond (is_nil (triggered ms fs r scanned)) (after_round a ms fs r scanned ∷ []) further

-- the history of a run: its state before round 1, then that at the end of each round; the run is the last
unfoldable pub history : Ask → List Summary → List Root → List Run
history a decls roots =
    let fs = facts decls in
    states_from a (macros decls) fs (most_rounds fs) first_run (first_scanned a fs roots)

-- the state at the end of a round, of which 0 stands for the state before round 1
unfoldable pub end_of : List Run → ℕ → Run
end_of h k = get_or h k first_run

-- the round that reaches a fact
unfoldable pub round_of : List Run → Fact → ℕ
round_of h f = find_index (λ r. mem f.name r.reached) h

-- the round that first meets a name
unfoldable pub round_met : List Run → Name → ℕ
round_met h n = find_index (λ r. mem n r.met) h

-- the visits: the filed entries whose name is met
unfoldable pub visits : List Name → List Fact → ℕ
visits met fs = count (λ n. mem n met) (filed fs)
