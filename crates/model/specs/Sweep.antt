-- Document 02, Change 10: the sweep, a second engine. It passes over all facts in line order, adds each retainable one that fires on
-- the names met now, and repeats until a pass adds none.
use Rattle.std.specs.Prelude.{ℕ, zero, suc, ◌+◌, Bool, true, false, cond, not, ◌&&◌, List, [], map}
use Rattle.model.specs.Lists.{count, is_nil, fold_left}
use Rattle.model.specs.Names.{Name, mem, add, union}
use Rattle.model.specs.Summaries.{Fact}
use Rattle.model.specs.Reading.{Ask, Root, Summary, State}
use Rattle.model.specs.Pruning.{Map}
use Rattle.model.specs.Rounds.{background, facts, macros, met_from, fires, retainable, first_scanned}
use Rattle.model.specs.Outcome.{Lent, Front, stopped, opened, front, Outcome, refusal_at, lists, outcome, padded, answer}
use Rattle.model.specs.declared.Swept.{Swept}

-- what a sweep has come to: the names met, the names of the facts reached, the passes begun, whether the last added a fact
pub record Sweep : Type 0 where
  pub met : List Name
  pub reached : List Name
  pub passes : ℕ
  pub added : Bool

-- whether a fact is added: retainable, not yet reached, and it fires on the names met now
unfoldable pub adds : Ask → Sweep → Fact → Bool
adds a s f = retainable a f && (not (mem f.name s.reached) && fires s.met f)

-- the state with the fact added: its free names are met at once, each macro opened one level
unfoldable pub with_added : Map (List Name) → Sweep → Fact → Sweep
with_added ms s f =
    record {
      met = union (met_from ms f.free_names) s.met;
      reached = add f.name s.reached;
      passes = s.passes;
      added = true;
    }

-- a fact passed
unfoldable pub pass_fact : Ask → Map (List Name) → Sweep → Fact → Sweep
pass_fact a ms s f = cond (adds a s f) (with_added ms s f) s

-- the state in which a pass begins
unfoldable pub begin_pass : Sweep → Sweep
begin_pass s = record { met = s.met; reached = s.reached; passes = s.passes + 1; added = false }

-- a pass over facts in line order
unfoldable pub pass : Ask → Map (List Name) → List Fact → Sweep → Sweep
pass a ms fs s = fold_left (pass_fact a ms) (begin_pass s) fs

-- the passes from a state on, as long as the fuel lasts: they end with the one that adds none
unfoldable pub passes_from : Ask → Map (List Name) → List Fact → ℕ → Sweep → Sweep
passes_from a ms fs zero s = s
passes_from a ms fs (suc fuel) s =
    let further = passes_from a ms fs fuel (pass a ms fs s) in
    cond (pass a ms fs s).added further (pass a ms fs s)

-- whether a fact has triggers: a disjunct, though it may be empty
unfoldable pub has_triggers : Fact → Bool
has_triggers f = not (is_nil f.triggers)

-- how many facts have triggers
unfoldable pub facts_with_triggers : List Fact → ℕ
facts_with_triggers fs = count has_triggers fs

-- before the first pass: the names met from the roots of the ask's queries and the ambient roots
unfoldable pub sweep_start : Ask → List Summary → List Root → Sweep
sweep_start a decls roots =
    record { met = met_from (macros decls) (first_scanned a (facts decls) roots); reached = []; passes = 0; added = false }

-- the sweep of an ask over the records of a file; its fuel is one more than the facts with triggers
unfoldable pub sweep : Ask → List Summary → List Root → Sweep
sweep a decls roots =
    let fs = facts decls in
    passes_from a (macros decls) fs (suc (facts_with_triggers fs)) (sweep_start a decls roots)

-- the passes of each position of a file that was read, on an also line those of the fresh run
unfoldable pub passes_of : State → List ℕ
passes_of s = map (λ a. (sweep a (background a s.decls) s.roots).passes) s.asks

-- they are told where the file is open and the lists are given
unfoldable pub passes_told : Front → Outcome → List ℕ
passes_told (stopped r place) o = []
passes_told (opened s) (refusal_at r place) = []
passes_told (opened s) (lists ps) = passes_of s

-- the answer: "its refusals and list are the first engine's", so verdict, place and kept counts are those of the first engine's
-- answer; beside them the passes, 0 past the last position and in a refused answer
unfoldable pub swept : Front → Outcome → Swept
swept f o =
    record {
      verdict = (answer o).verdict;
      place = (answer o).place;
      kept = (answer o).kept;
      passes = padded (passes_told f o);
    }

-- the answer of the call, from the file's bytes, the working slices and the length of the result slice
unfoldable pub sweep_answer : List ℕ → List Lent → ℕ → Swept
sweep_answer file works room = swept (front file works) (outcome file works room)
