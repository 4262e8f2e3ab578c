-- The answer of reading, sweeping and listing.
use Prim.Native.Nat.{ℕ, zero, suc, ◌+◌, ◌≤◌}
use native.Mathlib.Numerals.{add-one}
use native.Mathlib.Omega.{arith}
use mathlib.Core.Path.{◌≡◌, refl, sym, ◌∙◌, subst}
use mathlib.Core.List.{List, [], ◌∷◌, ◌++◌, map, map-append}
use lib.ListN.{length}
use Rattle.model.specs.Reading.{Ask, State, most_records}
use Rattle.model.specs.Outcome.{stopped, opened, front, position, Outcome, refusal_at, fitting, outcome, answered, answer, result_after, working_words}
use Rattle.model.specs.Outcome as outcomes
use Rattle.model.specs.Sweep.{sweep, passes_of, passes_told, swept, sweep_answer}
use Rattle.model.specs.Working.{Working, sizes}
use Rattle.model.specs.Rounds.{background}
use Rattle.model.specs.declared.Asked.{Asked}
use Rattle.model.specs.declared.Counts.{Counts}
use Rattle.model.specs.declared.Refusal.{Refusal}
use Rattle.model.specs.declared.Swept.{Swept}
use Rattle.demands.proofs.Sweep.{sweep_is_run}
use Rattle.names.specs.Table.{name_of}
use Rattle.words.specs.Slices.{SameBut, Copied}
use Rattle.words.proofs.Slices.{same_wider, copied_part}
use Rattle.records.proofs.Chains.{asked_is}
use Rattle.records.specs.Columns.{ask_room}
use Rattle.records.specs.States.{decls_of, roots_of, asks_of, state_of, ask_of, asked_at}
use Rattle.front.specs.Opening.{state_in, OpenFile, RefusedFile}
use Rattle.firing.specs.Met.{work_column, run_end}
use Rattle.scan.specs.Runs.{tables_run}
use Rattle.sweeping.specs.Swept.{tables_sweep, SweptThrough}
use Rattle.prune.specs.Loops.{kept_column, prune_room}
use Rattle.prune.specs.Kept.{reached_of, kept_of, RunOver, Pruned}
use Rattle.filter.specs.Call.{position_of, positions_of}
use Rattle.front.proofs.Laws.{open_read}
use Rattle.filter.proofs.Answers.{slice_rest, part_take, state_outcome, open_runs}
use Rattle.sweep.proofs.Laws.{ListsOn}
use Rattle.sweep.specs.Call.{Exact, Gives, telling, passes_at, passes_before, ListedAt, SweepsOver}

-- ---- what the sweeps ask

-- after some of them
pub sweeps_on : {file names refs refs' recs lists run run' : List ℕ} {k : Counts} → SweepsOver file names refs recs lists run k
    → SameBut 0 working_words refs refs' → SameBut 0 working_words run run' → SweepsOver file names refs' recs lists run' k
sweeps_on r s t = record {
  filled = r.filled;
  list_room = omega (arith, r.list_room, s.same_length);
  room = omega (arith, r.room, t.same_length);
  few_asks = r.few_asks;
  fits = r.fits;
  same = r.same;
}

-- ---- the list behind a sweep

-- the reached facts are those of the run
reached_same : {file refs names recs lists start before after : List ℕ} {k : Counts} {a : Asked} {n : ℕ}
    → SweepsOver file names refs recs lists start k → SweptThrough file names recs lists k a before after n
    → reached_of file names recs after k ≡ (tables_run file names recs lists k a).reached
unfolding reached_of
reached_same {a = a} r s = s.reached ∙ r.same a

-- the sweep leaves what the list asks
pub run_over : {file refs names recs lists start before after : List ℕ} {k : Counts} {a : Asked} {n : ℕ}
    → SweepsOver file names refs recs lists start k → working_words ≤ length before → a.end ≤ ask_room
    → SweptThrough file names recs lists k a before after n → RunOver file names recs lists after k a
unfolding position_of position tables_run kept_of
run_over {a = a} r room placed s = record {
  filled = r.filled;
  room = omega (arith, room, s.same.same_length);
  asked = placed;
  only_facts = s.only_facts;
  fits = rw (reached_same r s) (r.fits a);
}

-- the sweep and the list write no word past those that a call uses
pub sweep_rest : {before mid after : List ℕ} → SameBut 0 work_column before mid → SameBut run_end prune_room mid after
    → SameBut 0 working_words before after
sweep_rest s t = slice_rest (same_wider 0 run_end (omega arith) (omega arith) s) t

module _ {file refs names recs lists start before mid after : List ℕ} {k : Counts} {a : Asked} {n many : ℕ} (at : ℕ)
    (r : SweepsOver file names refs recs lists start k) (room : working_words ≤ length before) (placed : a.end ≤ ask_room)
    (s : SweptThrough file names recs lists k a before mid many) (p : Pruned file names recs lists mid after k a n)
    (h : at + most_records ≤ working_words) where
  -- there is room for the kept lines
  pub lines_room : (kept_column + n ≤ length after) × (at + n ≤ length refs)
  lines_room =
      let few = (run_over r room placed s).fits in
      (omega (arith, p.count, few, room, s.same.same_length, p.same.same_length), omega (arith, p.count, few, r.list_room))

  -- the list of what is asked, its count and its passes
  listed_asked : {refs' : List ℕ} {b : Asked} → a ≡ b → Copied after kept_column at n refs refs'
      → ListedAt (position_of file names recs lists k b) (tables_sweep file names recs lists k b).passes at refs refs'
      (record { kept = n; passes = many })
  unfolding position_of position tables_run kept_of
  listed_asked e c = rw (← e)
      (let (there, fits) = lines_room in
      let same_reached = reached_same r s in
      record {
        kept = rw (← same_reached) p.count;
        passes = s.passes;
        listed = rw (← same_reached) (copied_part there fits c ∙ sym (part_take after kept_column n) ∙ p.lines);
        same = c.same;
        fits = omega (arith, p.count, (run_over r room placed s).fits);
      })

  -- of the position
  pub listed : {refs' : List ℕ} (i : ℕ) → a ≡ asked_at recs i → Copied after kept_column at n refs refs'
      → ListedAt (position_of file names recs lists k (asked_at recs i)) (passes_at file names recs lists k i) at refs refs'
      (record { kept = n; passes = many })
  unfolding passes_at
  listed i e c = listed_asked e c

-- ---- the positions

-- none yet
pub positions_none : (file names recs lists : List ℕ) (k : Counts) {a : Swept} {total : ℕ} {lines : List ℕ} → ListsOn [] [] 0 a total lines
    → ListsOn (positions_of file names recs lists k 0) (passes_before file names recs lists k 0) 0 a total lines
unfolding positions_of passes_before
positions_none file names recs lists k o = o

-- one more
pub positions_next : (file names recs lists : List ℕ) (k : Counts) (n : ℕ) {a : Swept} {total : ℕ} {lines : List ℕ}
    → ListsOn (positions_of file names recs lists k n ++ (position_of file names recs lists k (asked_at recs n) ∷ []))
    (passes_before file names recs lists k n ++ (passes_at file names recs lists k n ∷ [])) (n + 1) a total lines
    → ListsOn (positions_of file names recs lists k (n + 1)) (passes_before file names recs lists k (n + 1)) (n + 1) a total lines
unfolding positions_of passes_before
positions_next file names recs lists k n {a} {total} {lines} o =
    subst (λ m. ListsOn (positions_of file names recs lists k m) (passes_before file names recs lists k m) (n + 1) a total lines)
    (sym (add-one n)) o

-- the passes of the tables, by position
asks_passes : (file names recs lists : List ℕ) (k : Counts) (n : ℕ)
    → map (λ a. (sweep a (background a (decls_of (name_of file names) recs lists k.records)) (roots_of (name_of file names) recs lists k.records)).passes)
    (asks_of recs n)
    ≡ passes_before file names recs lists k n
unfolding asks_of passes_before passes_at tables_sweep
asks_passes file names recs lists k zero = refl
asks_passes file names recs lists k (suc n) =
    let of : Ask → ℕ = λ a.
    (sweep a (background a (decls_of (name_of file names) recs lists k.records)) (roots_of (name_of file names) recs lists k.records)).passes in
    map-append of (asks_of recs n) _
    ∙ rw (asks_passes file names recs lists k n, sym (asked_is recs n))

state_passes : (file : List ℕ) (w : Working) (k : Counts)
    → passes_of (state_in file w k) ≡ passes_before file w.names w.recs w.lists k k.asks
unfolding passes_of state_of
state_passes file w k = asks_passes file w.names w.recs w.lists k k.asks

-- ---- what a call leaves

-- the sweeps and the lists may follow an open file
pub open_sweeps : {file : List ℕ} {lent held : Working} {k : Counts} → OpenFile file lent held k
    → SweepsOver file held.names held.refs held.recs held.lists held.run k
unfolding tables_sweep tables_run state_of
open_sweeps {file} {held = held} {k} f =
    let runs = open_runs f in
    record {
      filled = runs.filled;
      list_room = runs.list_room;
      room = runs.room;
      few_asks = runs.few_asks;
      fits = runs.fits;
      same = λ a. (sweep_is_run file (state_in file held k) (open_read f) (ask_of held.recs a)).same_reached;
    }

-- the answer of an open file
opened_told : (s : State) (o : Outcome) → swept (opened s) o ≡ telling o (passes_of s)
unfolding swept telling answer passes_told
opened_told s (refusal_at r place) = refl
opened_told s (outcomes.lists ps) = refl

-- that of a refusal of the front
stopped_told : (r : Refusal) (place : ℕ) → swept (stopped r place) (refusal_at r place) ≡ telling (refusal_at r place) []
unfolding swept telling answer passes_told
stopped_told r place = refl

-- 8 or the lines behind an open file
pub open_gives : {file : List ℕ} {lent held : Working} {k : Counts} {r : Swept} {out out' : List ℕ} → OpenFile file lent held k
    → Gives (fitting (length out) (outcomes.lists (positions_of file held.names held.recs held.lists k k.asks)))
    (passes_before file held.names held.recs held.lists k k.asks) out r out'
    → (r ≡ sweep_answer file (sizes lent) (length out)) × (out' ≡ result_after (outcome file (sizes lent) (length out)) out)
unfolding outcome sweep_answer
open_gives {file} {lent} {held} {k} {out = out} f given =
    rw (f.state, opened_told (state_in file held k) (fitting (length out) (answered (opened (state_in file held k)))), state_outcome file held k, state_passes file held k)
    (given.told, given.result)

-- a refusal of the front
stopped_gives : (file : List ℕ) (lent : Working) (out : List ℕ) (r : Refusal) (place : ℕ) (a : Swept) → front file (sizes lent) ≡ stopped r place
    → a ≡ telling (refusal_at r place) []
    → (a ≡ sweep_answer file (sizes lent) (length out)) × (out ≡ result_after (outcome file (sizes lent) (length out)) out)
unfolding outcome sweep_answer answered fitting result_after
stopped_gives file lent out r place a e h = rw e (h ∙ sym (stopped_told r place), refl)

-- a file that is refused
pub refused_exact : {file : List ℕ} {lent held : Working} {r : Refusal} {place : ℕ} {out : List ℕ} {a : Swept}
    → RefusedFile file lent held r place → a ≡ telling (refusal_at r place) []
    → Exact (record { file = file; lent = lent; out = out; answer = a; left = held; out' = out })
refused_exact {file} {lent} {r = r} {place} {out} {a} f e =
    let (told, result) = stopped_gives file lent out r place a f.stops e in
    record { answered = told; result = result; slices = f.left }
