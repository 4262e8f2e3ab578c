-- The demands hold of every call: from the contract of `sweep`, the demands of the first engine's call and the theorems over the
-- definitions.
use Prim.Native.Nat.{ℕ}
use mathlib.Core.Path.{◌≡◌, refl, sym, ◌∙◌, ap, subst}
use mathlib.Core.Logic.{⊎_elim}
use mathlib.Core.List.{List, [], ◌++◌}
use lib.ListN.{length, take, drop, get_or}
use Rattle.model.specs.Lists.{sum}
use Rattle.model.specs.Reading.{Ask, State}
use Rattle.model.specs.Outcome.{Lent, Position, Outcome, refusal_at, lists, outcome, all_kept, answer, result_after}
use Rattle.model.specs.Working.{sizes}
use Rattle.model.specs.declared.Answer.{Answer}
use Rattle.model.specs.declared.Swept.{Swept}
use Rattle.demands.specs.LinesRead.{LinesRead, At}
use Rattle.demands.specs.Sweep.{AsFirst, PassesAt}
use Rattle.demands.proofs.Sweep.{sweep_is_run, passes_exact, sweep_tells}
use Rattle.filter.specs.Call as first
use Rattle.filter.specs.Demands as first_demands
use Rattle.filter.proofs.Demands.{told_lists, either, demands_met as first_met}
use Rattle.sweep.specs.Call.{Call, comes_to, Exact}
use Rattle.sweep.specs.Demands.{works, Accepts, Demand1, InSequence, PositionDemands, DemandsMet, KeptPromise, AsFirstOfCalls}

-- what an outcome writes to a result slice
writes : (o : Outcome) → (written : List ℕ) × ((out : List ℕ) → result_after o out ≡ written ++ drop (length written) out)
unfolding result_after
writes (refusal_at r place) = ([], λ out. refl)
writes (lists ps) = (all_kept ps, λ out. refl)

module _ (c : Call) (exact : Exact c) where
  -- the call as the first engine answers it
  abbrev by_first : first.Call
  by_first =
      record { file = c.file; lent = c.lent; out = c.out; answer = answer (comes_to c); left = c.left; out' = c.out' }

  -- the answer tells what the first engine's does
  tells : AsFirst c.answer (answer (comes_to c))
  tells = rw exact.answered (sweep_tells c.file (works c) (length c.out)).first

  -- which keeps its demands
  demanded : first_demands.Demands by_first
  demanded = first_met by_first (record { gives = record { answered = refl; result = exact.result }; slices = exact.slices })

  -- where it does not accept, there are no passes
  no_passes : (Accepts c → ⊥) → (i : ℕ) → get_or c.answer.passes i 0 ≡ 0
  no_passes other i =
      ⊎_elim (λ p. absurd (other (tells.verdict ∙ p)))
      (λ (r, place, e). rw exact.answered ((sweep_tells c.file (works c) (length c.out)).refused r place e i)) (either (comes_to c))

  demand_1 : Demand1 c
  demand_1 =
      let d = demanded.demand_1 in
      record {
        refusals = rw (tells.verdict, tells.place) d.refusals;
        listed = rw tells.verdict d.listed;
        front = rw (tells.verdict, tells.place) d.front;
        refused_8 = rw (tells.verdict, tells.place) d.refused_8;
        no_counts = λ other i.
            record { kept = rw tells.kept (d.no_counts (rw tells.verdict at other) i).kept; passes = no_passes other i };
        nothing_written = rw tells.verdict d.nothing_written;
      }

  module _ (p : Accepts c) where
    -- what it comes to
    comes : (ps : List Position) × (comes_to c ≡ lists ps)
    comes = told_lists (comes_to c) (sym tells.verdict ∙ p)

    accepted : (s : State) × LinesRead c.file s × InSequence c s × ((i : ℕ) (a : Ask) → At s.asks i a → PositionDemands c s i a)
    accepted =
        let (s, reads, sequence, positions) = demanded.accepted (sym tells.verdict ∙ p) in
        let (ps, e) = comes in
        let passes = sweep_tells c.file (works c) (length c.out) in (
          s,
          reads,
          record {
            asked = sequence.asked;
            good = sequence.good;
            result = sequence.result;
            past = λ i h. record {
              kept = rw tells.kept (sequence.past i h).kept;
              passes = rw exact.answered (passes.past ps s e reads i h);
            };
          },
          λ i a h.
              let listing = (positions i a h).demand_3.lists in
              let told = subst (λ (l : List ℕ). PassesAt l s i a) (sym (ap (λ (a : Swept). a.passes) exact.answered))
              (passes.told ps s e reads i a h) in
              record {
                summaries = (positions i a h).demand_2.summaries;
                lists = record {
                  count = ap (λ l. get_or l i 0) tells.kept ∙ listing.count;
                  listed = ap (λ l. take (get_or l i 0) (drop (sum (take i l)) c.out')) tells.kept ∙ listing.listed;
                };
                same = sweep_is_run c.file s reads a;
                passes = told;
                passes_end = rw told.exact (passes_exact c.file s reads a);
              },
        )

-- of every call
pub demands_met : DemandsMet
demands_met c exact = record { demand_1 = demand_1 c exact; accepted = accepted c exact }

-- a call that leaves everything so keeps its promise
pub promise : (c : Call) → Exact c → KeptPromise c
promise c exact = record { exact = exact; demands = demands_met c exact }

-- ---- beside a call of the first engine

-- the outcome of both
same_outcome : (file file' : List ℕ) (works works' : List Lent) (room room' : ℕ) → file ≡ file' → works ≡ works' → room ≡ room'
    → outcome file works room ≡ outcome file' works' room'
same_outcome file file' works works' room room' e f g = cc

pub as_first_of_calls : AsFirstOfCalls
as_first_of_calls c d exact exact' same_file same_works same_room =
    let same = same_outcome d.file c.file (sizes d.lent) (sizes c.lent) (length d.out) (length c.out) same_file same_works same_room in
    let answers : answer (comes_to d) ≡ c.answer = ap answer same ∙ sym exact.gives.answered in
    let told = tells d exact' in
    let (written, is) = writes (comes_to d) in
    record {
      verdict = told.verdict ∙ ap (λ (a : Answer). a.verdict) answers;
      place = told.place ∙ ap (λ (a : Answer). a.place) answers;
      kept = told.kept ∙ ap (λ (a : Answer). a.kept) answers;
      written = written;
      first_writes = exact.gives.result ∙ ap (λ (o : Outcome). result_after o c.out) (sym same) ∙ is c.out;
      sweep_writes = exact'.result ∙ is d.out;
    }
