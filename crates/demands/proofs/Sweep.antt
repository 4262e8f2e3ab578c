-- Change 10: the sweep reaches and meets what the rounds do, its passes are few, and the answer tells them.
use Prim.Native.Nat.{ℕ, ◌≤◌}
use native.Mathlib.Omega.{arith}
use mathlib.Core.Path.{◌≡◌, refl, ◌∙◌, ap}
use mathlib.Core.List.{List, [], map}
use lib.ListN.{length, get_or}
use Rattle.model.specs.Reading.{Ask, Summary, Root, State}
use Rattle.model.specs.Rounds.{facts, macros, retainable, first_scanned, run}
use Rattle.model.specs.Outcome.{Lent, Front, stopped, opened, front, Position, Outcome, refusal_at, lists, padded, outcome}
use Rattle.model.specs.Sweep.{sweep_start, sweep, passes_of, passes_told, swept, sweep_answer}
use Rattle.model.specs.declared.Refusal.{Refusal}
use Rattle.laws.proofs.PassLaws.{sweep_ends, sweep_bound, sweep_some}
use Rattle.demands.specs.LinesRead.{LinesRead, records_for, At}
use Rattle.demands.specs.WellFormed.{WellFormed}
use Rattle.demands.specs.Sweep.{sweep_of, SweepIsRun, PassesExact, PassesBound, PassesSome, SweepTells}
use Rattle.demands.proofs.Facts.{names_distinct}
use Rattle.demands.proofs.Settled.{Settled, settled_reached, settled_met}
use Rattle.demands.proofs.SweepLaws.{swept_start, sweep_settles}
use Rattle.demands.proofs.Stretches.{run_settled}
use Rattle.demands.proofs.Background.{well_for}
use Rattle.demands.proofs.Moved.{map_length}
use Rattle.demands.proofs.Asks.{accepted_asks}
use Rattle.demands.proofs.Demand1.{file_opened, list_given}
use Rattle.demands.proofs.Sixteen.{padded_length, padded_at, padded_past}

-- ---- the end of a sweep

module _ (a : Ask) (decls : List Summary) (roots : List Root) (wf : WellFormed decls roots) where
  -- it ends in the least closed set
  pub sweep_settled : Settled (retainable a) (macros decls) (facts decls) (first_scanned a (facts decls) roots) (sweep a decls roots).met (sweep a decls roots).reached
  unfolding sweep_start
  sweep_settled =
      let first = first_scanned a (facts decls) roots in
      sweep_settles a (macros decls) (facts decls) (names_distinct decls wf.distinct) first (sweep_ends a decls roots)
      (swept_start a (macros decls) (facts decls) first (sweep_start a decls roots) refl refl)

  -- as the rounds do
  sweep_reached : (sweep a decls roots).reached ≡ (run a decls roots).reached
  sweep_reached =
      settled_reached (retainable a) (macros decls) (facts decls) (record { to = λ n m. m; from = λ n m. m }) sweep_settled (run_settled a decls roots wf)

  sweep_met : (sweep a decls roots).met ≡ (run a decls roots).met
  sweep_met =
      settled_met (retainable a) (macros decls) (facts decls) (record { to = λ n m. m; from = λ n m. m }) sweep_settled (run_settled a decls roots wf)

-- the two engines end alike
pub sweep_is_run : SweepIsRun
sweep_is_run file s e a =
    let wf = well_for file s e a in
    record {
      same_reached = sweep_reached a (records_for a s) s.roots wf;
      same_met = sweep_met a (records_for a s) s.roots wf;
      same_list = rw (sweep_reached a (records_for a s) s.roots wf);
    }

-- the passes are exact
pub passes_exact : PassesExact
passes_exact file s e a = sweep_ends a (records_for a s) s.roots

-- and few
pub passes_bound : PassesBound
passes_bound file s e a = sweep_bound a (records_for a s) s.roots

-- every sweep has one
pub passes_some : PassesSome
passes_some file s e a = sweep_some a (records_for a s) s.roots

-- ---- the answer

-- the passes of an answer, by what the call comes to
module _ (f : Front) (o : Outcome) where
  passes_are : (swept f o).passes ≡ padded (passes_told f o)
  unfolding swept
  passes_are = refl

-- of a refusal there are none
none_told : (f : Front) (r : Refusal) (place : ℕ) → passes_told f (refusal_at r place) ≡ []
unfolding passes_told
none_told (stopped q n) r place = refl
none_told (opened s) r place = refl

-- of a file that was read there is one for each ask
each_told : (s : State) (ps : List Position) → passes_told (opened s) (lists ps) ≡ map (λ a. (sweep_of a s).passes) s.asks
unfolding passes_told passes_of
each_told s ps = refl

-- at most sixteen
told_few : (f : Front) (o : Outcome) → ((s : State) → f ≡ opened s → length s.asks ≤ 16) → length (passes_told f o) ≤ 16
told_few (stopped r n) o h = unfold passes_told in omega arith
told_few (opened s) (refusal_at r n) h = unfold passes_told in omega arith
told_few (opened s) (lists ps) h = rw (each_told s ps, map_length (λ a. (sweep_of a s).passes) s.asks) (h s refl)

-- the count at the place of an ask
count_at : (g : Ask → ℕ) (asks : List Ask) (i : ℕ) (a : Ask) → At asks i a → get_or (padded (map g asks)) i 0 ≡ g a
count_at g asks i a h = rw (h.are, ← h.place) (padded_at g h.before a h.after)

module _ (file : List ℕ) (works : List Lent) (room : ℕ) where
  -- the passes of the call
  call_passes : (sweep_answer file works room).passes ≡ padded (passes_told (front file works) (outcome file works room))
  unfolding sweep_answer
  call_passes = passes_are (front file works) (outcome file works room)

  -- a call that gives lists has those of each ask
  listed_passes : (ps : List Position) (s : State) → outcome file works room ≡ lists ps → LinesRead file s
      → (sweep_answer file works room).passes ≡ padded (map (λ a. (sweep_of a s).passes) s.asks)
  listed_passes ps s e accepted =
      let (j, (t, reads, pairs, fits)) = (list_given file works room ps).0 e in
      let is : front file works ≡ opened s = (file_opened file works s).1 (j, accepted) in
      call_passes ∙ rw (is, e) (ap padded (each_told s ps))

-- the call's answer is the first engine's, with the passes
pub sweep_tells : SweepTells
sweep_tells file works room =
    record {
      first = unfold sweep_answer swept in record { verdict = refl; place = refl; kept = refl };
      sixteen = rw (call_passes file works room)
          (padded_length (passes_told (front file works) (outcome file works room))
          (told_few (front file works) (outcome file works room)
          (λ s e. (accepted_asks file s ((file_opened file works s).0 e).1).few)));
      told = λ ps s e accepted i a h.
          let exact = ap (λ l. get_or l i 0) (listed_passes file works room ps s e accepted)
          ∙ count_at (λ a. (sweep_of a s).passes) s.asks i a h in
          record {
            exact = exact;
            some = omega (arith, exact, passes_some file s accepted a);
            few = omega (arith, exact, passes_bound file s accepted a);
          };
      past = λ ps s e accepted i h.
          rw (listed_passes file works room ps s e accepted)
          (padded_past (map (λ a. (sweep_of a s).passes) s.asks) i (omega (arith, map_length (λ a. (sweep_of a s).passes) s.asks)));
      refused = λ r place e i.
          rw (call_passes file works room, e, none_told (front file works) r place) (padded_past [] i (omega arith));
    }
