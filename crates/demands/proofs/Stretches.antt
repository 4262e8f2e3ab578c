-- A run that goes on: what holds between two stretches, and at the end of each.
use mathlib.Core.Logic.{⊎_elim}
use mathlib.Core.Bool.{Bool}
use mathlib.Core.List.Memᴰ
use mathlib.Core.List.{List, [], ◌++◌, Memᴰ}
use lib.Dec.{T}
use Rattle.model.specs.Lists.{any}
use Rattle.model.specs.Names.{Name, mem}
use Rattle.model.specs.Summaries.{Fact}
use Rattle.model.specs.Reading.{Ask, Summary, Root}
use Rattle.model.specs.Pruning.{Map}
use Rattle.model.specs.Rounds.{Run, facts, macros, retainable, met_after, after_round, next_scanned, first_scanned, first_run, run}
use Rattle.model.specs.Also.{stretch_start}
use Rattle.model.proofs.SetLaws.{Within}
use Rattle.demands.specs.LinesRead.{Distinct}
use Rattle.demands.specs.WellFormed.{WellFormed}
use Rattle.laws.specs.Fuel.{Ends}
use Rattle.demands.proofs.Facts.{fact_names, names_distinct}
use Rattle.laws.proofs.FuelLaws.{run_ends}
use Rattle.laws.proofs.MetLaws.{met_within, met_with, with_first, with_fact, with_elim, with_more, met_grows, met_scans, met_append, after_elim}
use Rattle.laws.proofs.FiringLaws.{fires_more, triggers_fires}
use Rattle.laws.proofs.ReachedLaws.{reached_by, at_end, fresh_elim}
use Rattle.demands.proofs.RoundsLaws.{Before, reached_cases, round, first_round, met_exact}
use Rattle.demands.proofs.Settled.{ClosedFrom, closed_fewer, Settled, with_firsts}

module _ (a : Ask) (ms : Map (List Name)) (fs : List Fact) where
  -- what holds before a round, and that every closed set contains the facts reached
  pub record Going (first : List Name) (r : Run) (scanned : List Name) : Type 0 where
    pub before : Before a ms fs first r scanned
    pub is_least : (set : Fact → Bool) → ClosedFrom (retainable a) ms fs first set → (f : Fact) → Memᴰ f fs → T (reached_by r f) → T (set f)

  module _ (once : Distinct (fact_names fs)) where
    -- a round hands it on
    pub going_round : (first : List Name) (r : Run) (scanned : List Name) → Going first r scanned
        → Going first (after_round a ms fs r scanned) (next_scanned a ms fs r scanned)
    going_round first r scanned g =
        let h = g.before in
        record {
          before = round a ms fs once first r scanned h;
          is_least = λ set closed f m t. ⊎_elim
              (λ i. let n = fresh_elim a ms fs r scanned i in
              closed.holds f m n.is_retainable
              (fires_more (met_after ms r scanned) (met_with ms fs first set) f
              (λ k u. with_more ms fs first (reached_by r) set (g.is_least set closed) k (h.met_below k u))
              (triggers_fires r.met (met_after ms r scanned) f n.is_triggered)))
              (g.is_least set closed f m) (reached_cases a ms fs once r scanned m t);
        }

    -- it holds before the first round
    pub going_first : (first : List Name) → Going first first_run first
    unfolding mem any
    going_first first = record { before = first_round a ms fs once first; is_least = λ set closed f m t. absurd t }

    -- and so at the end, with nothing more to scan
    pub going_end : (first : List Name) {r end : Run} {scanned : List Name} → Ends a ms fs r scanned end → Going first r scanned → Going first end []
    going_end first e g = at_end a ms fs (Going first) (going_round first) e g

    -- where there is nothing more to scan it is the least closed set
    pub going_settled : (first : List Name) (end : Run) → Going first end [] → Settled (retainable a) ms fs first end.met end.reached
    going_settled first end g =
        let h = g.before in
        let met = met_exact a ms fs once first end h in
        record {
          reached_set = h.reached_set;
          is_named = λ n t. let (f, m, e, u, v) = h.reached_fires n t in (f, m, e);
          met_is = met;
          is_closed = record { holds = λ f m t u. h.fires_reached f m t (rw met u) };
          is_least = g.is_least;
        }

    -- from there a stretch goes on with more names to scan
    pub going_on : (first scanned : List Name) (r : Run) → Going first r [] → Going (first ++ scanned) (stretch_start r) scanned
    unfolding stretch_start
    going_on first scanned r g =
        let h = g.before in
        let met = met_exact a ms fs once first r h in
        record {
          before = record {
            met_set = h.met_set;
            reached_set = h.reached_set;
            met_below = λ k t. ⊎_elim
                (λ u. with_first ms fs (first ++ scanned) (reached_by r) k (met_within ms scanned (first ++ scanned) (λ n. Memᴰ.append_right first) k u))
                (λ u. with_firsts ms fs first (first ++ scanned) (reached_by r) (λ n. Memᴰ.append_left scanned) k (rw met at u))
                (after_elim ms (stretch_start r) scanned k t);
            met_above = λ k t. ⊎_elim
                (λ u. ⊎_elim (λ v. old k (with_first ms fs first (reached_by r) k v)) (met_scans ms (stretch_start r) scanned k) (met_append ms first scanned k u))
                (λ p. let (f, m, u, v) = p in old k (with_fact ms fs first (reached_by r) m u k v))
                (with_elim ms fs (first ++ scanned) (reached_by r) k t);
            reached_fires = h.reached_fires;
            fires_reached = h.fires_reached;
          };
          is_least = λ set closed. g.is_least set (closed_fewer (retainable a) ms fs (λ n. Memᴰ.append_left scanned) closed);
        }
      where
        old : Within (met_with ms fs first (reached_by r)) (met_after ms (stretch_start r) scanned)
        old k v = met_grows ms (stretch_start r) scanned k (rw (met_exact a ms fs once first r g.before) v)

module _ (a : Ask) (decls : List Summary) (roots : List Root) (wf : WellFormed decls roots) where
  -- what holds at the end of the run of well-formed records
  pub run_going : Going a (macros decls) (facts decls) (first_scanned a (facts decls) roots) (run a decls roots) []
  run_going =
      let first = first_scanned a (facts decls) roots in
      let once = names_distinct decls wf.distinct in
      going_end a (macros decls) (facts decls) once first (run_ends a decls roots) (going_first a (macros decls) (facts decls) once first)

  -- the run ends in the least closed set
  pub run_settled : Settled (retainable a) (macros decls) (facts decls) (first_scanned a (facts decls) roots) (run a decls roots).met (run a decls roots).reached
  run_settled =
      going_settled a (macros decls) (facts decls) (names_distinct decls wf.distinct) (first_scanned a (facts decls) roots) (run a decls roots) run_going
