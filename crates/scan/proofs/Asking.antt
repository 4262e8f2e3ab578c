-- What a run of the ask comes to.
use Prim.Native.Nat.{ℕ, ◌+◌, ◌≤◌, ◌<◌}
use native.Mathlib.Omega.{arith}
use mathlib.Core.Path.{◌≡◌, refl, sym, ◌∙◌, subst}
use mathlib.Core.List.{List, map, Memᴰ}
use lib.ListN.{length, get_or}
use lib.Dec.{T, nltb→le}
use Rattle.model.specs.Lists.{any, collect}
use Rattle.model.specs.Names.{Name, mem}
use Rattle.model.specs.Summaries.{Fact}
use Rattle.model.specs.Reading.{Root}
use Rattle.model.specs.Rounds.{facts, first_run, round_met, round_of, first_scanned}
use Rattle.model.specs.declared.Asked.{Asked}
use Rattle.model.specs.declared.Counts.{Counts}
use Rattle.model.proofs.ListLaws.{T_false, collect_intro, collect_elim, map_intro, map_elim}
use Rattle.laws.proofs.FuelLaws.{history_follows, run_ends}
use Rattle.names.specs.Table.{name_of}
use Rattle.words.specs.Slices.{SameBut}
use Rattle.records.specs.States.{uses_at, fact_at, roots_of, background_of, ask_of}
use Rattle.macros.specs.Macros.{Filled}
use Rattle.firing.specs.Tables.{held_of, starts_at}
use Rattle.firing.specs.Met.{reached_column, work_column, run_end, is_met, is_reached, zeroed_to}
use Rattle.scan.specs.Steps.{Going, going, items, Ready, Rounds}
use Rattle.scan.specs.Starts.{first_scan, pushed}
use Rattle.scan.specs.Runs.{tables_run, tables_history, Ran}
use Rattle.scan.specs.declared.Scan.{Scan}
use Rattle.firing.proofs.Numbers.{set_none}
use Rattle.firing.proofs.Clearing.{clear_length, clear_far}
use Rattle.scan.proofs.Starting.{Pushed, pushed_is, Begun, begun}
use Rattle.scan.proofs.Rounds.{At}
use Rattle.scan.proofs.Running.{Over, rounds_over, rounds_same}
use Rattle.scan.proofs.Timing.{met_round, reached_round}
use Rattle.firing.proofs.Joining.{laid, holds}
use Rattle.firing.proofs.Starting.{first_in, first_all}

module _ {file names recs lists : List ℕ} {k : Counts} (x : Filled file names recs lists k) (a : Asked) where
  abbrev name : ℕ → Name
  name = name_of file names

  abbrev fs : List Fact
  fs = facts (background_of name recs lists (ask_of recs a) k.records)

  abbrev roots : List Root
  roots = roots_of name recs lists k.records

  module _ (w : List ℕ) (long : run_end ≤ length w) {g : Going}
      (is : g ≡ pushed (starts_at recs a) k.records (going first_scan (zeroed_to work_column w))) where
    -- the state before round 1
    first : Begun (held_of names recs lists k a) (starts_at recs a) g
    unfolding held_of
    first =
        subst (λ g. Begun (held_of names recs lists k a) (starts_at recs a) g) (sym is)
        (begun (held_of names recs lists k a) ((laid x).fits a) (starts_at recs a) w long)

    pub first_ready : Ready (held_of names recs lists k a) g
    first_ready = first.ready

    first_at : At (held_of names recs lists k a) name g first_run (first_scanned (ask_of recs a) fs roots)
    unfolding held_of mem any
    first_at = record {
      met_is = λ n l. sym (T_false (is_met g.run n) (first.none_met n l));
      reached_is = sym (set_none _ _ k.records first.none_reached);
      rounds_is = sym first.rounds_none;
      scanned_is = λ y. (
        λ m.
            let (i, l, s, n) = first_in x a y m in
            let (b, p, q) = map_elim name (uses_at recs lists i) n in
            subst (λ d. Memᴰ d (map name (collect (uses_at recs lists) (items g)))) q
            (map_intro name (collect_intro (uses_at recs lists) (first.item_intro i l s) p)),
        λ m.
            let (n, p, q) = map_elim name (collect (uses_at recs lists) (items g)) m in
            let (i, j, d) = collect_elim (uses_at recs lists) (items g) p in
            let (l, s) = first.item_elim i j in
            first_all x a i l s y (subst (λ d. Memᴰ d (map name (uses_at recs lists i))) q (map_intro name d)),
      );
    }

    module _ {s : Scan} {v : List ℕ} (rounds : Rounds (held_of names recs lists k a) g (going s v)) where
      over : Over (held_of names recs lists k a) name fs (tables_run file names recs lists k a) (going s v)
      unfolding tables_run
      over = rounds_over ((laid x).fits a) (holds x a) rounds first_ready first_at (run_ends (ask_of recs a) (background_of name recs lists (ask_of recs a) k.records) roots)

      -- only the columns of the run change
      same : SameBut 0 run_end w v
      same =
          let pushed_as = pushed_is (starts_at recs a) k.records (going first_scan (zeroed_to work_column w)) (omega arith)
          (omega (arith, x.recorded.few)) (rw (clear_length work_column w) long) in
          let p = subst (λ g. Pushed (starts_at recs a) k.records (going first_scan (zeroed_to work_column w)) g) (sym is) pushed_as in
          rounds_same ((laid x).fits a) rounds first_ready (p.same_length ∙ clear_length work_column w)
          (λ i far. p.far i far ∙ clear_far work_column w i (omega arith))

      -- the columns hold the rounds
      times : ((n : ℕ) → n < k.names → T (is_met v n) → get_or v n 0 ≡ round_met (tables_history file names recs lists k a) (name n))
          × ((i : ℕ) → i < k.records → T (is_reached v i)
          → get_or v (reached_column + i) 0 ≡ round_of (tables_history file names recs lists k a) (fact_at name recs lists i))
      unfolding tables_history round_met round_of held_of is_met is_reached
      times =
          let follows = history_follows (ask_of recs a) (background_of name recs lists (ask_of recs a) k.records) roots in
          let few = x.recorded.few in (
            λ n l t. met_round ((laid x).fits a) (holds x a) rounds first_ready first_at follows refl n l
                (let z = nltb→le 0 (get_or g.run n 0) (first.none_met n l) in omega arith) t,
            λ i l t. reached_round ((laid x).fits a) (holds x a) rounds first_ready first_at follows refl i l (over.only_facts i (omega arith) t).1
                (let z = nltb→le 0 (get_or g.run (reached_column + i) 0) (first.none_reached i l) in omega arith) t,
          )

      pub ran : Ran file names recs lists k a w v s
      unfolding held_of
      ran =
          let o = over in
          let few = x.recorded.few in
          record {
            met = λ n l. sym (o.met_is n l);
            reached = sym o.reached_is;
            only_facts = λ i l t. (o.only_facts i (omega arith) t).1;
            met_round = times.0;
            reached_round = times.1;
            rounds = sym o.rounds_are;
            visits = sym o.visits_are;
            same = same;
            words = subst (λ g. Rounds (held_of names recs lists k a) g (going s v)) is rounds;
          }
