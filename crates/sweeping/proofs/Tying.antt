-- The sweep over the tables that the reader filled.
use Prim.Native.Nat.{ℕ, zero, suc, ◌+◌, ◌≤◌, ◌<◌}
use native.Mathlib.Omega.{arith}
use mathlib.Core.Path.{◌≡◌, sym, ◌∙◌, ap, subst}
use mathlib.Core.Bool.{false, cond}
use mathlib.Core.Logic.{◌↔◌, ⊎_elim}
use mathlib.Core.List.{List, [], ◌∷◌, ◌++◌, map, Memᴰ}
use lib.ListN.{length}
use Rattle.model.specs.Lists.{collect}
use Rattle.model.specs.Names.{Name}
use Rattle.model.specs.Summaries.{Fact}
use Rattle.model.specs.Reading.{Root, most_records}
use Rattle.model.specs.Rounds.{facts, first_scanned}
use Rattle.model.specs.Sweep.{sweep_start}
use Rattle.model.specs.declared.Asked.{Asked}
use Rattle.model.specs.declared.Counts.{Counts}
use Rattle.model.proofs.ListLaws.{collect_intro, collect_elim, map_intro, map_elim}
use Rattle.names.specs.Table.{name_of}
use Rattle.terms.proofs.Laws.{below}
use Rattle.words.specs.Slices.{SameBut}
use Rattle.records.specs.States.{uses_at, fact_at, roots_of, background_of, takes_part, ask_of}
use Rattle.macros.specs.Macros.{Filled}
use Rattle.firing.specs.Held.{Held}
use Rattle.firing.specs.Met.{work_column, run_end, zeroed_to}
use Rattle.firing.specs.Tables.{held_of, starts_at}
use Rattle.firing.proofs.Clearing.{clear_length, clear_zero, clear_far}
use Rattle.firing.proofs.Background.{no_facts, next_facts}
use Rattle.firing.proofs.Joining.{laid, holds}
use Rattle.firing.proofs.Starting.{first_in, first_all}
use Rattle.sweeping.specs.Sweeping.{sweeping, Passes}
use Rattle.sweeping.specs.Swept.{tables_sweep, met_first, SweptThrough}
use Rattle.laws.proofs.PassLaws.{sweep_ends}
use Rattle.sweeping.proofs.Passing.{behind_trans, met_behind, passes_behind}
use Rattle.sweeping.proofs.Standing.{facts_below, chosen, chosen_elim, chosen_intro, Stands, start_stands, passes_over}

module _ {file names recs lists : List ℕ} {k : Counts} (x : Filled file names recs lists k) (a : Asked) where
  abbrev name : ℕ → Name
  name = name_of file names

  abbrev h : Held
  h = held_of names recs lists k a

  abbrev fs : List Fact
  fs = facts (background_of name recs lists (ask_of recs a) k.records)

  abbrev roots : List Root
  roots = roots_of name recs lists k.records

  -- the facts are those of the records, in line order
  in_order : fs ≡ facts_below h (fact_at name recs lists) k.records
  unfolding facts_below held_of
  in_order = go k.records
    where
      go : (n : ℕ) → facts (background_of name recs lists (ask_of recs a) n) ≡ facts_below h (fact_at name recs lists) n
      go zero = no_facts name recs lists (ask_of recs a)
      go (suc n) =
          next_facts name recs lists (ask_of recs a) n
          ∙ ap (λ l. l ++ cond (takes_part recs (ask_of recs a) n) (fact_at name recs lists n ∷ []) []) (go n)

  -- the first names are those of the records that start
  first_chosen : (y : Name)
      → Memᴰ y (first_scanned (ask_of recs a) fs roots)
      ↔ Memᴰ y (map name (collect (uses_at recs lists) (chosen (starts_at recs a) k.records)))
  first_chosen y = (
    λ m.
        let (i, l, s, n) = first_in x a y m in
        let (b, p, q) = map_elim name (uses_at recs lists i) n in
        subst (λ d. Memᴰ d (map name (collect (uses_at recs lists) (chosen (starts_at recs a) k.records)))) q
        (map_intro name (collect_intro (uses_at recs lists) (chosen_intro (starts_at recs a) k.records i l s) p)),
    λ m.
        let (n, p, q) = map_elim name (collect (uses_at recs lists) (chosen (starts_at recs a) k.records)) m in
        let (i, j, d) = collect_elim (uses_at recs lists) (chosen (starts_at recs a) k.records) p in
        let (l, s) = chosen_elim (starts_at recs a) k.records j in
        first_all x a i l s y (subst (λ d. Memᴰ d (map name (uses_at recs lists i))) q (map_intro name d)),
  )

  module _ (w : List ℕ) {v : List ℕ} {many : ℕ} (long : run_end ≤ length w)
      (passes : Passes (held_of names recs lists k a) (sweeping (met_first names recs lists k a w) 0 false) (sweeping v many false)) where
    -- where the numbers stand at the end
    stands : Stands h name (sweeping v many false) (tables_sweep file names recs lists k a)
    unfolding held_of sweep_start met_first tables_sweep
    stands =
        passes_over ((laid x).fits a) (holds x a) in_order passes
        (start_stands ((laid x).fits a) (holds x a) (starts_at recs a) (first_scanned (ask_of recs a) fs roots) (zeroed_to work_column w)
        (rw (clear_length work_column w) long) (λ i l. clear_zero work_column w (omega arith) i l) first_chosen)
        (sweep_ends (ask_of recs a) (background_of name recs lists (ask_of recs a) k.records) roots)

    -- only the two columns change
    same : SameBut 0 work_column w v
    unfolding met_first held_of
    same =
        let met = met_behind ((laid x).fits a) (starts_at recs a) k.records (omega arith) (zeroed_to work_column w) in
        let all = behind_trans met (passes_behind ((laid x).fits a) passes) in
        record {
          same_length = all.same_length ∙ clear_length work_column w;
          same_words = λ i out. ⊎_elim (λ (l : i < work_column). absurd (out (omega arith) (omega arith)))
              (λ far. all.far i far ∙ clear_far work_column w i far) (below i work_column);
        }

    swept_through : many ≤ most_records + 1 → SweptThrough file names recs lists k a w v many
    unfolding held_of
    swept_through few =
        let s = stands in
        let low = x.recorded.few in
        record {
          met = λ n l. sym (s.met_is n l);
          reached = sym s.reached_is;
          only_facts = λ i l t. (s.only_facts i (omega arith) t).1;
          passes = sym s.passes_is;
          few = few;
          same = same;
          words = passes;
        }

  -- the same by the slice that the first names are in
  pub swept_from : (w : List ℕ) {u v : List ℕ} {many : ℕ} → run_end ≤ length w → u ≡ met_first names recs lists k a w
      → Passes (held_of names recs lists k a) (sweeping u 0 false) (sweeping v many false) → many ≤ most_records + 1
      → SweptThrough file names recs lists k a w v many
  swept_from w {v = v} {many} long e passes =
      swept_through w long (subst (λ u. Passes (held_of names recs lists k a) (sweeping u 0 false) (sweeping v many false)) e passes)
