-- What `prune` leaves: the lines of the kept records in the slice.
use Prim.Native.Nat.{ℕ, ◌+◌, ◌≤◌, ◌<◌}
use native.Mathlib.Omega.{arith}
use mathlib.Core.Path.{◌≡◌, ◌∙◌, ap, ap₂, subst}
use mathlib.Core.List.{List, map, Memᴰ}
use lib.ListN.{length, get_or, length-append, length-map}
use Rattle.model.specs.Lists.{part}
use Rattle.model.specs.Reading.{most_records}
use Rattle.model.specs.Outcome.{working_words}
use Rattle.model.specs.declared.Asked.{Asked}
use Rattle.model.specs.declared.Counts.{Counts}
use Rattle.model.proofs.PartLaws.{part_intro}
use Rattle.words.proofs.Slices.{same_then}
use Rattle.records.specs.Columns.{record_line}
use Rattle.prune.specs.Listing.{most_stamps, is_goal, fact_records, goal_records, kept_items, kept_records}
use Rattle.prune.specs.Follow.{Stamped}
use Rattle.prune.specs.Loops.{kept_column, KeptBehind, Listable, RecordsListed}
use Rattle.prune.specs.Kept.{kept_of, RunOver, Pruned}
use Rattle.prune.proofs.Writing.{lists_same}
use Rattle.prune.proofs.Gathering.{part_sets, kept_few}
use Rattle.prune.proofs.Takers.{records_small}
use Rattle.prune.proofs.Linking.{index_filled}
use Rattle.prune.proofs.Joining.{kept_lines, facts_front}

module _ {file names recs lists w : List ℕ} {k : Counts} {a : Asked} (t : RunOver file names recs lists w k a) where
  -- no more facts than lines, and no more items than there is room for stamps
  facts_fit : length (fact_records names recs w k a) ≤ most_records
  facts_fit = let y = facts_front t.filled a w t.only_facts in let b = t.fits in omega arith

  items_fit : length (kept_items names recs w k a) ≤ most_stamps
  unfolding kept_items
  items_fit =
      let y = facts_fit in
      let b = kept_few (is_goal recs a) 0 k.records in
      let c = t.filled.recorded.few in
      let d = length-append (fact_records names recs w k a) (goal_records recs k a) in
      omega arith

  lines_are : (stamp : ℕ → ℕ) → Stamped names recs lists w k a stamp
      → map (record_line recs) (kept_records names recs w k a stamp) ≡ kept_of file names recs lists w k a
  lines_are = kept_lines t.filled a w items_fit t.only_facts

  -- as many records as lines
  records_fit : (stamp : ℕ → ℕ) → Stamped names recs lists w k a stamp → length (kept_records names recs w k a stamp) ≤ most_records
  records_fit stamp stamped =
      let y = length-map (kept_records names recs w k a stamp) (record_line recs) in
      let b = ap length (lines_are stamp stamped) in
      let c = t.fits in
      omega arith

  -- the tables are in range
  pub tables_fit : Listable names recs lists w k a
  tables_fit =
      let few = t.filled.table.few in
      record {
        index = index_filled t.filled;
        took = λ n h. t.filled.stocked.taken.low n (omega arith);
        notes = record { recorded = t.filled.recorded; few = few; room = t.room };
        asked = t.asked;
        few_facts = facts_fit;
        fits = records_fit;
      }

  module _ {v : List ℕ} {count : ℕ} (l : RecordsListed names recs lists w v k a count) where
    pub few_kept : count ≤ most_records
    few_kept = let y = l.count in let b = records_fit l.stamp l.stamped in omega arith

    pub listed_room : working_words ≤ length v
    listed_room = let y = l.same.same_length in let b = t.room in omega arith

    -- what is listed are records
    pub records_in : (j : ℕ) → j < count → get_or v (kept_column + j) 0 < most_records
    records_in j h =
        let y = few_kept in
        let r = listed_room in
        let many = t.filled.recorded.few in
        let m = part_intro v kept_column (kept_column + count) (kept_column + j) (omega arith) (omega arith) (omega arith) in
        let b = records_small t.filled a w l.stamp (get_or v (kept_column + j) 0)
        (subst (λ (x : List ℕ). Memᴰ (get_or v (kept_column + j) 0) x) l.records m) in
        omega arith

    pub pruned : {u : List ℕ} → KeptBehind v 0 (map (record_line recs) (part v kept_column (kept_column + count))) u count
        → Pruned file names recs lists w u k a count
    pruned {u} p =
        let lines : List ℕ = map (record_line recs) (part v kept_column (kept_column + count)) in
        let are : lines ≡ kept_of file names recs lists w k a = ap (map (record_line recs)) l.records ∙ lines_are l.stamp l.stamped in
        let few = few_kept in
        let room = listed_room in
        let many : count ≡ length lines = (let c = p.count in omega arith) in
        record {
          lines = ap₂ (λ (x : List ℕ) (n : ℕ). part x kept_column (kept_column + n)) p.written many
              ∙ part_sets v kept_column lines (omega arith) ∙ are;
          count = many ∙ ap length are;
          same = same_then l.same (lists_same p (omega arith));
        }
