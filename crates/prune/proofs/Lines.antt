-- Records become lines in place.
use Prim.Native.Nat.{ℕ, ◌+◌, ◌≤◌, ◌<◌}
use native.Mathlib.Omega.{arith}
use mathlib.Core.Path.{◌≡◌, refl, ◌∙◌, ap, subst}
use mathlib.Core.List.{List, [], ◌∷◌, map}
use lib.ListN.{length, get_or, set}
use lib.Seq.{get_or-set_other}
use Rattle.model.specs.Lists.{part}
use Rattle.model.specs.Reading.{most_records}
use Rattle.model.specs.Outcome.{working_words}
use Rattle.model.proofs.PartLaws.{part_cons, part_nil}
use Rattle.records.specs.Columns.{record_line}
use Rattle.prune.specs.Loops.{kept_column, KeptBehind}
use Rattle.prune.proofs.Writing.{Going, going_start, going_end, going_list}

-- the records from place j on are left
pub record LinesTo (recs w : List ℕ) (count : ℕ) (v : List ℕ) (j : ℕ) : Type 0 where
  pub high : j ≤ count
  pub going : Going kept_column w 0 (map (record_line recs) (part w kept_column (kept_column + count))) v j
      (map (record_line recs) (part w (kept_column + j) (kept_column + count)))
  pub left : (i : ℕ) → kept_column + j ≤ i → get_or v i 0 ≡ get_or w i 0

pub lines_start : (recs w : List ℕ) (count : ℕ) → LinesTo recs w count w 0
lines_start recs w count = record {
  high = omega arith;
  going = going_start kept_column w 0 (map (record_line recs) (part w kept_column (kept_column + count)));
  left = λ i h. refl;
}

module _ {recs w : List ℕ} {count : ℕ} {v : List ℕ} {j : ℕ} (g : LinesTo recs w count v j) where
  -- the record at place j is still there
  pub record_there : {x : ℕ} → x ≡ get_or v (kept_column + j) 0 → x ≡ get_or w (kept_column + j) 0
  record_there e = e ∙ g.left (kept_column + j) (omega arith)

  pub lines_next : {x : ℕ} → working_words ≤ length w → count ≤ most_records → j < count → x ≡ get_or v (kept_column + j) 0
      → LinesTo recs w count (set v (kept_column + j) (record_line recs x)) (j + 1)
  lines_next {x} room few h e =
      let z : kept_column + j + 1 ≡ kept_column + (j + 1) = omega arith in
      record {
        high = omega arith;
        going = going_list {l = record_line recs x ∷ []} g.going
            (rw (part_cons w (kept_column + j) (kept_column + count) (omega arith) (omega arith), ← (record_there e), z))
            (record { written = refl; count = refl });
        left = λ i l. get_or-set_other v (kept_column + j) i (record_line recs x) 0 (λ q. omega arith) ∙ g.left i (omega arith);
      }

  pub lines_end : count ≤ j → KeptBehind w 0 (map (record_line recs) (part w kept_column (kept_column + count))) v count
  lines_end h =
      let b = g.high in
      let e : j ≡ count = omega arith in
      subst (λ (to : ℕ). KeptBehind w 0 (map (record_line recs) (part w kept_column (kept_column + count))) v to) e
      (going_end g.going (ap (map (record_line recs)) (part_nil w (kept_column + j) (kept_column + count) (omega arith))))
