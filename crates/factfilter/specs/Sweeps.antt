-- The program's call of the sweep: over slices that are long enough for every accepted file.
use Rattle.std.specs.Prelude.{ℕ, ◌≤◌, ◌≡◌, List, length}
use Rattle.model.specs.Lists.{sum}
use Rattle.model.specs.Outcome.{most_kept, outcome, result_after}
use Rattle.model.specs.Sweep.{sweep_answer}
use Rattle.model.specs.Text.{printed_sweep}
use Rattle.model.specs.declared.Swept.{Swept}
use Rattle.factfilter.specs.Filters.{own_slices}

-- the answer and the result slice are those of a call over these, and the slice has the lines that the answer counts
pub record Sweeps (file out : List ℕ) (a : Swept) (out' : List ℕ) : Type 0 where
  pub answered : a ≡ sweep_answer file own_slices (length out)
  pub result : out' ≡ result_after (outcome file own_slices (length out)) out
  pub room : sum a.kept ≤ length out'

-- the lines of what the call comes to over these, with the passes of each position
abbrev pub swept_lines : List ℕ → List (List ℕ)
swept_lines file = printed_sweep file (outcome file own_slices most_kept) (sweep_answer file own_slices most_kept).passes
