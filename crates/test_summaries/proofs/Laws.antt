-- Laws of the tables of a file: what reading asks of new slices, and what it leaves in them.
use Prim.Native.Nat.{ℕ, ◌≤◌}
use native.Mathlib.Omega.{arith}
use mathlib.Core.Path.{◌≡◌}
use mathlib.Core.List.{List}
use lib.ListN.{length, replicate, length-replicate}
use Rattle.model.specs.Lists.{part}
use Rattle.model.specs.Outcome.{most_bytes, working_words}
use Rattle.model.specs.declared.Counts.{Counts}
use Rattle.model.proofs.ListLaws.{zero_at}
use Rattle.model.proofs.PartLaws.{part_length}
use Rattle.macros.specs.Macros.{Filled}
use Rattle.std.specs.Prelude.{Ok}
use Rattle.reader.specs.Lines.{FileOutcome, TablesCleared, ReadsFile, all_read}

-- a part of a short input is short
pub part_short : (input : List ℕ) (a e : ℕ) → e ≤ length input → length input ≤ most_bytes → length (part input a e) ≤ most_bytes
part_short input a e h short = let n = part_length input a e h in omega arith

-- a slice of zeros
abbrev pub zeros : List ℕ
zeros = replicate working_words 0

-- it is long enough
zeros_long : working_words ≤ length zeros
zeros_long = let n = length-replicate {A = ℕ} working_words 0 in omega arith

-- slices of zeros are what reading asks
pub zeros_cleared : {file : List ℕ} → length file ≤ most_bytes → TablesCleared file zeros zeros zeros zeros zeros
zeros_cleared short = record {
  short = short;
  name_room = zeros_long;
  reference_room = zeros_long;
  row_room = zeros_long;
  record_room = zeros_long;
  list_room = zeros_long;
  name_zero = λ i l. zero_at working_words i;
  row_zero = λ i l. zero_at working_words i;
}

-- a file that is read fills the tables
pub read_filled : {file names refs rows recs lists : List ℕ} {k : Counts} {r : FileOutcome} → ReadsFile file names refs rows recs lists r → r ≡ Ok k
    → Filled file names recs lists k
read_filled {file} {names} {refs} {rows} {recs} {lists} {k} s p = go (rw p at s)
  where
    go : ReadsFile file names refs rows recs lists (Ok k) → Filled file names recs lists k
    go (all_read e f) = f
