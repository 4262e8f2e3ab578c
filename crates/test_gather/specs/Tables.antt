-- Tables that a program builds anew.
use Rattle.std.specs.Prelude.{ℕ, ◌≤◌, ◌<◌, ◌≡◌, List, length, get_or}
use Rattle.additions.specs.Additions.{Pushed}

-- a slice that holds only zeros from a column on
pub record Blank (column : ℕ) (words : List ℕ) : Type 0 where
  pub long : 16384 ≤ length words
  pub zeros : (i : ℕ) → column ≤ i → get_or words i 0 ≡ 0

-- a table without marks, behind it the references from `start` up to `used`; all references are to its terms, in group 0
pub record UnmarkedTable (refs rows : List ℕ) (start used many : ℕ) : Type 0 where
  pub behind : Pushed refs rows start used many 2048
  pub marks : Blank 12288 rows
  pub in_table : (i : ℕ) → i < used → get_or refs i 0 < many
