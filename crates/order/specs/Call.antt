-- What a call of the check of definitions leaves.
use Rattle.std.specs.Prelude.{ℕ, ◌≡◌, List, length}
use Rattle.model.specs.Working.{Working, sizes, works_after}
use Rattle.model.specs.Checking.{Checked, check, ordered, table_after}
use Rattle.model.specs.declared.Row.{Row}
use Rattle.precedence.specs.Call.{check_in_numbers}
use Rattle.precedence.specs.declared.Late.{Late}

-- a call: the file and what is lent, the answer, what is left
pub record Call : Type 0 where
  pub file : List ℕ
  pub lent : Working
  pub table : List Row
  pub answer : Late
  pub left : Working
  pub table' : List Row

-- what it comes to
abbrev pub comes_to : Call → Checked
comes_to c = check c.file (sizes c.lent) (length c.table)

-- everything that a call leaves: the answer, the table, the working slices
pub record Exact (c : Call) : Type 0 where
  pub answered : c.answer ≡ check_in_numbers (ordered (comes_to c))
  pub table : c.table' ≡ table_after (comes_to c) c.table
  pub slices : c.left ≡ works_after (sizes c.lent) c.lent
