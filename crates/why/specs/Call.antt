-- What a call of reasons leaves.
use Rattle.std.specs.Prelude.{ℕ, ◌≡◌, List, ◌∷◌, length}
use Rattle.model.specs.Working.{Working, sizes, works_after}
use Rattle.model.specs.Explaining.{Explanation, row_table, explanation, why, table_after}
use Rattle.model.specs.declared.Row.{Row}
use Rattle.explain.specs.Call.{reasons_in_numbers}
use Rattle.explain.specs.declared.Reasons.{Reasons}

-- a call: the file, the position and what is lent, the answer, what is left
pub record Call : Type 0 where
  pub file : List ℕ
  pub position : ℕ
  pub lent : Working
  pub table : List Row
  pub answer : Reasons
  pub left : Working
  pub table' : List Row

-- what it comes to
abbrev pub comes_to : Call → Explanation
comes_to c = explanation c.file c.position (sizes c.lent) (length c.table)

-- everything that a call leaves: the answer, the table, the working slices
pub record Exact (c : Call) : Type 0 where
  pub answered : c.answer ≡ reasons_in_numbers (why (comes_to c))
  pub table : c.table' ≡ table_after (comes_to c) c.table
  pub slices : c.left ≡ works_after (row_table (length c.table) ∷ sizes c.lent) c.lent
