-- What the twelve rules see of a row: a call of a known name, an `op` of a word, its arguments. Words of the tables.
use Rattle.std.specs.Prelude.{ℕ, ◌+◌, ◌-◌, Bool, cond, ◌&&◌, List, get_or, eqb, Option, None as none, Some as some}
use Rattle.names.specs.Table.{Table, name_code, name_of}
use Rattle.model.specs.Terms.{Term}
use Rattle.terms.specs.Rows.{call_kind, op_kind, term_of, row_kind, row_op, row_head, row_start, row_end, has_head, terms_of, Rows}

-- a name table of the file, and a term table whose heads are its names
pub record Tables (file names refs rows : List ℕ) (named used many : ℕ) : Type 0 where
  pub name_table : Table file names named
  pub term_table : Rows refs rows used many named

-- the terms of the two tables, as `model` has them
unfoldable pub terms_in : List ℕ → List ℕ → List ℕ → List ℕ → ℕ → ℕ → List Term
terms_in file names refs rows used many = terms_of (name_of file names) refs rows used many

-- how many references a row has
unfoldable pub row_count : List ℕ → ℕ → ℕ → ℕ → ℕ
row_count rows used many t = row_end rows used many t - row_start rows t

-- the i-th term that a row names
unfoldable pub row_argument : List ℕ → List ℕ → ℕ → ℕ → ℕ
row_argument refs rows t i = term_of (get_or refs (row_start rows t + i) 0)

-- whether a row is a call of the name with this head code
unfoldable pub is_call_at : List ℕ → List ℕ → ℕ → ℕ → Bool
is_call_at names rows t code = eqb (row_kind rows t) call_kind && eqb (name_code names (row_head rows t)) code

-- whether a row is a `free` or a call of the name with this head code
unfoldable pub is_head_at : List ℕ → List ℕ → ℕ → ℕ → Bool
is_head_at names rows t code = has_head (row_kind rows t) && eqb (name_code names (row_head rows t)) code

-- whether a row is an `op` of the word with this number
unfoldable pub is_op_at : List ℕ → ℕ → ℕ → Bool
is_op_at rows t op = eqb (row_kind rows t) op_kind && eqb (row_op rows t) op

-- the argument of such a call of one
unfoldable pub call_one_at : List ℕ → List ℕ → List ℕ → ℕ → ℕ → ℕ → ℕ → Option ℕ
call_one_at names refs rows used many t code =
    cond (is_call_at names rows t code && eqb (row_count rows used many t) 1) (some (row_argument refs rows t 0)) none

-- the arguments of such a call of two
unfoldable pub call_two_at : List ℕ → List ℕ → List ℕ → ℕ → ℕ → ℕ → ℕ → Option (ℕ × ℕ)
call_two_at names refs rows used many t code =
    cond (is_call_at names rows t code && eqb (row_count rows used many t) 2)
    (some (row_argument refs rows t 0, row_argument refs rows t 1))
    none

-- the arguments of such an `op` of two
unfoldable pub op_two_at : List ℕ → List ℕ → ℕ → ℕ → ℕ → ℕ → Option (ℕ × ℕ)
op_two_at refs rows used many t op =
    cond (is_op_at rows t op && eqb (row_count rows used many t) 2)
    (some (row_argument refs rows t 0, row_argument refs rows t 1))
    none
