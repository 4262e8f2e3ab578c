-- A name table and a term table of the file are so in one way at most, so that a struct may hold the fact.
use Rattle.std.specs.Prelude.{ℕ, List}
use denote.Struct.Props as logic
use Rattle.names.specs.Once.{Table-prop}
use Rattle.terms.specs.Rows.{Rows}
use Rattle.rules.specs.Views.{Tables}

-- the two tables are so in one way at most
pub Tables-prop : (file names refs rows : List ℕ) (named used many : ℕ) → IsProp (Tables file names refs rows named used many)
Tables-prop file names refs rows named used many x y = λ i. record {
  name_table = Table-prop x.name_table y.name_table i;
  term_table = rows_prop x.term_table y.term_table i;
}
  where
    rows_prop : IsProp (Rows refs rows used many named)
    rows_prop = Prim.hlevel logic.props
