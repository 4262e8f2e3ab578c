-- What a line comes to where the tables are read.
use Rattle.std.specs.Prelude.{Result}
pub use Rattle.std.specs.Prelude.{Ok as On, Err as Refused}
use Rattle.model.specs.declared.Counts.{Counts}
use Rattle.model.specs.declared.Refusal.{Refusal}

-- the counts then, or the refusal
abbrev pub Step : Type 0
Step = Result Counts Refusal
