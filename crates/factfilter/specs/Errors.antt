-- What a call's answer is to the program: nothing to say, or an error.
use Rattle.std.specs.Prelude.{ℕ, ⊤, Result, Ok, Err}
use Rattle.model.specs.declared.Verdict.{Verdict}
use Rattle.model.specs.declared.Verdict.TheVariants as verdict
use Rattle.factfilter.specs.declared.errors.Error.{Error}
use Rattle.factfilter.specs.declared.errors.Error.TheVariants as error

-- a refusal is an error, with its place
unfoldable pub refusal_told : Verdict → ℕ → Result ⊤ Error
refusal_told verdict.Accepted place = Ok tt
refusal_told (verdict.Refused r) place = Err (error.Refused r place)
