-- `options::options_of` meets its contract.
use Rattle.options.proofs.OptionsOf.{options_are, options_add}
use Rattle.options.proofs.options_of.Goals as goal

pub returns : goal.returns
returns c = record { on = λ qs gs. options_are qs gs _; sum = options_add _ }
