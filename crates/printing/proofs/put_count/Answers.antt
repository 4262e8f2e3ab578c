-- `printing::put_count` meets its contract.
use mathlib.Core.Path.{◌∙◌}
use Rattle.printing.proofs.Texts.{shown, puts_same}
use native.Mathlib.Omega.{arith}
use Rattle.printing.proofs.put_count.Goals as goal

pub returns : goal.returns
returns c =
    (puts_same c.put.ensures (c.as_bytes.ensures.value ∙ c.format.ensures.text ∙ shown c.args.n (omega arith)), omega (arith, c.put.ensures.ends))
