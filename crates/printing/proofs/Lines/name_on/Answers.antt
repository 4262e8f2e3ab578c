-- `printing::Lines::name_on` meets its contract.
use mathlib.Core.Path.{◌∙◌}
use Rattle.printing.proofs.Parts.{name_in}
use Rattle.printing.proofs.Lines.name_on.Goals as goal

pub returns : goal.returns
returns c =
    let (field, short, lies) = c.second_field.ensures in
    (field ∙ name_in c.span-s.ensures, short, lies)
