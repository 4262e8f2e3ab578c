-- `printing::Lines::item_on` meets its contract.
use mathlib.Core.Path.{◌∙◌}
use Rattle.printing.proofs.Parts.{item_in}
use Rattle.printing.proofs.Lines.item_on.Goals as goal

pub returns : goal.returns
returns c =
    let (field, short, lies) = c.record_name.ensures in
    (field ∙ item_in c.span-s.ensures, short, lies)
