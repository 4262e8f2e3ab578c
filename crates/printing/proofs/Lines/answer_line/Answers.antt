-- `printing::Lines::answer_line` meets its contract.
use Rattle.printing.proofs.Answers.{refused_printed}
use Rattle.printing.proofs.Lines.answer_line.Goals as goal

pub returns-in-Accepted : goal.returns-in-Accepted
returns-in-Accepted c = c.list_line.ensures

pub returns-in-Refused : goal.returns-in-Refused
returns-in-Refused c =
    refused_printed _ _ _ _ _ _ _ c.in-Refused.is c.refused_line.ensures
