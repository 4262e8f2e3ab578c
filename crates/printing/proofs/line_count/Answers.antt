-- `printing::line_count` meets its contract.
use Rattle.printing.proofs.Answers.{refused_counted}
use Rattle.printing.proofs.line_count.Goals as goal

pub returns-in-Refused : goal.returns-in-Refused
returns-in-Refused c = refused_counted _ _ c.in-Refused.is
