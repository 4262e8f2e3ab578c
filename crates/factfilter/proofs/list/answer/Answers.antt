-- `factfilter::list::answer` prints the lines of what the call comes to.
use Rattle.printing.proofs.Answers.{call_told}
use Rattle.factfilter.proofs.list.answer.Goals as goal

pub print-requires : goal.print-requires
print-requires g c =
    let gives = c.filter_file-a.ensures.gives in
    (c.requires, (_, call_told _ _ _ _ _ _ gives.answered gives.result))

pub returns : goal.returns
returns g c =
    let gives = c.filter_file-a.ensures.gives in
    c.in_ok-print.ensures _ (call_told _ _ _ _ _ _ gives.answered gives.result)
