-- `printing::print_sweep` prints the lines of the outcome, with the passes of the answer.
use Rattle.printing.proofs.Passes.{swept_lists, swept_refused}
use Rattle.printing.proofs.print_sweep.Goals as goal

pub returns-in-Accepted : goal.returns-in-Accepted
returns-in-Accepted g c = λ o told.
    let (ps, lists_told, same) = swept_lists c.args.file.now c.args.a _ o c.in-Accepted.is told in
    rw same (c.print_passes.ensures ps lists_told)

pub returns-in-Refused : goal.returns-in-Refused
returns-in-Refused g c = λ o told.
    rw (swept_refused c.args.file.now c.args.a _ o c.in-Refused.r c.in-Refused.is told) c.print_refusal.ensures
