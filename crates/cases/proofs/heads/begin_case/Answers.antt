-- `cases::begin_case` meets its contract.
use Rattle.cases.proofs.Laws.{begins_on}
use Rattle.cases.proofs.heads.begin_case.Goals as goal

pub returns-clause-named : goal.returns-clause-named
returns-clause-named c = begins_on c.args.window.now c.find-stop.result _ _ c.in-Some.ensures
