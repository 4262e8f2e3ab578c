-- `prune::queue_def` meets its contract.
use Rattle.prune.proofs.Queueing.{def_one}
use Rattle.prune.proofs.queue_def.Goals as goal

pub returns : goal.returns
returns c =
    def_one _ _ _ c.at-taken.ensures c.is_def.ensures c.if-not-is_def.false _
