-- `factfilter::summaries::run` is safe and ends.
use Rattle.front.proofs.Laws.{opened_file}
use Rattle.factfilter.proofs.summaries.run.Goals as goal

pub print-requires : goal.print-requires
print-requires g c =
    ((opened_file c.open_file.ensures c.in-Ok.is).filled, c.open_file.ensures.terms _ c.in-Ok.is)
