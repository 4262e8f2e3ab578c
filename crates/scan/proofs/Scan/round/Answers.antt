-- `scan::Scan::round` meets its contract.
use Rattle.scan.proofs.Phases.{met_steady}
use Rattle.scan.proofs.Scan.round.Goals as goal

pub visit_new-requires : goal.visit_new-requires
visit_new-requires c =
    let steady = met_steady c.requires.0 c.args.a c.requires.1 (c.meet_items-met.ensures c.args.a) in
    (c.requires.0, steady.0, steady.1)
