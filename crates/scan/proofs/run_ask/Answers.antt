-- `scan::run_ask` meets its contract.
use Rattle.scan.proofs.Starting.{roots_on}
use Rattle.firing.proofs.Joining.{laid}
use Rattle.scan.proofs.Asking.{first_ready, ran}
use Rattle.scan.proofs.run_ask.Goals as goal

pub go_on-requires : goal.go_on-requires
go_on-requires c =
    (laid c.requires.0, first_ready c.requires.0 c.args.a _ c.requires.2 (roots_on _ _ c.start-begun.ensures c.add_roots-rooted.ensures))

pub returns : goal.returns
returns c =
    ran c.requires.0 c.args.a _ c.requires.2 (roots_on _ _ c.start-begun.ensures c.add_roots-rooted.ensures) c.go_on.ensures
