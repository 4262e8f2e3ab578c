-- `scan::run_also` meets its contract.
use Rattle.firing.proofs.Joining.{laid}
use Rattle.scan.proofs.Stretching.{also_ready, went_on}
use Rattle.scan.proofs.run_also.Goals as goal

pub go_on-requires : goal.go_on-requires
go_on-requires c =
    (laid c.requires.0, also_ready c.requires.0 c.args.a c.requires.1 c.requires.2 c.requires.3 c.add_roots-rooted.ensures)

pub returns : goal.returns
returns c =
    went_on c.requires.0 c.args.a c.requires.1 c.requires.2 c.requires.3 c.add_roots-rooted.ensures c.go_on.ensures
