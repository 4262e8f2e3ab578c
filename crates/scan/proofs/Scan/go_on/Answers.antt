-- `scan::Scan::go_on` meets its contract. Each round but the last meets a name: the names not met are fewer.
use borrow.Author.Tests.{not-true, not-false}
use Rattle.scan.proofs.Phases.{on_next, on_less, on_end}
use Rattle.scan.proofs.Scan.go_on.Goals as goal

pub returns-then-not-s : goal.returns-then-not-s
returns-then-not-s c =
    on_end c.requires.0 c.args.a c.loop-s.invariant c.round-s.ensures (not-true _ c.if-not-s.true)

pub loop-s-smaller : goal.loop-s-smaller
loop-s-smaller c =
    on_less c.requires.0 c.args.a c.loop-s.invariant c.round-s.ensures (not-false _ c.if-not-s.false)

pub loop-s-preserved : goal.loop-s-preserved
loop-s-preserved c =
    on_next c.requires.0 c.args.a c.loop-s.invariant c.round-s.ensures (not-false _ c.if-not-s.false)
