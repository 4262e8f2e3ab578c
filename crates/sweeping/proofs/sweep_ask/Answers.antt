-- `sweeping::sweep_ask` meets its contract. Each pass but the last adds a record: those not reached are fewer.
use Rattle.firing.proofs.Joining.{laid}
use Rattle.sweeping.proofs.Loops.{on_less, on_next, on_end, on_few}
use Rattle.sweeping.proofs.Tying.{swept_from}
use Rattle.sweeping.proofs.sweep_ask.Goals as goal

pub meet_first-requires : goal.meet_first-requires
meet_first-requires c =
    (laid c.requires.0, c.requires.1, c.requires.2)

pub pass-requires : goal.pass-requires
pass-requires c =
    (laid c.requires.0, c.loop-a.invariant.long)

pub returns-then-not-pass : goal.returns-then-not-pass
returns-then-not-pass c =
    let fits = (laid c.requires.0).fits c.args.a in
    swept_from c.requires.0 c.args.a _ c.requires.2 c.meet_first.ensures
    (on_end fits c.loop-a.invariant c.pass.ensures c.if-not-pass.true)
    (on_few fits c.loop-a.invariant c.pass.ensures)

pub loop-a-smaller : goal.loop-a-smaller
loop-a-smaller c =
    on_less ((laid c.requires.0).fits c.args.a) c.loop-a.invariant c.pass.ensures c.if-not-pass.false

pub loop-a-preserved : goal.loop-a-preserved
loop-a-preserved c =
    on_next ((laid c.requires.0).fits c.args.a) c.loop-a.invariant c.pass.ensures c.if-not-pass.false
