-- `sweeping::pass` meets its contract. The loop's invariant: the records so far are passed.
use native.Mathlib.Omega.{arith}
use Rattle.firing.specs.Tables.{held_of}
use Rattle.sweeping.proofs.Entries.{adds_exact}
use Rattle.sweeping.proofs.Loops.{pass_start, pass_skip, pass_next, pass_end}
use Rattle.sweeping.proofs.pass.Goals as goal

pub loop-i-init : goal.loop-i-init
loop-i-init c = pass_start

pub loop-i-preserved-then-not-adds : goal.loop-i-preserved-then-not-adds
loop-i-preserved-then-not-adds c =
    pass_skip c.loop-i.invariant
    (adds_exact c.requires.0 c.args.a _ _ (omega arith) c.adds.ensures) c.if-not-adds.true

pub loop-i-preserved : goal.loop-i-preserved
unfolding held_of
loop-i-preserved c =
    pass_next c.loop-i.invariant
    (adds_exact c.requires.0 c.args.a _ _ (omega arith) c.adds.ensures) c.if-not-adds.false
    c.meet_record.ensures

pub returns : goal.returns
unfolding held_of
returns c = pass_end c.loop-i.invariant (omega arith)
