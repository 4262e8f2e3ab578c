-- `prune::put_lines` meets its contract. The loop's invariant: what is left to write.
use Prim.Native.Nat.{◌<◌}
use native.Mathlib.Omega.{arith}
use Rattle.prune.proofs.Lines.{lines_next}
use Rattle.prune.proofs.put_lines.Goals as goal

pub loop-j-preserved : goal.loop-j-preserved
loop-j-preserved c =
    let inside : c.loop-j.j < c.args.count = omega arith in
    lines_next c.loop-j.invariant c.requires.1 c.requires.2 inside c.at-i.ensures
