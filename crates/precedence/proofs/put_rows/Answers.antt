-- `precedence::put_rows` meets its contract. The loop's invariant: the records whose rows are left.
use native.Mathlib.Omega.{arith}
use mathlib.Core.Path.{◌∙◌}
use Rattle.prune.proofs.Rows.{rows_length_same}
use Rattle.precedence.proofs.Putting.{defs_start, defs_next, defs_room, defs_end}
use Rattle.precedence.proofs.put_rows.Goals as goal

pub loop-i-init : goal.loop-i-init
loop-i-init c = defs_start _ _ _ _ _ c.clear.ensures

pub put_def-to-requires : goal.put_def-to-requires
put_def-to-requires c = (
  c.requires.0,
  omega (arith, c.requires.1, c.clear.ensures.same.same_length, c.loop-i.invariant.stamped.same.same_length),
  omega (arith, c.requires.2, rows_length_same c.loop-i.invariant.rows),
  c.loop-i-test.true,
  c.loop-i.invariant.stamped.below,
  defs_room c.loop-i.invariant c.loop-i-test.true c.requires.3,
)

pub loop-i-preserved : goal.loop-i-preserved
loop-i-preserved c =
    defs_next c.loop-i.invariant c.loop-i-test.true c.put_def-to.ensures.listed c.put_def-to.ensures.stamped

pub shape_of-refs : goal.shape_of-refs
shape_of-refs c = c.loop-i.invariant.stamped.same.same_length ∙ c.clear.ensures.same.same_length

pub shape_of-run : goal.shape_of-run
shape_of-run c = rows_length_same c.loop-i.invariant.rows

pub returns : goal.returns
returns c = defs_end c.loop-i.invariant c.clear.ensures c.loop-i-test.false
