-- At the end `i` is the count, and the table is `filled` up to it.
use Rattle.std.proofs.Common.{◌≡◌, sym, arith}
use Rattle.rows.proofs.Laws.{filled, filled_start, filled_next}
use Rattle.rows.proofs.write_rows.Goals as goal

pub loop-i-init : goal.loop-i-init
loop-i-init c = sym (filled_start _ _)

pub loop-i-preserved : goal.loop-i-preserved
loop-i-preserved c =
    let next = filled_next c.args.core.now c.args.rows.now c.loop-i.i c.row_at.result (omega arith) (omega arith) in
    cc

pub returns : goal.returns
unfolding filled
returns c =
    let end : c.loop-i.i ≡ c.args.count = omega arith in
    cc
