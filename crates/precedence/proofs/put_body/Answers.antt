-- `precedence::put_body` meets its contract. The loop's invariant: the ranks whose rows are left.
use native.Mathlib.Omega.{arith}
use mathlib.Core.Path.{refl}
use Rattle.prune.proofs.Picking.{number_in}
use Rattle.prune.proofs.Rows.{rows_start, rows_length_same}
use Rattle.precedence.proofs.Sorts.{sort_small}
use Rattle.precedence.proofs.Putting.{readable, rank_passed, rank_put, rank_room, ranks_end}
use Rattle.precedence.proofs.put_body.Goals as goal

pub loop-r-init : goal.loop-r-init
loop-r-init c = rows_start _ _ _ _

pub late_at-requires : goal.late_at-requires
late_at-requires c =
    (readable c.requires.0 c.requires.1 c.loop-r-test.true c.at-n.ensures, c.requires.4, c.requires.2)

pub loop-r-preserved-in_default : goal.loop-r-preserved-in_default
loop-r-preserved-in_default c =
    rank_passed _ _ _ _ c.loop-r.invariant c.loop-r-test.true c.at-n.ensures c.late_at.ensures c.in_default.is

pub put_row-requires : goal.put_row-requires
put_row-requires c =
    let n = number_in c.requires.0 c.loop-r-test.true c.at-n.ensures in
    let s = sort_small c.in-Some.sort in
    let room = rank_room _ _ _ _ c.loop-r.invariant c.loop-r-test.true c.at-n.ensures c.late_at.ensures c.in-Some.is c.requires.5 in
    (omega (arith, room, c.requires.3, rows_length_same c.loop-r.invariant), omega (arith, n, c.requires.0.few), omega (arith, s, c.number.ensures))

pub overflow_add-to : goal.overflow_add-to
overflow_add-to c =
    let room = rank_room _ _ _ _ c.loop-r.invariant c.loop-r-test.true c.at-n.ensures c.late_at.ensures c.in-Some.is c.requires.5 in
    omega (arith, room)

pub loop-r-preserved : goal.loop-r-preserved
loop-r-preserved c =
    rank_put _ _ _ _ c.loop-r.invariant c.loop-r-test.true c.at-n.ensures c.late_at.ensures c.in-Some.is refl c.number.ensures c.put_row.ensures

pub shape_of-run : goal.shape_of-run
shape_of-run c = rows_length_same c.loop-r.invariant

pub returns : goal.returns
returns c = ranks_end _ _ _ _ c.loop-r.invariant c.loop-r-test.false
