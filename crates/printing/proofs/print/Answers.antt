-- `printing::print` prints the lines of the outcome. The loop's invariant: so many of its lines are written.
use Rattle.model.specs.Text.{printed}
use Rattle.printing.proofs.Written.{written_start, written_next, written_end}
use native.Mathlib.Omega.{arith}
use Rattle.printing.proofs.print.Goals as goal

pub loop-j-init : goal.loop-j-init
loop-j-init g c = λ o told. written_start _ (printed c.args.file.now o)

pub answer_line-n-requires : goal.answer_line-n-requires
answer_line-n-requires g c =
    let (o, told) = c.requires.3 in
    let count = c.line_count-count.ensures c.args.file.now c.args.out.now o told in
    (omega arith, (o, told, omega arith))

pub slice_bounds-write_all-end : goal.slice_bounds-write_all-end
slice_bounds-write_all-end g c =
    let (o, told) = c.requires.3 in
    let count = c.line_count-count.ensures c.args.file.now c.args.out.now o told in
    (c.answer_line-n.ensures o told (omega arith)).inside

pub loop-j-preserved : goal.loop-j-preserved
loop-j-preserved g c = λ o told.
    let count = c.line_count-count.ensures c.args.file.now c.args.out.now o told in
    let line = c.answer_line-n.ensures o told (omega arith) in
    written_next _ _ _ (printed c.args.file.now o) c.loop-j.j _ (c.loop-j.invariant o told) c.in_ok-write_all.ensures.bytes line.begins (omega arith)

pub returns : goal.returns
returns g c = λ o told.
    let count = c.line_count-count.ensures c.args.file.now c.args.out.now o told in
    written_end _ _ (printed c.args.file.now o) c.loop-j.j (c.loop-j.invariant o told) (omega arith)
