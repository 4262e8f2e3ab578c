-- `printing::Lines::print_kept` prints the lines of kept records. The loop's invariant: so many of them are written.
use mathlib.Core.List.{map}
use Rattle.model.specs.Text.{kept_line}
use Rattle.printing.proofs.Written.{written_start, written_mapped, written_all}
use Rattle.printing.proofs.Lines.print_kept.Goals as goal

pub loop-line-init : goal.loop-line-init
loop-line-init g c = written_start _ (map (kept_line c.args.self.now.file.now) c.args.kept.now)

pub loop-line-preserved : goal.loop-line-preserved
loop-line-preserved g c =
    written_mapped _ _ _ (kept_line c.args.self.now.file.now) c.args.kept.now _ _ c.loop-line.invariant c.in_ok-write_all.ensures.bytes c.kept_line-n.ensures.begins c.loop-line-test.true

pub returns-clause-appends : goal.returns-clause-appends
returns-clause-appends g c = written_all _ _ (kept_line c.args.self.now.file.now) c.args.kept.now _ c.loop-line.invariant c.loop-line-test.false
