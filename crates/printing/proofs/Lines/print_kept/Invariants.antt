-- `printing::Lines::print_kept` prints the lines of kept records. The loop's invariant: so many of them are written.
use mathlib.Core.List.{map}
use lib.ListN.{take}
use Rattle.std.specs.Io.KnownBytes.{Appends}
use Rattle.std.specs.List.{concat}
use Rattle.model.specs.Text.{kept_line}
use Rattle.printing.proofs.Lines.print_kept.Given as goal

abbrev pub invariant-loop-line : goal.invariant-loop-line
invariant-loop-line g l =
    Appends (g.W.Write.contents l.initial.writer) (g.W.Write.contents l.writer) (concat (take l.line-index (map (kept_line l.self.file.now) l.kept)))
