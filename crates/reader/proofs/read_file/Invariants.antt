-- `reader::read_file` meets its contract: by the loop over lines, then the macro column.
use Prim.Native.Nat.{◌-◌}
use lib.ListN.{length}
use Rattle.filing.specs.Lines.{Past}
use Rattle.reader.proofs.Lines.{ReadingOn}
use Rattle.reader.proofs.read_file.Given as goal

abbrev pub invariant-loop-from : goal.invariant-loop-from
invariant-loop-from l =
    ReadingOn l.file l.names l.refs l.rows l.recs l.lists l.k l.n l.from × Past l.initial.names l.initial.refs l.initial.rows l.initial.recs l.initial.lists l.names l.refs l.rows l.recs l.lists

abbrev pub decreases-loop-from : goal.decreases-loop-from
decreases-loop-from l = length l.file - l.from
