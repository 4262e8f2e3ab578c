-- `text::find_near` meets its contract. The loop's invariant: the first mark from the start is the first mark from `j` on.
use mathlib.Core.Path.{◌≡◌}
use Rattle.text.specs.Parts.{mark_at}
use Rattle.text.proofs.find_near.Given as goal

abbrev pub invariant-loop-j : goal.invariant-loop-j
invariant-loop-j l = mark_at l.mark l.s l.at l.end ≡ mark_at l.mark l.s l.j l.end
