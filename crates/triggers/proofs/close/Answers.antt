-- `triggers::close` meets its contract.
use native.Mathlib.Omega.{arith}
use Rattle.triggers.proofs.Filing.{close_last, close_empty, close_over}
use Rattle.triggers.proofs.close.Goals as goal

pub overflow_add-lists : goal.overflow_add-lists
overflow_add-lists c = omega (arith, c.requires.3 c.if-at-end.true, c.at-last.ensures)

pub overflow_cast-lists : goal.overflow_cast-lists
overflow_cast-lists c = omega (arith, c.requires.3 c.if-at-end.true, c.at-last.ensures)

pub returns-then-at-end : goal.returns-then-at-end
returns-then-at-end c = close_last c.if-at-end.true c.at-last.ensures

pub returns-then-at-ge-ENTRIES_END : goal.returns-then-at-ge-ENTRIES_END
returns-then-at-ge-ENTRIES_END c = close_over c.requires.0 c.if-at-end.false c.if-at-ge-ENTRIES_END.true

pub returns : goal.returns
returns c = close_empty c.requires.0 c.if-at-end.false c.if-at-ge-ENTRIES_END.false
