-- `test_gather::push_times` meets its contract. The loop's invariant: so many references are pushed.
use native.Mathlib.Omega.{arith}
use Rattle.test_gather.proofs.Laws.{table_pushed}
use borrow.Author.Rules.{rules}
use Rattle.test_gather.proofs.push_times.Goals as goal

pub loop-i-preserved : goal.loop-i-preserved
loop-i-preserved c = (table_pushed _ c.push.ensures.refs (omega arith) (omega arith) (c.requires.2 (omega arith)) c.loop-i.invariant.0, search rules)
