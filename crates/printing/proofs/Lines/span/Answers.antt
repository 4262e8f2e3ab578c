-- `printing::Lines::span` meets its contract.
use Prim.Native.Nat.{◌-◌}
use Rattle.printing.proofs.Parts.{span_zero, span_none, span_there}
use native.Mathlib.Omega.{arith}
use Rattle.printing.proofs.Lines.span.Goals as goal

pub returns-then-n-eq0 : goal.returns-then-n-eq0
returns-then-n-eq0 c = span_zero _ _ c.if-n-eq0.true

pub returns-then-self-n : goal.returns-then-self-n
returns-then-self-n c = span_none _ _ _ _ c.args.self.now.stand c.if-self-n.true

pub find-end-requires : goal.find-end-requires
find-end-requires c = (omega (arith, c.args.self.now.stand.inside (c.args.line - 1) (omega arith)), omega arith)

pub returns : goal.returns
returns c = span_there _ _ _ _ _ c.args.self.now.stand (omega arith) (omega arith) c.find-end.ensures
