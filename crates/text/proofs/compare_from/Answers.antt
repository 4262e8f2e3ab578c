-- `text::compare_from` meets its contract. The loop's invariant: the parts share at least `i` bytes.
use Prim.Native.Nat.{◌≤◌}
use mathlib.Core.Path.{sym}
use Rattle.model.specs.Lists.{part}
use Rattle.text.specs.Parts.{shared}
use native.Mathlib.Omega.{arith}
use Rattle.text.proofs.Laws.{compared_bytes, compared_sizes, shared_on}
use Rattle.text.proofs.compare_from.Goals as goal

pub returns-then-x-y : goal.returns-then-x-y
returns-then-x-y c =
    sym (compared_bytes _ _ _ _ _ _ _ c.requires.1 c.requires.3 c.loop-i.invariant (omega arith) (omega arith) c.cmp.ensures c.if-x-y.true)

pub loop-i-preserved : goal.loop-i-preserved
loop-i-preserved c =
    shared_on _ _ _ _ _ _ _ c.requires.1 c.requires.3 c.loop-i.invariant (omega arith) (omega arith) c.if-x-y.false

pub returns : goal.returns
returns c =
    let past : c.min-shorter.result ≤ shared (part c.args.s.now c.args.a c.args.e) (part c.args.s.now c.args.b c.args.f) =
    omega (arith, c.loop-i.invariant)
    in
    sym (compared_sizes _ _ _ _ _ _ _ c.requires.1 c.requires.3 past c.cmp-2.ensures (omega arith))
