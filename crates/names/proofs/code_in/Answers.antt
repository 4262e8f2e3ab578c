-- `names::code_in` meets its contract. The loop's invariant: the head code is the code from `code` on among the known names from
-- `i` on.
use Prim.Native.Nat.{◌+◌}
use mathlib.Core.Path.{sym, ◌∙◌}
use native.Mathlib.Omega.{arith}
use Rattle.names.proofs.Codes.{left_start, left_next, left_end}
use Rattle.names.proofs.code_in.Goals as goal

pub loop-i-init : goal.loop-i-init
loop-i-init c = left_start _ _ c.requires.2

pub overflow_add-stop : goal.overflow_add-stop
overflow_add-stop c =
    let now = c.loop-i in
    let size = c.wide in
    let next = left_next now.invariant c.loop-i-test.true (now.i + 1 + size.result) (omega arith) in
    omega (arith, next.within)

pub slice_bounds-same_text-end : goal.slice_bounds-same_text-end
slice_bounds-same_text-end c =
    let now = c.loop-i in
    let size = c.wide in
    let next = left_next now.invariant c.loop-i-test.true (now.i + 1 + size.result) (omega arith) in
    next.within

pub same_text-requires : goal.same_text-requires
same_text-requires c =
    let pre = c.requires in
    (pre.0, pre.1)

pub returns-then-same_text : goal.returns-then-same_text
returns-then-same_text c =
    let now = c.loop-i in
    let size = c.wide in
    let more = c.loop-i-test.true in
    let next = left_next now.invariant more (now.i + 1 + size.result) (omega arith) in
    sym (next.here (sym c.same_text.ensures ∙ c.if-same_text.true))

pub loop-i-preserved : goal.loop-i-preserved
loop-i-preserved c =
    let now = c.loop-i in
    let size = c.wide in
    let more = c.loop-i-test.true in
    let next = left_next now.invariant more (now.i + 1 + size.result) (omega arith) in
    next.on (sym c.same_text.ensures ∙ c.if-same_text.false)

pub returns : goal.returns
returns c = sym (left_end c.loop-i.invariant c.loop-i-test.false)
