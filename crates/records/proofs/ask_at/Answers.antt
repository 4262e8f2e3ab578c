-- `records::ask_at` meets its contract. The loop's invariant: the chain starts where that of the position reached does.
use native.Mathlib.Omega.{arith}
use mathlib.Core.Path.{refl}
use Rattle.records.proofs.Chains.{walk_on, walk_ends}
use Rattle.records.proofs.ask_at.Goals as goal

pub loop-first-init : goal.loop-first-init
loop-first-init c = (omega arith, refl)

pub is_also-requires : goal.is_also-requires
is_also-requires c =
    let inv = c.loop-first.invariant in
    (omega (arith, inv.0, c.requires.0), c.requires.1)

pub overflow_sub-first : goal.overflow_sub-first
overflow_sub-first c =
    (walk_on _ _ _ c.loop-first.invariant.1 c.is_also.ensures c.loop-first-test.true).0

pub loop-first-smaller : goal.loop-first-smaller
loop-first-smaller c =
    let some = (walk_on _ _ _ c.loop-first.invariant.1 c.is_also.ensures c.loop-first-test.true).0 in
    omega arith

pub loop-first-preserved : goal.loop-first-preserved
loop-first-preserved c =
    let inv = c.loop-first.invariant in
    (omega (arith, inv.0), (walk_on _ _ _ inv.1 c.is_also.ensures c.loop-first-test.true).1)

pub overflow_add-result : goal.overflow_add-result
overflow_add-result c = omega (arith, c.requires.0)

pub overflow_add-first : goal.overflow_add-first
overflow_add-first c = let inv = c.loop-first.invariant in omega (arith, c.requires.0, inv.0)

pub at-requires : goal.at-requires
at-requires c =
    let inv = c.loop-first.invariant in
    omega (arith, c.requires.0, c.requires.1, inv.0)

pub overflow_add-first-2 : goal.overflow_add-first-2
overflow_add-first-2 c =
    let inv = c.loop-first.invariant in
    omega (arith, c.requires.0, inv.0)

pub at-requires-2 : goal.at-requires-2
at-requires-2 c =
    let inv = c.loop-first.invariant in
    omega (arith, c.requires.0, c.requires.1, inv.0)

pub returns : goal.returns
returns c =
    let inv = c.loop-first.invariant in
    walk_ends _ _ _ _ _ inv.1 c.is_also.ensures c.loop-first-test.false c.at.ensures c.at-2.ensures
