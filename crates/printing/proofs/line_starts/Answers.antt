-- `printing::line_starts` meets its contract. The loop's invariant: the starts of the lines up to `from` are found.
use mathlib.Core.Path.{refl, ◌∙◌}
use lib.ListN.{length-set}
use lib.Seq.{get_or-set_other}
use Rattle.text.proofs.Laws.{mark_from, mark_to}
use Rattle.printing.proofs.Parts.{starting_start, starting_next, starting_end}
use native.Mathlib.Omega.{arith}
use Rattle.printing.proofs.line_starts.Goals as goal

pub loop-from-init : goal.loop-from-init
loop-from-init c = (refl, starting_start _ _, λ k h. refl)

pub overflow_cast-starts : goal.overflow_cast-starts
overflow_cast-starts c = omega (arith, c.requires.1)

pub bounds-starts-many : goal.bounds-starts-many
bounds-starts-many c =
    omega (arith, c.loop-from.invariant.0, c.loop-from.invariant.1.few, c.requires.0)

pub overflow_add-many : goal.overflow_add-many
overflow_add-many c = omega (arith, c.loop-from.invariant.1.few)

pub find-from-requires : goal.find-from-requires
find-from-requires c = (omega arith, omega arith)

pub overflow_add-from : goal.overflow_add-from
overflow_add-from c =
    let end = mark_to _ _ _ _ _ c.find-from.ensures (omega arith) (omega arith) in
    omega arith

pub loop-from-smaller : goal.loop-from-smaller
loop-from-smaller c =
    let begin = mark_from _ _ _ _ _ c.find-from.ensures in
    omega arith

pub loop-from-preserved : goal.loop-from-preserved
loop-from-preserved c =
    let room = c.requires.0 in (
      length-set c.loop-from.starts c.loop-from.many c.loop-from.from ∙ c.loop-from.invariant.0,
      starting_next _ _ _ _ _ c.loop-from.invariant.1 (omega arith) (omega (arith, c.loop-from.invariant.1.few, c.loop-from.invariant.0)) c.find-from.ensures,
      λ k h.
          get_or-set_other c.loop-from.starts c.loop-from.many k c.loop-from.from 0 (λ q. absurd (omega arith))
          ∙ c.loop-from.invariant.2 k (omega arith),
    )

pub shape_of-starts : goal.shape_of-starts
shape_of-starts c = c.loop-from.invariant.0

pub returns : goal.returns
returns c =
    let room = c.requires.0 in
    let inv = c.loop-from.invariant in
    record { starts = starting_end _ _ _ _ inv.1 c.loop-from-test.false (omega (arith, inv.1.bounded, inv.0)); rest = inv.2 }
