-- `macros::open_macros` meets its contract. The loop's invariant: the words of the names before the n-th are written.
use native.Mathlib.Omega.{arith}
use mathlib.Core.Path.{refl, sym}
use Rattle.model.proofs.ListLaws.{zero_at}
use Rattle.macros.specs.Macros.{macro_count}
use Rattle.macros.proofs.Opening.{found_low, opens_none, opens_more, taken_low, opens_end}
use Rattle.macros.proofs.open_macros.Goals as goal

pub slice_bounds-find_opened-end : goal.slice_bounds-find_opened-end
slice_bounds-find_opened-end c = refl

pub find_opened-requires : goal.find_opened-requires
find_opened-requires c =
    (c.requires.0, c.requires.1, refl, zero_at macro_count)

pub loop-n-init : goal.loop-n-init
loop-n-init c = (opens_none _ _ _, c.find_opened.ensures)

pub slice_bounds-macro_word-end : goal.slice_bounds-macro_word-end
slice_bounds-macro_word-end c = sym c.loop-n.invariant.1.size

pub macro_word-word-requires : goal.macro_word-word-requires
macro_word-word-requires c =
    let (o, f) = c.loop-n.invariant in (
      omega (arith, c.requires.0),
      omega (arith, c.requires.1, o.same.same_length),
      c.requires.2,
      taken_low o f (omega arith) c.requires.0 c.requires.3,
      f.size,
      found_low f c.requires.0,
    )

pub overflow_cast-names : goal.overflow_cast-names
overflow_cast-names c = omega (arith, c.macro_word-word.ensures.1)

pub bounds-names-n : goal.bounds-names-n
bounds-names-n c =
    omega (arith, c.requires.0, c.requires.1, c.loop-n.invariant.0.same.same_length)

pub loop-n-preserved : goal.loop-n-preserved
loop-n-preserved c =
    let (o, f) = c.loop-n.invariant in
    (opens_more o f (omega arith) c.requires.0 c.requires.1 c.macro_word-word.ensures.0, f)

pub shape_of-names : goal.shape_of-names
shape_of-names c = c.loop-n.invariant.0.same.same_length

pub returns : goal.returns
returns c = opens_end c.loop-n.invariant.0 (omega arith) (omega arith)
