-- `text::sized_name` meets its contract.
use Prim.Native.Nat.{◌≤◌, ◌<◌, ◌-◌}
use native.Mathlib.Omega.{arith}
use mathlib.Core.Bool.{and-false}
use borrow.Author.Tests.{le-leb, lt-leb}
use Rattle.text.specs.Parts.{sized_name}
use Rattle.text.proofs.sized_name.Goals as goal

pub returns-in-1-to-255 : goal.returns-in-1-to-255
unfolding sized_name
returns-in-1-to-255 c =
    let low : 1 ≤ c.args.stop - c.args.at = omega arith in
    let high : c.args.stop - c.args.at ≤ 255 = omega arith in
    rw (le-leb 1 _ low, le-leb _ 255 high)

pub returns-in_default : goal.returns-in_default
unfolding sized_name
returns-in_default c =
    let none : c.args.stop - c.args.at < 1 = omega arith in
    rw (lt-leb 1 _ none)

pub returns-in_default-2 : goal.returns-in_default-2
unfolding sized_name
returns-in_default-2 c =
    let over : 255 < c.args.stop - c.args.at = omega arith in
    rw (lt-leb _ 255 over, and-false)
