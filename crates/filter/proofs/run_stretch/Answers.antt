-- `filter::run_stretch` meets its contract.
use native.Mathlib.Omega.{arith}
use Rattle.filter.proofs.Answers.{stretched_first, stretched_on}
use Rattle.filter.proofs.run_stretch.Goals as goal

pub run_ask-s-requires : goal.run_ask-s-requires
run_ask-s-requires c = (c.requires.0, c.requires.3, omega (arith, c.requires.1))

pub returns-then-a : goal.returns-then-a
returns-then-a c =
    stretched_first c.requires.0 c.requires.1 c.if-a.true c.run_ask-s.ensures

pub run_also-s-requires : goal.run_also-s-requires
run_also-s-requires c =
    let more = c.if-a.false in
    (c.requires.0, c.requires.3, omega (arith, c.requires.2, more), c.requires.4 (omega (arith, c.requires.2, more)))

pub returns : goal.returns
returns c =
    stretched_on c.requires.0 c.requires.2 c.run_also-s.ensures
