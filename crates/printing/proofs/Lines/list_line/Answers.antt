-- `printing::Lines::list_line` meets its contract.
use Rattle.printing.proofs.Answers.{line_inside, word_inside, kept_printed, sum_printed}
use native.Mathlib.Omega.{arith}
use Rattle.printing.proofs.Lines.list_line.Goals as goal

pub find_line-l-requires : goal.find_line-l-requires
find_line-l-requires c =
    let (o, told, within) = c.requires.2 in
    line_inside _ _ _ _ c.requires.1 o told within

pub offset_bounds-out-at : goal.offset_bounds-out-at
offset_bounds-out-at c =
    let (o, told, within) = c.requires.2 in
    let inside = word_inside _ _ _ _ o told c.find_line-l.ensures c.if-l-count.true in
    omega (arith, c.well_formed.1.1.1.1.0.1)

pub bounds-out-at : goal.bounds-out-at
bounds-out-at c =
    let (o, told, within) = c.requires.2 in
    word_inside _ _ _ _ o told c.find_line-l.ensures c.if-l-count.true

pub returns-then-l-count : goal.returns-then-l-count
returns-then-l-count c =
    kept_printed _ _ _ _ _ _ _ c.requires.1 c.find_line-l.ensures c.if-l-count.true
    c.kept_line.ensures

pub returns : goal.returns
returns c =
    sum_printed _ _ _ _ _ _ _ c.requires.1 c.find_line-l.ensures c.if-l-count.false
    c.sum_line.ensures
